use Rattle.sn_expr_parser.proofs.tags.Frame.take_symbol.Goals as goal

pub returns-in-Parens : goal.returns-in-Parens
returns-in-Parens c = rw c.in-Parens.is c.in_parens.ensures

pub returns-in-Middle : goal.returns-in-Middle
returns-in-Middle c = rw c.in-Middle.is c.in_middle.ensures
