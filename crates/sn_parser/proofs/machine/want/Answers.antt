use Rattle.sn_ast.specs.declared.terminal.Symbol.TheVariants.{CloseBrace}
use Rattle.sn_parser.proofs.Steps.{no_next}
use Rattle.sn_parser.proofs.machine.want.Goals as goal

pub returns-in_default : goal.returns-in_default
returns-in_default c = λ w all. no_next _ c.in_default.not-Keyword (c.in_default.not-Symbol CloseBrace)
