use Rattle.std.proofs.Common.{◌≡◌, true, false}
use Rattle.sn_expr_parser.specs.BoxResidual.{is_open_paren}
use Rattle.sn_expr_parser.proofs.BoxSteps.{opening_from, opening_to, no_open}
use Rattle.sn_expr_parser.proofs.box_operand.opened.Goals as goal

pub returns-then-is_open_paren : goal.returns-then-is_open_paren
returns-then-is_open_paren c = let e : is_open_paren c.args.token ≡ true = cc in λ w t. (opening_from, opening_to c.args.token e)

pub returns : goal.returns
returns c = let e : is_open_paren c.args.token ≡ false = cc in λ w t. no_open e
