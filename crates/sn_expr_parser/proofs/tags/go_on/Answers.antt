use Rattle.std.proofs.Common.{sym}
use Rattle.sn_ast.specs.Operators.{tag_operations}
use Rattle.sn_ast.specs.declared.terminal.Terminal.TheVariants.{Symbol}
use Rattle.sn_expr_parser.specs.Levels.{or_in}
use Rattle.sn_expr_parser.specs.TagResidual.{Tested, Down}
use Rattle.sn_expr_parser.proofs.TagSteps.{finished_from, finished_to, no_symbol, through}
use Rattle.sn_expr_parser.proofs.tags.go_on.Goals as goal

pub returns-in_default : goal.returns-in_default
returns-in_default c = λ w t. no_symbol c.in_default.not-Symbol

pub returns-in_ok-whole-in-None : goal.returns-in_ok-whole-in-None
returns-in_ok-whole-in-None c =
    let a = c.args in
    let x = c.in-Symbol in
    rw x.is (through (Down a.frames a.level a.part) (Tested a.frames (or_in tag_operations a.level a.part)) (Symbol x.symbol x.at) c.tested.result (λ w t. (finished_from (sym c.in-None.ensures), finished_to)) (rw c.in_ok-whole-in-None.ensures at c.tested.ensures))
