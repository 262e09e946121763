use Rattle.std.proofs.Common.{sym}
use Rattle.sn_ast.specs.Operators.{box_operations}
use Rattle.sn_ast.specs.declared.terminal.Terminal.TheVariants.{Symbol}
use Rattle.sn_expr_parser.specs.BoxResidual.{Up, Down}
use Rattle.sn_expr_parser.specs.Levels.{or_in}
use Rattle.sn_expr_parser.proofs.BoxSteps.{symbol_from, finished_to, through}
use Rattle.sn_expr_parser.proofs.box_after.symbol_after.Goals as goal

pub returns-in_ok-whole-in-None : goal.returns-in_ok-whole-in-None
returns-in_ok-whole-in-None c =
    let a = c.args in
    through (Down a.frames a.level a.part) (Up a.frames (or_in box_operations a.level a.part)) (Symbol a.symbol a.at) c.up_to_symbol.result (λ w t. (symbol_from (sym c.in-None.ensures), finished_to)) (rw c.in_ok-whole-in-None.ensures at c.up_to_symbol.ensures)
