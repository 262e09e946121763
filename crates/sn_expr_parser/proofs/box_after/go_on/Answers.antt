use Rattle.sn_ast.specs.Operators.{box_operations}
use Rattle.sn_ast.specs.declared.terminal.Terminal.TheVariants.{Keyword}
use Rattle.sn_expr_parser.specs.BoxResidual.{Up, Down}
use Rattle.sn_expr_parser.specs.Levels.{or_in}
use Rattle.sn_expr_parser.proofs.BoxSteps.{keyword_from, finished_to, no_follower, through}
use Rattle.sn_expr_parser.proofs.box_after.go_on.Goals as goal

pub returns-in_ok-whole-in-Keyword : goal.returns-in_ok-whole-in-Keyword
returns-in_ok-whole-in-Keyword c =
    let a = c.args in
    let x = c.in-Keyword in
    rw x.is (through (Down a.frames a.level a.part) (Up a.frames (or_in box_operations a.level a.part)) (Keyword x.keyword x.at) c.up_to_keyword.result (λ w t. (keyword_from, finished_to)) (rw c.in_ok-whole-in-Keyword.ensures at (c.up_to_keyword.ensures x.at)))

pub returns-in_default : goal.returns-in_default
returns-in_default c = λ w t. no_follower c.in_default.not-Symbol c.in_default.not-Keyword
