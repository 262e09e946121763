use Rattle.std.proofs.Common.{List, ◌↔◌, length}
use Rattle.sn_ast.specs.declared.terminal.Terminal.{Terminal}
use Rattle.sn_expr_parser.specs.BoxResidual.{Up, Read}
use Rattle.sn_expr_parser.proofs.box_after.without_last_parts.Given as goal

abbrev pub invariant-loop-frame : goal.invariant-loop-frame
invariant-loop-frame l = (us : List Terminal) (t : Read) → Up l.fn.frames l.fn.whole us t ↔ Up l.frames l.whole us t

abbrev pub decreases-loop-frame : goal.decreases-loop-frame
decreases-loop-frame l = length l.frames
