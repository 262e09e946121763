use Rattle.std.proofs.Common.{sym, ap, ◌∙◌}
use Rattle.sn_net.specs.Face.{face}
use Rattle.sn_net.proofs.Forms.{face-Serial}
use Rattle.sn_net.proofs.faced.Faced.serial.Goals as goal

pub returns-clause-face : goal.returns-clause-face
returns-clause-face c boxes faced =
    c.in_ok-left.ensures.face ∙ faced ∙ ap (face boxes) (sym c.in_ok-left.ensures.net) ∙ sym (face-Serial boxes c.in_ok-left.left c.in_ok-right.right)
