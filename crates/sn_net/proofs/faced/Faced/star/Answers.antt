use Rattle.std.proofs.Common.{◌++◌, [], ◌∷◌, sym, ap, ◌∙◌}
use Rattle.sn_net.specs.Face.{ascending, face}
use Rattle.sn_net.proofs.Forms.{face-Star}
use Rattle.sn_net.proofs.faced.Faced.star.Goals as goal

pub returns-clause-face : goal.returns-clause-face
returns-clause-face c boxes faced =
    c.ascending.ensures
    ∙ ap ascending (c.in_ok-body.ensures.sets ∙ ap (λ sets. sets ++ c.args.exit ∷ []) (faced ∙ ap (face boxes) (sym c.in_ok-body.ensures.net)))
    ∙ sym (face-Star boxes c.args.place c.args.merge c.in_ok-body.body c.args.exit c.args.guard)
