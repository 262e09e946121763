use Rattle.std.proofs.Common.{◌++◌, map, sym, ap, ◌∙◌}
use Rattle.sn_net.specs.Face.{with_tag, ascending, face}
use Rattle.sn_net.proofs.Forms.{face-Split}
use Rattle.sn_net.proofs.faced.Faced.split.Goals as goal

pub returns-clause-face : goal.returns-clause-face
returns-clause-face c boxes faced =
    let tagged = map (with_tag c.args.tag) in
    c.ascending.ensures
    ∙ ap ascending (c.in_ok-push_tagged.ensures ∙ ap (λ sets. sets ++ tagged c.as_slice.result.now) c.new-sets.ensures ∙ ap tagged (c.as_slice.ensures ∙ c.in_ok-body.ensures.face ∙ faced ∙ ap (face boxes) (sym c.in_ok-body.ensures.net)))
    ∙ sym (face-Split boxes c.args.place c.args.merge c.in_ok-body.body c.args.tag)
