use Rattle.std.proofs.Common.{map, sym, ap, ◌∙◌}
use Rattle.std.specs.List.{flat_map}
use Rattle.sn_net.specs.Face.{ascending, face}
use Rattle.sn_net.proofs.Forms.{all_faced, face-Choice}
use Rattle.sn_net.proofs.faced.Faced.choice.Goals as goal

pub returns-clause-face : goal.returns-clause-face
returns-clause-face c boxes faced =
    let parts = c.in_ok-branches in
    c.ascending.ensures
    ∙ ap ascending (c.in_ok-sets.ensures ∙ ap (flat_map (λ sets. sets)) (c.as_slice.ensures ∙ parts.ensures.1 ∙ all_faced boxes c.args.branches faced ∙ ap (map (face boxes)) (sym parts.ensures.0)))
    ∙ sym (face-Choice boxes c.args.place c.args.merge parts.branches parts.faces)
