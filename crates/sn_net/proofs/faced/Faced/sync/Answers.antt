use Rattle.std.proofs.Common.{sym, ap, ◌∙◌}
use Rattle.sn_net.specs.Face.{ascending}
use Rattle.sn_net.proofs.Forms.{face-Sync}
use Rattle.sn_net.proofs.faced.Faced.sync.Goals as goal

pub returns-clause-face : goal.returns-clause-face
returns-clause-face c boxes =
    c.ascending.ensures ∙ ap ascending (c.in_ok-sets.ensures ∙ c.as_slice.ensures) ∙ sym (face-Sync boxes c.args.place c.args.patterns)
