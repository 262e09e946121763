use Rattle.std.proofs.Common.{◌++◌, [], ◌∷◌, sym, ap, ◌∙◌}
use Rattle.sn_net.proofs.Forms.{face-Filter}
use Rattle.sn_net.proofs.faced.Faced.filter.Goals as goal

pub returns-clause-face : goal.returns-clause-face
returns-clause-face c boxes =
    c.in_ok-push_copy.ensures ∙ ap (λ sets. sets ++ c.args.filter.pattern ∷ []) c.new-face.ensures ∙ sym (face-Filter boxes c.args.filter)
