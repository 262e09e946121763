use Rattle.std.proofs.Common.{ap, ◌++◌, sym, ◌∙◌, subst}
use Rattle.sn_net.specs.Face.{IsFace, ascending, variants}
use Rattle.sn_net.proofs.SortedSets.{face_is}
use Rattle.sn_net.proofs.faces.face.Goals as goal

pub returns-clause-exact : goal.returns-clause-exact
returns-clause-exact c = c.ascending.ensures ∙ ap ascending (c.in_ok-push_variants.ensures ∙ ap (λ sets. sets ++ variants c.args.boxes.now c.args.net.now) c.new-sets.ensures)

pub returns-clause-law : goal.returns-clause-law
returns-clause-law c = subst (IsFace c.args.boxes.now c.args.net.now) (sym (returns-clause-exact c)) (face_is c.args.boxes.now c.args.net.now)
