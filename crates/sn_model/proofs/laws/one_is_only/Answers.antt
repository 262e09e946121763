use Rattle.std.proofs.Common.{[], ◌∷◌, ap}
use Rattle.sn_streams.specs.Segments.{first_segment}
use Rattle.sn_streams.proofs.Trees.{tree_has_one}
use Rattle.sn_model.specs.Meaning.{tree}
use Rattle.sn_model.proofs.Ordered.{all_in_order}
use Rattle.sn_model.proofs.laws.one_is_only.Goals as goal

pub returns-clause-stream : goal.returns-clause-stream
returns-clause-stream c = λ s net xss yss all h. tree_has_one (tree s net) (all_in_order s net all) xss yss h

pub returns-clause-items : goal.returns-clause-items
returns-clause-items c = λ s net xs ys all h. ap first_segment (tree_has_one (tree s net) (all_in_order s net all) (xs ∷ []) (ys ∷ []) h)
