use Rattle.std.proofs.Common.{[], ◌∷◌, subst}
use Rattle.sn_record.specs.LabelSet.{Labels}
use Rattle.sn_flow.specs.Visits.{Added}
use Rattle.sn_flow.proofs.sets.add_union.Goals as goal

pub returns : goal.returns
returns c = subst (λ (whole : Labels). Added c.args.sets.now (whole ∷ []) c.add.new.sets c.add.result) c.in_ok-whole.ensures c.add.ensures
