use Rattle.std.proofs.Common.{◌∙◌, ap}
use Rattle.sn_stream.proofs.Flowing.{gets, moment}
use Rattle.sn_stream.proofs.Kept.{after_get}
use Rattle.sn_stream.proofs.ends.GetEnd.get.Goals as goal

pub pop_as-entry-requires-clause-rule : goal.pop_as-entry-requires-clause-rule
pop_as-entry-requires-clause-rule g c = (gets _ _ (ap (λ v. v.gets) c.self.invariant.1), moment _ _)

pub invariant_of-self : goal.invariant_of-self
invariant_of-self g c =
    let same = c.pop_as-entry.ensures.queue in
    let follows = after_get _ _ _ _ c.pop_as-entry.result (c.self.invariant.1, c.self.invariant.2) c.pop_as-entry.ensures.rule in
    ((same.0 ∙ c.self.invariant.0.0, same.2 ∙ c.self.invariant.0.1), follows.0, follows.1)

pub returns-clause-stated : goal.returns-clause-stated
returns-clause-stated g c =
    (after_get _ _ _ _ c.pop_as-entry.result (c.self.invariant.1, c.self.invariant.2) c.pop_as-entry.ensures.rule).1
