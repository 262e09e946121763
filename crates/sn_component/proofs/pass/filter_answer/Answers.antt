use Rattle.sn_component.proofs.Passing.{filter_gives, filter_met}
use Rattle.sn_component.proofs.pass.filter_answer.Goals as goal

pub apply-requires-clause-matches : goal.apply-requires-clause-matches
apply-requires-clause-matches c = filter_met c.args.filter.now c.args.r.now c.requires.routed

pub returns : goal.returns
returns c = filter_gives c.args.filter.now c.args.r.now c.apply.result (filter_met c.args.filter.now c.args.r.now c.requires.routed) c.apply.ensures
