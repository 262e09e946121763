use Rattle.sn_sync.proofs.Filling.{emptied}
use Rattle.sn_sync.proofs.slots.fill.Goals as goal

pub returns-in-Some-clause-unchanged : goal.returns-in-Some-clause-unchanged
returns-in-Some-clause-unchanged c = emptied c.args.slots.now c.args.place c.args.r c.take.new.self c.requires.empty c.take.ensures.after
