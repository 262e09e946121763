use Rattle.pump.proofs.run.started.Goals as goal

pub run_of-requires : goal.run_of-requires
run_of-requires c = c.is_closed.ensures.0 c.if-not-is_closed.false
