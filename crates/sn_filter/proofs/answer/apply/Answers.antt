use Rattle.sn_filter.proofs.Using.{used_closed}
use Rattle.sn_filter.proofs.answer.apply.Goals as goal

pub records_of-requires-clause-closed : goal.records_of-requires-clause-closed
records_of-requires-clause-closed c = used_closed c.args.f.now c.args.r.now c.in-Ok.templates.now c.requires.closed c.in-Ok.ensures.templates
