use Rattle.sn_top.proofs.Printing.{crew_faulted, crew_part, crew_whole, unwritten}
use Rattle.sn_top.proofs.engines.run_in_order.Goals as goal

pub returns-in_default-clause-part : goal.returns-in_default-clause-part
returns-in_default-clause-part g c = unwritten c.args.out.now.names.now c.args.run.value _

pub returns-clause-part : goal.returns-clause-part
returns-clause-part g c = crew_part c.args.out.now.names.now c.args.run.value c.crew_run.new.root.moved _ _ c.crew_run.ensures.beginning c.crew_run.ensures.written

pub returns-clause-whole : goal.returns-clause-whole
returns-clause-whole g c is =
    let whole = c.crew_run.ensures.whole is in
    crew_whole c.args.out.now.names.now c.args.run.value c.crew_run.new.root.moved _ _ (c.crew_run.ensures.all whole.ended_is) whole

pub returns-clause-faulted : goal.returns-clause-faulted
returns-clause-faulted g c fault is =
    crew_faulted c.args.out.now.names.now c.args.run.value c.crew_run.new.root.moved _ _ fault c.crew_run.ensures.beginning (c.crew_run.ensures.faulted fault is)
