-- Both ends may go to other threads. The check finds this of a `Done` and of a queue, but not of a queue of `Done`s, whose facts it
-- unfolds: so it goes part by part.
use denote.Param.Send.{IsSend, IsSync, sendable}
use denote.Param.SendFields.{declared_send, declared_sync}
use Rattle.std.proofs.Crossing.{crosses, frees, send, sync}
use Rattle.std.proofs.option.Option.TheSendSync as option_crosses
use Rattle.std.specs.contracts.option.Option as option
use Rattle.std.specs.contracts.alloc.Global as global
use Rattle.std.specs.contracts.impls.GlobalAllocator.TheImpl.{ghosts}
use Rattle.atomic_table.proofs.shared.Seat.TheSendSync as seat
use Rattle.crossbeam_queue.specs.contracts.array_queue.Doing as doing
use Rattle.crossbeam_queue.specs.contracts.array_queue.Slotted as slotted
use Rattle.crossbeam_queue.specs.contracts.array_queue.Turns as turns
use Rattle.crossbeam_queue.specs.contracts.array_queue.TurnsTableRuleOptionDoingUnit.TheImpl as rule
use Rattle.crossbeam_queue.proofs.array_queue.Slotted.TheSendSync.{the_send, the_sync}
use Rattle.sn_boxrun.proofs.Crossing.{done_send, job_send}
use Rattle.sn_boxrun.specs.contracts.job.Done as done
use Rattle.sn_boxrun.specs.contracts.job.Job as job
use Rattle.sn_model.specs.contracts.run.Run as run
use Rattle.sn_jobs.specs.contracts.ends.JobHand as hand
use Rattle.sn_jobs.specs.contracts.ends.JobOwner as owner
use Rattle.sn_jobs.specs.contracts.ends.Lines as lines
use Rattle.sn_jobs.specs.contracts.rule.Dones as dones
use Rattle.sn_jobs.specs.contracts.rule.DonesProtocolDoneKnownRunDone.TheImpl as done_rule
use Rattle.sn_jobs.specs.contracts.rule.Jobs as jobs
use Rattle.sn_jobs.specs.contracts.rule.JobsProtocolJobKnownRunJob.TheImpl as job_rule
use Rattle.sn_ruled.specs.contracts.rule.Known as known

jobs_send : IsSend (slotted.the_row (option.the_row job.the_row) (doing.the_row job.the_row (known.the_row run.the_row job.the_row)) (turns.the_row jobs.the_row) global.the_row (rule.ghosts job.the_row (known.the_row run.the_row job.the_row) jobs.the_row job_rule.ghosts job_rule.dict) ghosts)
jobs_send =
    the_send (option.the_row job.the_row) (doing.the_row job.the_row (known.the_row run.the_row job.the_row)) (turns.the_row jobs.the_row) global.the_row
    (rule.ghosts job.the_row (known.the_row run.the_row job.the_row) jobs.the_row job_rule.ghosts job_rule.dict) ghosts (option_crosses.the_send job.the_row job_send) send frees

jobs_sync : IsSync (slotted.the_row (option.the_row job.the_row) (doing.the_row job.the_row (known.the_row run.the_row job.the_row)) (turns.the_row jobs.the_row) global.the_row (rule.ghosts job.the_row (known.the_row run.the_row job.the_row) jobs.the_row job_rule.ghosts job_rule.dict) ghosts)
jobs_sync =
    the_sync (option.the_row job.the_row) (doing.the_row job.the_row (known.the_row run.the_row job.the_row)) (turns.the_row jobs.the_row) global.the_row
    (rule.ghosts job.the_row (known.the_row run.the_row job.the_row) jobs.the_row job_rule.ghosts job_rule.dict) ghosts (option_crosses.the_send job.the_row job_send) send sync frees

dones_send : IsSend (slotted.the_row (option.the_row done.the_row) (doing.the_row done.the_row (known.the_row run.the_row done.the_row)) (turns.the_row dones.the_row) global.the_row (rule.ghosts done.the_row (known.the_row run.the_row done.the_row) dones.the_row done_rule.ghosts done_rule.dict) ghosts)
dones_send =
    the_send (option.the_row done.the_row) (doing.the_row done.the_row (known.the_row run.the_row done.the_row)) (turns.the_row dones.the_row) global.the_row
    (rule.ghosts done.the_row (known.the_row run.the_row done.the_row) dones.the_row done_rule.ghosts done_rule.dict) ghosts (option_crosses.the_send done.the_row done_send) send frees

dones_sync : IsSync (slotted.the_row (option.the_row done.the_row) (doing.the_row done.the_row (known.the_row run.the_row done.the_row)) (turns.the_row dones.the_row) global.the_row (rule.ghosts done.the_row (known.the_row run.the_row done.the_row) dones.the_row done_rule.ghosts done_rule.dict) ghosts)
dones_sync =
    the_sync (option.the_row done.the_row) (doing.the_row done.the_row (known.the_row run.the_row done.the_row)) (turns.the_row dones.the_row) global.the_row
    (rule.ghosts done.the_row (known.the_row run.the_row done.the_row) dones.the_row done_rule.ghosts done_rule.dict) ghosts (option_crosses.the_send done.the_row done_send) send sync frees

lines_send : IsSend lines.the_row
lines_send = declared_send lines.the_type (jobs_send, (dones_send, (search (sendable, crosses), tt)))

lines_sync : IsSync lines.the_row
lines_sync = declared_sync lines.the_type (jobs_sync, (dones_sync, (search (sendable, crosses), tt)))

-- for the closures of callers, which take an end along
pub owner_send : IsSend owner.the_row
owner_send = search (sendable, crosses, lines_send, lines_sync, seat.the_send, option_crosses.the_send, job_send, done_send) depth 60 fits 100000

pub hand_send : IsSend hand.the_row
hand_send = search (sendable, crosses, lines_send, lines_sync, seat.the_send, option_crosses.the_send, job_send, done_send) depth 60 fits 100000
