-- The ends may go to other threads. The check finds this of most parts, but not of a queue under a rule, whose facts it unfolds: so it goes part by part.
use denote.Param.Send.{IsSend, IsSync, sendable}
use denote.Param.SendFields.{declared_send, declared_sync}
use denote.Plain.{UInt}
use denote.RattleType.{RattleType}
use mir.Syntax.{w8}
use Rattle.std.proofs.Crossing.{crosses, frees, send, sync}
use Rattle.std.proofs.option.Option.TheSendSync as option_crosses
use Rattle.std.specs.contracts.option.Option as option
use Rattle.std.specs.contracts.alloc.Global as global
use Rattle.std.specs.contracts.impls.GlobalAllocator.TheImpl.{ghosts}
use Rattle.atomic_table.proofs.shared.Seat.TheSendSync as seat
use Rattle.crossbeam_queue.specs.contracts.array_queue.Doing as doing
use Rattle.crossbeam_queue.specs.contracts.array_queue.Slotted as slotted
use Rattle.crossbeam_queue.specs.contracts.array_queue.Turns as turns
use Rattle.crossbeam_queue.specs.contracts.array_queue.TurnsTableRuleOptionDoingUnit.TheImpl as rule
use Rattle.crossbeam_queue.proofs.array_queue.Slotted.TheSendSync.{the_send, the_sync}
use Rattle.sn_list.proofs.seq.Seq.TheSendSync as seq_crosses
use Rattle.sn_list.specs.contracts.seq.Seq as seq
use Rattle.sn_model.proofs.Crossing.{run_send, run_sync}
use Rattle.sn_ruled.specs.contracts.rule.Known as known
use Rattle.sn_links.specs.contracts.ends.DoneLink as done_link
use Rattle.sn_links.specs.contracts.ends.DonePort as done_port
use Rattle.sn_links.specs.contracts.ends.Far as far
use Rattle.sn_links.specs.contracts.ends.JobLink as job_link
use Rattle.sn_links.specs.contracts.ends.JobPort as job_port
use Rattle.sn_links.specs.contracts.ends.Lines as lines
use Rattle.sn_links.specs.contracts.ends.Near as near
use Rattle.sn_links.specs.contracts.rule.Dones as dones
use Rattle.sn_links.specs.contracts.rule.DonesProtocolBytesKnownTargetBytes.TheImpl as done_rule
use Rattle.sn_links.specs.contracts.rule.Jobs as jobs
use Rattle.sn_links.specs.contracts.rule.JobsProtocolBytesKnownTargetBytes.TheImpl as job_rule
use Rattle.sn_links.specs.contracts.rule.Target as target

-- bytes, and what a pass knows of them
abbrev bytes : RattleType
bytes = seq.the_row (UInt w8)

abbrev knows : RattleType
knows = known.the_row target.the_row bytes

bytes_send : IsSend bytes
bytes_send = search (sendable, crosses, seq_crosses.the_send) depth 60 fits 100000

jobs_send : IsSend (slotted.the_row (option.the_row bytes) (doing.the_row bytes knows) (turns.the_row jobs.the_row) global.the_row (rule.ghosts bytes knows jobs.the_row job_rule.ghosts job_rule.dict) ghosts)
jobs_send =
    the_send (option.the_row bytes) (doing.the_row bytes knows) (turns.the_row jobs.the_row) global.the_row
    (rule.ghosts bytes knows jobs.the_row job_rule.ghosts job_rule.dict) ghosts (option_crosses.the_send bytes bytes_send) send frees

jobs_sync : IsSync (slotted.the_row (option.the_row bytes) (doing.the_row bytes knows) (turns.the_row jobs.the_row) global.the_row (rule.ghosts bytes knows jobs.the_row job_rule.ghosts job_rule.dict) ghosts)
jobs_sync =
    the_sync (option.the_row bytes) (doing.the_row bytes knows) (turns.the_row jobs.the_row) global.the_row
    (rule.ghosts bytes knows jobs.the_row job_rule.ghosts job_rule.dict) ghosts (option_crosses.the_send bytes bytes_send) send sync frees

dones_send : IsSend (slotted.the_row (option.the_row bytes) (doing.the_row bytes knows) (turns.the_row dones.the_row) global.the_row (rule.ghosts bytes knows dones.the_row done_rule.ghosts done_rule.dict) ghosts)
dones_send =
    the_send (option.the_row bytes) (doing.the_row bytes knows) (turns.the_row dones.the_row) global.the_row
    (rule.ghosts bytes knows dones.the_row done_rule.ghosts done_rule.dict) ghosts (option_crosses.the_send bytes bytes_send) send frees

dones_sync : IsSync (slotted.the_row (option.the_row bytes) (doing.the_row bytes knows) (turns.the_row dones.the_row) global.the_row (rule.ghosts bytes knows dones.the_row done_rule.ghosts done_rule.dict) ghosts)
dones_sync =
    the_sync (option.the_row bytes) (doing.the_row bytes knows) (turns.the_row dones.the_row) global.the_row
    (rule.ghosts bytes knows dones.the_row done_rule.ghosts done_rule.dict) ghosts (option_crosses.the_send bytes bytes_send) send sync frees

target_send : IsSend target.the_row
target_send = search (sendable, crosses) depth 60 fits 100000

target_sync : IsSync target.the_row
target_sync = search (sendable, crosses) depth 60 fits 100000

lines_send : IsSend lines.the_row
lines_send = declared_send lines.the_type (jobs_send, (dones_send, (target_send, tt)))

lines_sync : IsSync lines.the_row
lines_sync = declared_sync lines.the_type (jobs_sync, (dones_sync, (target_sync, tt)))

-- for the closures of callers, which take ends along
pub job_link_send : IsSend job_link.the_row
job_link_send = search (lines_send, lines_sync, sendable, crosses, seq_crosses.the_send, seq_crosses.the_sync, seat.the_send, bytes_send) depth 60 fits 100000

pub done_port_send : IsSend done_port.the_row
done_port_send = search (lines_send, lines_sync, run_send, run_sync, sendable, crosses, seat.the_send, option_crosses.the_send, bytes_send) depth 60 fits 100000

pub job_port_send : IsSend job_port.the_row
job_port_send = search (lines_send, lines_sync, sendable, crosses, seat.the_send, option_crosses.the_send, bytes_send) depth 60 fits 100000

pub done_link_send : IsSend done_link.the_row
done_link_send = search (lines_send, lines_sync, sendable, crosses, seat.the_send, option_crosses.the_send, bytes_send) depth 60 fits 100000

pub near_send : IsSend near.the_row
near_send = search (job_link_send, done_port_send, sendable)

pub far_send : IsSend far.the_row
far_send = search (job_port_send, done_link_send, sendable)
