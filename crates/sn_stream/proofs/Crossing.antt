-- Both ends may go to other threads. The check finds this of most parts, but not of types that hold themselves, nor of a queue under
-- a rule: so it goes part by part.
use denote.Param.Send.{IsSend, IsSync, sendable}
use denote.Param.SendFields.{declared_send, declared_sync}
use Rattle.std.proofs.Crossing.{crosses, frees, send, sync}
use Rattle.std.proofs.option.Option.TheSendSync as option_crosses
use Rattle.std.specs.contracts.option.Option as option
use Rattle.std.specs.contracts.alloc.Global as global
use Rattle.std.specs.contracts.impls.GlobalAllocator.TheImpl.{ghosts}
use Rattle.atomic_table.proofs.shared.Seat.TheSendSync as seat
use Rattle.crossbeam_queue.specs.contracts.array_queue.Doing as doing
use Rattle.crossbeam_queue.specs.contracts.array_queue.Slotted as slotted
use Rattle.crossbeam_queue.specs.contracts.array_queue.Turns as turns
use Rattle.crossbeam_queue.specs.contracts.array_queue.TurnsTableRuleOptionDoingUnit.TheImpl as rule
use Rattle.crossbeam_queue.proofs.array_queue.Slotted.TheSendSync.{the_send, the_sync}
use Rattle.sn_list.proofs.seq.Seq.TheSendSync as seq
use Rattle.sn_record.proofs.label_map.LabelMap.TheSendSync as label_map
use Rattle.sn_record.proofs.value.Value.TheLaws.TheKnot as value
use Rattle.sn_record.specs.contracts.item.Item as record_item
use Rattle.sn_wakeup.proofs.Crossing.{listener_send, listener_sync}
use Rattle.sn_stream.specs.contracts.ends.GetEnd as get_end
use Rattle.sn_stream.specs.contracts.ends.PutEnd as put_end
use Rattle.sn_stream.specs.contracts.ends.Stream as stream
use Rattle.sn_stream.specs.contracts.item.StreamItem as item
use Rattle.sn_stream.specs.contracts.rule.Flow as flow
use Rattle.sn_stream.specs.contracts.rule.FlowProtocolStreamItemKnown.TheImpl as flow_rule
use Rattle.sn_stream.specs.contracts.rule.Known as known

item_send : IsSend item.the_row
item_send = search (sendable, crosses, seq.the_send, label_map.the_send, value.send-Value) depth 60 fits 100000

line_send : IsSend (slotted.the_row (option.the_row item.the_row) (doing.the_row item.the_row known.the_row) (turns.the_row flow.the_row) global.the_row (rule.ghosts item.the_row known.the_row flow.the_row flow_rule.ghosts flow_rule.dict) ghosts)
line_send =
    the_send (option.the_row item.the_row) (doing.the_row item.the_row known.the_row) (turns.the_row flow.the_row) global.the_row
    (rule.ghosts item.the_row known.the_row flow.the_row flow_rule.ghosts flow_rule.dict) ghosts (option_crosses.the_send item.the_row item_send) send frees

line_sync : IsSync (slotted.the_row (option.the_row item.the_row) (doing.the_row item.the_row known.the_row) (turns.the_row flow.the_row) global.the_row (rule.ghosts item.the_row known.the_row flow.the_row flow_rule.ghosts flow_rule.dict) ghosts)
line_sync =
    the_sync (option.the_row item.the_row) (doing.the_row item.the_row known.the_row) (turns.the_row flow.the_row) global.the_row
    (rule.ghosts item.the_row known.the_row flow.the_row flow_rule.ghosts flow_rule.dict) ghosts (option_crosses.the_send item.the_row item_send) send sync frees

stream_send : IsSend stream.the_row
stream_send = declared_send stream.the_type (line_send, (search (sendable, crosses), (search (sendable, crosses), (listener_send, (listener_send, tt)))))

stream_sync : IsSync stream.the_row
stream_sync = declared_sync stream.the_type (line_sync, (search (sendable, crosses), (search (sendable, crosses), (listener_sync, (listener_sync, tt)))))

-- for the closures of callers, which take an end along, and items
pub items_sync : IsSync record_item.the_row
items_sync = search (sendable, crosses, seq.the_sync, label_map.the_sync, value.sync-Value) depth 60 fits 100000

pub put_end_send : IsSend put_end.the_row
put_end_send = search (sendable, crosses, stream_send, stream_sync, seat.the_send, option_crosses.the_send, item_send) depth 60 fits 100000

pub get_end_send : IsSend get_end.the_row
get_end_send = search (sendable, crosses, stream_send, stream_sync, seat.the_send, option_crosses.the_send, item_send) depth 60 fits 100000
