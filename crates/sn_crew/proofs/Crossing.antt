-- A node may go to another thread, and a crew may be shared: part by part, as a search over all would not end.
use denote.RattleType.{RattleType}
use denote.Ref.{NamedLft}
use denote.Param.Send.{IsSend, IsSync, sendable}
use denote.Struct.Declared.{row}
use denote.Param.SendFields.{declared_send, declared_sync}
use Rattle.std.proofs.Crossing.{crosses}
use Rattle.std.proofs.option.Option.TheSendSync as option_crosses
use Rattle.std.specs.contracts.option.Option as option
use Rattle.sn_list.proofs.seq.Seq.TheSendSync as seq
use Rattle.sn_record.proofs.label_map.LabelMap.TheSendSync as label_map
use Rattle.sn_record.proofs.value.Value.TheLaws.TheKnot as value
use Rattle.sn_model.proofs.Crossing.{run_send, run_sync}
use Rattle.sn_model.proofs.trail.Trail.TheLaws.TheKnot.{both_send-Trail}
use Rattle.sn_model.specs.contracts.trail.Trail as trail_row
use Rattle.sn_sync.specs.contracts.cell.Holding as holding
use Rattle.sn_dispatch.specs.contracts.det_fork.DetFork as det_fork
use Rattle.sn_stream.proofs.Crossing.{get_end_send, put_end_send}
use Rattle.sn_stream.specs.contracts.item.StreamItem as item
use Rattle.sn_component.specs.contracts.outbox.Outbox as outbox
use Rattle.sn_component.specs.contracts.component.Component as component
use Rattle.sn_component.specs.contracts.component.Component.TheInside as component_inside
use Rattle.sn_component.specs.contracts.pass.Keeps as keeps
use Rattle.sn_component.specs.contracts.source.Source as source
use Rattle.sn_component.specs.contracts.source.Source.TheInside as source_inside
use Rattle.sn_fork.specs.contracts.fork.Child as child
use Rattle.sn_fork.specs.contracts.fork.Fork as fork
use Rattle.sn_fork.specs.contracts.fork.Fork.TheInside as fork_inside
use Rattle.sn_turn.proofs.heap.OnHeap.TheSendSync as on_heap
use Rattle.sn_turn.specs.contracts.node.Kind as kind
use Rattle.sn_turn.specs.contracts.node.Node as node
use Rattle.sn_wakeup.specs.contracts.run_queue.RunQueue as queue
use Rattle.sn_wakeup.specs.contracts.waker.Waker as waker
use Rattle.sn_crew.specs.contracts.crew.Crew as crew
use Rattle.sn_crew.specs.contracts.crew.Task as task
use Rattle.sn_crew.specs.contracts.slots.Slots as slots
use Rattle.sn_crew.proofs.slots.Slots.TheSendSync as slots_crosses

item_send : IsSend item.the_row
item_send = search (sendable, crosses, seq.the_send, label_map.the_send, value.send-Value) depth 60 fits 100000

outbox_send : IsSend outbox.the_row
outbox_send = search (sendable, crosses, put_end_send, item_send) depth 60 fits 100000

holding_send : IsSend holding.the_row
holding_send = search (sendable, crosses, seq.the_send, label_map.the_send, value.send-Value) depth 60 fits 100000

keeps_send : IsSend keeps.the_row
keeps_send = search (sendable, crosses, holding_send) depth 60 fits 100000

source_parts : IsSend (row source_inside.the_type)
source_parts = declared_send source_inside.the_type (search (sendable, crosses, run_send, run_sync) depth 60 fits 100000, (search (sendable, crosses) depth 60 fits 100000, (outbox_send, tt)))

source_send : IsSend source.the_row
source_send = search (sendable, crosses, source_parts) depth 60 fits 100000

waiting_send : IsSend (option.the_row item.the_row)
waiting_send = option_crosses.the_send item.the_row item_send

component_parts : IsSend (row component_inside.the_type)
component_parts =
    declared_send component_inside.the_type (search (sendable, crosses, run_send, run_sync) depth 60 fits 100000, (search (sendable, crosses, seq.the_send) depth 60 fits 100000, (keeps_send, (get_end_send, (waiting_send, (outbox_send, tt))))))

component_send : IsSend component.the_row
component_send = search (sendable, crosses, component_parts) depth 60 fits 100000

decisions_send : IsSend det_fork.the_row
decisions_send = search (sendable, crosses, seq.the_send, label_map.the_send, value.send-Value) depth 60 fits 100000

child_send : IsSend child.the_row
child_send = declared_send child.the_type (search (sendable, crosses) depth 60 fits 100000, (outbox_send, (get_end_send, tt)))

trail_send : IsSend trail_row.the_row
trail_send = search (sendable, crosses, both_send-Trail) depth 60 fits 100000

fork_parts : IsSend (row fork_inside.the_type)
fork_parts =
    declared_send fork_inside.the_type (
      search (sendable, crosses, run_send, run_sync) depth 60 fits 100000,
      (
        search (sendable, crosses, seq.the_send) depth 60 fits 100000,
        (
          search (sendable, crosses) depth 60 fits 100000,
          (
            trail_send,
            (
              get_end_send,
              (
                waiting_send,
                (
                  decisions_send,
                  (
                    search (sendable, crosses, child_send) depth 60 fits 100000,
                    (
                      search (sendable, crosses) depth 60 fits 100000,
                      (search (sendable, crosses) depth 60 fits 100000, (search (sendable, crosses) depth 60 fits 100000, (outbox_send, tt))),
                    ),
                  ),
                ),
              ),
            ),
          ),
        ),
      ),
    )

fork_send : IsSend fork.the_row
fork_send = search (sendable, crosses, fork_parts) depth 60 fits 100000

kind_send : IsSend kind.the_row
kind_send = search (sendable, crosses, on_heap.the_send, source_send, component_send, fork_send) depth 60 fits 100000

pub node_send : IsSend node.the_row
node_send = declared_send node.the_type (kind_send, tt)

queue_send : IsSend queue.the_row
queue_send = search (sendable, crosses) depth 60 fits 100000

queue_sync : IsSync queue.the_row
queue_sync = search (sendable, crosses) depth 60 fits 100000

waker_send : IsSend waker.the_row
waker_send = search (sendable, crosses, queue_send, queue_sync) depth 60 fits 100000

waker_sync : IsSync waker.the_row
waker_sync = search (sendable, crosses, queue_send, queue_sync) depth 60 fits 100000

task_send : IsSend task.the_row
task_send = declared_send task.the_type (search (sendable, crosses) depth 60 fits 100000, (search (sendable, crosses, waker_send, waker_sync) depth 60 fits 100000, (node_send, tt)))

slots_sync : IsSync (slots.the_row task.the_row)
slots_sync = search (sendable, crosses, slots_crosses.the_sync, task_send) depth 60 fits 100000

pub crew_sync : (κ : NamedLft) (G : RattleType) → IsSync G → IsSync (crew.the_row κ G)
crew_sync κ G gate =
    declared_sync (crew.the_type κ G) (
      search (sendable, crosses) depth 60 fits 100000,
      (
        search (sendable, crosses, gate) depth 60 fits 100000,
        (
          search (sendable, crosses, queue_send, queue_sync) depth 60 fits 100000,
          (slots_sync, (search (sendable, crosses) depth 60 fits 100000, (search (sendable, crosses) depth 60 fits 100000, tt))),
        ),
      ),
    )
