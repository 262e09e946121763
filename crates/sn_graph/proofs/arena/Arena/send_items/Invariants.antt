use Rattle.std.proofs.Common.{◌≡◌, ◌++◌, map, length}
use Rattle.std.specs.Vec.Iter.{into_iter_items}
use Rattle.sn_model.specs.declared.run.Run.{Run}
use Rattle.sn_net.specs.Item.{modelled}
use Rattle.sn_view.specs.Next.{send, items}
use Rattle.sn_node.specs.Seen.{target_of}
use Rattle.sn_graph.specs.Arena.{IsOf, view_of}
use Rattle.sn_graph.specs.Quiet.{IsQuiet}
use Rattle.sn_graph.specs.Room.{HasRoom}
use Rattle.sn_graph.proofs.arena.Arena.send_items.Given as goal

abbrev pub invariant-loop-item : goal.invariant-loop-item
invariant-loop-item l = record {
  whole : l.yielded ++ into_iter_items l.item-iterator ≡ into_iter_items l.initial.item-iterator;
  sent : view_of l.self ≡ send (target_of l.goes) (items (map modelled l.yielded)) (view_of l.initial.self);
  room : HasRoom l.goes (length (into_iter_items l.item-iterator)) l.self;
  of : (run : Run) → IsOf l.initial.self run → IsOf l.self run;
  quiet : IsQuiet l.initial.self l.self;
}
