use Rattle.std.proofs.Common.{◌≡◌, ◌≤◌, List, ◌++◌, map, None}
use Rattle.std.specs.Vec.Iter.{into_iter_items}
use Rattle.sn_io.specs.Told.{appended}
use Rattle.sn_record.specs.declared.item.Item.{Item}
use Rattle.sn_net.specs.Item.{Rec, modelled}
use Rattle.sn_model.specs.Meaning.{one_list}
use Rattle.sn_model.specs.Run.{boxes_of, net_of, setting_of}
use Rattle.sn_once.specs.Rest.{IsOf, rest_of}
use Rattle.sn_output.specs.Printed.{ending, printed}
use Rattle.sn_load.specs.Load.{AreTypedRecords}
use Rattle.sn_plain.proofs.transcript.print_run.Given as goal

abbrev pub invariant-loop-record : goal.invariant-loop-record
invariant-loop-record g l = record {
  before : List Item;
  made_by : IsOf l.engine.value l.run;
  so_far : one_list (setting_of l.run) (net_of l.run) (map Rec l.fn.records) ≡ map modelled before ++ rest_of l.engine.value (map Rec (into_iter_items l.record-iterator));
  going : ending (map modelled before) ≡ None;
  held : g.O.Sink.held l.out ≡ appended (g.O.Sink.held l.initial.out) (printed l.names (map modelled before));
  typed : AreTypedRecords (boxes_of l.run) (net_of l.run) (into_iter_items l.record-iterator);
  later : g.O.Sink.faults l.initial.out ≤ g.O.Sink.faults l.out;
}
