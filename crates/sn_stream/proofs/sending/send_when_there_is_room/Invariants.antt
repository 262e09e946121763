use Rattle.std.proofs.Common.{◌≡◌, take}
use Rattle.sn_stream.specs.Ends.{passed}
use Rattle.sn_stream.specs.Ended.{ended}
use Rattle.sn_stream.proofs.sending.send_when_there_is_room.Given as goal

-- the entries before this one were put
abbrev pub invariant-loop : goal.invariant-loop
invariant-loop g l = record {
  ready : (goal.iterator-loop g).can_next l.iterator' × (goal.iterator-loop g).is_finite l.iterator';
  made : l.put.made ≡ l.initial.put.made;
  sent : passed l.put.moved ≡ take l.number (ended l.items);
}
