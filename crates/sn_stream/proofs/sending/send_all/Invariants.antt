use Rattle.std.proofs.Common.{◌≡◌, take}
use Rattle.sn_stream.specs.Ends.{passed}
use Rattle.sn_stream.specs.Ended.{ended}
use Rattle.sn_stream.proofs.sending.send_all.Given as goal

-- the entries before this one were put
abbrev pub invariant-loop-number : goal.invariant-loop-number
invariant-loop-number g l = record {
  made : l.put.made ≡ l.initial.put.made;
  sent : passed l.put.moved ≡ take l.number (ended l.items);
}
