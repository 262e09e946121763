use Rattle.std.proofs.Common.{◌≡◌, ◌≤◌, ◌+◌, ◌-◌, ℕ, List, max}
use Rattle.sn_net.specs.declared.net.Claim.{Claim}
use Rattle.sn_feed.specs.Still.{is_of, names_of}
use Rattle.sn_feed.specs.declared.feed.TheConstants.{MOST_INPUT}
use Rattle.sn_plain.specs.Pieces.{IsFedSoFar, Starts}
use Rattle.sn_plain.proofs.feeding.print_pieces.Given as goal

abbrev pub invariant-loop-bytes : goal.invariant-loop-bytes
invariant-loop-bytes g l = record {
  within : l.from ≤ MOST_INPUT;
  made_by : is_of l.engine.value l.run;
  so_far : (claim : Claim) → Starts l.run claim l.fn.feed
      → IsFedSoFar l.run claim (names_of l.fn.feed) (g.F.Files.bytes_of l.initial.files l.input_name) l.from (g.O.Sink.held l.initial.out) (g.O.Sink.held l.out) l.engine.value;
  same : (name : List ℕ) → g.F.Files.bytes_of l.files name ≡ g.F.Files.bytes_of l.initial.files name;
  later : (name : List ℕ) → g.F.Files.faults l.initial.files name ≤ g.F.Files.faults l.files name;
  asked : g.F.Files.asked l.files ≤ max (g.F.Files.asked l.initial.files) l.batch;
  out_later : g.O.Sink.faults l.initial.out ≤ g.O.Sink.faults l.out;
}

abbrev pub decreases-loop-bytes : goal.decreases-loop-bytes
decreases-loop-bytes g l = MOST_INPUT + 1 - l.from
