use Rattle.std.proofs.Common.{◌≡◌, ◌≤◌, ◌++◌, ℕ, List, drop}
use Rattle.std.specs.List.{flat_map}
use Rattle.sn_io.specs.Told.{appended}
use Rattle.sn_plain.proofs.outside.write_pieces.Given as goal

abbrev pub invariant-loop-piece : goal.invariant-loop-piece
invariant-loop-piece g l = record {
  done : List ℕ;
  held : g.E.Sink.held l.err ≡ appended (g.E.Sink.held l.initial.err) done;
  rest : done ++ flat_map (λ piece. piece.now) (drop l.piece-index l.pieces) ≡ flat_map (λ piece. piece.now) l.pieces;
  later : g.E.Sink.faults l.initial.err ≤ g.E.Sink.faults l.err;
}
