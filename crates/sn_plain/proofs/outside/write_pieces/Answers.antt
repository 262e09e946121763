use Rattle.std.proofs.Common.{List, ℕ, Bor, arith}
use Rattle.std.proofs.lemmas.Result.{err_from_is_err_and}
use Rattle.sn_plain.proofs.Told.{piece_cut, piece_held, piece_rest}
use Rattle.sn_plain.proofs.outside.write_pieces.Goals as goal

pub returns-in_err-write_whole-clause-part : goal.returns-in_err-write_whole-clause-part
returns-in_err-write_whole-clause-part g c =
    let p = err_from_is_err_and c.from_residual.result c.from_residual.ensures.1 in
    let at = c.loop-piece in
    rw p.1 (piece_cut (λ (piece : Bor (List ℕ)). piece.now) c.args.pieces.now at.piece-index _ c.loop-piece-test.true at.invariant.done at.invariant.rest _ _ _ at.invariant.held c.in_err-write_whole.ensures.part)

pub loop-piece-preserved : goal.loop-piece-preserved
loop-piece-preserved g c =
    let at = c.loop-piece in
    let held = piece_held (λ (piece : Bor (List ℕ)). piece.now) c.args.pieces.now at.piece-index _ c.loop-piece-test.true at.invariant.done at.invariant.rest _ _ _ at.invariant.held c.in_ok-write_whole.ensures.whole in
    record {
      done = _;
      held = held;
      rest = piece_rest (λ (piece : Bor (List ℕ)). piece.now) c.args.pieces.now at.piece-index _ c.loop-piece-test.true at.invariant.done at.invariant.rest (g.E.Sink.held c.args.err.now) (g.E.Sink.held at.err) (g.E.Sink.held at.err) at.invariant.held;
      later = omega (arith, at.invariant.later, c.in_ok-write_whole.ensures.cause.later);
    }
