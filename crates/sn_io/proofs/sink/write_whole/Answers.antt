use Rattle.std.proofs.Common.{take, drop, ◌∙◌, arith, length-drop}
use Rattle.std.proofs.lemmas.List.{take_rest, take-append-drop}
use Rattle.sn_io.proofs.Told.{appended_further}
use Rattle.sn_io.proofs.sink.write_whole.Goals as goal

pub loop-written-preserved : goal.loop-written-preserved
loop-written-preserved g c = record {
  within = omega (arith, rw (take_rest c.args.bytes.now c.loop-written.written, length-drop) at c.in-Ok.ensures.most);
  held = appended_further _ _ _ _ _ _ c.loop-written.invariant.held c.in-Ok.ensures.bytes;
  later = omega (arith, c.in-Ok.ensures.cause.later);
}

pub returns-in-Err-clause-part : goal.returns-in-Err-clause-part
returns-in-Err-clause-part g c = record {
  piece = take c.loop-written.written c.args.bytes.now;
  rest = drop c.loop-written.written c.args.bytes.now;
  whole = take-append-drop _ _;
  held = c.in-Err.ensures.bytes ∙ c.loop-written.invariant.held;
}
