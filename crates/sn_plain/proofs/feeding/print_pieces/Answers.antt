use Rattle.std.proofs.Common.{◌≡◌, ◌∙◌, ◌+◌, ◌≤◌, length, refl, sym, subst, take, drop, arith}
use Rattle.std.specs.Prelude.{IfSome}
use Rattle.std.proofs.lemmas.Result.{IfErr-weaker, IfOk-weaker, err_from_is_err_and}
use Rattle.sn_feed.specs.Still.{names_of}
use Rattle.sn_feed.specs.declared.feed.Feed.{Feed}
use Rattle.sn_feed.specs.declared.feed.TheConstants.{MOST_INPUT}
use Rattle.sn_plain.specs.Pieces.{CameThrough, CameToEnd, IsFedSoFar, WhyEndStopped, WhyPieceStopped}
use Rattle.sn_plain.specs.Seen.{File, Sink, seen_file, seen_sink}
use Rattle.sn_plain.proofs.LongInput.{below, came_to_end, end_stopped, ends_at_fault, goes_on, none_there, not_read, piece_stopped, refused_large, some_there, started}
use Rattle.sn_plain.proofs.Printing.{not_ended}
use Rattle.sn_plain.proofs.Running.{some_ended}
use Rattle.sn_plain.proofs.feeding.print_pieces.Goals as goal

pub loop-bytes-init : goal.loop-bytes-init
loop-bytes-init g c = record {
  within = omega arith;
  made_by = c.requires.made_by;
  so_far = λ claim starts. started c.args.run.now claim (g.F.Files.bytes_of c.args.files.now c.args.input_name.now) (g.O.Sink.held c.args.out.now) c.args.feed starts;
  same = λ name. refl;
  later = λ name. omega arith;
  asked = omega arith;
  out_later = omega arith;
}

pub returns-in_err-bytes-clause-stopped : goal.returns-in_err-bytes-clause-stopped
returns-in_err-bytes-clause-stopped g c =
    let p = err_from_is_err_and c.from_residual.result c.from_residual.ensures.1 in
    let at = c.loop-bytes.invariant in
    let input : File = seen_file g.F.Files.bytes_of g.F.Files.faults c.args.files.now c.read_piece.new.files c.args.input_name.now in
    let part : File = seen_file g.F.Files.bytes_of g.F.Files.faults c.loop-bytes.files c.read_piece.new.files c.args.input_name.now in
    let out : Sink = seen_sink g.O.Sink.held g.O.Sink.faults c.args.out.now c.loop-bytes.out in
    rw (p.1, p.2) (λ claim starts. not_read c.args.run.now claim (names_of c.args.feed) input out c.loop-bytes.from (g.O.Sink.held c.loop-bytes.out) c.loop-bytes.engine.value (at.so_far claim starts)
    part refl (at.later c.args.input_name.now) refl c.in_err-bytes.field-0.0 c.in_err-bytes.ensures.unread)

pub returns-then-is_empty-clause-done : goal.returns-then-is_empty-clause-done
returns-then-is_empty-clause-done g c =
    let at = c.loop-bytes.invariant in
    let input : File = seen_file g.F.Files.bytes_of g.F.Files.faults c.args.files.now c.read_piece.new.files c.args.input_name.now in
    let out : Sink = seen_sink g.O.Sink.held g.O.Sink.faults c.args.out.now c.print_end.new.out in
    let mid : Sink = seen_sink g.O.Sink.held g.O.Sink.faults c.loop-bytes.out c.print_end.new.out in
    let told = subst (λ t. IfSome t (λ bytes. c.in_ok-bytes.bytes ≡ take c.piece_length.result (drop c.loop-bytes.from bytes))) (at.same c.args.input_name.now) c.in_ok-bytes.ensures.part in
    let none = none_there c.in_ok-bytes.bytes c.is_empty.result c.is_empty.ensures c.if-is_empty.true in
    let told_end = subst (λ part. IfSome input.told (λ bytes. part ≡ take c.piece_length.result (drop c.loop-bytes.from bytes))) (sym none) told in
    IfOk-weaker c.print_end.result _ _ (λ fault came claim starts. came_to_end c.args.run.now claim (names_of c.args.feed) input out c.loop-bytes.from (g.O.Sink.held c.loop-bytes.out) c.loop-bytes.engine.value (at.so_far claim starts)
    mid refl refl at.out_later refl c.piece_length.result c.piece_length.ensures.some told_end fault (subst (λ (feed : Feed). CameToEnd feed mid fault) c.into_inner.ensures came)) c.print_end.ensures.ended

pub returns-then-is_empty-clause-stopped : goal.returns-then-is_empty-clause-stopped
returns-then-is_empty-clause-stopped g c =
    let at = c.loop-bytes.invariant in
    let input : File = seen_file g.F.Files.bytes_of g.F.Files.faults c.args.files.now c.read_piece.new.files c.args.input_name.now in
    let out : Sink = seen_sink g.O.Sink.held g.O.Sink.faults c.args.out.now c.print_end.new.out in
    let mid : Sink = seen_sink g.O.Sink.held g.O.Sink.faults c.loop-bytes.out c.print_end.new.out in
    let told = subst (λ t. IfSome t (λ bytes. c.in_ok-bytes.bytes ≡ take c.piece_length.result (drop c.loop-bytes.from bytes))) (at.same c.args.input_name.now) c.in_ok-bytes.ensures.part in
    let none = none_there c.in_ok-bytes.bytes c.is_empty.result c.is_empty.ensures c.if-is_empty.true in
    let told_end = subst (λ part. IfSome input.told (λ bytes. part ≡ take c.piece_length.result (drop c.loop-bytes.from bytes))) (sym none) told in
    IfErr-weaker c.print_end.result _ _ (λ why stopped claim starts. end_stopped c.args.run.now claim (names_of c.args.feed) input out c.loop-bytes.from (g.O.Sink.held c.loop-bytes.out) c.loop-bytes.engine.value (at.so_far claim starts)
    mid refl refl at.out_later refl c.piece_length.result c.piece_length.ensures.some told_end why (subst (λ (feed : Feed). WhyEndStopped feed mid why) c.into_inner.ensures stopped)) c.print_end.ensures.stopped

pub returns-then-from-eq-MOST_INPUT-clause-stopped : goal.returns-then-from-eq-MOST_INPUT-clause-stopped
returns-then-from-eq-MOST_INPUT-clause-stopped g c =
    let at = c.loop-bytes.invariant in
    let input : File = seen_file g.F.Files.bytes_of g.F.Files.faults c.args.files.now c.read_piece.new.files c.args.input_name.now in
    let out : Sink = seen_sink g.O.Sink.held g.O.Sink.faults c.args.out.now c.loop-bytes.out in
    let told = subst (λ t. IfSome t (λ bytes. c.in_ok-bytes.bytes ≡ take c.piece_length.result (drop c.loop-bytes.from bytes))) (at.same c.args.input_name.now) c.in_ok-bytes.ensures.part in
    let some = some_there c.in_ok-bytes.bytes c.is_empty.result c.is_empty.ensures c.if-is_empty.false in
    let full : c.loop-bytes.from ≡ MOST_INPUT = omega (arith, c.if-from-eq-MOST_INPUT.true) in
    λ claim starts. refused_large c.args.run.now claim (names_of c.args.feed) input out c.loop-bytes.from (g.O.Sink.held c.loop-bytes.out) c.loop-bytes.engine.value (at.so_far claim starts)
    c.in_ok-bytes.bytes c.piece_length.result full some told refl

pub returns-in_err-feed-clause-stopped : goal.returns-in_err-feed-clause-stopped
returns-in_err-feed-clause-stopped g c =
    let p = err_from_is_err_and c.from_residual-in_err-feed.result c.from_residual-in_err-feed.ensures.1 in
    let at = c.loop-bytes.invariant in
    let input : File = seen_file g.F.Files.bytes_of g.F.Files.faults c.args.files.now c.read_piece.new.files c.args.input_name.now in
    let out : Sink = seen_sink g.O.Sink.held g.O.Sink.faults c.args.out.now c.print_piece.new.out in
    let mid : Sink = seen_sink g.O.Sink.held g.O.Sink.faults c.loop-bytes.out c.print_piece.new.out in
    let told = subst (λ t. IfSome t (λ bytes. c.in_ok-bytes.bytes ≡ take c.piece_length.result (drop c.loop-bytes.from bytes))) (at.same c.args.input_name.now) c.in_ok-bytes.ensures.part in
    let room = c.piece_length.ensures.within (below c.loop-bytes.from at.within c.if-from-eq-MOST_INPUT.false) in
    let within : c.loop-bytes.from + length c.in_ok-bytes.bytes ≤ MOST_INPUT = omega (arith, room, c.in_ok-bytes.ensures.within) in
    let stopped : WhyPieceStopped c.loop-bytes.engine.value c.in_ok-bytes.bytes mid c.in_err-feed.field-0.0 = rw (c.as_slice.ensures, c.into_inner-in-loop-bytes.ensures) at c.in_err-feed.ensures.stopped in
    rw (p.1, p.2) (λ claim starts. piece_stopped c.args.run.now claim (names_of c.args.feed) input out c.loop-bytes.from (g.O.Sink.held c.loop-bytes.out) c.loop-bytes.engine.value (at.so_far claim starts)
    mid refl refl at.out_later refl c.in_ok-bytes.bytes c.piece_length.result told within c.in_err-feed.field-0.0 stopped)

pub returns-then-is_some-clause-done : goal.returns-then-is_some-clause-done
returns-then-is_some-clause-done g c =
    let at = c.loop-bytes.invariant in
    let input : File = seen_file g.F.Files.bytes_of g.F.Files.faults c.args.files.now c.read_piece.new.files c.args.input_name.now in
    let out : Sink = seen_sink g.O.Sink.held g.O.Sink.faults c.args.out.now c.print_piece.new.out in
    let mid : Sink = seen_sink g.O.Sink.held g.O.Sink.faults c.loop-bytes.out c.print_piece.new.out in
    let told = subst (λ t. IfSome t (λ bytes. c.in_ok-bytes.bytes ≡ take c.piece_length.result (drop c.loop-bytes.from bytes))) (at.same c.args.input_name.now) c.in_ok-bytes.ensures.part in
    let room = c.piece_length.ensures.within (below c.loop-bytes.from at.within c.if-from-eq-MOST_INPUT.false) in
    let within : c.loop-bytes.from + length c.in_ok-bytes.bytes ≤ MOST_INPUT = omega (arith, room, c.in_ok-bytes.ensures.within) in
    let came : CameThrough c.args.run.now c.loop-bytes.engine.value c.in_ok-bytes.bytes mid c.in_ok-feed.field-0.feed c.in_ok-feed.field-0.fault = rw (c.as_slice.ensures, c.into_inner-in-loop-bytes.ensures) at c.in_ok-feed.ensures.went in
    let some = some_ended c.in_ok-feed.field-0.fault (sym c.is_some.ensures ∙ c.if-is_some.true) in
    λ claim starts. ends_at_fault c.args.run.now claim (names_of c.args.feed) input out c.loop-bytes.from (g.O.Sink.held c.loop-bytes.out) c.loop-bytes.engine.value (at.so_far claim starts)
    mid refl refl at.out_later refl c.in_ok-bytes.bytes c.piece_length.result told within c.in_ok-feed.field-0.feed c.in_ok-feed.field-0.fault came some.0 some.1

pub returns-then-is_some-clause-same : goal.returns-then-is_some-clause-same
returns-then-is_some-clause-same g c = λ name. c.in_ok-bytes.ensures.same name ∙ c.loop-bytes.invariant.same name

pub loop-bytes-preserved : goal.loop-bytes-preserved
loop-bytes-preserved g c =
    let at = c.loop-bytes.invariant in
    let input : File = seen_file g.F.Files.bytes_of g.F.Files.faults c.args.files.now c.read_piece.new.files c.args.input_name.now in
    let out : Sink = seen_sink g.O.Sink.held g.O.Sink.faults c.args.out.now c.print_piece.new.out in
    let mid : Sink = seen_sink g.O.Sink.held g.O.Sink.faults c.loop-bytes.out c.print_piece.new.out in
    let told = subst (λ t. IfSome t (λ bytes. c.in_ok-bytes.bytes ≡ take c.piece_length.result (drop c.loop-bytes.from bytes))) (at.same c.args.input_name.now) c.in_ok-bytes.ensures.part in
    let room = c.piece_length.ensures.within (below c.loop-bytes.from at.within c.if-from-eq-MOST_INPUT.false) in
    let within : c.loop-bytes.from + length c.in_ok-bytes.bytes ≤ MOST_INPUT = omega (arith, room, c.in_ok-bytes.ensures.within) in
    let came : CameThrough c.args.run.now c.loop-bytes.engine.value c.in_ok-bytes.bytes mid c.in_ok-feed.field-0.feed c.in_ok-feed.field-0.fault = rw (c.as_slice.ensures, c.into_inner-in-loop-bytes.ensures) at c.in_ok-feed.ensures.went in
    let none = not_ended c.in_ok-feed.field-0.fault (sym c.is_some.ensures ∙ c.if-is_some.false) in
    let so_long = sym c.len.ensures in
    record {
      within = omega (arith, within, so_long);
      made_by = came.is;
      so_far = λ claim starts. subst (λ n. IsFedSoFar c.args.run.now claim (names_of c.args.feed) input.told (c.loop-bytes.from + n) out.before out.now c.in_ok-feed.field-0.feed) so_long
          (goes_on c.args.run.now claim (names_of c.args.feed) input out c.loop-bytes.from (g.O.Sink.held c.loop-bytes.out) c.loop-bytes.engine.value (at.so_far claim starts)
          mid refl refl at.out_later refl c.in_ok-bytes.bytes c.piece_length.result told within c.in_ok-feed.field-0.feed c.in_ok-feed.field-0.fault came none);
      same = λ name. c.in_ok-bytes.ensures.same name ∙ at.same name;
      later = λ name. let now = c.in_ok-bytes.ensures.later name in let before = at.later name in omega (arith, now, before);
      asked = omega (arith, at.asked, c.in_ok-bytes.ensures.asked, c.piece_length.ensures.few);
      out_later = omega (arith, at.out_later, c.in_ok-feed.ensures.later);
    }
