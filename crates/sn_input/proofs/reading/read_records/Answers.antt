use Rattle.std.proofs.Common.{◌≡◌, ◌==◌, ◌+◌, ◌∷◌, [], ◌++◌, length, rules, arith}
use Rattle.std.proofs.lemmas.Result.{err_from_is_err_and}
use Rattle.std.proofs.lemmas.List.{length_push}
use Rattle.std.proofs.lemmas.Iterator.Consumers.{YieldsList-turn, YieldsList-end}
use Rattle.std.proofs.lemmas.Iterator.Splits.{YieldsList-from_slice_split}
use Rattle.sn_input.specs.Line.{lines_of}
use Rattle.sn_input.proofs.Coming.{to_come_more, refused, refused_once, answered, answered_once}
use Rattle.sn_input.proofs.reading.read_records.Goals as goal

pub loop-line-preserved : goal.loop-line-preserved
loop-line-preserved c =
    let at = c.loop-line in
    let bytes = c.args.bytes.now in
    let lines = lines_of bytes in
    let turn = YieldsList-turn (YieldsList-from_slice_split _ (λ b. b == 10) bytes (cc) (cc) (cc) (λ x b q k. search rules)) at.yielded _ at.yielded_by _ _ c.in-Some.line c.in-Some.is c.next.ensures.steps in
    let one_more : length (at.yielded ++ c.in-Some.line ∷ []) ≡ length at.yielded + 1 = length_push at.yielded c.in-Some.line in
    record {
      numbered = omega (arith, one_more, at.invariant.numbered);
      few = c.in_ok-take_line.ensures.few;
      to_come = to_come_more c.args.names bytes lines (at.number + 1) (length at.yielded) at.input at.invariant.to_come c.in-Some.line.now turn.0 turn.1 _ c.take_line.new.input one_more c.in_ok-take_line.ensures.goes_on;
    }

pub returns-in_err-take_line-clause-refused : goal.returns-in_err-take_line-clause-refused
returns-in_err-take_line-clause-refused c =
    let p = err_from_is_err_and c.from_residual.result c.from_residual.ensures.1 in
    let at = c.loop-line in
    let bytes = c.args.bytes.now in
    let lines = lines_of bytes in
    let turn = YieldsList-turn (YieldsList-from_slice_split _ (λ b. b == 10) bytes (cc) (cc) (cc) (λ x b q k. search rules)) at.yielded _ at.yielded_by _ _ c.in-Some.line c.in-Some.is c.next.ensures.steps in
    rw (p.1, p.2) (refused c.args.names bytes lines (at.number + 1) (length at.yielded) at.input at.invariant.to_come c.in-Some.line.now turn.0 turn.1 _ c.in_err-take_line.ensures.ends)

pub returns-in_err-take_line-clause-once : goal.returns-in_err-take_line-clause-once
returns-in_err-take_line-clause-once c =
    let p = err_from_is_err_and c.from_residual.result c.from_residual.ensures.1 in
    let at = c.loop-line in
    let bytes = c.args.bytes.now in
    let lines = lines_of bytes in
    let turn = YieldsList-turn (YieldsList-from_slice_split _ (λ b. b == 10) bytes (cc) (cc) (cc) (λ x b q k. search rules)) at.yielded _ at.yielded_by _ _ c.in-Some.line c.in-Some.is c.next.ensures.steps in
    rw (p.1, p.2) (refused_once c.args.names bytes lines (at.number + 1) (length at.yielded) at.input at.invariant.to_come c.in-Some.line.now turn.0 turn.1 _ c.in_err-take_line.ensures.ends)

pub returns-clause-answer : goal.returns-clause-answer
returns-clause-answer c =
    let at = c.loop-line in
    let bytes = c.args.bytes.now in
    let lines = lines_of bytes in
    let end = YieldsList-end (YieldsList-from_slice_split _ (λ b. b == 10) bytes (cc) (cc) (cc) (λ x b q k. search rules)) at.yielded _ at.yielded_by _ _ c.in-None.is c.next.ensures.steps in
    answered c.args.names bytes lines (at.number + 1) (length at.yielded) at.input at.invariant.to_come (omega (arith, end.1))

pub returns-clause-once : goal.returns-clause-once
returns-clause-once c =
    let at = c.loop-line in
    let bytes = c.args.bytes.now in
    let lines = lines_of bytes in
    let end = YieldsList-end (YieldsList-from_slice_split _ (λ b. b == 10) bytes (cc) (cc) (cc) (λ x b q k. search rules)) at.yielded _ at.yielded_by _ _ c.in-None.is c.next.ensures.steps in
    answered_once c.args.names bytes lines (at.number + 1) (length at.yielded) at.input at.invariant.to_come (omega (arith, end.1))
