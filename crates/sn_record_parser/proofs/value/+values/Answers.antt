use Rattle.std.proofs.Common.{◌≢◌, arith, rules}
use Rattle.std.specs.Prelude.{FitsSigned}
use Rattle.std.specs.Int.{w64}
use Rattle.std.proofs.lemmas.Int.{to_z-of_z}
use Rattle.std.proofs.lemmas.Result.{err_from_is_err_and}
use Rattle.sn_record_tokens.specs.declared.token.Mark.TheVariants.{CloseList}
use Rattle.sn_record_tokens.specs.declared.token.Token.TheVariants.{Mark}
use Rattle.sn_record_parser.proofs.Faults.{if_wrong, is_wrong}
use Rattle.sn_record_parser.proofs.Lists.{goes_on, ends, stops, spoils}
use Rattle.sn_record_parser.proofs.Values.{list_empty, list_spoiled, list_more_spoiled, list_has, nothing_no_value}
use Rattle.sn_record_parser.proofs.value.+values.Goals as goal

pub value_from-returns-in-Number : goal.value_from-returns-in-Number
value_from-returns-in-Number t c =
    let fits : FitsSigned w64 c.in-Number.n = search rules in
    rw c.in-Number.is (rw (to_z-of_z w64 c.in-Number.n fits) at (c.number.ensures c.args.levels c.args.rest.now))

pub value_from-returns-in-Text : goal.value_from-returns-in-Text
value_from-returns-in-Text t c = rw c.in-Text.is (c.text.ensures c.args.levels c.args.rest.now)

pub list-returns-then-is_mark : goal.list-returns-then-is_mark
list-returns-then-is_mark t c = rw c.new-values.ensures (list_empty (omega arith) (omega arith) c.in_ok-first.ensures (c.is_mark.ensures.0 c.if-is_mark.true))

pub list-returns-in_err-value : goal.list-returns-in_err-value
list-returns-in_err-value t c =
    let p = err_from_is_err_and c.from_residual-in_err-value.result c.from_residual-in_err-value.ensures.1 in
    let open_still : c.in_ok-first.first ≢ Mark CloseList = λ e. let marked = c.is_mark.ensures.1 e in let unmarked = c.if-is_mark.false in absurd cc in
    rw (p.1, p.2) (if_wrong _ c.in_err-value.ensures (list_spoiled c.in_ok-first.ensures open_still))

pub list-returns-in_err-left : goal.list-returns-in_err-left
list-returns-in_err-left t c =
    let p = err_from_is_err_and c.from_residual-in_err-left.result c.from_residual-in_err-left.ensures.1 in
    rw (p.1, p.2) (if_wrong _ c.in_err-left.ensures (list_more_spoiled c.in_ok-first.ensures c.in_ok-value.ensures))

pub list-returns : goal.list-returns
list-returns t c = list_has (omega arith) (omega arith) c.in_ok-first.ensures c.in_ok-value.ensures (rw (c.in_ok-append.ensures.ok, c.new-values.ensures) at c.in_ok-left.ensures)

pub more-returns-in_err-goes_on : goal.more-returns-in_err-goes_on
more-returns-in_err-goes_on t c =
    let p = err_from_is_err_and c.from_residual.result c.from_residual.ensures.1 in
    rw (p.1, p.2) (is_wrong _ c.in_err-goes_on.ensures (stops c.loop-rest.invariant))

pub more-returns-in_err-first : goal.more-returns-in_err-first
more-returns-in_err-first t c =
    let p = err_from_is_err_and c.from_residual-in_err-first.result c.from_residual-in_err-first.ensures.1 in
    rw (p.1, p.2) (is_wrong _ c.in_err-first.ensures (λ e. spoils c.loop-rest.invariant c.if-branch.true c.in_ok-goes_on.ensures (rw e nothing_no_value)))

pub more-returns-in_err-value : goal.more-returns-in_err-value
more-returns-in_err-value t c =
    let p = err_from_is_err_and c.from_residual-in_err-value.result c.from_residual-in_err-value.ensures.1 in
    rw (p.1, p.2) (if_wrong _ c.in_err-value.ensures (λ none. spoils c.loop-rest.invariant c.if-branch.true c.in_ok-goes_on.ensures (rw c.in_ok-first.ensures none)))

pub more-loop-rest-preserved : goal.more-loop-rest-preserved
more-loop-rest-preserved t c = goes_on c.loop-rest.invariant c.if-branch.true c.in_ok-goes_on.ensures _ c.in_ok-first.ensures c.in_ok-value.ensures c.in_ok-append.ensures.ok

pub more-returns : goal.more-returns
more-returns t c = ends c.loop-rest.invariant c.if-branch.false c.in_ok-goes_on.ensures
