use Rattle.std.proofs.Common.{refl, ◌∙◌, ap, pos, w64, arith}
use Rattle.std.proofs.lemmas.Int.{to_z_pos}
use Rattle.std.proofs.lemmas.List.{take_all}
use Rattle.std.specs.Str.Parse.{digits_value}
use Rattle.sn_terminal.proofs.Numbers.{next_digit}
use Rattle.sn_terminal.proofs.number.value_of.Goals as goal

pub loop-digit-init : goal.loop-digit-init
loop-digit-init c = record { is = refl }

pub overflow_mul-value : goal.overflow_mul-value
overflow_mul-value c =
    let next = next_digit c.args.digits.now c.loop-digit.digit-index c.loop-digit.value c.requires.numeral c.loop-digit-test.true c.loop-digit.invariant in
    let small = next.small in let fits = c.requires.fits in omega arith

pub overflow_add-value : goal.overflow_add-value
overflow_add-value c =
    let next = next_digit c.args.digits.now c.loop-digit.digit-index c.loop-digit.value c.requires.numeral c.loop-digit-test.true c.loop-digit.invariant in
    let small = next.small in let fits = c.requires.fits in let digit = c.from.ensures in omega arith

pub loop-digit-preserved : goal.loop-digit-preserved
loop-digit-preserved c =
    let next = next_digit c.args.digits.now c.loop-digit.digit-index c.loop-digit.value c.requires.numeral c.loop-digit-test.true c.loop-digit.invariant in
    rw c.from.ensures next.longer

pub overflow_cast-result : goal.overflow_cast-result
overflow_cast-result c =
    let all = c.loop-digit.invariant.is ∙ ap (digits_value 10) (take_all c.loop-digit.digit-index c.args.digits.now c.loop-digit-test.false) in
    let fits = c.requires.fits in omega arith

pub returns : goal.returns
returns c =
    let all = c.loop-digit.invariant.is ∙ ap (digits_value 10) (take_all c.loop-digit.digit-index c.args.digits.now c.loop-digit-test.false) in
    let fits = c.requires.fits in
    to_z_pos w64 c.loop-digit.value (omega arith) ∙ ap pos all
