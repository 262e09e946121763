use Rattle.std.proofs.Common.{◌≡◌, ◌∙◌, sym, ap, inr, Some}
use Rattle.std.specs.Option.{option_copied}
use Rattle.sn_input.specs.Numbered.{repeated}
use Rattle.sn_input.specs.Steps.{Repeats}
use Rattle.sn_input.proofs.one_line.refuse_repeats.Goals as goal

pub returns-in_ok-name-in-Some-clause-refused : goal.returns-in_ok-name-in-Some-clause-refused
returns-in_ok-name-in-Some-clause-refused c =
    let again : repeated c.args.entries.now ≡ Some c.in-Some.label.now = sym c.in_ok-repeated.ensures ∙ ap option_copied c.in-Some.is in
    rw (c.in_ok-name-in-Some.ensures ∙ c.as_slice.ensures) (inr (Repeats.repeats {label = c.in-Some.label.now} again))
