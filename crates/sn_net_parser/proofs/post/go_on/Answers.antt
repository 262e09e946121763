use Rattle.std.proofs.Common.{Some, sym, ◌∙◌, ap}
use Rattle.sn_net_parser.proofs.Steps.{no_have, place_from, place_to, split_from, split_to, star_from, star_to}
use Rattle.sn_net_parser.proofs.post.go_on.Goals as goal

pub returns-in_default : goal.returns-in_default
returns-in_default c = λ w t. no_have _ c.in_default.not-Symbol

pub returns-in_ok-star-in-Some-Star : goal.returns-in_ok-star-in-Some-Star
returns-in_ok-star-in-Some-Star c = λ w t.
    let i = sym c.link.ensures ∙ (c.in-Some-Star.is ∙ ap Some c.in-Some-Star.field-0-is) in
    rw (c.in-Symbol.is, c.in_ok-star-in-Some-Star.ensures) (star_from i, star_to i)

pub returns-in_ok-split-in-Some-Split : goal.returns-in_ok-split-in-Some-Split
returns-in_ok-split-in-Some-Split c = λ w t.
    let i = sym c.link.ensures ∙ (c.in-Some-Split.is ∙ ap Some c.in-Some-Split.field-0-is) in
    rw (c.in-Symbol.is, c.in_ok-split-in-Some-Split.ensures) (split_from i, split_to i)

pub returns-in_ok-placing-in-Some-Place : goal.returns-in_ok-placing-in-Some-Place
returns-in_ok-placing-in-Some-Place c = λ w t.
    let i = sym c.link.ensures ∙ (c.in-Some-Place.is ∙ ap Some c.in-Some-Place.field-0-is) in
    rw (c.in-Symbol.is, c.in_ok-placing-in-Some-Place.ensures) (place_from i, place_to i)
