-- When templates are closed.
use Rattle.std.proofs.Common.{◌≢◌, ℕ, ◌<◌, ◌+◌, IsTrue, List, length, get_or, take, sym, subst, arith}
use Rattle.std.specs.List.{All, AllPairs}
use Rattle.std.proofs.lemmas.List.{take_more, get_or-take, length-take, get_or_default}
use Rattle.std.proofs.lemmas.List.Elements.{All-more}
use Rattle.std.proofs.lemmas.List.Quantifiers.{all_pairs_push}
use Rattle.sn_record.specs.LabelSet.{Labels}
use Rattle.sn_net.specs.declared.filter.Part.{Part}
use Rattle.sn_net.specs.declared.filter.Template.{Template}
use Rattle.sn_net.specs.Filter.{target, is_from, IsClosedTemplate}

-- the template of some parts
abbrev pub with_parts : List Part → Template
with_parts parts = record { parts = parts }

-- in a closed template the parts before one set other labels
pub earlier_apart : (pattern : Labels) (parts : List Part) (i : ℕ) (d : Part) → IsClosedTemplate pattern (with_parts parts) → i < length parts
    → All (λ earlier. target earlier ≢ target (get_or parts i d)) (take i parts)
earlier_apart pattern parts i d closed here k e within =
    let below : k < i = omega (arith, length-take i parts) in
    rw (get_or-take i parts k e below, get_or_default parts i d e here) (closed.apart k i e below here)

-- a template that is closed as far as place i, with one part more
pub closed_more : (pattern : Labels) (parts : List Part) (i : ℕ) (d : Part) → IsClosedTemplate pattern (with_parts (take i parts)) → i < length parts
    → IsTrue (is_from pattern (get_or parts i d)) → All (λ earlier. target earlier ≢ target (get_or parts i d)) (take i parts) → IsClosedTemplate pattern (with_parts (take (i + 1) parts))
closed_more pattern parts i d closed here named apart = record {
  named = All-more (λ part. IsTrue (is_from pattern part)) parts i d here closed.named named;
  apart = subst (λ ps. AllPairs (λ part other. target part ≢ target other) ps) (sym (take_more parts i d here)) (all_pairs_push (λ part other. target part ≢ target other) (take i parts) (get_or parts i d) closed.apart apart);
}
