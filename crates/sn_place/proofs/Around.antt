-- Where a line begins and ends.
use Rattle.std.proofs.Common.{◌≡◌, ◌≤◌, ◌<◌, ◌+◌, ◌-◌, ℕ, List, ◌++◌, Bool, true, false, not, length, take, drop, get_or, get_or-take, get_or-drop, refl, sym, ap, ◌∙◌, subst, arith, length-take-le, length-drop}
use Rattle.std.proofs.lemmas.List.{drop-take, take-append-drop, take-take, drop-drop}
use Rattle.std.specs.List.{suffix_len, position_or_len, slice_range}
use Rattle.std.proofs.lemmas.List.Sums.{suffix_len_is, position_or_len_is}
use Rattle.sn_place.specs.Place.{is_line_feed, front_of, behind}

abbrev is_other : ℕ → Bool
is_other byte = not (is_line_feed byte)

-- from a place behind a line feed, or from the start, on to the place stands no line feed: that is the front
pub front_is : (text : List ℕ) (start at : ℕ) → start ≤ at → at ≤ length text
    → ((k : ℕ) → start ≤ k → k < at → is_line_feed (get_or text k 0) ≡ false)
    → (0 < start → is_line_feed (get_or text (start - 1) 0) ≡ true)
    → slice_range text start at ≡ front_of text at
front_is text start at before within others first =
    let size : length (take at text) ≡ at = length-take-le at text within in
    let inner : (k : ℕ) → start ≤ k → k < length (take at text) → is_other (get_or (take at text) k 0) ≡ true =
    λ k from below. let short : k < at = omega arith in rw (get_or-take at text k 0 short) (ap not (others k from short)) in
    let edge : 0 < start → is_other (get_or (take at text) (start - 1) 0) ≡ false =
    λ some. let short : start - 1 < at = omega arith in rw (get_or-take at text (start - 1) 0 short) (ap not (first some)) in
    let here : suffix_len is_other (take at text) ≡ length (take at text) - start =
    suffix_len_is is_other (take at text) start 0 (omega arith) inner edge in
    let place : length (take at text) - suffix_len is_other (take at text) ≡ start = omega arith in
    let whole : start + (at - start) ≡ at = omega arith in
    let parts : drop start (take (start + (at - start)) text) ≡ take (at - start) (drop start text) = drop-take start (at - start) text in
    rw place (sym (subst (λ n. drop start (take n text) ≡ take (at - start) (drop start text)) whole parts))

-- from the place on to a line feed, or to the end, stands no line feed: that is what stands behind
pub behind_is : (text : List ℕ) (at end : ℕ) → at ≤ end → end ≤ length text
    → ((k : ℕ) → at ≤ k → k < end → is_line_feed (get_or text k 0) ≡ false)
    → (end < length text → is_line_feed (get_or text end 0) ≡ true)
    → slice_range text at end ≡ behind text at
behind_is text at end after within others last =
    let size : length (drop at text) ≡ length text - at = length-drop at text in
    let inner : (k : ℕ) → k < end - at → is_line_feed (get_or (drop at text) k 0) ≡ false =
    λ k below. rw (get_or-drop at text k 0) (others (at + k) (omega arith) (omega arith)) in
    let edge : end - at < length (drop at text) → is_line_feed (get_or (drop at text) (end - at) 0) ≡ true =
    λ more. let e : at + (end - at) ≡ end = omega arith in rw (get_or-drop at text (end - at) 0) (rw e (last (omega arith))) in
    let here : position_or_len is_line_feed (drop at text) ≡ end - at = position_or_len_is is_line_feed (drop at text) (end - at) 0 (omega arith) inner edge in
    rw here refl

pub feed : (byte : ℕ) → byte ≡ 10 → is_line_feed byte ≡ true
feed byte e = rw e refl

-- a range up to a place and one from there on
pub joined : (text : List ℕ) (start at end : ℕ) → start ≤ at → at ≤ end → slice_range text start end ≡ slice_range text start at ++ slice_range text at end
joined text start at end before after =
    let a = at - start in
    let b = end - at in
    let size : end - start ≡ a + b = omega arith in
    let there : start + a ≡ at = omega arith in
    let front : take a (take (a + b) (drop start text)) ≡ take a (drop start text) = take-take a (a + b) (drop start text) (omega arith) in
    let rest : drop a (take (a + b) (drop start text)) ≡ take b (drop at text) =
    drop-take a b (drop start text) ∙ ap (λ xs. take b xs) (drop-drop a start text ∙ ap (λ n. drop n text) there) in
    rw size (sym (take-append-drop a (take (a + b) (drop start text))) ∙ ap (λ xs. xs ++ drop a (take (a + b) (drop start text))) front
    ∙ ap (λ xs. take a (drop start text) ++ xs) rest)
