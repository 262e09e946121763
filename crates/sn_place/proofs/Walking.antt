-- What one more byte does to a line and a column.
use Rattle.std.proofs.Common.{◌≡◌, ◌≤◌, ◌<◌, ◌+◌, ◌-◌, ℕ, List, [], ◌∷◌, ◌++◌, Bool, true, false, cond, not, length, take, drop, get_or, refl, ap, ◌∙◌, subst, suc, arith, length-append, length-drop}
use Rattle.std.proofs.Math.Seq.{take-suc}
use Rattle.std.specs.List.{count_by, suffix_len}
use Rattle.std.proofs.lemmas.List.{drop-append-le, drop_all, length-take}
use Rattle.std.proofs.lemmas.List.Sums.{count_by_more_yes, count_by_more_no, sum_by_push, suffix_len-take_yes, suffix_len-take_no, suffix_len-le-length, count_by-le-length}
use Rattle.sn_place.specs.Place.{is_line_feed, begins_character, front_of, line_at, column_at}

pub line_after_feed : (text : List ℕ) (i : ℕ) → i < length text → is_line_feed (get_or text i 0) ≡ true → line_at text (i + 1) ≡ line_at text i + 1
line_after_feed text i within is = rw (count_by_more_yes is_line_feed text i 0 within is) (omega arith)

pub line_goes_on : (text : List ℕ) (i : ℕ) → i < length text → is_line_feed (get_or text i 0) ≡ false → line_at text (i + 1) ≡ line_at text i
line_goes_on text i within is = rw (count_by_more_no is_line_feed text i 0 within is) refl

abbrev is_other : ℕ → Bool
is_other byte = not (is_line_feed byte)

dropped : (xs : List ℕ) (x s : ℕ) → s ≤ length xs → drop (length (xs ++ x ∷ []) - (1 + s)) (xs ++ x ∷ []) ≡ drop (length xs - s) xs ++ x ∷ []
dropped xs x s within =
    let e : length (xs ++ x ∷ []) - (1 + s) ≡ length xs - s = simp length-append (omega arith) in
    rw e (drop-append-le (length xs - s) xs (x ∷ []) (omega arith))

-- one byte more is taken
taken : (text : List ℕ) (i : ℕ) → i < length text → take (i + 1) text ≡ take i text ++ get_or text i 0 ∷ []
taken text i within = let e : i + 1 ≡ suc i = omega arith in rw e (take-suc text i 0 within)

not-true : (b : Bool) → b ≡ true → not b ≡ false
not-true b is = ap not is

not-false : (b : Bool) → b ≡ false → not b ≡ true
not-false b is = ap not is

pub front_fresh : (text : List ℕ) (i : ℕ) → i < length text → is_line_feed (get_or text i 0) ≡ true → front_of text (i + 1) ≡ []
front_fresh text i within is =
    let e : i + 1 - 1 ≡ i = omega arith in
    let no : is_other (get_or text (i + 1 - 1) 0) ≡ false = rw e (not-true (is_line_feed (get_or text i 0)) is) in
    let none : suffix_len is_other (take (i + 1) text) ≡ 0 = suffix_len-take_no is_other text (i + 1) 0 (omega arith) (omega arith) no in
    rw none (drop_all (length (take (i + 1) text) - 0) (take (i + 1) text) (omega arith))

pub front_more : (text : List ℕ) (i : ℕ) → i < length text → is_line_feed (get_or text i 0) ≡ false → front_of text (i + 1) ≡ front_of text i ++ get_or text i 0 ∷ []
front_more text i within is =
    let e : i + 1 - 1 ≡ i = omega arith in
    let yes : is_other (get_or text (i + 1 - 1) 0) ≡ true = rw e (not-false (is_line_feed (get_or text i 0)) is) in
    let longer : suffix_len is_other (take (i + 1) text) ≡ 1 + suffix_len is_other (take (i + 1 - 1) text) =
    suffix_len-take_yes is_other text (i + 1) 0 (omega arith) (omega arith) yes in
    let more : suffix_len is_other (take (i + 1) text) ≡ 1 + suffix_len is_other (take i text) =
    subst (λ k. suffix_len is_other (take (i + 1) text) ≡ 1 + suffix_len is_other (take k text)) e longer in
    rw more (rw (taken text i within) (dropped (take i text) (get_or text i 0) (suffix_len is_other (take i text)) (suffix_len-le-length is_other (take i text))))

pub column_fresh : (text : List ℕ) (i : ℕ) → i < length text → is_line_feed (get_or text i 0) ≡ true → column_at text (i + 1) ≡ 1
column_fresh text i within is = ap (λ front. 1 + count_by begins_character front) (front_fresh text i within is)

counted : (text : List ℕ) (i : ℕ) → i < length text → is_line_feed (get_or text i 0) ≡ false →
    column_at text (i + 1) ≡ column_at text i + cond (begins_character (get_or text i 0)) 1 0
counted text i within is =
    ap (λ front. 1 + count_by begins_character front) (front_more text i within is)
    ∙ ap (λ n. 1 + n) (sum_by_push (λ byte. cond (begins_character byte) 1 0) (front_of text i) (get_or text i 0)) ∙ omega arith

pub column_more : (text : List ℕ) (i : ℕ) → i < length text → is_line_feed (get_or text i 0) ≡ false → begins_character (get_or text i 0) ≡ true →
    column_at text (i + 1) ≡ column_at text i + 1
column_more text i within is begins = counted text i within is ∙ ap (λ b. column_at text i + cond b 1 0) begins

pub column_same : (text : List ℕ) (i : ℕ) → i < length text → is_line_feed (get_or text i 0) ≡ false → begins_character (get_or text i 0) ≡ false →
    column_at text (i + 1) ≡ column_at text i
column_same text i within is goes_on = counted text i within is ∙ ap (λ b. column_at text i + cond b 1 0) goes_on ∙ omega arith

pub line-below : (text : List ℕ) (at : ℕ) → line_at text at ≤ 1 + length text
line-below text at = let h = count_by-le-length is_line_feed (take at text) in omega (arith, h, length-take at text)

pub column-below : (text : List ℕ) (at : ℕ) → column_at text at ≤ 1 + length text
column-below text at =
    let h = count_by-le-length begins_character (front_of text at) in
    omega (arith, h, length-drop (length (take at text) - suffix_len is_other (take at text)) (take at text), length-take at text)
