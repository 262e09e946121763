-- Lines of bytes that are put together.
use Rattle.std.proofs.Common.{◌≡◌, ◌∙◌, ℕ, ◌+◌, ◌<◌, ◌||◌, ◌==◌, Bool, true, false, cond, List, [], ◌∷◌, ◌++◌, length, take, drop, get_or, refl, sym, ap, subst, subst₂}
use Rattle.std.specs.List.{onto_first}
use Rattle.std.proofs.lemmas.Bool.{eqb-true}
use Rattle.std.proofs.lemmas.List.{drop_more, take-append-drop}
use Rattle.std.proofs.lemmas.List.Folds.{list_any-append}
use Rattle.std.proofs.lemmas.List.Splits.{slice_split-cons_no}
use Rattle.sn_input.specs.Line.{lines_of}
use Rattle.sn_pieces.specs.Cuts.{IsLineEnd, before_last, has_line_feed, last_line}

neither : (a b : Bool) → (a || b) ≡ false → (a ≡ false) × (b ≡ false)
neither true b none = cc
neither false b none = (refl, none)

pub none_in_both : (xs ys : List ℕ) → has_line_feed xs ≡ false → has_line_feed ys ≡ false → has_line_feed (xs ++ ys) ≡ false
none_in_both xs ys first second = list_any-append (λ byte. byte == 10) xs ys ∙ ap (λ b. b || has_line_feed ys) first ∙ second

-- a line feed ends the line before it
pub line_ends : (line more : List ℕ) → has_line_feed line ≡ false → lines_of (line ++ 10 ∷ more) ≡ line ∷ lines_of more
line_ends [] more none = refl
line_ends (c ∷ cs) more none =
    let parts = neither (c == 10) (has_line_feed cs) none in
    slice_split-cons_no (λ byte. byte == 10) c (cs ++ 10 ∷ more) parts.0 ∙ ap (onto_first c) (line_ends cs more parts.1)

-- and where none comes, the line is the last
pub line_stays : (line : List ℕ) → has_line_feed line ≡ false → lines_of line ≡ line ∷ []
line_stays [] none = refl
line_stays (c ∷ cs) none =
    let parts = neither (c == 10) (has_line_feed cs) none in
    slice_split-cons_no (λ byte. byte == 10) c cs parts.0 ∙ ap (onto_first c) (line_stays cs parts.1)

-- the first line of some bytes, and those behind it
record FirstLine (bytes : List ℕ) : Type 0 where
  first : List ℕ
  others : List (List ℕ)
  is : lines_of bytes ≡ first ∷ others

onto : (c : ℕ) (bytes : List ℕ) (b : Bool) → (c == 10) ≡ b → FirstLine bytes → FirstLine (c ∷ bytes)
onto c bytes true feed before = record { first = []; others = lines_of bytes; is = ap (λ (b : Bool). cond b ([] ∷ lines_of bytes) (onto_first c (lines_of bytes))) feed }
onto c bytes false none before = record { first = c ∷ before.first; others = before.others; is = slice_split-cons_no (λ byte. byte == 10) c bytes none ∙ ap (onto_first c) before.is }

first_line : (bytes : List ℕ) → FirstLine bytes
first_line [] = record { first = []; others = []; is = refl }
first_line (c ∷ cs) = onto c cs (c == 10) refl (first_line cs)

-- a line without a line feed goes on behind it
pub record GoesOn (line more : List ℕ) : Type 0 where
  pub rest : List ℕ
  pub others : List (List ℕ)
  pub is : lines_of (line ++ more) ≡ (line ++ rest) ∷ others

pub line_goes_on : (line more : List ℕ) → has_line_feed line ≡ false → GoesOn line more
line_goes_on [] more none = let first = first_line more in record { rest = first.first; others = first.others; is = first.is }
line_goes_on (c ∷ cs) more none =
    let parts = neither (c == 10) (has_line_feed cs) none in
    let before = line_goes_on cs more parts.1 in
    record { rest = before.rest; others = before.others; is = slice_split-cons_no (λ byte. byte == 10) c (cs ++ more) parts.0 ∙ ap (onto_first c) before.is }

-- the first line feed is found
pub found : (bytes : List ℕ) (i byte : ℕ) → i < length bytes → byte ≡ get_or bytes i byte → has_line_feed (take i bytes) ≡ false → (byte == 10) ≡ true → IsLineEnd bytes i
found bytes i byte here at none feed =
    let is : byte ≡ 10 = eqb-true byte 10 feed in
    record {
      within = here;
      before = none;
      whole = ap (λ x. take i bytes ++ x ∷ drop (i + 1) bytes) (sym is ∙ at) ∙ ap (λ rest. take i bytes ++ rest) (sym (drop_more bytes i byte here)) ∙ take-append-drop i bytes;
    }

-- the lines of bytes that follow each other: the last of the first ones goes on
pub joined : (bytes more : List ℕ) → lines_of (bytes ++ more) ≡ before_last (lines_of bytes) ++ lines_of (last_line (lines_of bytes) ++ more)
joined [] more = refl
joined (c ∷ cs) more = at (c == 10) refl (first_line cs) (joined cs more)
  where
    Both : List (List ℕ) → List (List ℕ) → Type 0
    Both lines whole = whole ≡ before_last lines ++ lines_of (last_line lines ++ more)

    onto_lines : (first : List ℕ) (others : List (List ℕ)) → (c == 10) ≡ false → Both (first ∷ others) (lines_of (cs ++ more)) → Both ((c ∷ first) ∷ others) (onto_first c (lines_of (cs ++ more)))
    onto_lines first [] none so = ap (onto_first c) so ∙ sym (slice_split-cons_no (λ byte. byte == 10) c (first ++ more) none)
    onto_lines first (second ∷ others) none so = ap (onto_first c) so

    at : (b : Bool) → (c == 10) ≡ b → FirstLine cs → Both (lines_of cs) (lines_of (cs ++ more)) → Both (lines_of (c ∷ cs)) (lines_of ((c ∷ cs) ++ more))
    at true feed first so =
        let here : (xs : List ℕ) → lines_of (c ∷ xs) ≡ [] ∷ lines_of xs = λ xs. ap (λ (b : Bool). cond b ([] ∷ lines_of xs) (onto_first c (lines_of xs))) feed in
        subst₂ Both (ap (λ lines. [] ∷ lines) (sym first.is) ∙ sym (here cs)) (sym (here (cs ++ more)))
        (ap (λ lines. [] ∷ lines) (subst (λ lines. Both lines (lines_of (cs ++ more))) first.is so))
    at false none first so =
        let here : (xs : List ℕ) → lines_of (c ∷ xs) ≡ onto_first c (lines_of xs) = λ xs. slice_split-cons_no (λ byte. byte == 10) c xs none in
        subst₂ Both (ap (onto_first c) (sym first.is) ∙ sym (here cs)) (sym (here (cs ++ more)))
        (onto_lines first.first first.others none (subst (λ lines. Both lines (lines_of (cs ++ more))) first.is so))

-- the last line has no line feed
pub last_unended : (bytes : List ℕ) → has_line_feed (last_line (lines_of bytes)) ≡ false
last_unended [] = refl
last_unended (c ∷ cs) = at (c == 10) refl (first_line cs) (last_unended cs)
  where
    Is : List (List ℕ) → Type 0
    Is lines = has_line_feed (last_line lines) ≡ false

    onto_lines : (first : List ℕ) (others : List (List ℕ)) → (c == 10) ≡ false → Is (first ∷ others) → Is ((c ∷ first) ∷ others)
    onto_lines first [] none so = ap (λ b. b || has_line_feed first) none ∙ so
    onto_lines first (second ∷ others) none so = so

    at : (b : Bool) → (c == 10) ≡ b → FirstLine cs → Is (lines_of cs) → Is (lines_of (c ∷ cs))
    at true feed first so =
        subst Is (ap (λ lines. [] ∷ lines) (sym first.is) ∙ sym (ap (λ (b : Bool). cond b ([] ∷ lines_of cs) (onto_first c (lines_of cs))) feed)) (subst Is first.is so)
    at false none first so =
        subst Is (ap (onto_first c) (sym first.is) ∙ sym (slice_split-cons_no (λ byte. byte == 10) c cs none)) (onto_lines first.first first.others none (subst Is first.is so))
