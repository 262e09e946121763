-- The first lines of an input that count are those of its first bytes.
use Rattle.std.proofs.Common.{◌≡◌, ◌∙◌, ℕ, ◌≤◌, ◌<◌, Bool, true, false, cond, nat_le, leb-true, le-leb, List, [], ◌∷◌, ◌++◌, length, take, drop, refl, sym, ap, subst, append_assoc, arith}
use Rattle.std.proofs.lemmas.List.{take-append-drop, take-take}
use Rattle.sn_input.specs.Line.{lines_of}
use Rattle.sn_pieces.specs.Cuts.{before_last, last_line}
use Rattle.sn_pieces.proofs.Cutting.{joined, last_unended, line_goes_on}
use Rattle.sn_feed.specs.Counted.{counted, long_piece, whole_lines}
use Rattle.sn_feed.specs.declared.feed.TheConstants.{MOST_INPUT}

before_last_append : (lines : List (List ℕ)) (first : List ℕ) (others : List (List ℕ)) → before_last (lines ++ first ∷ others) ≡ lines ++ before_last (first ∷ others)
before_last_append [] first others = refl
before_last_append (line ∷ []) first others = refl
before_last_append (line ∷ second ∷ lines) first others = ap (λ ls. line ∷ ls) (before_last_append (second ∷ lines) first others)

pub all_counted : (bytes : List ℕ) → length bytes ≤ MOST_INPUT → counted bytes ≡ lines_of bytes
all_counted bytes few = ap (λ b. cond b (lines_of bytes) (whole_lines (lines_of (take MOST_INPUT bytes)))) (le-leb (length bytes) MOST_INPUT few)

pub cut_counted : (bytes : List ℕ) → MOST_INPUT < length bytes → counted bytes ≡ whole_lines (lines_of (take MOST_INPUT bytes))
cut_counted bytes many = by (nat_le (length bytes) MOST_INPUT) refl
  where
    by : (b : Bool) → nat_le (length bytes) MOST_INPUT ≡ b → cond b (lines_of bytes) (whole_lines (lines_of (take MOST_INPUT bytes))) ≡ whole_lines (lines_of (take MOST_INPUT bytes))
    by true is = let few = leb-true (length bytes) MOST_INPUT is in absurd (omega (arith, few, many))
    by false is = refl

-- what is cut off begins with fewer bytes
pub cut_begins : (from : ℕ) (bytes : List ℕ) → from ≤ MOST_INPUT → take from bytes ++ drop from (take MOST_INPUT bytes) ≡ take MOST_INPUT bytes
cut_begins from bytes within =
    ap (λ front. front ++ drop from (take MOST_INPUT bytes)) (sym (take-take from MOST_INPUT bytes within)) ∙ take-append-drop from (take MOST_INPUT bytes)

-- the lines that ended within the first bytes
module _ (taken more : List ℕ) where
  abbrev Begins : List (List ℕ) → Type 0
  Begins lines = (behind : List (List ℕ)) × (lines ≡ before_last (lines_of taken) ++ behind)

  lines_begin : Begins (lines_of (taken ++ more))
  lines_begin = (lines_of (last_line (lines_of taken) ++ more), joined taken more)

  cut_lines_begin : Begins (whole_lines (lines_of (taken ++ more)))
  cut_lines_begin =
      let goes = line_goes_on (last_line (lines_of taken)) more (last_unended taken) in
      let first = last_line (lines_of taken) ++ goes.rest in
      let lines : lines_of (taken ++ more) ≡ before_last (lines_of taken) ++ first ∷ goes.others = joined taken more ∙ ap (λ ls. before_last (lines_of taken) ++ ls) goes.is in
      let piece = long_piece (last_line (lines_of (taken ++ more))) in (
        before_last (first ∷ goes.others) ++ piece,
        ap (λ ls. ls ++ piece) (ap before_last lines ∙ before_last_append (before_last (lines_of taken)) first goes.others)
            ∙ append_assoc (before_last (lines_of taken)) (before_last (first ∷ goes.others)) piece,
      )

pub first_counted : (bytes : List ℕ) (from : ℕ) → from ≤ MOST_INPUT → (behind : List (List ℕ)) × (counted bytes ≡ before_last (lines_of (take from bytes)) ++ behind)
first_counted bytes from within = by (nat_le (length bytes) MOST_INPUT) refl
  where
    Front : List (List ℕ) → Type 0
    Front lines = (behind : List (List ℕ)) × (lines ≡ before_last (lines_of (take from bytes)) ++ behind)

    by : (b : Bool) → nat_le (length bytes) MOST_INPUT ≡ b → Front (cond b (lines_of bytes) (whole_lines (lines_of (take MOST_INPUT bytes))))
    by true is = subst (λ bs. Front (lines_of bs)) (take-append-drop from bytes) (lines_begin (take from bytes) (drop from bytes))
    by false is = subst (λ bs. Front (whole_lines (lines_of bs))) (cut_begins from bytes within) (cut_lines_begin (take from bytes) (drop from (take MOST_INPUT bytes)))
