-- What stands between quotes and between angle brackets, and how a text's content is read.
use Rattle.std.proofs.Common.{◌≡◌, ◌≢◌, ◌==◌, ℕ, ◌-◌, ◌≤◌, Bool, true, false, List, [], ◌∷◌, ◌++◌, length, length-append, take, drop, append_assoc, append-nil, refl, sym, ap, ◌∙◌, arith}
use Rattle.std.specs.Prelude.{if◌then◌else◌}
use Rattle.std.proofs.lemmas.Bool.{false≢true, eqb-true, eqb-false}
use Rattle.std.proofs.lemmas.List.{append_cancel_right, take_at}
use Rattle.sn_lexer.specs.Spelling.{escaped, is_escapable}
use Rattle.sn_lexer.proofs.Contents.{written}

-- what stands between two bytes
pub between : (word inside : List ℕ) (first last : ℕ) → word ≡ first ∷ (inside ++ last ∷ []) → take (length word - 1 - 1) (drop 1 word) ≡ inside
between word inside first last is =
    let whole = ap length is in
    let long = length-append inside (last ∷ []) in
    let size : length inside ≡ length word - 1 - 1 = omega arith in
    ap (λ w. take (length word - 1 - 1) (drop 1 w)) is ∙ take_at inside (last ∷ []) (length word - 1 - 1) size

pub between_long : (word inside : List ℕ) (first last : ℕ) → word ≡ first ∷ (inside ++ last ∷ []) → 2 ≤ length word
between_long word inside first last is = let whole = ap length is in let long = length-append inside (last ∷ []) in omega arith

pub same_inside : (xs ys : List ℕ) (first last : ℕ) → first ∷ (xs ++ last ∷ []) ≡ first ∷ (ys ++ last ∷ []) → xs ≡ ys
same_inside xs ys first last same = append_cancel_right xs ys (last ∷ []) (ap (drop 1) same)

-- what is left to be read: behind a backslash the next character stands as it is
abbrev pub IsLeft : Bool → List ℕ → List ℕ → Type 0
IsLeft false left rest = rest ≡ written left
IsLeft true [] rest = ⊥
IsLeft true (c ∷ left) rest = rest ≡ c ∷ written left

-- the content was read up to the rest
pub record IsReadUpTo (content so_far : List ℕ) (is_escaped : Bool) (rest : List ℕ) : Type 0 where
  pub left : List ℕ
  pub whole : content ≡ so_far ++ left
  pub is_left : IsLeft is_escaped left rest

pub nothing_read : (content rest : List ℕ) → rest ≡ written content → IsReadUpTo content [] false rest
nothing_read content rest is = record { left = content; whole = refl; is_left = is }

-- the next byte is a backslash that escapes, or the next character
abbrev NextByte : ℕ → List ℕ → ℕ → List ℕ → Type 0
NextByte c content b rest = (b ≡ 92 → (rest ≡ c ∷ written content)) × (b ≢ 92 → (b ≡ c) × (rest ≡ written content))

next_byte : (c : ℕ) (content : List ℕ) (b : ℕ) (rest : List ℕ) → b ∷ rest ≡ escaped c ++ written content → NextByte c content b rest
next_byte c content b rest is =
    elim (is_escapable c) as (λ t. is_escapable c ≡ t → (b ∷ rest) ≡ ((if t then 92 ∷ c ∷ [] else c ∷ []) ++ written content) → NextByte c content b rest) [
      | true ↦ λ e same. (λ backslash. cc, λ plain. absurd (plain cc))
      | false ↦ λ e same. (λ backslash. let one : 92 ≡ c = cc in absurd (false≢true (sym e ∙ ap is_escapable (sym one))), λ plain. (cc, cc))
    ] refl is

pub read_backslash : (content so_far : List ℕ) (b : ℕ) (rest : List ℕ) → b ≡ 92 → IsReadUpTo content so_far false (b ∷ rest) → IsReadUpTo content so_far true rest
read_backslash content so_far b rest backslash r = by r.left r.whole r.is_left
  where
    by : (left : List ℕ) → content ≡ so_far ++ left → b ∷ rest ≡ written left → IsReadUpTo content so_far true rest
    by [] whole is = absurd cc
    by (c ∷ left) whole is = record { left = c ∷ left; whole = whole; is_left = (next_byte c left b rest is).0 backslash }

pub read_escaped : (content so_far : List ℕ) (b : ℕ) (rest : List ℕ) → IsReadUpTo content so_far true (b ∷ rest) → IsReadUpTo content (so_far ++ b ∷ []) false rest
read_escaped content so_far b rest r = by r.left r.whole r.is_left
  where
    by : (left : List ℕ) → content ≡ so_far ++ left → IsLeft true left (b ∷ rest) → IsReadUpTo content (so_far ++ b ∷ []) false rest
    by [] whole is = absurd is
    by (c ∷ left) whole is =
        let one : b ≡ c = cc in
        record { left = left; whole = whole ∙ ap (λ x. so_far ++ x ∷ left) (sym one) ∙ sym (append_assoc so_far (b ∷ []) left); is_left = cc }

pub read_plain : (content so_far : List ℕ) (b : ℕ) (rest : List ℕ) → b ≢ 92 → IsReadUpTo content so_far false (b ∷ rest) → IsReadUpTo content (so_far ++ b ∷ []) false rest
read_plain content so_far b rest plain r = by r.left r.whole r.is_left
  where
    by : (left : List ℕ) → content ≡ so_far ++ left → b ∷ rest ≡ written left → IsReadUpTo content (so_far ++ b ∷ []) false rest
    by [] whole is = absurd cc
    by (c ∷ left) whole is =
        let one = (next_byte c left b rest is).1 plain in
        record { left = left; whole = whole ∙ ap (λ x. so_far ++ x ∷ left) (sym one.0) ∙ sym (append_assoc so_far (b ∷ []) left); is_left = one.1 }

-- the same for the values that the loop has then
pub step_backslash : (content so_far more : List ℕ) (is_escaped then_escaped : Bool) (b : ℕ) (rest : List ℕ) → is_escaped ≡ false → b ≡ 92 →
    more ≡ so_far → then_escaped ≡ true → IsReadUpTo content so_far is_escaped (b ∷ rest) → IsReadUpTo content more then_escaped rest
step_backslash content so_far more is_escaped then_escaped b rest plain backslash same escapes r =
    rw (same, escapes) (read_backslash content so_far b rest backslash (rw plain at r))

pub step_escaped : (content so_far more : List ℕ) (is_escaped then_escaped : Bool) (b : ℕ) (rest : List ℕ) → is_escaped ≡ true →
    more ≡ so_far ++ b ∷ [] → then_escaped ≡ false → IsReadUpTo content so_far is_escaped (b ∷ rest) → IsReadUpTo content more then_escaped rest
step_escaped content so_far more is_escaped then_escaped b rest escaped longer ends r =
    rw (longer, ends) (read_escaped content so_far b rest (rw escaped at r))

pub step_other : (content so_far more : List ℕ) (is_escaped then_escaped : Bool) (b : ℕ) (rest : List ℕ) → b ≢ 92 →
    more ≡ so_far ++ b ∷ [] → then_escaped ≡ false → IsReadUpTo content so_far is_escaped (b ∷ rest) → IsReadUpTo content more then_escaped rest
step_other content so_far more true then_escaped b rest other longer ends r = rw (longer, ends) (read_escaped content so_far b rest r)
step_other content so_far more false then_escaped b rest other longer ends r = rw (longer, ends) (read_plain content so_far b rest other r)

written_none : (left : List ℕ) → [] ≡ written left → left ≡ []
written_none [] is = refl
written_none (c ∷ left) is =
    elim (is_escapable c) as (λ t. is_escapable c ≡ t → [] ≡ ((if t then 92 ∷ c ∷ [] else c ∷ []) ++ written left) → (c ∷ left) ≡ []) [
      | true ↦ λ e same. absurd cc
      | false ↦ λ e same. absurd cc
    ] refl is

pub read_whole : (content so_far : List ℕ) (is_escaped : Bool) → IsReadUpTo content so_far is_escaped [] → content ≡ so_far
read_whole content so_far is_escaped r = by is_escaped r.left r.whole r.is_left
  where
    by : (e : Bool) (left : List ℕ) → content ≡ so_far ++ left → IsLeft e left [] → content ≡ so_far
    by false left whole is = whole ∙ ap (λ xs. so_far ++ xs) (written_none left is) ∙ append-nil so_far
    by true [] whole is = absurd is
    by true (c ∷ left) whole is = absurd cc

-- a content is written in one way
first_once : (c d : ℕ) (content other all : List ℕ) → all ≡ escaped c ++ written content → all ≡ escaped d ++ written other → (c ≡ d) × (written content ≡ written other)
first_once c d content other [] p q = let e = written_none (c ∷ content) p in absurd cc
first_once c d content other (b ∷ rest) p q =
    let u = next_byte c content b rest p in
    let v = next_byte d other b rest q in
    elim (b == 92) as (λ t. (b == 92) ≡ t → (c ≡ d) × (written content ≡ written other)) [
      | true ↦ λ t. let both = sym (u.0 (eqb-true b 92 t)) ∙ v.0 (eqb-true b 92 t) in (cc, ap (drop 1) both)
      | false ↦ λ t. let x = u.1 (eqb-false b 92 t) in let y = v.1 (eqb-false b 92 t) in (sym x.0 ∙ y.0, sym x.1 ∙ y.1)
    ] refl

pub written_once : (content other : List ℕ) → written content ≡ written other → content ≡ other
written_once [] other same = sym (written_none other same)
written_once (c ∷ content) [] same = written_none (c ∷ content) (sym same)
written_once (c ∷ content) (d ∷ other) same =
    let parts = first_once c d content other _ refl same in λ i. parts.0 i ∷ written_once content other parts.1 i
