-- What kind of word it is, as `clap` sees it.
use Rattle.std.proofs.Common.{◌≡◌, ◌∙◌, ◌+◌, ◌==◌, ◌&&◌, ◌||◌, ℕ, suc, Bool, true, false, not, cond, take, refl, sym, ap, subst, arith, List, [], ◌∷◌, length, true≢false, eqb-true}
use Rattle.std.specs.Prelude.{Option, Some, None, option_and_then, slice_get}
use Rattle.std.specs.List.{list_any, before_first, after_first, prefix_len}
use Rattle.std.specs.Str.{bytes_eq, chars, IsUtf8}
use Rattle.std.proofs.lemmas.Str.{IsUtf8-drop, IsCharBoundary-after_ascii, encodes-chars}
use Rattle.clap.specs.Lexer.{long_of, long_of_rest, short_of, short_of_rest, strip_byte}
use Rattle.sn_words.specs.Words.{Text, Kind, end_of_options, full, named, wrong, plain, is_equals, kind_behind, kind_of}

-- what `clap` finds: whether the word is `--`, what it is as a long option, and what as short ones
abbrev pub IsKind : Kind → Bool → Option (Text × Option Text) → Option Text → Type 0
IsKind end_of_options dashes long short = dashes ≡ true
IsKind (full name value) dashes long short = (dashes ≡ false) × (long ≡ Some (name, Some value))
IsKind (named name) dashes long short = (dashes ≡ false) × (long ≡ Some (name, None))
IsKind wrong dashes long short = (dashes ≡ false) × (long ≡ None) × ((flag : ℕ) × ((rest : Text) × (short ≡ Some (flag ∷ rest))))
IsKind plain dashes long short = (dashes ≡ false) × (long ≡ None) × (short ≡ None)

-- with no `=` the whole stands before it
none_before : (xs : Text) → list_any is_equals xs ≡ false → before_first is_equals xs ≡ xs
none_before [] e = refl
none_before (x ∷ xs) e = go (is_equals x) e (λ rest. none_before xs rest)
  where
    go : (v : Bool) → (v || list_any is_equals xs) ≡ false → (list_any is_equals xs ≡ false → before_first is_equals xs ≡ xs)
        → take (cond (not v) (1 + prefix_len (λ y. not (is_equals y)) xs) 0) (x ∷ xs) ≡ x ∷ xs
    go true e rec = absurd (true≢false e)
    go false e rec =
        let more : 1 + prefix_len (λ y. not (is_equals y)) xs ≡ suc (prefix_len (λ y. not (is_equals y)) xs) = omega arith in
        ap (λ k. take k (x ∷ xs)) more ∙ ap (λ t. x ∷ t) (rec e)

behind : (rest : Text) → IsKind (kind_behind rest) (true && (true && bytes_eq rest [])) (long_of_rest rest) None
behind [] = refl
behind (first ∷ rest) = go (list_any is_equals (first ∷ rest)) refl
  where
    go : (b : Bool) → list_any is_equals (first ∷ rest) ≡ b
        → IsKind (cond b (full (before_first is_equals (first ∷ rest)) (after_first is_equals (first ∷ rest))) (named (first ∷ rest)))
        (true && (true && bytes_eq (first ∷ rest) []))
        (Some (before_first is_equals (first ∷ rest), cond b (Some (after_first is_equals (first ∷ rest))) None)) None
    go true e = (refl, refl)
    go false e = (refl, ap (λ name. Some (name, None)) (none_before (first ∷ rest) e))

one_letter : (a : ℕ) → IsKind plain (bytes_eq (a ∷ []) (45 ∷ 45 ∷ [])) (long_of (a ∷ [])) (short_of (a ∷ []))
one_letter a = go (a == 45)
  where
    go : (v : Bool) → (◌≡◌ {A = Bool} (v && false) false)
        × (option_and_then long_of_rest (option_and_then (strip_byte 45) (cond v (Some []) None)) ≡ None)
        × (option_and_then short_of_rest (cond v (Some []) None) ≡ None)
    go true = (refl, refl, refl)
    go false = (refl, refl, refl)

second_letter : (b : ℕ) (rest : Text) (v : Bool)
    → IsKind (cond v (kind_behind rest) wrong) (true && (v && bytes_eq rest [])) (option_and_then long_of_rest (cond v (Some rest) None)) (cond v None (Some (b ∷ rest)))
second_letter b rest true = behind rest
second_letter b rest false = (refl, refl, (b, (rest, refl)))

first_letter : (b : ℕ) (rest : Text) (v : Bool)
    → IsKind (cond v (cond (b == 45) (kind_behind rest) wrong) plain) (v && (b == 45 && bytes_eq rest []))
    (option_and_then long_of_rest (option_and_then (strip_byte 45) (cond v (Some (b ∷ rest)) None))) (option_and_then short_of_rest (cond v (Some (b ∷ rest)) None))
first_letter b rest true = second_letter b rest (b == 45)
first_letter b rest false = (refl, refl, refl)

pub is_kind : (word : Text) → IsKind (kind_of word) (bytes_eq word (45 ∷ 45 ∷ [])) (long_of word) (short_of word)
is_kind [] = (refl, refl, refl)
is_kind (a ∷ []) = one_letter a
is_kind (a ∷ b ∷ rest) = first_letter b rest (a == 45)

-- ---- the first of the short options

first_char : (flag : ℕ) (rest : Text) → IsUtf8 (flag ∷ rest) → (x : ℕ) × (slice_get (chars (flag ∷ rest)) 0 ≡ Some x)
first_char flag rest u = go (chars (flag ∷ rest)) (encodes-chars (flag ∷ rest) u)
  where
    go : (cs : List ℕ) → Rattle.std.specs.Str.encode_utf8_all cs ≡ flag ∷ rest → (x : ℕ) × (slice_get cs 0 ≡ Some x)
    go [] e = let none : 0 ≡ length (flag ∷ rest) = ap length e in absurd (omega arith)
    go (x ∷ cs) e = (x, refl)

some_text : (a b : Text) → Some a ≡ Some b → a ≡ b
some_text a b e = ap (λ o. Rattle.std.specs.Option.unwrap_or o a) e

flags_from : (word flags : Text) → IsUtf8 word → short_of word ≡ Some flags → IsUtf8 flags
flags_from [] flags u e = absurd (true≢false (ap (λ o. Rattle.std.specs.Prelude.is_some o) (sym e)))
flags_from (a ∷ word) flags u e = go (a == 45) refl e
  where
    go : (v : Bool) → (a == 45) ≡ v → option_and_then short_of_rest (cond v (Some word) None) ≡ Some flags → IsUtf8 flags
    go false is e = absurd (true≢false (ap (λ o. Rattle.std.specs.Prelude.is_some o) (sym e)))
    go true is e =
        let dash : a ≡ 45 = eqb-true a 45 is in
        let there : IsUtf8 word = IsUtf8-drop (a ∷ word) (0 + 1) u (IsCharBoundary-after_ascii (a ∷ word) 0 u (omega arith) (omega arith)) in
        subst IsUtf8 (behind_dash word e) there
      where
        behind_dash : (w : Text) → short_of_rest w ≡ Some flags → w ≡ flags
        behind_dash [] e = absurd (true≢false (ap (λ o. Rattle.std.specs.Prelude.is_some o) (sym e)))
        behind_dash (x ∷ xs) e = by (x == 45) e
          where
            by : (v : Bool) → cond v None (Some (x ∷ xs)) ≡ Some flags → x ∷ xs ≡ flags
            by true e = absurd (true≢false (ap (λ o. Rattle.std.specs.Prelude.is_some o) (sym e)))
            by false e = some_text (x ∷ xs) flags e

pub first_flag : (word : Text) (flag : ℕ) (rest : Text) → IsUtf8 word → short_of word ≡ Some (flag ∷ rest) → (x : ℕ) × (slice_get (chars (flag ∷ rest)) 0 ≡ Some x)
first_flag word flag rest u e = first_char flag rest (flags_from word (flag ∷ rest) u e)
