-- The names of tags: an identifier, behind `#` in a binding tag.
use Rattle.std.proofs.Common.{◌≡◌, ℕ, ◌≤◌, ◌+◌, ◌==◌, Bool, true, false, List, [], ◌∷◌, ◌++◌, length, suc, refl, sym, ap, ◌∙◌, inl, inr, arith}
use Rattle.std.specs.Prelude.{if◌then◌else◌}
use Rattle.std.proofs.lemmas.Bool.{false≢true, and_parts, eq-eqb, ne_eqb}
use Rattle.sn_lexer.specs.Spelling.{behind_mark, is_tag_name, is_name, is_identifier}
use Rattle.sn_lexer.specs.Fronts.{BeginsNot, SkipsMark}
use Rattle.sn_lexer.proofs.Heads.{starts_above}

-- the name without the mark
abbrev pub plain_of : List ℕ → List ℕ
plain_of [] = []
plain_of (c ∷ cs) = if c == 35 then cs else c ∷ cs

pub plain_passes : (test : List ℕ → Bool) (name : List ℕ) → behind_mark test name ≡ true → test (plain_of name) ≡ true
plain_passes test [] named = absurd (false≢true named)
plain_passes test (c ∷ cs) named =
    elim (c == 35) as (λ b. (if b then test cs else test (c ∷ cs)) ≡ true → test (if b then cs else c ∷ cs) ≡ true) [
      | true ↦ λ h. h
      | false ↦ λ h. h
    ] named

pub plain_name : (name : List ℕ) → is_tag_name name ≡ true → is_name (plain_of name) ≡ true
plain_name name named = (and_parts (is_name (plain_of name)) _ (plain_passes is_identifier name named)).0

pub unmarked : (test : List ℕ → Bool) (c : ℕ) (cs : List ℕ) → (c == 35) ≡ false → behind_mark test (c ∷ cs) ≡ test (c ∷ cs)
unmarked test c cs other = ap (λ b. if b then test cs else test (c ∷ cs)) other

-- no name begins with the mark
name_unmarked : (c : ℕ) (cs : List ℕ) → is_name (c ∷ cs) ≡ true → (c == 35) ≡ false
name_unmarked c cs named =
    let above = starts_above c (and_parts _ _ named).0 in
    ne_eqb c 35 (λ e. omega arith)

pub name_behind : (test : List ℕ → Bool) (name : List ℕ) → is_name name ≡ true → test name ≡ true → behind_mark test name ≡ true
name_behind test [] named passes = absurd (false≢true named)
name_behind test (c ∷ cs) named passes = unmarked test c cs (name_unmarked c cs named) ∙ passes

pub identifier_tag : (name : List ℕ) → is_identifier name ≡ true → is_tag_name name ≡ true
identifier_tag name identifier = name_behind is_identifier name (and_parts (is_name name) _ identifier).0 identifier

-- two names of tags in front of one text have the mark both or neither
pub record AreMarkedAlike (name rest other more : List ℕ) : Type 0 where
  pub fronts : plain_of name ++ rest ≡ plain_of other ++ more
  pub lengths : length name + length (plain_of other) ≡ length other + length (plain_of name)

pub marks_alike : (test other_test : List ℕ → Bool) (name rest other more : List ℕ) → behind_mark test name ≡ true → behind_mark other_test other ≡ true → name ++ rest ≡ other ++ more → AreMarkedAlike name rest other more
marks_alike test other_test [] rest other more named named' same = absurd (false≢true named)
marks_alike test other_test (c ∷ name) rest [] more named named' same = absurd (false≢true named')
marks_alike test other_test (c ∷ name) rest (d ∷ other) more named named' same =
    let head : c ≡ d = cc in
    let tail : name ++ rest ≡ other ++ more = cc in
    let both = alike (c == 35) (d == 35) (ap (λ x. x == 35) head) c d name rest other more head tail in
    record { fronts = both.0; lengths = both.1 }
  where
    alike : (b e : Bool) → b ≡ e → (c d : ℕ) (name rest other more : List ℕ) → c ≡ d → name ++ rest ≡ other ++ more → ((if b then name else c ∷ name) ++ rest ≡ (if e then other else d ∷ other) ++ more) × (suc (length name) + length (if e then other else d ∷ other) ≡ suc (length other) + length (if b then name else c ∷ name))
    alike true true one c d name rest other more head tail = (tail, omega arith)
    alike false false one c d name rest other more head tail = ((λ i. head i ∷ tail i), omega arith)
    alike true false one c d name rest other more head tail = absurd (false≢true (sym one))
    alike false true one c d name rest other more head tail = absurd (false≢true one)

-- behind the mark stands the rest of the name
pub skips_mark : (test : List ℕ → Bool) (cs rest name more : List ℕ) → SkipsMark cs rest → behind_mark test name ≡ true → cs ≡ name ++ more → rest ≡ plain_of name ++ more
skips_mark test cs rest [] more skips named same = absurd (false≢true named)
skips_mark test cs rest (c ∷ name) more (inl marked) named same =
    let head : c ≡ 35 = cc in
    let tail : rest ≡ name ++ more = cc in
    tail ∙ ap (λ b. (if b then name else c ∷ name) ++ more) (sym (eq-eqb c 35 head))
skips_mark test [] rest (c ∷ name) more (inr plain) named same = cc
skips_mark test (d ∷ cs) rest (c ∷ name) more (inr plain) named same =
    let head : d ≡ c = cc in
    let other = ap (λ x. x == 35) (sym head) ∙ plain.1 in
    sym plain.0 ∙ same ∙ ap (λ b. (if b then name else c ∷ name) ++ more) (sym other)

-- what passes a test behind the mark
pub skips_test : (test : List ℕ → Bool) (cs rest : List ℕ) → SkipsMark cs rest → test [] ≡ false → behind_mark test cs ≡ test rest
skips_test test cs rest (inl marked) empty = ap (behind_mark test) marked
skips_test test [] rest (inr plain) empty = sym empty ∙ ap test plain.0
skips_test test (c ∷ cs) rest (inr plain) empty = unmarked test c cs plain.1 ∙ ap test plain.0
