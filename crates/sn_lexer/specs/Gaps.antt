-- What is dropped between tokens: blanks and comments.
use Rattle.std.specs.Prelude.{◌≡◌, ℕ, Bool, false, ◌&&◌, ◌||◌, ◌==◌, IsTrue, List, [], ◌∷◌, Option, Some, None, if◌then◌else◌}

-- space, tab, carriage return, line feed
abbrev pub is_blank : ℕ → Bool
is_blank c = (c == 32) || (c == 9) || (c == 13) || (c == 10)

-- `//` or `/*`
abbrev pub opens_comment : List ℕ → Bool
opens_comment [] = false
opens_comment (a ∷ []) = false
opens_comment (a ∷ b ∷ cs) = (a == 47) && ((b == 47) || (b == 42))

-- from the first line feed on
abbrev pub from_line_end : List ℕ → List ℕ
from_line_end [] = []
from_line_end (c ∷ cs) = if c == 10 then c ∷ cs else from_line_end cs

-- `*/`
abbrev pub closes_comment : List ℕ → Bool
closes_comment [] = false
closes_comment (a ∷ []) = false
closes_comment (a ∷ b ∷ cs) = (a == 42) && (b == 47)

abbrev pub after_first : List ℕ → List ℕ
after_first [] = []
after_first (c ∷ cs) = cs

-- what follows the first `*/`, where there is one
abbrev pub after_closing : List ℕ → Option (List ℕ)
after_closing [] = None
after_closing (c ∷ cs) = if closes_comment (c ∷ cs) then Some (after_first cs) else after_closing cs

-- a gap in front of the characters, and what follows it
pub data IsGap : List ℕ → List ℕ → Type 0 where
  blank : {c : ℕ} {cs : List ℕ} → IsTrue (is_blank c) → IsGap (c ∷ cs) cs
  line_comment : {cs rest : List ℕ} → rest ≡ from_line_end cs → IsGap (47 ∷ 47 ∷ cs) rest
  block_comment : {cs rest : List ℕ} → after_closing cs ≡ Some rest → IsGap (47 ∷ 42 ∷ cs) rest
