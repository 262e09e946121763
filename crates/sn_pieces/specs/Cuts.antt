-- Where bytes are cut into lines.
use Rattle.std.specs.Prelude.{◌≡◌, ◌<◌, ◌+◌, ◌==◌, ℕ, Bool, false, List, [], ◌∷◌, ◌++◌, length, take, drop}
use Rattle.std.specs.List.{list_any}

abbrev pub has_line_feed : List ℕ → Bool
has_line_feed bytes = list_any (λ byte. byte == 10) bytes

-- the first line feed stands at the place
pub record IsLineEnd (bytes : List ℕ) (i : ℕ) : Type 0 where
  pub within : i < length bytes
  pub before : has_line_feed (take i bytes) ≡ false
  pub whole : take i bytes ++ 10 ∷ drop (i + 1) bytes ≡ bytes

-- of the lines of some bytes, those behind which a line feed stands, and the last one
abbrev pub before_last : List (List ℕ) → List (List ℕ)
before_last [] = []
before_last (line ∷ []) = []
before_last (line ∷ second ∷ lines) = line ∷ before_last (second ∷ lines)

abbrev pub last_line : List (List ℕ) → List ℕ
last_line [] = []
last_line (line ∷ []) = line
last_line (line ∷ second ∷ lines) = last_line (second ∷ lines)
