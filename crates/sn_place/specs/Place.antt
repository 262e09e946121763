-- Lines and columns of a text, by the bytes in front of a place.
use Rattle.std.specs.Prelude.{◌≡◌, ◌<◌, ◌*◌, ◌+◌, ◌++◌, ℕ, Bool, ◌==◌, ◌||◌, List, length, take, drop, nat_lt, nat_le, slice_index_or}
use Rattle.std.specs.List.{count_by, after_last, before_first}
use Rattle.sn_place.specs.declared.position.Position.{Position}
use Rattle.sn_place.specs.declared.places.TheConstants.{STEP}

abbrev pub is_line_feed : ℕ → Bool
is_line_feed byte = byte == 10

-- in UTF-8 the bytes from 128 up to 191 go on with a character
abbrev pub begins_character : ℕ → Bool
begins_character byte = nat_lt byte 128 || nat_le 192 byte

-- what stands on the line in front of the place
abbrev pub front_of : List ℕ → ℕ → List ℕ
front_of text at = after_last is_line_feed (take at text)

-- what stands on it from the place on, without the line feed
abbrev pub behind : List ℕ → ℕ → List ℕ
behind text at = before_first is_line_feed (drop at text)

-- the line around the place
abbrev pub line_of : List ℕ → ℕ → List ℕ
line_of text at = front_of text at ++ behind text at

-- its line: one more than the line feeds in front of it
abbrev pub line_at : List ℕ → ℕ → ℕ
line_at text at = 1 + count_by is_line_feed (take at text)

-- its column: one more than the characters in front of it on its line
abbrev pub column_at : List ℕ → ℕ → ℕ
column_at text at = 1 + count_by begins_character (front_of text at)

pub record IsAt (text : List ℕ) (at : ℕ) (p : Position) : Type 0 where
  pub line_is : p.line ≡ line_at text at
  pub column_is : p.column ≡ column_at text at

-- these are the positions of each 256th place, from the first on
abbrev pub AreMarks : List ℕ → List Position → Type 0
AreMarks text marks = (k : ℕ) (d : Position) → k < length marks → IsAt text (STEP * k) (slice_index_or marks k d)
