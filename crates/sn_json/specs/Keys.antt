-- The keys of an object that is a record: a field's name, or a tag's in angle brackets, behind `#` in a binding tag.
use Rattle.std.specs.Prelude.{ℕ, ◌-◌, List, [], ◌∷◌, ◌++◌, length, take, drop, Option, None, Some, if◌then◌else◌}
use Rattle.std.specs.Str.{bytes_eq, chars}
use Rattle.sn_record.specs.declared.label.Kind.TheVariants.{Field, Tag}
use Rattle.sn_record_parser.specs.declared.entry.WrittenLabel.{WrittenLabel}
use Rattle.sn_lexer.specs.Spelling.{is_name, behind_mark}

-- between the first byte and the last
abbrev pub middle : List ℕ → List ℕ
middle key = take (length key - 2) (drop 1 key)

-- what stands in the angle brackets that are all of the key
abbrev pub inside_of : List ℕ → Option (List ℕ)
inside_of key = if bytes_eq (60 ∷ (middle key ++ 62 ∷ [])) key then Some (middle key) else None

abbrev pub tag_of : Option (List ℕ) → Option WrittenLabel
tag_of None = None
tag_of (Some name) = if behind_mark is_name (chars name) then Some (record { kind = Tag; name = name }) else None

-- the label whose key it is, if it is one
abbrev pub label_of : List ℕ → Option WrittenLabel
label_of key = if is_name (chars key) then Some (record { kind = Field; name = key }) else tag_of (inside_of key)
