-- The tokens of a line of a record file.
use Rattle.std.specs.Prelude.{◌≡◌, ◌≢◌, ℕ, ℤ, Bool, ◌||◌, ◌==◌, IsTrue, List, [], ◌∷◌, ◌++◌, codes, encode_utf8_all, slice_index, FitsSigned}
use Rattle.std.specs.Int.{w64}
use Rattle.std.specs.List.{list_all}
use Rattle.std.specs.Char.{is_ascii_digit}
use Rattle.std.specs.Str.Parse.{IsNumeral, without_leading_sign, signed_digits_value}
use Rattle.unicode_ident.specs.Ident.{is_xid_continue}
use Rattle.sn_lexer.specs.Spelling.{is_name, behind_mark, is_printable, quoted}
use Rattle.sn_lexer.specs.Fronts.{Stops}
use Rattle.sn_record_tokens.specs.declared.token.Mark.{Mark as MarkKind}
use Rattle.sn_record_tokens.specs.declared.token.Mark.TheVariants as mark
use Rattle.sn_record_tokens.specs.declared.token.Token.{Token}
use Rattle.sn_record_tokens.specs.declared.token.Token.TheVariants.{Mark, Name, Tag, Number, Text}

-- space, tab, carriage return
abbrev pub is_blank : ℕ → Bool
is_blank c = (c == 32) || (c == 9) || (c == 13)

abbrev pub mark_word : MarkKind → List ℕ
mark_word mark.OpenRecord = codes "{"
mark_word mark.CloseRecord = codes "}"
mark_word mark.OpenList = codes "["
mark_word mark.CloseList = codes "]"
mark_word mark.Comma = codes ","
mark_word mark.Equals = codes "="

-- a name, which a keyword may be too, and its bytes
pub record SpellsName (word bytes : List ℕ) : Type 0 where
  pub name : IsTrue (is_name word)
  pub bytes_are : bytes ≡ encode_utf8_all word

-- a name, behind `#` where the tag is a binding one, and its bytes
pub record SpellsTagName (word bytes : List ℕ) : Type 0 where
  pub named : IsTrue (behind_mark is_name word)
  pub bytes_are : bytes ≡ encode_utf8_all word

-- a tag's name in angle brackets, with nothing between
pub record SpellsTag (word bytes : List ℕ) : Type 0 where
  pub inside : List ℕ
  pub name : SpellsTagName inside bytes
  pub written : word ≡ 60 ∷ (inside ++ 62 ∷ [])

-- an optional minus sign and one digit or more, leading zeros allowed, in the range of 64 bits
pub record SpellsNumber (word : List ℕ) (n : ℤ) : Type 0 where
  pub no_plus : slice_index word 0 ≢ 43
  pub digits : IsNumeral 10 (without_leading_sign word)
  pub value : n ≡ signed_digits_value 10 word
  pub fits : FitsSigned w64 n

-- printable characters between quotes, with a backslash before a quote and a backslash
pub record SpellsText (word bytes : List ℕ) : Type 0 where
  pub printable : IsTrue (list_all is_printable bytes)
  pub written : word ≡ quoted bytes

abbrev pub Spells : Token → List ℕ → Type 0
Spells (Mark kind) word = word ≡ mark_word kind
Spells (Name bytes) word = SpellsName word bytes
Spells (Tag bytes) word = SpellsTag word bytes
Spells (Number n) word = SpellsNumber word n
Spells (Text bytes) word = SpellsText word bytes

-- what follows would not lengthen the token
abbrev pub IsWhole : Token → List ℕ → Type 0
IsWhole (Mark kind) rest = Unit {0}
IsWhole (Name bytes) rest = Stops is_xid_continue rest
IsWhole (Tag bytes) rest = Unit {0}
IsWhole (Number n) rest = Stops is_ascii_digit rest
IsWhole (Text bytes) rest = Unit {0}

-- a token in front of the characters, and what follows it
pub record IsToken (token : Token) (cs rest : List ℕ) : Type 0 where
  pub word : List ℕ
  pub spelled : Spells token word
  pub front : cs ≡ word ++ rest
  pub whole : IsWhole token rest

-- the tokens of a line, between which blanks may stand
pub data Tokens : List ℕ → List Token → Type 0 where
  end : Tokens [] []
  blank : {c : ℕ} {cs : List ℕ} {tokens : List Token} → IsTrue (is_blank c) → Tokens cs tokens → Tokens (c ∷ cs) tokens
  token : {cs rest : List ℕ} {first : Token} {tokens : List Token} → IsToken first cs rest → Tokens rest tokens → Tokens cs (first ∷ tokens)
