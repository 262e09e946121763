-- How the words of each kind are spelled, as lists of characters.
use Rattle.std.specs.Prelude.{◌≡◌, ℕ, ◌≤◌, Bool, false, ◌&&◌, ◌||◌, ◌==◌, nat_eq, nat_le, not, IsTrue, List, [], ◌∷◌, ◌++◌, map, codes, if◌then◌else◌}
use Rattle.std.specs.List.{list_any, list_all, flat_map}
use Rattle.std.specs.Char.{is_ascii_digit}
use Rattle.std.specs.Cmp.Lexicographic.{pointwise}
use Rattle.std.specs.Str.Parse.{digits_value}
use Rattle.unicode_ident.specs.Ident.{is_xid_start, is_xid_continue}
use Rattle.sn_lexer.specs.declared.token.TokenKind.{TokenKind}
use Rattle.sn_lexer.specs.declared.token.TokenKind.TheVariants.{Ident, Keyword, Tag, Number, Text, Symbol}

-- the word stands in the table
abbrev pub is_among : List (List ℕ) → List ℕ → Bool
is_among table word = list_any (λ entry. pointwise nat_eq entry word) table

-- a letter as Unicode has it, or an underscore
abbrev pub starts_name : ℕ → Bool
starts_name c = is_xid_start c || (c == 95)

abbrev pub is_name : List ℕ → Bool
is_name [] = false
is_name (c ∷ cs) = starts_name c && list_all is_xid_continue cs

abbrev pub keywords : List (List ℕ)
keywords = codes "box" ∷ codes "net" ∷ codes "connect" ∷ codes "type" ∷ codes "typesig" ∷ codes "if" ∷ codes "then" ∷ codes "else" ∷ codes "let" ∷ codes "in" ∷ codes "out" ∷ codes "fun" ∷ []

unfoldable pub is_keyword : List ℕ → Bool
is_keyword word = is_among keywords word

-- a name that is no keyword
abbrev pub is_identifier : List ℕ → Bool
is_identifier word = is_name word && not (is_keyword word)

-- what passes the test, with `#` in front or not
abbrev pub behind_mark : (List ℕ → Bool) → List ℕ → Bool
behind_mark test [] = false
behind_mark test (c ∷ cs) = if c == 35 then test cs else test (c ∷ cs)

-- an identifier, behind `#` where the tag is a binding one
abbrev pub is_tag_name : List ℕ → Bool
is_tag_name word = behind_mark is_identifier word

-- a tag's name in angle brackets
pub record IsTag (word : List ℕ) : Type 0 where
  pub name : List ℕ
  pub named : IsTrue (is_tag_name name)
  pub written : word ≡ codes "<" ++ (name ++ codes ">")

-- one digit or more
abbrev pub is_numeral : List ℕ → Bool
is_numeral [] = false
is_numeral (c ∷ cs) = list_all is_ascii_digit (c ∷ cs)

abbrev pub is_printable : ℕ → Bool
is_printable c = nat_le 32 c && nat_le c 126

-- a quote or a backslash
abbrev pub is_escapable : ℕ → Bool
is_escapable c = (c == 34) || (c == 92)

-- a quote and a backslash have a backslash in front
abbrev pub escaped : ℕ → List ℕ
escaped c = if is_escapable c then 92 ∷ c ∷ [] else c ∷ []

-- between quotes
abbrev pub quoted : List ℕ → List ℕ
quoted content = 34 ∷ (flat_map escaped content ++ 34 ∷ [])

pub record IsText (word : List ℕ) : Type 0 where
  pub content : List ℕ
  pub printable : IsTrue (list_all is_printable content)
  pub written : word ≡ quoted content

-- each character of this text is a symbol
abbrev pub lone_symbols : List ℕ
lone_symbols = codes "(){}[],;:=<>+-*/%|!?@"

-- and each of these pairs
abbrev pub paired_symbols : List (List ℕ)
paired_symbols = codes "[|" ∷ codes "|]" ∷ codes "==" ∷ codes "!=" ∷ codes "<=" ∷ codes ">=" ∷ codes "&&" ∷ codes "||" ∷ codes "!!" ∷ codes "**" ∷ codes ".." ∷ codes "->" ∷ []

unfoldable pub is_symbol : List ℕ → Bool
is_symbol word = is_among (map (λ c. c ∷ []) lone_symbols) word || is_among paired_symbols word

-- the word is one of the kind; a numeral may have any value here
abbrev pub Spells : TokenKind → List ℕ → Type 0
Spells Ident word = IsTrue (is_identifier word)
Spells Keyword word = IsTrue (is_keyword word)
Spells Tag word = IsTag word
Spells Number word = IsTrue (is_numeral word)
Spells Text word = IsText word
Spells Symbol word = IsTrue (is_symbol word)

-- a number is at most the largest signed one of 64 bits
abbrev pub IsWithinLimit : TokenKind → List ℕ → Type 0
IsWithinLimit Number word = digits_value 10 word ≤ 9223372036854775807
IsWithinLimit _ word = Unit {0}
