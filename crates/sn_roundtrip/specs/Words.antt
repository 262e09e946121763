-- What the tokens of sources can say: terminals that are well formed.
use Rattle.std.specs.Prelude.{◌≡◌, ℕ, ◌≤◌, true, pos, List, [], ◌∷◌, encode_utf8_all}
use Rattle.std.specs.List.{list_all}
use Rattle.std.specs.Str.{all_scalars}
use Rattle.sn_ast.specs.declared.terminal.Terminal.{Terminal}
use Rattle.sn_ast.specs.declared.terminal.Terminal.TheVariants as terminal
use Rattle.sn_lexer.specs.Spelling.{is_identifier, is_tag_name, is_printable}

-- the bytes of an identifier
pub record IsIdentifier (text : List ℕ) : Type 0 where
  pub word : List ℕ
  pub identifier : is_identifier word ≡ true
  pub scalar : all_scalars word ≡ true
  pub encoded : encode_utf8_all word ≡ text

-- the bytes of a tag's name, with the `#` of a binding one
pub record IsTagName (text : List ℕ) : Type 0 where
  pub word : List ℕ
  pub named : is_tag_name word ≡ true
  pub scalar : all_scalars word ≡ true
  pub encoded : encode_utf8_all word ≡ text

-- a terminal that some token says
abbrev pub IsWord : Terminal → Type 0
IsWord (terminal.Name name) = IsIdentifier name.text
IsWord (terminal.Tag name) = IsTagName name.text
IsWord (terminal.Number n at) = (k : ℕ) × (n ≡ pos k) × (k ≤ 9223372036854775807)
IsWord (terminal.Literal content at) = list_all is_printable content ≡ true
IsWord (terminal.Keyword k at) = Unit {0}
IsWord (terminal.Symbol s at) = Unit {0}

abbrev pub AreWords : List Terminal → Type 0
AreWords [] = Unit {0}
AreWords (t ∷ ts) = IsWord t × AreWords ts
