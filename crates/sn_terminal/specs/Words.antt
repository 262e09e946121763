-- What the tokens of a source say: the terminals that the grammar reads.
use Rattle.std.specs.Prelude.{◌≡◌, ℕ, pos, List, [], ◌∷◌, ◌++◌, codes, encode_utf8_all}
use Rattle.std.specs.Str.Parse.{digits_value}
use Rattle.sn_ast.specs.declared.terminal.Keyword.{Keyword}
use Rattle.sn_ast.specs.declared.terminal.Keyword.TheVariants.{Box, Net, Connect, «Type» as TypeWord, TypeSig, If, Then, Else, Let, In, Out, Fun}
use Rattle.sn_ast.specs.declared.terminal.Symbol.{Symbol}
use Rattle.sn_ast.specs.declared.terminal.Symbol.TheVariants.{OpenParen, CloseParen, OpenBrace, CloseBrace, OpenBracket, CloseBracket, OpenSync, CloseSync, Comma, Semicolon, Colon, Assign, Equal, NotEqual, Less, LessEqual, Greater, GreaterEqual, Plus, Minus, Star, Slash, Percent, AndAnd, BarBar, Bar, Bang, BangBang, StarStar, Dots, Arrow, Question, At}
use Rattle.sn_ast.specs.declared.terminal.Terminal.{Terminal}
use Rattle.sn_ast.specs.declared.terminal.Terminal.TheVariants as terminal
use Rattle.sn_lexer.specs.Placed.{spelling}
use Rattle.sn_lexer.specs.Spelling.{Spells, IsWithinLimit, quoted}
use Rattle.sn_lexer.specs.declared.token.Token.{Token}
use Rattle.sn_lexer.specs.declared.token.TokenKind.{TokenKind}
use Rattle.sn_lexer.specs.declared.token.TokenKind.TheVariants as kind

abbrev pub keyword_word : Keyword → List ℕ
keyword_word Box = codes "box"
keyword_word Net = codes "net"
keyword_word Connect = codes "connect"
keyword_word TypeWord = codes "type"
keyword_word TypeSig = codes "typesig"
keyword_word If = codes "if"
keyword_word Then = codes "then"
keyword_word Else = codes "else"
keyword_word Let = codes "let"
keyword_word In = codes "in"
keyword_word Out = codes "out"
keyword_word Fun = codes "fun"

abbrev pub symbol_word : Symbol → List ℕ
symbol_word OpenParen = codes "("
symbol_word CloseParen = codes ")"
symbol_word OpenBrace = codes "{"
symbol_word CloseBrace = codes "}"
symbol_word OpenBracket = codes "["
symbol_word CloseBracket = codes "]"
symbol_word OpenSync = codes "[|"
symbol_word CloseSync = codes "|]"
symbol_word Comma = codes ","
symbol_word Semicolon = codes ";"
symbol_word Colon = codes ":"
symbol_word Assign = codes "="
symbol_word Equal = codes "=="
symbol_word NotEqual = codes "!="
symbol_word Less = codes "<"
symbol_word LessEqual = codes "<="
symbol_word Greater = codes ">"
symbol_word GreaterEqual = codes ">="
symbol_word Plus = codes "+"
symbol_word Minus = codes "-"
symbol_word Star = codes "*"
symbol_word Slash = codes "/"
symbol_word Percent = codes "%"
symbol_word AndAnd = codes "&&"
symbol_word BarBar = codes "||"
symbol_word Bar = codes "|"
symbol_word Bang = codes "!"
symbol_word BangBang = codes "!!"
symbol_word StarStar = codes "**"
symbol_word Dots = codes ".."
symbol_word Arrow = codes "->"
symbol_word Question = codes "?"
symbol_word At = codes "@"

-- a name in angle brackets
abbrev pub bracketed : List ℕ → List ℕ
bracketed name = 60 ∷ (name ++ 62 ∷ [])

-- content between quotes
abbrev pub IsQuoted : List ℕ → Type 0
IsQuoted bytes = (content : List ℕ) × (bytes ≡ quoted content)

abbrev pub IsBracketed : List ℕ → Type 0
IsBracketed bytes = (name : List ℕ) × (bytes ≡ bracketed name)

-- the bytes of a word of the kind
pub record IsSpelled (kind : TokenKind) (bytes : List ℕ) : Type 0 where
  pub word : List ℕ
  pub spelled : Spells kind word
  pub within : IsWithinLimit kind word
  pub written : bytes ≡ encode_utf8_all word

-- what a token says, by its kind, its bytes and its place: a text its content without the quotes and escapes
pub data Says : TokenKind → List ℕ → ℕ → Terminal → Type 0 where
  name : {bytes : List ℕ} {at : ℕ} → Says kind.Ident bytes at (terminal.Name (record { text = bytes; at = at }))
  tag : {bytes name : List ℕ} {at : ℕ} → bytes ≡ bracketed name → Says kind.Tag bytes at (terminal.Tag (record { text = name; at = at }))
  number : {bytes : List ℕ} {at : ℕ} → Says kind.Number bytes at (terminal.Number (pos (digits_value 10 bytes)) at)
  literal : {bytes content : List ℕ} {at : ℕ} → bytes ≡ quoted content → Says kind.Text bytes at (terminal.Literal content at)
  keyword : {bytes : List ℕ} {k : Keyword} {at : ℕ} → bytes ≡ keyword_word k → Says kind.Keyword bytes at (terminal.Keyword k at)
  symbol : {bytes : List ℕ} {s : Symbol} {at : ℕ} → bytes ≡ symbol_word s → Says kind.Symbol bytes at (terminal.Symbol s at)

-- the tokens say the terminals, one each
abbrev pub Say : List ℕ → List Token → List Terminal → Type 0
Say source [] [] = Unit {0}
Say source (t ∷ ts) (x ∷ xs) = Says t.kind (spelling source t) t.start x × Say source ts xs
Say source ts xs = ⊥
