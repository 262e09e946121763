-- Texts that are read as terminals wherever they stand, and how they are put together.
use Rattle.std.proofs.Common.{◌≡◌, ℕ, ◌==◌, ◌||◌, ◌&&◌, Bool, true, false, not, nat_eq, IsTrue, List, [], ◌∷◌, ◌++◌}
use Rattle.std.specs.Prelude.{encode_utf8_all}
use Rattle.std.specs.Char.{is_ascii_digit}
use Rattle.std.specs.List.{list_any}
use Rattle.std.specs.Str.{all_scalars}
use Rattle.unicode_ident.specs.Ident.{is_xid_continue}
use Rattle.sn_ast.specs.Terminals.{place_of}
use Rattle.sn_ast.specs.declared.terminal.Terminal.{Terminal}
use Rattle.sn_lexer.specs.Fronts.{Stops, BeginsNoTag}
use Rattle.sn_lexer.specs.Gaps.{is_blank, opens_comment}
use Rattle.sn_lexer.specs.Lexes.{width, Lexes}
use Rattle.sn_lexer.specs.Spelling.{starts_name}
use Rattle.sn_lexer.specs.declared.token.Token.{Token}
use Rattle.sn_lexer.proofs.Symbols.{NoPair}
use Rattle.sn_terminal.specs.Words.{Say}

-- What a text begins with: a character that ends no pair, such a character or `!`, or just this one.
pub data Begin : Type 0 where
  Calm : Begin
  Mild : Begin
  Exactly : ℕ → Begin

-- What may follow a text: anything, anything but what continues a name, or what makes nothing longer of this character.
pub data End : Type 0 where
  Free : End
  Whole : End
  After : ℕ → End

abbrev pub is_calm : ℕ → Bool
is_calm c = list_any (λ d. d == c) (34 ∷ 40 ∷ 45 ∷ 60 ∷ 91 ∷ 123 ∷ []) || (is_ascii_digit c || starts_name c)

abbrev pub Begins : Begin → List ℕ → Type 0
Begins b [] = ⊥
Begins Calm (c ∷ cs) = IsTrue (is_calm c)
Begins Mild (c ∷ cs) = IsTrue ((c == 33) || is_calm c)
Begins (Exactly d) (c ∷ cs) = c ≡ d

abbrev pub Follows : End → List ℕ → Type 0
Follows Free rest = Unit {0}
Follows Whole rest = Stops is_xid_continue rest × Stops is_ascii_digit rest
Follows (After a) rest = NoPair a rest × BeginsNoTag (a ∷ rest) × (opens_comment (a ∷ rest) ≡ false)

-- a blank, or a mark that stands in no name
abbrev pub parts_names : ℕ → Bool
parts_names c = is_blank c || list_any (λ d. d == c) (33 ∷ 34 ∷ 40 ∷ 41 ∷ 44 ∷ 59 ∷ 61 ∷ 64 ∷ 91 ∷ 93 ∷ 123 ∷ 124 ∷ 125 ∷ [])

-- the symbols of two characters, as a test that computes
abbrev pub is_pair : ℕ → ℕ → Bool
is_pair a c = list_any (λ (p : ℕ × ℕ). nat_eq p.0 a && nat_eq p.1 c) ((91, 124) ∷ (124, 93) ∷ (61, 61) ∷ (33, 61) ∷ (60, 61) ∷ (62, 61) ∷ (38, 38) ∷ (124, 124) ∷ (33, 33) ∷ (42, 42) ∷ (46, 46) ∷ (45, 62) ∷ [])

-- the two may stand side by side
abbrev pub adjoin : End → Begin → Bool
adjoin Free b = true
adjoin Whole (Exactly c) = parts_names c
adjoin Whole Calm = false
adjoin Whole Mild = false
adjoin (After a) Calm = not (a == 60)
adjoin (After a) Mild = not (a == 60) && not (a == 33)
adjoin (After a) (Exactly c) = is_blank c || (not (a == 60) && (not (is_pair a c) && not (opens_comment (a ∷ c ∷ []))))

-- `cs` stands in the characters at the place p
pub record Stands (all : List ℕ) (p : ℕ) (cs : List ℕ) : Type 0 where
  pub front : List ℕ
  pub is : all ≡ front ++ cs
  pub place : width front ≡ p

-- the tokens of `cs`, at the end of all the characters, say the terminals
pub record Told (all cs : List ℕ) (ts : List Terminal) : Type 0 where
  pub tokens : List Token
  pub lexes : Lexes (width all) cs tokens
  pub says : Say (encode_utf8_all all) tokens ts

-- the first terminal stands at p
pub data HeadAt (p : ℕ) : List Terminal → Type 0 where
  head_at : {x : Terminal} {ts : List Terminal} → place_of x ≡ p → HeadAt p (x ∷ ts)

-- a text that begins with no blank says its first terminal where it stands
abbrev pub Heads : Begin → (ℕ → List Terminal → List Terminal) → Type 0
Heads Calm said = (p : ℕ) (us : List Terminal) → HeadAt p (said p us)
Heads Mild said = (p : ℕ) (us : List Terminal) → HeadAt p (said p us)
Heads (Exactly c) said = is_blank c ≡ false → (p : ℕ) (us : List Terminal) → HeadAt p (said p us)

-- A text that says terminals: `said p us` are those that it says where it stands at the place p, before us.
pub record Span (b : Begin) (e : End) (text : List ℕ) : Type 0 where
  pub piece : List ℕ
  pub scalar : all_scalars piece ≡ true
  pub encoded : encode_utf8_all piece ≡ text
  pub begins : Begins b piece
  pub said : ℕ → List Terminal → List Terminal
  pub heads : Heads b said
  pub tells : (all : List ℕ) (p : ℕ) (rest : List ℕ) (us : List Terminal) → Stands all p (piece ++ rest) → Follows e rest → Told all rest us → Told all (piece ++ rest) (said p us)
