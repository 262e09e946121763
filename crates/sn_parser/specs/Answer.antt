-- What it means to parse the tokens of a source, once each is read as what it says.
use Rattle.std.specs.Prelude.{◌≡◌, ◌⊎◌, ℕ, List, [], ◌∷◌, ◌++◌, length, map}
use Rattle.sn_ast.specs.Declarations.{Declarations}
use Rattle.sn_ast.specs.Measures.{IsWithin, measured}
use Rattle.sn_ast.specs.Terminals.{place_of}
use Rattle.sn_ast.specs.declared.declaration.Decl.{Decl}
use Rattle.sn_ast.specs.declared.declaration.Program.{Program}
use Rattle.sn_ast.specs.declared.measure.Measured.{Measured}
use Rattle.sn_ast.specs.declared.terminal.Terminal.{Terminal}
use Rattle.sn_lexer.specs.declared.token.Token.{Token}
use Rattle.sn_ast.specs.declared.fault.ParseFault.{ParseFault}
use Rattle.sn_ast.specs.declared.fault.ParseFault.TheVariants.{Unexpected, TooDeep, Memory}
use Rattle.sn_terminal.specs.Words.{Say}

-- the tokens are these declarations, each with the place of its name and with its measures
abbrev pub Spells : List Terminal → List (ℕ × Measured Decl) → Type 0
Spells tokens decls = Declarations measured [] tokens decls

-- each of the declarations is within the limits
abbrev pub AreWithin : List (ℕ × Measured Decl) → Type 0
AreWithin [] = Unit {0}
AreWithin (d ∷ decls) = IsWithin d.1 × AreWithin decls

-- the program of the declarations
abbrev pub program_of : List (ℕ × Measured Decl) → Program
program_of decls = record { decls = map (λ d. d.1.value) decls }

-- the program that the tokens spell within the limits
pub record IsProgram (tokens : List Terminal) (program : Program) : Type 0 where
  pub decls : List (ℕ × Measured Decl)
  pub spelled : Spells tokens decls
  pub within : AreWithin decls
  pub is : program ≡ program_of decls

-- some program of the grammar begins with the tokens, whatever the limits
pub record IsViable (tokens : List Terminal) : Type 0 where
  pub more : List Terminal
  pub decls : List (ℕ × Measured Decl)
  pub spelled : Spells (tokens ++ more) decls

-- the place of the first token that no program goes on with
pub record StopsAt (tokens : List Terminal) (at : ℕ) : Type 0 where
  pub before : List Terminal
  pub token : Terminal
  pub after : List Terminal
  pub split : tokens ≡ before ++ (token ∷ after)
  pub viable : IsViable before
  pub stops : ¬ (IsViable (before ++ (token ∷ [])))
  pub place : at ≡ place_of token

-- some program begins with all the tokens, and they are none
pub record EndsEarly (tokens : List Terminal) : Type 0 where
  pub viable : IsViable tokens
  pub unfinished : (decls : List (ℕ × Measured Decl)) → ¬ (Spells tokens decls)

-- the tokens of a source are no program, whatever the limits; the place is that of the first token that no program goes
-- on with, or the source's length
abbrev pub IsUnexpected : ℕ → List Terminal → ℕ → Type 0
IsUnexpected size tokens at = StopsAt tokens at ⊎ (EndsEarly tokens × (at ≡ size))

-- the tokens are a program past a limit; the place is that of the name of the first declaration that passes one
pub record IsTooDeep (tokens : List Terminal) (at : ℕ) : Type 0 where
  pub before : List (ℕ × Measured Decl)
  pub decl : Measured Decl
  pub after : List (ℕ × Measured Decl)
  pub spelled : Spells tokens (before ++ ((at, decl) ∷ after))
  pub within : AreWithin before
  pub past : ¬ (IsWithin decl)

-- what a fault says of the tokens of a source of this size; want of memory says nothing
abbrev pub IsFault : ℕ → List Terminal → ParseFault → Type 0
IsFault size tokens (Unexpected at) = IsUnexpected size tokens at
IsFault size tokens (TooDeep at) = IsTooDeep tokens at
IsFault size tokens Memory = Unit {0}

-- the same of a source and its tokens, each of which says one terminal
pub record Spell (source : List ℕ) (tokens : List Token) (program : Program) : Type 0 where
  pub said : List Terminal
  pub says : Say source tokens said
  pub spelled : IsProgram said program

pub record Faults (source : List ℕ) (tokens : List Token) (fault : ParseFault) : Type 0 where
  pub said : List Terminal
  pub says : Say source tokens said
  pub wrong : IsFault (length source) said fault
