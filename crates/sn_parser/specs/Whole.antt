-- What the parser finds of all the tokens, in the terms of what it keeps.
use Rattle.std.specs.Prelude.{◌≡◌, ◌↔◌, ℕ, List, [], ◌∷◌, ◌++◌, Some, None, Result, Ok, Err}
use Rattle.sn_ast.specs.Declarations.{Declarations}
use Rattle.sn_ast.specs.Kept.{Kept, kept}
use Rattle.sn_ast.specs.Terminals.{place_of}
use Rattle.sn_ast.specs.declared.declaration.Decl.{Decl}
use Rattle.sn_ast.specs.declared.declaration.Program.{Program}
use Rattle.sn_ast.specs.declared.terminal.Terminal.{Terminal}
use Rattle.sn_parser.specs.Answer.{IsUnexpected}
use Rattle.sn_parser.specs.Residual.{Completes}
use Rattle.sn_parser.specs.Scopes.{Decls}
use Rattle.sn_parser.specs.declared.machine.Parser.{Parser}
use Rattle.sn_ast.specs.declared.fault.ParseFault.{ParseFault}
use Rattle.sn_ast.specs.declared.fault.ParseFault.TheVariants.{Unexpected, TooDeep, Memory}

-- the parser's state after the tokens: what completes it is what follows them in a source
pub record Reaches (tokens : List Terminal) (s : Parser) : Type 0 where
  pub law : (w : List Terminal) (all : Decls) → Declarations kept [] (tokens ++ w) all ↔ Completes s w all

-- one token further
abbrev pub Goes : Parser → Terminal → Result Parser ParseFault → Type 0
Goes s x (Ok next) = (w : List Terminal) (all : Decls) → Completes s (x ∷ w) all ↔ Completes next w all
Goes s x (Err (Unexpected at)) = (at ≡ place_of x) × ((w : List Terminal) (all : Decls) → Completes s (x ∷ w) all → ⊥)
Goes s x (Err (TooDeep at)) = ⊥
Goes s x (Err Memory) = Unit {0}

-- the tokens are these declarations and no others
abbrev pub AreExactly : List Terminal → Decls → Type 0
AreExactly tokens done = (all : Decls) → Declarations kept [] tokens all ↔ (done ≡ all)

abbrev pub Reads : ℕ → List Terminal → Result Decls ParseFault → Type 0
Reads size tokens (Ok done) = AreExactly tokens done
Reads size tokens (Err (Unexpected at)) = IsUnexpected size tokens at
Reads size tokens (Err (TooDeep at)) = ⊥
Reads size tokens (Err Memory) = Unit {0}

-- none of the declarations was dropped
abbrev pub IsWhole : Kept Decl → Type 0
IsWhole None = ⊥
IsWhole (Some d) = Unit {0}

abbrev pub AreWhole : Decls → Type 0
AreWhole [] = Unit {0}
AreWhole (d ∷ decls) = IsWhole d.1 × AreWhole decls

-- those that were not
abbrev pub whole_of : Kept Decl → List Decl
whole_of None = []
whole_of (Some d) = d.value ∷ []

abbrev pub all_whole : Decls → List Decl
all_whole [] = []
all_whole (d ∷ decls) = whole_of d.1 ++ all_whole decls

-- the place of the first that was
pub record FirstLost (decls : Decls) (at : ℕ) : Type 0 where
  pub before : Decls
  pub after : Decls
  pub split : decls ≡ before ++ ((at, None) ∷ after)
  pub whole : AreWhole before

abbrev pub WholeOf : Decls → Result Program ParseFault → Type 0
WholeOf decls (Ok program) = AreWhole decls × (program ≡ record { decls = all_whole decls })
WholeOf decls (Err (Unexpected at)) = ⊥
WholeOf decls (Err (TooDeep at)) = FirstLost decls at
WholeOf decls (Err Memory) = Unit {0}

-- the answer for all the tokens
abbrev pub IsAnswer : ℕ → List Terminal → Result Program ParseFault → Type 0
IsAnswer size tokens (Ok program) = (done : Decls) × AreExactly tokens done × AreWhole done × (program ≡ record { decls = all_whole done })
IsAnswer size tokens (Err (Unexpected at)) = IsUnexpected size tokens at
IsAnswer size tokens (Err (TooDeep at)) = (done : Decls) × AreExactly tokens done × FirstLost done at
IsAnswer size tokens (Err Memory) = Unit {0}
