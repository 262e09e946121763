-- What a program is resolved to where it breaks no rule, and what it is refused for then.
use Rattle.std.specs.Prelude.{◌≡◌, ℕ, ◌<◌, ◌≤◌, true, false, List, [], length, map as each, Some, slice_get}
use Rattle.sn_ast.specs.declared.declaration.Decl.{Decl}
use Rattle.sn_ast.specs.declared.declaration.Decl.TheOpen.{Decl-F}
use Rattle.sn_ast.specs.declared.declaration.Decl.TheViews.{out-Decl, out-NetDecl}
use Rattle.sn_ast.specs.declared.declaration.NetDecl.{NetDecl}
use Rattle.sn_ast.specs.declared.declaration.Program.{Program}
use Rattle.sn_box_scope.specs.Boxes.{box_at}
use Rattle.sn_label_scope.specs.declared.refusal.Refusal.{Refusal}
use Rattle.sn_net.specs.declared.expr.BoxProgram.{BoxProgram}
use Rattle.sn_net.specs.declared.net.Net.{Net}
use Rattle.sn_scope.specs.Numbering.{names_of}
use Rattle.sn_scope.specs.Resolution.{most_names}
use Rattle.sn_scope.specs.declared.resolved.Parts.{Parts}
use Rattle.sn_scope_rules.specs.Claims.{AreFitting, ClaimOf, HasMain, IsTooLarge, Signed, SignedIn, is_main}
use Rattle.sn_scope_rules.specs.Declared.{StandsAt, boxes_in}
use Rattle.sn_scope_rules.specs.Networks.{HasLongSeries}
use Rattle.sn_scope_rules.specs.Programs.{ProgramBreaks}
use Rattle.sn_scope_rules.specs.Standing.{Beside, StandsIn}
use Rattle.sn_scope_rules.specs.Visible.{Around}

abbrev pub Unbroken : Program → Type 0
Unbroken program = (refusal : Refusal) → ProgramBreaks program refusal → ⊥

-- each series in the networks of the program's nets has two parts or more
abbrev pub HasLongSeriesIn : Program → Type 0
HasLongSeriesIn program = (around : Around) (decl : Decl) (net : NetDecl) → StandsAt program around decl → out-Decl decl ≡ Decl-F.NetDecl net → HasLongSeries (out-NetDecl net).connect

-- the boxes of the program, in the order of their places
abbrev pub boxes_of : Program → List BoxProgram
boxes_of program = each (box_at (names_of program)) (boxes_in program.decls)

-- the nets of the program that have a signature
abbrev pub IsSigned : Program → List Signed → Type 0
IsSigned program all = SignedIn [] [] program.decls all

-- no rule is broken, and no outermost net `main` has a signature
pub record HasNoMain (program : Program) : Type 0 where
  pub unbroken : Unbroken program
  pub all : List Signed
  pub signed : IsSigned program all
  pub none : (net : Signed) → StandsIn net all → is_main net ≡ false

-- there is such a net, and the labels have more different names than they may have
pub record HasTooManyNames (program : Program) : Type 0 where
  pub unbroken : Unbroken program
  pub all : List Signed
  pub signed : IsSigned program all
  pub main : HasMain all
  pub many : most_names < length (names_of program)

-- they have no more, and the net whose name stands at the place is the first whose tree is too large
pub record HasTooLarge (program : Program) (at : ℕ) : Type 0 where
  pub unbroken : Unbroken program
  pub all : List Signed
  pub signed : IsSigned program all
  pub main : HasMain all
  pub few : length (names_of program) ≤ most_names
  pub large : IsTooLarge (names_of program) (boxes_of program) all at

-- and none is
pub record IsWhole (program : Program) : Type 0 where
  pub unbroken : Unbroken program
  pub all : List Signed
  pub signed : IsSigned program all
  pub main : HasMain all
  pub few : length (names_of program) ≤ most_names
  pub trees : List Net
  pub fitting : AreFitting (names_of program) (boxes_of program) all trees

-- the parts of such a program: its boxes, and a claim for each net with a signature, one of which is that of the outermost net `main`
pub record IsResolved (program : Program) (parts : Parts) : Type 0 where
  pub unbroken : Unbroken program
  pub names : parts.names ≡ names_of program
  pub few : length (names_of program) ≤ most_names
  pub boxes : parts.boxes ≡ boxes_of program
  pub all : List Signed
  pub signed : IsSigned program all
  pub claims : Beside (ClaimOf (names_of program) (boxes_of program)) all parts.claims
  pub fitting : AreFitting (names_of program) (boxes_of program) all (each (λ claim. claim.net) parts.claims)
  pub main : Signed
  pub main_at : slice_get all parts.main ≡ Some main
  pub main_is : is_main main ≡ true
