-- The boxes of a program, in the order in which they stand, and where its declarations stand.
use Rattle.std.specs.Prelude.{◌≡◌, List, [], ◌∷◌, ◌++◌}
use Rattle.std.specs.List.{flat_map}
use Rattle.sn_ast.specs.declared.declaration.BoxDecl.{BoxDecl}
use Rattle.sn_ast.specs.declared.declaration.Decl.{Decl, fold-Decl}
use Rattle.sn_ast.specs.declared.declaration.Decl.TheOpen.{Decl-F}
use Rattle.sn_ast.specs.declared.declaration.Decl.TheViews.{out-Decl, out-NetDecl}
use Rattle.sn_ast.specs.declared.declaration.NetDecl.{NetDecl, NetDecl-F}
use Rattle.sn_ast.specs.declared.declaration.Program.{Program}
use Rattle.sn_scope_rules.specs.Standing.{StandsBehind}
use Rattle.sn_scope_rules.specs.Visible.{Around}

-- one level, with the boxes of each part in its place
abbrev pub boxes_step : Decl-F (List BoxDecl) (List BoxDecl) → List BoxDecl
boxes_step (Decl-F.BoxDecl declaration) = declaration ∷ []
boxes_step (Decl-F.NetDecl boxes) = boxes
boxes_step (Decl-F.TypeDecl name parts) = []
boxes_step (Decl-F.SigDecl name sig) = []

abbrev pub net_step : NetDecl-F (List BoxDecl) (List BoxDecl) → List BoxDecl
net_step net = flat_map (λ boxes. boxes) net.decls

-- a declaration that is a box, or the boxes within it
abbrev pub boxes_of : Decl → List BoxDecl
boxes_of = fold-Decl (List BoxDecl) (List BoxDecl) boxes_step net_step

-- the boxes of several declarations
abbrev pub boxes_in : List Decl → List BoxDecl
boxes_in decls = flat_map boxes_of decls

-- the boxes that stand before a place: those around it, and then those of its own scope
abbrev pub boxes_before : Around → List BoxDecl
boxes_before [] = []
boxes_before (decls ∷ outer) = boxes_before outer ++ boxes_in decls

-- a declaration of the program, behind those that stand before it in its scope and in those around it
pub data StandsAt (program : Program) : Around → Decl → Type 0 where
  outermost : {before : List Decl} {decl : Decl} → StandsBehind decl before program.decls → StandsAt program (before ∷ []) decl
  inner : {before : List Decl} {around : Around} {decl own : Decl} (net : NetDecl) →
      StandsAt program around decl → out-Decl decl ≡ Decl-F.NetDecl net → StandsBehind own before (out-NetDecl net).decls → StandsAt program (before ∷ around) own
