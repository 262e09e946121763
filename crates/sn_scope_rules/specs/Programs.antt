-- What is refused in declarations and programs.
use Rattle.std.specs.Prelude.{◌≡◌, true, List, [], ◌∷◌, Some}
use Rattle.sn_ast.specs.declared.declaration.BoxDecl.{BoxDecl}
use Rattle.sn_ast.specs.declared.declaration.Decl.{Decl}
use Rattle.sn_ast.specs.declared.declaration.Decl.TheOpen.{Decl-F}
use Rattle.sn_ast.specs.declared.declaration.Decl.TheViews.{out-Decl, out-NetDecl}
use Rattle.sn_ast.specs.declared.declaration.NetDecl.{NetDecl}
use Rattle.sn_ast.specs.declared.declaration.Program.{Program}
use Rattle.sn_ast.specs.declared.label.Ident.{Ident}
use Rattle.sn_ast.specs.declared.label.Sig.{Sig}
use Rattle.sn_ast.specs.declared.label.TypePart.{TypePart}
use Rattle.sn_label_scope.specs.declared.refusal.Refusal.{Refusal}
use Rattle.sn_scope_rules.specs.Boxes.{BoxBreaks}
use Rattle.sn_scope_rules.specs.Labels.{SigBreaks, TypeBreaks}
use Rattle.sn_scope_rules.specs.Networks.{NetworkBreaks}
use Rattle.sn_scope_rules.specs.Refusals.{twice}
use Rattle.sn_scope_rules.specs.Standing.{StandsBehind}
use Rattle.sn_scope_rules.specs.Visible.{Around, is_declared, name_of}

-- what is refused in a declaration behind others of its scope, with the scopes around it: a net's signature is read outside its braces, and its
-- network sees what they declare
pub data DeclBreaks : List Decl → Around → Decl → Refusal → Type 0 where
  name_twice : {scope : List Decl} {outer : Around} {decl : Decl} → is_declared scope (name_of decl).text ≡ true → DeclBreaks scope outer decl (twice (name_of decl).at)
  in_type : {scope : List Decl} {outer : Around} {decl : Decl} {r : Refusal} (name : Ident) (parts : List TypePart) →
      out-Decl decl ≡ Decl-F.TypeDecl name parts → TypeBreaks (scope ∷ outer) parts r → DeclBreaks scope outer decl r
  in_sig : {scope : List Decl} {outer : Around} {decl : Decl} {r : Refusal} (name : Ident) (sig : Sig) →
      out-Decl decl ≡ Decl-F.SigDecl name sig → SigBreaks (scope ∷ outer) sig r → DeclBreaks scope outer decl r
  in_box : {scope : List Decl} {outer : Around} {decl : Decl} {r : Refusal} (declaration : BoxDecl) →
      out-Decl decl ≡ Decl-F.BoxDecl declaration → BoxBreaks declaration r → DeclBreaks scope outer decl r
  in_net_sig : {scope : List Decl} {outer : Around} {decl : Decl} {r : Refusal} (net : NetDecl) (sig : Sig) →
      out-Decl decl ≡ Decl-F.NetDecl net → (out-NetDecl net).sig ≡ Some sig → SigBreaks (scope ∷ outer) sig r → DeclBreaks scope outer decl r
  in_inner : {scope : List Decl} {outer : Around} {decl : Decl} {r : Refusal} (net : NetDecl) (before : List Decl) (inner : Decl) →
      out-Decl decl ≡ Decl-F.NetDecl net → StandsBehind inner before (out-NetDecl net).decls → DeclBreaks before (scope ∷ outer) inner r → DeclBreaks scope outer decl r
  in_network : {scope : List Decl} {outer : Around} {decl : Decl} {r : Refusal} (net : NetDecl) →
      out-Decl decl ≡ Decl-F.NetDecl net → NetworkBreaks ((out-NetDecl net).decls ∷ scope ∷ outer) (out-NetDecl net).connect r → DeclBreaks scope outer decl r

-- what is refused in an outermost declaration, behind those before it
pub data ProgramBreaks (program : Program) : Refusal → Type 0 where
  in_decl : {before : List Decl} {decl : Decl} {r : Refusal} → StandsBehind decl before program.decls → DeclBreaks before [] decl r → ProgramBreaks program r
