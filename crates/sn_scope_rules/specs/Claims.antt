-- The nets of a program that have a signature, and what is claimed of each.
use Rattle.std.specs.Prelude.{◌≡◌, ℕ, ◌≤◌, ◌==◌, ◌+◌, Bool, true, false, ◌&&◌, List, [], ◌∷◌, ◌++◌, length, codes, Some, None, map as each, sum}
use Rattle.std.specs.Str.{bytes_eq}
use Rattle.sn_ast.specs.declared.declaration.Decl.{Decl}
use Rattle.sn_ast.specs.declared.declaration.Decl.TheOpen.{Decl-F}
use Rattle.sn_ast.specs.declared.declaration.Decl.TheViews.{out-Decl, out-NetDecl}
use Rattle.sn_ast.specs.declared.declaration.NetDecl.{NetDecl}
use Rattle.sn_ast.specs.declared.label.Ident.{Ident}
use Rattle.sn_ast.specs.declared.label.Sig.{Sig}
use Rattle.sn_net.specs.Net.{nodes}
use Rattle.sn_net.specs.declared.expr.BoxProgram.{BoxProgram}
use Rattle.sn_net.specs.declared.net.Claim.{Claim}
use Rattle.sn_net.specs.declared.net.Net.{Net}
use Rattle.sn_scope.specs.Trees.{most_levels, most_nodes}
use Rattle.sn_scope_rules.specs.Limits.{Fits}
use Rattle.sn_scope_rules.specs.Standing.{Beside, StandsIn}
use Rattle.sn_scope_rules.specs.Trees.{TreeOf}
use Rattle.sn_scope_rules.specs.Types.{SignatureOf}
use Rattle.sn_scope_rules.specs.Visible.{Around}

-- a net with a signature, and the declarations that stand before it
pub record Signed : Type 0 where
  pub net : NetDecl
  pub sig : Sig
  pub outside : Around

abbrev pub name_of : Signed → Ident
name_of signed = (out-NetDecl signed.net).name

abbrev pub is_net : Decl-F Decl NetDecl → Bool
is_net (Decl-F.BoxDecl declaration) = false
is_net (Decl-F.NetDecl net) = true
is_net (Decl-F.TypeDecl name parts) = false
is_net (Decl-F.SigDecl name sig) = false

-- the nets with a signature among declarations that stand behind others of their scope, with the scopes around it: in the order of the places of their names, so a net stands
-- before those that are declared in it
pub data SignedIn : List Decl → Around → List Decl → List Signed → Type 0 where
  no_more : {before : List Decl} {outer : Around} → SignedIn before outer [] []
  no_net : {before decls : List Decl} {outer : Around} {decl : Decl} {more : List Signed} →
      is_net (out-Decl decl) ≡ false → SignedIn (before ++ decl ∷ []) outer decls more → SignedIn before outer (decl ∷ decls) more
  unsigned_net : {before decls : List Decl} {outer : Around} {decl : Decl} {inner more : List Signed} (net : NetDecl) →
      out-Decl decl ≡ Decl-F.NetDecl net → (out-NetDecl net).sig ≡ None →
      SignedIn [] (before ∷ outer) (out-NetDecl net).decls inner → SignedIn (before ++ decl ∷ []) outer decls more → SignedIn before outer (decl ∷ decls) (inner ++ more)
  signed_net : {before decls : List Decl} {outer : Around} {decl : Decl} {inner more : List Signed} (net : NetDecl) (sig : Sig) →
      out-Decl decl ≡ Decl-F.NetDecl net → (out-NetDecl net).sig ≡ Some sig →
      SignedIn [] (before ∷ outer) (out-NetDecl net).decls inner → SignedIn (before ++ decl ∷ []) outer decls more →
      SignedIn before outer (decl ∷ decls) (record { net = net; sig = sig; outside = before ∷ outer } ∷ (inner ++ more))

-- an outermost net with the name `main`
abbrev pub is_main : Signed → Bool
is_main signed = (length signed.outside == 1) && bytes_eq (name_of signed).text (codes "main")

abbrev pub HasMain : List Signed → Type 0
HasMain all = (main : Signed) × StandsIn main all × (is_main main ≡ true)

-- the tree of a net's network, which sees what the net declares
abbrev pub TreeOfNet : List (List ℕ) → List BoxProgram → Signed → Net → Type 0
TreeOfNet names boxes signed tree = TreeOf names boxes ((out-NetDecl signed.net).decls ∷ signed.outside) (out-NetDecl signed.net).connect tree

-- what is claimed of a net: its tree, and the types of its signature, which is read outside its braces
pub record ClaimOf (names : List (List ℕ)) (boxes : List BoxProgram) (signed : Signed) (claim : Claim) : Type 0 where
  pub place : claim.place ≡ (name_of signed).at
  pub tree : TreeOfNet names boxes signed claim.net
  pub types : SignatureOf names signed.outside signed.sig claim.input claim.output

abbrev pub all_nodes : List Net → ℕ
all_nodes trees = sum (each nodes trees)

-- the trees of nets, none of which is too high or has too wide a face in it, and which have together no more nodes than there may be
pub record AreFitting (names : List (List ℕ)) (boxes : List BoxProgram) (all : List Signed) (trees : List Net) : Type 0 where
  pub each_fits : Beside (λ signed tree. TreeOfNet names boxes signed tree × Fits boxes most_levels tree) all trees
  pub room : all_nodes trees ≤ most_nodes

-- the net whose name stands at the place is the first whose tree is too high, has too wide a face in it, or has too many nodes together with the trees of the nets before it;
-- or it has no tree, as no series of fewer than two parts has, which no source spells
pub record IsTooLarge (names : List (List ℕ)) (boxes : List BoxProgram) (all : List Signed) (at : ℕ) : Type 0 where
  pub before : List Signed
  pub net : Signed
  pub behind : List Signed
  pub order : all ≡ before ++ net ∷ behind
  pub place : (name_of net).at ≡ at
  pub trees : List Net
  pub fit : AreFitting names boxes before trees
  pub too_large : (tree : Net) → TreeOfNet names boxes net tree → Fits boxes most_levels tree → all_nodes trees + nodes tree ≤ most_nodes → ⊥
