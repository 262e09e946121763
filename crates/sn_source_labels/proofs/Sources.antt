-- The labels of a program's claims and boxes.
use Rattle.std.proofs.Common.{◌≡◌, ℕ, zero, suc, List, [], ◌∷◌, ◌++◌, map as each, Some, slice_get, sym, subst}
use Rattle.std.specs.Prelude.{Ok}
use Rattle.std.specs.List.{list_any}
use Rattle.std.proofs.lemmas.Option.{none-some, same_Some}
use Rattle.sn_ast.specs.declared.declaration.Decl.{Decl}
use Rattle.sn_ast.specs.declared.declaration.Decl.TheOpen.{Decl-F}
use Rattle.sn_ast.specs.declared.declaration.Decl.TheViews.{out-NetDecl}
use Rattle.sn_ast.specs.declared.declaration.Program.{Program}
use Rattle.sn_net.specs.declared.expr.BoxProgram.{BoxProgram}
use Rattle.sn_net.specs.declared.net.Claim.{Claim}
use Rattle.sn_box_scope.specs.Boxes.{box_at}
use Rattle.sn_labels.specs.Labels.{is_of_box, is_of_net}
use Rattle.sn_pieces.specs.Known.{is_known}
use Rattle.sn_scope.specs.Numbering.{names_of}
use Rattle.sn_scope.specs.Resolution.{resolution}
use Rattle.sn_scope.specs.declared.resolved.Parts.{Parts}
use Rattle.sn_scope_rules.specs.Claims.{ClaimOf, Signed, SignedIn}
use Rattle.sn_scope_rules.specs.Claims.SignedIn.{no_more, no_net, signed_net, unsigned_net}
use Rattle.sn_scope_rules.specs.Declared.{boxes_in}
use Rattle.sn_scope_rules.specs.Results.{IsResolved, boxes_of}
use Rattle.sn_scope_rules.specs.Standing.{Beside}
use Rattle.sn_scope_rules.specs.Standing.StandsIn.{here, later}
use Rattle.sn_scope_rules.specs.Visible.{Around}
use Rattle.sn_scope_rules.proofs.Entries.{program_held}
use Rattle.sn_scope_rules.proofs.Held.{Each, HeldBox, HeldDecl, HeldDeclLevel, HeldNet, decl_level, each_cons, each_nil}
use Rattle.sn_scope_rules.proofs.Results.{is_resolved}
use Rattle.sn_stream_labels.specs.Known.{Knows}
use Rattle.sn_source_labels.proofs.Declared.{HeldAround, HeldDecls, boxes_held, each_append}
use Rattle.sn_source_labels.proofs.Parts.{Known, any_covered, box_covered, each_made}
use Rattle.sn_source_labels.proofs.Trees.{tree_covered}

module _ (names : List (List ℕ)) where
  -- what stands around a net, and what stands in it
  abbrev HeldSigned : Signed → Type 0
  HeldSigned signed = HeldAround names signed.outside × HeldDecls names (out-NetDecl signed.net).decls × HeldNet names (out-NetDecl signed.net).connect

  signed_held : (before : List Decl) (outer : Around) (decls : List Decl) (all : List Signed) → SignedIn before outer decls all → HeldDecls names before → HeldAround names outer → HeldDecls names decls
      → Each HeldSigned all
  signed_held before outer decls all no_more stood outside held = each_nil HeldSigned
  signed_held before outer decls all (no_net {decl} not rest) stood outside held =
      signed_held _ _ _ _ rest (each_append (HeldDecl names) before (decl ∷ []) stood (each_cons (HeldDecl names) decl [] (held decl here) (each_nil (HeldDecl names)))) outside (λ y at. held y (later at))
  signed_held before outer decls all (unsigned_net {decl} {inner} {more} net is none within rest) stood outside held =
      let level : HeldDeclLevel names (Decl-F.NetDecl net) = subst (HeldDeclLevel names) is (decl_level names decl (held decl here)) in
      each_append HeldSigned inner more
      (signed_held _ _ _ _ within (each_nil (HeldDecl names)) (each_cons (HeldDecls names) before outer stood outside) level.1)
      (signed_held _ _ _ _ rest (each_append (HeldDecl names) before (decl ∷ []) stood (each_cons (HeldDecl names) decl [] (held decl here) (each_nil (HeldDecl names)))) outside (λ y at. held y (later at)))
  signed_held before outer decls all (signed_net {decl} {inner} {more} net sig is some within rest) stood outside held =
      let level : HeldDeclLevel names (Decl-F.NetDecl net) = subst (HeldDeclLevel names) is (decl_level names decl (held decl here)) in
      let around : HeldAround names (before ∷ outer) = each_cons (HeldDecls names) before outer stood outside in
      each_cons HeldSigned (record { net = net; sig = sig; outside = before ∷ outer }) (inner ++ more) (around, level.1, level.0.1)
      (each_append HeldSigned inner more
      (signed_held _ _ _ _ within (each_nil (HeldDecl names)) around level.1)
      (signed_held _ _ _ _ rest (each_append (HeldDecl names) before (decl ∷ []) stood (each_cons (HeldDecl names) decl [] (held decl here) (each_nil (HeldDecl names)))) outside (λ y at. held y (later at))))

  claim_covered : (boxes : List BoxProgram) (all : List Signed) (claims : List Claim) (k : ℕ) (claim : Claim) → Beside (ClaimOf names boxes) all claims → Each HeldSigned all → slice_get claims k ≡ Some claim
      → Known names (is_of_net claim.net)
  claim_covered boxes [] [] k claim beside held at = absurd (none-some claim at)
  claim_covered boxes [] (c ∷ claims) k claim beside held at = absurd beside
  claim_covered boxes (signed ∷ all) [] k claim beside held at = absurd beside
  claim_covered boxes (signed ∷ all) (c ∷ claims) zero claim beside held at =
      let around = held signed here in
      subst (λ (x : Claim). Known names (is_of_net x.net)) (same_Some c claim at)
      (tree_covered names boxes _ _ _ beside.0.tree (each_cons (HeldDecls names) (out-NetDecl signed.net).decls signed.outside around.1 around.0) around.2)
  claim_covered boxes (signed ∷ all) (c ∷ claims) (suc k) claim beside held at = claim_covered boxes all claims k claim beside.1 (λ y there. held y (later there)) at

  boxes_covered : (decls : List Decl) → HeldDecls names decls → Known names (λ l. list_any (λ program. is_of_box program l) (each (box_at names) (boxes_in decls)))
  boxes_covered decls held =
      any_covered names is_of_box (each (box_at names) (boxes_in decls))
      (each_made names (box_at names) (HeldBox names) (λ program. Known names (is_of_box program)) (box_covered names) (boxes_in decls) (boxes_held names decls held))

-- the names of a program know the labels of its claims and boxes
pub source_knows : (program : Program) (parts : Parts) (k : ℕ) (claim : Claim) → resolution program ≡ Ok parts → slice_get parts.claims k ≡ Some claim → Knows (is_known parts.names) parts.boxes claim.net
source_knows program parts k claim resolved at =
    let is : IsResolved program parts = (is_resolved program parts).0 resolved in
    let names = names_of program in
    let held = program_held program in
    let knows : Knows (is_known names) (boxes_of program) claim.net = record {
      of_net = claim_covered names (boxes_of program) is.all parts.claims k claim is.claims
          (signed_held names [] [] program.decls is.all is.signed (each_nil (HeldDecl names)) (each_nil (HeldDecls names)) held) at;
      of_boxes = boxes_covered names program.decls held;
    } in
    subst (λ (x : List (List ℕ) × List BoxProgram). Knows (is_known x.0) x.1 claim.net) (λ i. (sym is.names i, sym is.boxes i)) knows
