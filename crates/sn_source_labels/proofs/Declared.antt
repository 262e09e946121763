-- What a name stands for is held where all that stands around it is, and so are the boxes within declarations.
use Rattle.std.proofs.Common.{◌≡◌, ℕ, Bool, true, false, cond, List, [], ◌∷◌, ◌++◌, ◌⊎◌, inl, inr, map as each, Option, Some, None, option_map, refl, sym, subst}
use Rattle.std.specs.List.{flat_map}
use Rattle.std.specs.Option.{option_or}
use Rattle.std.proofs.lemmas.Option.{none-some, same_Some}
use Rattle.sn_ast.specs.declared.declaration.BoxDecl.{BoxDecl}
use Rattle.sn_ast.specs.declared.declaration.Decl.{Decl}
use Rattle.sn_ast.specs.declared.declaration.Decl.TheFolds.{fold-roll-Decl, fold-roll-NetDecl, ind-Decl, map-Decl}
use Rattle.sn_ast.specs.declared.declaration.Decl.TheOpen.{Decl-F}
use Rattle.sn_ast.specs.declared.declaration.Decl.TheViews.{out-NetDecl, out-roll-Decl, out-roll-NetDecl, roll-Decl, roll-NetDecl}
use Rattle.sn_ast.specs.declared.declaration.NetDecl.{NetDecl, NetDecl-F, fold-NetDecl}
use Rattle.sn_ast.specs.declared.label.Ident.{Ident}
use Rattle.sn_ast.specs.declared.label.Sig.{Sig}
use Rattle.sn_ast.specs.declared.network.NetExpr.{NetExpr}
use Rattle.sn_scope_rules.specs.Declared.{boxes_in, boxes_of, boxes_step, net_step}
use Rattle.sn_scope_rules.specs.Standing.{StandsIn}
use Rattle.sn_scope_rules.specs.Standing.StandsIn.{here, later}
use Rattle.sn_scope_rules.specs.Visible.{Around, first_named, found_at, further_on, has_name, within}
use Rattle.sn_scope_rules.proofs.Held.{Each, HeldBox, HeldDecl, HeldDeclLevel, decl_level, each_cons, each_nil}
use Rattle.sn_scope_rules.proofs.Standing.{in_either}

pub each_append : {A : Type 0} (P : A → Type 0) (xs ys : List A) → Each P xs → Each P ys → Each P (xs ++ ys)
each_append P xs ys first second x at = by (in_either x xs ys at)
  where
    by : StandsIn x xs ⊎ StandsIn x ys → P x
    by (inl there) = first x there
    by (inr there) = second x there

abbrev Both : Type 0
Both = Decl × List Decl

module _ (names : List (List ℕ)) where
  abbrev pub HeldDecls : List Decl → Type 0
  HeldDecls decls = Each (HeldDecl names) decls

  -- each of the declarations around is held
  abbrev pub HeldAround : Around → Type 0
  HeldAround around = Each HeldDecls around

  first_held : (name : List ℕ) (decls : List Decl) (found : Both) → HeldDecls decls → first_named name decls ≡ Some found → HeldDecl names found.0 × HeldDecls found.1
  first_held name [] found held is = absurd (none-some found is)
  first_held name (decl ∷ decls) found held is = by (has_name name decl) (λ f some. first_held name decls f (λ y at. held y (later at)) some) is
    where
      Is : Both → Type 0
      Is f = HeldDecl names f.0 × HeldDecls f.1

      Rest : Type 0
      Rest = (f : Both) → first_named name decls ≡ Some f → Is f

      further : (o : Option Both) → first_named name decls ≡ o → Rest → option_map (further_on decl) o ≡ Some found → Is found
      further None none rest same = absurd (none-some found same)
      further (Some f) some rest same =
          let first = rest f some in
          subst Is (same_Some (further_on decl f) found same) (first.0, each_cons (HeldDecl names) decl f.1 (held decl here) first.1)

      by : (b : Bool) → Rest → cond b (Some (decl, [])) (option_map (further_on decl) (first_named name decls)) ≡ Some found → Is found
      by true rest same = subst Is (same_Some (decl, []) found same) (held decl here, each_nil (HeldDecl names))
      by false rest same = further (first_named name decls) refl rest same

  pub found_held : (around : Around) (name : List ℕ) (found : Decl × Around) → HeldAround around → found_at around name ≡ Some found → HeldDecl names found.0 × HeldAround found.1
  found_held [] name found held is = absurd (none-some found is)
  found_held (decls ∷ outer) name found held is = by (first_named name decls) refl (λ same. found_held outer name found (λ y at. held y (later at)) same) is
    where
      Is : Decl × Around → Type 0
      Is f = HeldDecl names f.0 × HeldAround f.1

      outside : HeldAround outer
      outside = λ y at. held y (later at)

      by : (o : Option Both) → first_named name decls ≡ o → (found_at outer name ≡ Some found → Is found) → option_or (option_map (within outer) o) (found_at outer name) ≡ Some found → Is found
      by None none rest same = rest same
      by (Some f) some rest same =
          let first = first_held name decls f (held decls here) some in
          subst Is (same_Some (within outer f) found same) (first.0, each_cons HeldDecls f.1 outer first.1 outside)

  -- boxes
  abbrev Boxes : Type 0
  Boxes = List BoxDecl

  abbrev HeldBoxes : Boxes → Type 0
  HeldBoxes boxes = Each (HeldBox names) boxes

  net_boxes : NetDecl → Boxes
  net_boxes = fold-NetDecl Boxes Boxes boxes_step net_step

  abbrev DeclBoxes : Decl → Type 0
  DeclBoxes decl = HeldDecl names decl → HeldBoxes (boxes_of decl)

  abbrev NetBoxes : NetDecl → Type 0
  NetBoxes net = HeldDecls (out-NetDecl net).decls → HeldBoxes (net_boxes net)

  abbrev Inner : Type 0
  Inner = (d : Decl) × DeclBoxes d

  each_boxes : (decls : List Inner) → HeldDecls (each (λ (e : Inner). e.0) decls) → HeldBoxes (flat_map (λ boxes. boxes) (each boxes_of (each (λ (e : Inner). e.0) decls)))
  each_boxes [] held = each_nil (HeldBox names)
  each_boxes (d ∷ decls) held =
      each_append (HeldBox names) (boxes_of d.0) (flat_map (λ boxes. boxes) (each boxes_of (each (λ (e : Inner). e.0) decls))) (d.1 (held d.0 here)) (each_boxes decls (λ y at. held y (later at)))

  rolled : (x : Decl-F Decl NetDecl) → (HeldDeclLevel names x → HeldBoxes (boxes_step (map-Decl Decl NetDecl Boxes Boxes boxes_of net_boxes x))) → DeclBoxes (roll-Decl x)
  unfolding net_boxes
  rolled x so held =
      subst HeldBoxes (sym (fold-roll-Decl Boxes Boxes boxes_step net_step x)) (so (subst (HeldDeclLevel names) (out-roll-Decl x) (decl_level names (roll-Decl x) held)))

  net_held : (name : Ident) (sig : Option Sig) (decls : List Inner) (connect : NetExpr) → NetBoxes (roll-NetDecl (record { name = name; sig = sig; decls = each (λ (e : Inner). e.0) decls; connect = connect }))
  unfolding net_boxes
  net_held name sig decls connect held =
      let net : NetDecl-F Decl NetDecl = record { name = name; sig = sig; decls = each (λ (e : Inner). e.0) decls; connect = connect } in
      subst HeldBoxes (sym (fold-roll-NetDecl Boxes Boxes boxes_step net_step net)) (each_boxes decls (subst (λ (form : NetDecl-F Decl NetDecl). HeldDecls form.decls) (out-roll-NetDecl net) held))

  decl_held : (d : Decl) → DeclBoxes d
  decl_held = ind-Decl DeclBoxes NetBoxes
      (λ x y is. subst (λ z. DeclBoxes (roll-Decl z)) is
      (elim y as (λ z. DeclBoxes (roll-Decl (map-Decl _ _ Decl NetDecl (λ e. e.0) (λ e. e.0) z))) [
        | Decl-F.BoxDecl b ↦ rolled (Decl-F.BoxDecl b) (λ held. each_cons (HeldBox names) b [] held.0 (each_nil (HeldBox names)))
        | Decl-F.NetDecl net ↦ rolled (Decl-F.NetDecl net.0) (λ held. net.1 held.1)
        | Decl-F.TypeDecl name parts ↦ rolled (Decl-F.TypeDecl name parts) (λ held. each_nil (HeldBox names))
        | Decl-F.SigDecl name sig ↦ rolled (Decl-F.SigDecl name sig) (λ held. each_nil (HeldBox names))
      ]))
      (λ x y is. subst (λ z. NetBoxes (roll-NetDecl z)) is (net_held y.name y.sig y.decls y.connect))

  pub boxes_held : (decls : List Decl) → HeldDecls decls → HeldBoxes (boxes_in decls)
  boxes_held [] held = each_nil (HeldBox names)
  boxes_held (d ∷ decls) held = each_append (HeldBox names) (boxes_of d) (boxes_in decls) (decl_held d (held d here)) (boxes_held decls (λ y at. held y (later at)))
