-- Checks of networks find what breaks their rules.
use Rattle.std.proofs.Common.{◌≡◌, ℕ, Bool, List, [], ◌∷◌, length, map as each, Option, Some, None, fold, ◌⊎◌, inl, inr, refl, sym, ap, ◌∙◌, subst, subst₂}
use Rattle.std.proofs.lemmas.List.{length-map}
use Rattle.sn_ast.specs.declared.label.Ident.{Ident}
use Rattle.sn_ast.specs.declared.label.Variant.{Variant}
use Rattle.sn_ast.specs.declared.network.ArmAt.{ArmAt}
use Rattle.sn_ast.specs.declared.network.NetExpr.{NetExpr, fold-roll-NetExpr}
use Rattle.sn_ast.specs.declared.network.NetForm.{NetForm, fold-NetForm}
use Rattle.sn_ast.specs.declared.network.NetForm.TheFolds.{fold-roll-NetForm, ind-NetExpr, map-NetForm}
use Rattle.sn_ast.specs.declared.network.NetForm.TheOpen.{NetForm-F}
use Rattle.sn_ast.specs.declared.network.NetForm.TheViews.{out-NetForm, out-roll-NetForm, out-roll-NetExpr, roll-NetForm, roll-NetExpr}
use Rattle.sn_ast.specs.declared.network.TemplateAt.{TemplateAt}
use Rattle.sn_ast.specs.declared.tag_expr.TExpr.{TExpr}
use Rattle.sn_label_scope.specs.Labels.{variant_at, variant_required}
use Rattle.sn_label_scope.specs.Refusals.{Check, required}
use Rattle.sn_label_scope.specs.declared.refusal.Reason.TheVariants.{Unknown, Arity, GuardTag}
use Rattle.sn_label_scope.specs.declared.refusal.Refusal.{Refusal}
use Rattle.sn_scope.specs.Filters.{filter_required, is_between}
use Rattle.sn_scope.specs.Networks.{all_required, guard_required, is_part, network_required, required_step}
use Rattle.sn_scope.specs.Scopes.{meaning_of}
use Rattle.sn_scope.specs.declared.scopes.Scopes.{Scopes}
use Rattle.sn_scope_rules.specs.Filters.{FilterBreaks}
use Rattle.sn_scope_rules.specs.Labels.{LabelsBreak}
use Rattle.sn_scope_rules.specs.Networks.{FormBreaks, NetworkBreaks, form_of, parts_in, parts_of, place_of}
use Rattle.sn_scope_rules.specs.Networks.FormBreaks.{branch_count, in_cell_pattern, in_exit, in_filter, no_such_guard_tag, no_such_part, pattern_count}
use Rattle.sn_scope_rules.specs.Networks.NetworkBreaks.{in_form}
use Rattle.sn_scope_rules.specs.Standing.{StandsIn, StandsWithin}
use Rattle.sn_scope_rules.specs.Standing.StandsIn.{here, later}
use Rattle.sn_scope_rules.specs.Standing.StandsWithin.{deeper, itself}
use Rattle.sn_scope_rules.proofs.Checks.{Among, Fails, Finds, among_cases, among_cons, among_none, finds_both, finds_each, finds_nothing, finds_required, finds_same}
use Rattle.sn_scope_rules.proofs.Filters.{OtherTag, filter_finds, other_tags}
use Rattle.sn_scope_rules.proofs.Held.{Each, HeldGuard, HeldLevel, HeldNet, net_level}
use Rattle.sn_scope_rules.proofs.Labels.{labels_break}
use Rattle.sn_scope_rules.specs.Visible.{Around}
use Rattle.sn_scope_rules.proofs.Visible.{Agrees, part_stands}
use Rattle.sn_scope_rules.proofs.Standing.{within_cases}

module _ (names : List (List ℕ)) (scopes : Scopes) (around : Around) (same : Agrees scopes around) where
  abbrev Breaks : NetExpr → Refusal → Type 0
  Breaks = NetworkBreaks around

  -- what is refused in a form, and in the networks that it is made of
  abbrev LevelBreaks : ℕ → NetForm-F NetForm NetExpr → Refusal → Type 0
  LevelBreaks place x r = FormBreaks around place x r ⊎ Among Breaks (parts_in x) r

  -- what is refused in a network is refused in its form, or in one of its parts
  abbrev Here : NetExpr → Refusal → Type 0
  Here net r = LevelBreaks (place_of net) (form_of net) r

  network_to : (net : NetExpr) (r : Refusal) → Here net r → Breaks net r
  network_to net r (inl one) = in_form itself one
  network_to net r (inr one) = nested one.0 one.1 one.2
    where
      nested : (part : NetExpr) → StandsIn part (parts_of net) → Breaks part r → Breaks net r
      nested part at (in_form inner breaks) = in_form (deeper at inner) breaks

  network_from : (net : NetExpr) (r : Refusal) → Breaks net r → Here net r
  network_from net r (in_form {part} at breaks) = sides (within_cases parts_of Form part net at breaks)
    where
      Form : NetExpr → Type 0
      Form n = FormBreaks around (place_of n) (form_of n) r

      sides : Form net ⊎ ((part : NetExpr) × StandsIn part (parts_of net) × ((y : NetExpr) × StandsWithin parts_of y part × Form y)) → Here net r
      sides (inl one) = inl one
      sides (inr one) = inr (one.0, one.1, in_form one.2.1 one.2.2)

  -- the check of a form
  abbrev form_check : NetForm → ℕ → Check
  form_check = fold-NetForm (ℕ → Check) Check (required_step names scopes) (λ n. n.form n.at)

  abbrev check_of : NetExpr → Check
  check_of = network_required names scopes

  abbrev FormFinds : NetForm → Type 0
  FormFinds form = HeldLevel names (out-NetForm form) → (place : ℕ) → Finds (form_check form place) (LevelBreaks place (out-NetForm form))

  abbrev NetworkFinds : NetExpr → Type 0
  NetworkFinds net = HeldNet names net → Finds (check_of net) (Breaks net)

  level : (x : NetForm-F NetForm NetExpr) → (HeldLevel names x → (place : ℕ) → Finds (required_step names scopes (map-NetForm NetForm NetExpr (ℕ → Check) Check form_check check_of x) place) (LevelBreaks place x)) → FormFinds (roll-NetForm x)
  level x found = subst₂ (λ (check : ℕ → Check) (form : NetForm-F NetForm NetExpr). HeldLevel names form → (place : ℕ) → Finds (check place) (LevelBreaks place form))
      (sym (fold-roll-NetForm (ℕ → Check) Check (required_step names scopes) (λ n. n.form n.at) x)) (sym (out-roll-NetForm x)) found

  -- a network finds what its form and its parts find
  whole : (place : ℕ) (form : NetForm) → FormFinds form → NetworkFinds (roll-NetExpr (record { at = place; form = form }))
  whole place form found held = finds_same (check_of net) (Here net) (Breaks net)
      (subst₂ (λ (check : Check) (n : _). Finds check (LevelBreaks n.at (out-NetForm n.form)))
      (sym (fold-roll-NetExpr (ℕ → Check) Check (required_step names scopes) (λ n. n.form n.at) (record { at = place; form = form }))) (sym (out-roll-NetExpr (record { at = place; form = form }))) (found known place))
      (network_to net) (network_from net)
    where
      net : NetExpr
      net = roll-NetExpr (record { at = place; form = form })

      known : HeldLevel names (out-NetForm form)
      known = subst (λ n. HeldLevel names (out-NetForm n.form)) (out-roll-NetExpr (record { at = place; form = form })) (net_level names net held)

  abbrev Found : Type 0
  Found = (n : NetExpr) × NetworkFinds n

  abbrev exprs : List Found → List NetExpr
  exprs parts = each (λ (e : Found). e.0) parts

  -- parts find what is refused in one of them
  all_find : (parts : List Found) → Each (HeldNet names) (exprs parts) → Finds (all_required (each check_of (exprs parts))) (Among Breaks (exprs parts))
  all_find [] held = finds_nothing (Among Breaks []) (among_none Breaks)
  all_find (part ∷ parts) held = finds_same (λ least. all_required (each check_of (exprs parts)) (check_of part.0 least)) (λ r. Breaks part.0 r ⊎ Among Breaks (exprs parts) r) (Among Breaks (part.0 ∷ exprs parts))
      (finds_both (check_of part.0) (all_required (each check_of (exprs parts))) (Breaks part.0) (Among Breaks (exprs parts)) (part.1 (held part.0 here)) (all_find parts (λ n at. held n (later at)))) (among_cons Breaks part.0 (exprs parts)) (among_cases Breaks part.0 (exprs parts))

  -- one part alone
  one_part : (e : NetExpr) (r : Refusal) → Among Breaks (e ∷ []) r → Breaks e r
  one_part e r one = alone (among_cases Breaks e [] r one)
    where
      alone : Breaks e r ⊎ Among Breaks [] r → Breaks e r
      alone (inl breaks) = breaks
      alone (inr none) = absurd (among_none Breaks r none)

  name_finds : (name : Ident) → HeldLevel names (NetForm-F.Name name) → (place : ℕ) → Finds (required (is_part (meaning_of scopes name.text)) Unknown name.at) (LevelBreaks place (NetForm-F.Name name))
  name_finds name held place = finds_same (required (is_part (meaning_of scopes name.text)) Unknown name.at) (Fails (is_part (meaning_of scopes name.text)) Unknown name.at) (LevelBreaks place (NetForm-F.Name name))
      (finds_required (is_part (meaning_of scopes name.text)) Unknown name.at) (λ r fails. inl (subst (FormBreaks around place (NetForm-F.Name name)) fails.1 (no_such_part (sym (part_stands scopes around same name.text) ∙ fails.0)))) from
    where
      broken : (r : Refusal) → FormBreaks around place (NetForm-F.Name name) r → Fails (is_part (meaning_of scopes name.text)) Unknown name.at r
      broken r (no_such_part missing) = (part_stands scopes around same name.text ∙ missing, refl)

      from : (r : Refusal) → LevelBreaks place (NetForm-F.Name name) r → Fails (is_part (meaning_of scopes name.text)) Unknown name.at r
      from r (inl one) = broken r one
      from r (inr one) = absurd (among_none Breaks r one)

  identity_finds : HeldLevel names NetForm-F.Identity → (place : ℕ) → Finds (λ least. least) (LevelBreaks place NetForm-F.Identity)
  identity_finds held place = finds_nothing (LevelBreaks place NetForm-F.Identity) nothing
    where
      unbroken : (r : Refusal) → FormBreaks around place NetForm-F.Identity r → ⊥
      unbroken r one = elim one [ ]

      nothing : (r : Refusal) → LevelBreaks place NetForm-F.Identity r → ⊥
      nothing r (inl one) = unbroken r one
      nothing r (inr one) = among_none Breaks r one

  filters_find : (pattern : Variant) (arms : List ArmAt) (templates : List TemplateAt) → HeldLevel names (NetForm-F.Filter pattern arms templates) → (place : ℕ) → Finds (filter_required names place pattern arms templates) (LevelBreaks place (NetForm-F.Filter pattern arms templates))
  filters_find pattern arms templates held place = finds_same (filter_required names place pattern arms templates) (FilterBreaks place pattern arms templates) (LevelBreaks place (NetForm-F.Filter pattern arms templates))
      (filter_finds names place pattern arms templates held.0.0 held.0.1.0 held.0.1.1) (λ r one. inl (in_filter one)) from
    where
      broken : (r : Refusal) → FormBreaks around place (NetForm-F.Filter pattern arms templates) r → FilterBreaks place pattern arms templates r
      broken r (in_filter one) = one

      from : (r : Refusal) → LevelBreaks place (NetForm-F.Filter pattern arms templates) r → FilterBreaks place pattern arms templates r
      from r (inl one) = broken r one
      from r (inr one) = absurd (among_none Breaks r one)

  abbrev InPattern : Variant → Refusal → Type 0
  InPattern pattern = LabelsBreak pattern.labels

  cell_finds : (patterns : List Variant) → HeldLevel names (NetForm-F.Sync patterns) → (place : ℕ) → Finds (λ least. fold (variant_required names) (required (is_between 2 8 (length patterns)) Arity place least) patterns) (LevelBreaks place (NetForm-F.Sync patterns))
  cell_finds patterns held place = finds_same (λ least. fold (variant_required names) (required (is_between 2 8 (length patterns)) Arity place least) patterns) InCell (LevelBreaks place (NetForm-F.Sync patterns))
      (finds_both (required (is_between 2 8 (length patterns)) Arity place) (λ least. fold (variant_required names) least patterns) (Fails (is_between 2 8 (length patterns)) Arity place) (Among InPattern patterns)
      (finds_required (is_between 2 8 (length patterns)) Arity place) (finds_each (variant_required names) InPattern patterns (λ pattern at. labels_break names pattern.labels (held.0 pattern at)))) to from
    where
      InCell : Refusal → Type 0
      InCell r = Fails (is_between 2 8 (length patterns)) Arity place r ⊎ Among InPattern patterns r

      to : (r : Refusal) → InCell r → LevelBreaks place (NetForm-F.Sync patterns) r
      to r (inl fails) = inl (subst (FormBreaks around place (NetForm-F.Sync patterns)) fails.1 (pattern_count fails.0))
      to r (inr one) = inl (in_cell_pattern one.1 one.2)

      broken : (r : Refusal) → FormBreaks around place (NetForm-F.Sync patterns) r → InCell r
      broken r (pattern_count wrong) = inl (wrong, refl)
      broken r (in_cell_pattern {pattern = pattern} at one) = inr (pattern, at, one)

      from : (r : Refusal) → LevelBreaks place (NetForm-F.Sync patterns) r → InCell r
      from r (inl one) = broken r one
      from r (inr one) = absurd (among_none Breaks r one)

  serial_finds : (parts : List Found) → HeldLevel names (NetForm-F.Serial (exprs parts)) → (place : ℕ) → Finds (all_required (each check_of (exprs parts))) (LevelBreaks place (NetForm-F.Serial (exprs parts)))
  serial_finds parts held place = finds_same (all_required (each check_of (exprs parts))) (Among Breaks (exprs parts)) (LevelBreaks place (NetForm-F.Serial (exprs parts))) (all_find parts held.1) (λ r one. inr one) from
    where
      unbroken : (r : Refusal) → FormBreaks around place (NetForm-F.Serial (exprs parts)) r → ⊥
      unbroken r one = elim one [ ]

      from : (r : Refusal) → LevelBreaks place (NetForm-F.Serial (exprs parts)) r → Among Breaks (exprs parts) r
      from r (inl one) = absurd (unbroken r one)
      from r (inr one) = one

  choice_finds : (det : Bool) (parts : List Found) → HeldLevel names (NetForm-F.Choice det (exprs parts)) → (place : ℕ)
      → Finds (λ least. all_required (each check_of (exprs parts)) (required (is_between 2 64 (length (each check_of (exprs parts)))) Arity place least)) (LevelBreaks place (NetForm-F.Choice det (exprs parts)))
  choice_finds det parts held place = finds_same (λ least. all_required (each check_of (exprs parts)) (required (is_between 2 64 (length (each check_of (exprs parts)))) Arity place least)) InChoice (LevelBreaks place (NetForm-F.Choice det (exprs parts)))
      (finds_both (required (is_between 2 64 (length (each check_of (exprs parts)))) Arity place) (all_required (each check_of (exprs parts))) (Fails (is_between 2 64 (length (each check_of (exprs parts)))) Arity place) (Among Breaks (exprs parts))
      (finds_required (is_between 2 64 (length (each check_of (exprs parts)))) Arity place) (all_find parts held.1)) to from
    where
      InChoice : Refusal → Type 0
      InChoice r = Fails (is_between 2 64 (length (each check_of (exprs parts)))) Arity place r ⊎ Among Breaks (exprs parts) r

      as_many : is_between 2 64 (length (each check_of (exprs parts))) ≡ is_between 2 64 (length (exprs parts))
      as_many = ap (is_between 2 64) (length-map (exprs parts) check_of)

      to : (r : Refusal) → InChoice r → LevelBreaks place (NetForm-F.Choice det (exprs parts)) r
      to r (inl fails) = inl (subst (FormBreaks around place (NetForm-F.Choice det (exprs parts))) fails.1 (branch_count (sym as_many ∙ fails.0)))
      to r (inr one) = inr one

      broken : (r : Refusal) → FormBreaks around place (NetForm-F.Choice det (exprs parts)) r → InChoice r
      broken r (branch_count wrong) = inl (as_many ∙ wrong, refl)

      from : (r : Refusal) → LevelBreaks place (NetForm-F.Choice det (exprs parts)) r → InChoice r
      from r (inl one) = broken r one
      from r (inr one) = inr one

  -- a guard names a tag that its exit pattern does not have
  abbrev InGuard : Variant → Option TExpr → Refusal → Type 0
  InGuard exit None r = ⊥
  InGuard exit (Some e) r = OtherTag names exit.labels GuardTag e r

  guard_finds : (exit : Variant) (guard : Option TExpr) → HeldGuard names guard → Finds (guard_required names (variant_at names exit) guard) (InGuard exit guard)
  guard_finds exit None held = finds_nothing (InGuard exit None) (λ r one. one)
  guard_finds exit (Some e) held = other_tags names exit.labels GuardTag e held

  guard_to : (det : Bool) (body : NetExpr) (exit : Variant) (guard : Option TExpr) (place : ℕ) (r : Refusal) → InGuard exit guard r → FormBreaks around place (NetForm-F.Star det body exit guard) r
  guard_to det body exit None place r one = absurd one
  guard_to det body exit (Some e) place r one = subst (FormBreaks around place (NetForm-F.Star det body exit (Some e))) one.2 (no_such_guard_tag one.1)

  star_broken : (det : Bool) (body : NetExpr) (exit : Variant) (guard : Option TExpr) (place : ℕ) (r : Refusal) → FormBreaks around place (NetForm-F.Star det body exit guard) r → InPattern exit r ⊎ InGuard exit guard r
  star_broken det body exit guard place r (in_exit one) = inl one
  star_broken det body exit guard place r (no_such_guard_tag {name = name} other) = inr (name, other, refl)

  star_finds : (det : Bool) (body : Found) (exit : Variant) (guard : Option TExpr) → HeldLevel names (NetForm-F.Star det body.0 exit guard) → (place : ℕ)
      → Finds (λ least. guard_required names (variant_at names exit) guard (variant_required names (check_of body.0 least) exit)) (LevelBreaks place (NetForm-F.Star det body.0 exit guard))
  star_finds det body exit guard held place = finds_same (λ least. guard_required names (variant_at names exit) guard (variant_required names (check_of body.0 least) exit)) InStar (LevelBreaks place (NetForm-F.Star det body.0 exit guard))
      (finds_both (check_of body.0) (λ least. guard_required names (variant_at names exit) guard (variant_required names least exit)) (Breaks body.0) (λ r. InPattern exit r ⊎ InGuard exit guard r) (body.1 (held.1 body.0 here))
      (finds_both (λ least. variant_required names least exit) (guard_required names (variant_at names exit) guard) (InPattern exit) (InGuard exit guard) (labels_break names exit.labels held.0.0) (guard_finds exit guard held.0.1))) to from
    where
      InStar : Refusal → Type 0
      InStar r = Breaks body.0 r ⊎ (InPattern exit r ⊎ InGuard exit guard r)

      to : (r : Refusal) → InStar r → LevelBreaks place (NetForm-F.Star det body.0 exit guard) r
      to r (inl one) = inr (body.0, here, one)
      to r (inr (inl one)) = inl (in_exit one)
      to r (inr (inr one)) = inl (guard_to det body.0 exit guard place r one)

      from : (r : Refusal) → LevelBreaks place (NetForm-F.Star det body.0 exit guard) r → InStar r
      from r (inl one) = inr (star_broken det body.0 exit guard place r one)
      from r (inr one) = inl (one_part body.0 r one)

  split_finds : (det spread : Bool) (body : Found) (tag : Ident) → HeldLevel names (NetForm-F.Split det spread body.0 tag) → (place : ℕ) → Finds (check_of body.0) (LevelBreaks place (NetForm-F.Split det spread body.0 tag))
  split_finds det spread body tag held place = finds_same (check_of body.0) (Breaks body.0) (LevelBreaks place (NetForm-F.Split det spread body.0 tag)) (body.1 (held.1 body.0 here)) (λ r one. inr (body.0, here, one)) from
    where
      unbroken : (r : Refusal) → FormBreaks around place (NetForm-F.Split det spread body.0 tag) r → ⊥
      unbroken r one = elim one [ ]

      from : (r : Refusal) → LevelBreaks place (NetForm-F.Split det spread body.0 tag) r → Breaks body.0 r
      from r (inl one) = absurd (unbroken r one)
      from r (inr one) = one_part body.0 r one

  placed_finds : (body : Found) (node : ℕ) → HeldLevel names (NetForm-F.Placed body.0 node) → (place : ℕ) → Finds (check_of body.0) (LevelBreaks place (NetForm-F.Placed body.0 node))
  placed_finds body node held place = finds_same (check_of body.0) (Breaks body.0) (LevelBreaks place (NetForm-F.Placed body.0 node)) (body.1 (held.1 body.0 here)) (λ r one. inr (body.0, here, one)) from
    where
      unbroken : (r : Refusal) → FormBreaks around place (NetForm-F.Placed body.0 node) r → ⊥
      unbroken r one = elim one [ ]

      from : (r : Refusal) → LevelBreaks place (NetForm-F.Placed body.0 node) r → Breaks body.0 r
      from r (inl one) = absurd (unbroken r one)
      from r (inr one) = one_part body.0 r one

  -- the check of a network finds what breaks its rules
  pub network_finds : (net : NetExpr) → HeldNet names net → Finds (network_required names scopes net) (NetworkBreaks around net)
  network_finds = ind-NetExpr FormFinds NetworkFinds
      (λ x y is. subst (λ z. FormFinds (roll-NetForm z)) is (level (map-NetForm _ _ NetForm NetExpr (λ e. e.0) (λ e. e.0) y) (elim y as (λ z. HeldLevel names (map-NetForm _ _ NetForm NetExpr (λ e. e.0) (λ e. e.0) z) → (place : ℕ) → Finds
      (required_step names scopes (map-NetForm NetForm NetExpr (ℕ → Check) Check form_check check_of (map-NetForm _ _ NetForm NetExpr (λ e. e.0) (λ e. e.0) z)) place)
      (LevelBreaks place (map-NetForm _ _ NetForm NetExpr (λ e. e.0) (λ e. e.0) z))) [
        | NetForm-F.Name name ↦ name_finds name
        | NetForm-F.Identity ↦ identity_finds
        | NetForm-F.Filter pattern arms templates ↦ filters_find pattern arms templates
        | NetForm-F.Sync patterns ↦ cell_finds patterns
        | NetForm-F.Serial parts ↦ serial_finds parts
        | NetForm-F.Choice det branches ↦ choice_finds det branches
        | NetForm-F.Star det body exit guard ↦ star_finds det body exit guard
        | NetForm-F.Split det spread body tag ↦ split_finds det spread body tag
        | NetForm-F.Placed body node ↦ placed_finds body node
      ])))
      (λ x y is. subst (λ z. NetworkFinds (roll-NetExpr z)) is (whole y.at y.form.0 y.form.1))
