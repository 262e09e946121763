-- The trees of the components of a network are those that the network is where it stands.
use Rattle.std.proofs.Common.{◌≡◌, ℕ, ◌<◌, Bool, false, List, [], ◌∷◌, length, map as each, Option, Some, None, option_map, unwrap_or, refl, sym, ap, ◌∙◌, subst, subst₂}
use Rattle.std.proofs.lemmas.Option.{none-some, same_Some}
use Rattle.sn_ast.specs.declared.declaration.Decl.{Decl}
use Rattle.sn_ast.specs.declared.declaration.Decl.TheOpen.{Decl-F}
use Rattle.sn_ast.specs.declared.declaration.Decl.TheViews.{out-Decl, out-NetDecl}
use Rattle.sn_ast.specs.declared.declaration.NetDecl.{NetDecl}
use Rattle.sn_ast.specs.declared.label.Ident.{Ident}
use Rattle.sn_ast.specs.declared.label.Variant.{Variant}
use Rattle.sn_ast.specs.declared.network.ArmAt.{ArmAt}
use Rattle.sn_ast.specs.declared.network.NetExpr.{NetExpr, fold-roll-NetExpr}
use Rattle.sn_ast.specs.declared.network.NetForm.{NetForm, fold-NetForm}
use Rattle.sn_ast.specs.declared.network.NetForm.TheFolds.{fold-roll-NetForm, ind-NetExpr, map-NetForm}
use Rattle.sn_ast.specs.declared.network.NetForm.TheOpen.{NetForm-F}
use Rattle.sn_ast.specs.declared.network.NetForm.TheViews.{out-NetForm, out-roll-NetForm, out-roll-NetExpr, roll-NetForm, roll-NetExpr}
use Rattle.sn_ast.specs.declared.network.TemplateAt.{TemplateAt}
use Rattle.sn_ast.specs.declared.tag_expr.TExpr.{TExpr}
use Rattle.sn_label_scope.specs.Labels.{variant_at}
use Rattle.sn_label_scope.specs.declared.refusal.Refusal.{Refusal}
use Rattle.sn_names.specs.Names.{label_number}
use Rattle.sn_net.specs.Face.{face}
use Rattle.sn_net.specs.declared.expr.BoxProgram.{BoxProgram}
use Rattle.sn_net.specs.declared.net.Net.{Net}
use Rattle.sn_net.specs.declared.net.Net.TheVariants as net
use Rattle.sn_scope.specs.Built.{node_of, part_of, parts_of as parts_of_series}
use Rattle.sn_scope.specs.Filters.{filter_at, identity_at}
use Rattle.sn_scope.specs.Networks.{guard_at, merge_of, named_at, network_at, network_step}
use Rattle.sn_scope.specs.Scopes.{meaning_of}
use Rattle.sn_scope.specs.Trees.{all_some, tree}
use Rattle.sn_scope.specs.declared.network.Component.{Component}
use Rattle.sn_scope.specs.declared.network.Component.TheVariants as component
use Rattle.sn_scope.specs.declared.network.Network.{Network}
use Rattle.sn_scope.specs.declared.network.Network.TheVariants.{Named, Made}
use Rattle.sn_scope.specs.declared.scopes.Meaning.{Meaning}
use Rattle.sn_scope.specs.declared.scopes.Meaning.TheVariants as meaning
use Rattle.sn_scope.specs.declared.scopes.Scopes.{Scopes}
use Rattle.sn_scope.proofs.Levels.{call_within, node-Box, node-Choice, node-Filter, node-Serial, node-Split, node-Star, node-Sync}
use Rattle.sn_scope_rules.specs.Declared.{boxes_before}
use Rattle.sn_scope_rules.specs.Limits.{parts_of as limit_parts}
use Rattle.sn_scope_rules.specs.Networks.{FormBreaks, NetworkBreaks, form_of, parts_in, parts_of, place_of}
use Rattle.sn_scope_rules.specs.Networks.FormBreaks.{no_such_part}
use Rattle.sn_scope_rules.specs.Networks.NetworkBreaks.{in_form}
use Rattle.sn_scope_rules.specs.Refusals.{unknown}
use Rattle.sn_scope_rules.specs.Standing.{Beside, StandsIn}
use Rattle.sn_scope_rules.specs.Standing.StandsIn.{here, later}
use Rattle.sn_scope_rules.specs.Standing.StandsWithin.{deeper, itself}
use Rattle.sn_scope_rules.specs.Trees.{SeriesOf, TreeOf, TreesOf}
use Rattle.sn_scope_rules.specs.Trees.TreeOf.{cell, choice, filter, identity, in_series as series, name_of_box, name_of_net, placed, split, star}
use Rattle.sn_scope_rules.specs.Trees.SeriesOf.{several, two}
use Rattle.sn_scope_rules.specs.Trees.TreesOf.{branch, no_branch}
use Rattle.sn_scope_rules.specs.Visible.{Around, found_at, is_part, stands_for, stands_for_a}
use Rattle.sn_scope_rules.proofs.Held.{Each, each_cons, each_nil}
use Rattle.sn_scope_rules.proofs.Levels.{At, InSeries, Level, Ties, choice_level, leaf_level, level_same, one_level, parts-Box, parts-Choice, parts-Filter, parts-Star, parts-Split, parts-Sync, tied, ties_made, ties_same, two_level}
use Rattle.sn_scope_rules.proofs.Places.{decl_of, found_stands}

module _ (names : List (List ℕ)) (boxes : List BoxProgram) where
  -- what a name of a part is
  abbrev pub NamedTree : Decl-F Decl NetDecl → Around → ℕ → Net → Type 0
  NamedTree (Decl-F.BoxDecl declaration) there at t = t ≡ net.Box at (length (boxes_before there))
  NamedTree (Decl-F.NetDecl called) there at t = TreeOf names boxes ((out-NetDecl called).decls ∷ there) (out-NetDecl called).connect t
  NamedTree (Decl-F.TypeDecl name parts) there at t = ⊥
  NamedTree (Decl-F.SigDecl name sig) there at t = ⊥

  -- the tree of a network, by its form
  abbrev pub FormTree : Around → ℕ → NetForm-F NetForm NetExpr → Net → Type 0
  FormTree around place (NetForm-F.Name name) t = (found : Decl × Around) × (found_at around name.text ≡ Some found) × NamedTree (out-Decl found.0) found.1 name.at t
  FormTree around place NetForm-F.Identity t = t ≡ net.Filter (identity_at place)
  FormTree around place (NetForm-F.Filter pattern arms templates) t = t ≡ net.Filter (filter_at names place pattern arms templates)
  FormTree around place (NetForm-F.Sync patterns) t = t ≡ net.Sync place (each (variant_at names) patterns)
  FormTree around place (NetForm-F.Serial parts) t = SeriesOf names boxes around parts t
  FormTree around place (NetForm-F.Choice det branches) t = (ts : List Net) × Beside (TreeOf names boxes around) branches ts × (t ≡ net.Choice place (merge_of det) ts (each
      (face boxes) ts))
  FormTree around place (NetForm-F.Star det body exit guard) t = (m : Net) × TreeOf names boxes around body m × (t ≡ net.Star place (merge_of det) m (variant_at names exit)
      (guard_at names guard))
  FormTree around place (NetForm-F.Split det spread body tag) t = (m : Net) × TreeOf names boxes around body m × (t ≡ net.Split place (merge_of det) m (label_number names tag.text))
  FormTree around place (NetForm-F.Placed body node) t = TreeOf names boxes around body t

  pub trees_to : (around : Around) (es : List NetExpr) (ts : List Net) → Beside (TreeOf names boxes around) es ts → TreesOf names boxes around es ts
  trees_to around [] [] all = no_branch
  trees_to around [] (t ∷ ts) all = absurd all
  trees_to around (e ∷ es) [] all = absurd all
  trees_to around (e ∷ es) (t ∷ ts) all = branch all.0 (trees_to around es ts all.1)

  pub trees_from : (around : Around) (es : List NetExpr) (ts : List Net) → TreesOf names boxes around es ts → Beside (TreeOf names boxes around) es ts
  trees_from around es ts no_branch = tt
  trees_from around es ts (branch {rest} {more} one others) = (one, trees_from around rest more others)

  named_to : (around : Around) (network : NetExpr) (name : Ident) (t : Net) (decl : Decl) (there : Around) (x : Decl-F Decl NetDecl) → form_of network ≡ NetForm-F.Name name
      → found_at around name.text ≡ Some (decl, there)
      → out-Decl decl ≡ x → NamedTree x there name.at t → TreeOf names boxes around network t
  named_to around network name t decl there (Decl-F.BoxDecl declaration) is found at one = subst (TreeOf names boxes around network) (sym one)
      (name_of_box name decl declaration is found at)
  named_to around network name t decl there (Decl-F.NetDecl called) is found at one = name_of_net name decl called is found at one
  named_to around network name t decl there (Decl-F.TypeDecl own parts) is found at one = absurd one
  named_to around network name t decl there (Decl-F.SigDecl own sig) is found at one = absurd one

  module _ (around : Around) (network : NetExpr) where
    pub form_to : (t : Net) (x : NetForm-F NetForm NetExpr) → form_of network ≡ x → FormTree around (place_of network) x t → TreeOf names boxes around network t
    form_to t (NetForm-F.Name name) is one = named_to around network name t one.0.0 one.0.1 (out-Decl one.0.0) is one.1 refl one.2
    form_to t NetForm-F.Identity is one = subst (TreeOf names boxes around network) (sym one) (identity is)
    form_to t (NetForm-F.Filter pattern arms templates) is one = subst (TreeOf names boxes around network) (sym one) (filter pattern arms templates is)
    form_to t (NetForm-F.Sync patterns) is one = subst (TreeOf names boxes around network) (sym one) (cell patterns is)
    form_to t (NetForm-F.Serial parts) is one = series parts is one
    form_to t (NetForm-F.Choice det branches) is one = subst (TreeOf names boxes around network) (sym one.2) (choice det branches is (trees_to around branches one.0 one.1))
    form_to t (NetForm-F.Star det body exit guard) is one = subst (TreeOf names boxes around network) (sym one.2) (star det body exit guard is one.1)
    form_to t (NetForm-F.Split det spread body tag) is one = subst (TreeOf names boxes around network) (sym one.2) (split det spread body tag is one.1)
    form_to t (NetForm-F.Placed body node) is one = placed body node is one

  pub form_from : (around : Around) (network : NetExpr) (t : Net) → TreeOf names boxes around network t → FormTree around (place_of network) (form_of network) t
  form_from around network t (name_of_net {there} name decl called is found at one) = subst (λ x. FormTree around (place_of network) x t) (sym is) (
    (decl, there),
    found,
    subst
        (λ x. NamedTree x there name.at t) (sym at) one,
  )
  form_from around network t (name_of_box {there} name decl declaration is found at) =
      subst (λ x. FormTree around (place_of network) x t) (sym is) ((decl, there), found, subst (λ x. NamedTree x there name.at t) (sym at) refl)
  form_from around network t (identity is) = subst (λ x. FormTree around (place_of network) x t) (sym is) refl
  form_from around network t (filter pattern arms templates is) = subst (λ x. FormTree around (place_of network) x t) (sym is) refl
  form_from around network t (cell patterns is) = subst (λ x. FormTree around (place_of network) x t) (sym is) refl
  form_from around network t (series parts is one) = subst (λ x. FormTree around (place_of network) x t) (sym is) one
  form_from around network t (choice {made} det branches is all) = subst (λ x. FormTree around (place_of network) x t) (sym is) (made, trees_from around branches made all, refl)
  form_from around network t (star {made} det body exit guard is one) = subst (λ x. FormTree around (place_of network) x t) (sym is) (made, one, refl)
  form_from around network t (split {made} det spread body tag is one) = subst (λ x. FormTree around (place_of network) x t) (sym is) (made, one, refl)
  form_from around network t (placed body node is one) = subst (λ x. FormTree around (place_of network) x t) (sym is) one

  no_series : (around : Around) (t : Net) → SeriesOf names boxes around [] t → ⊥
  no_series around t one = elim one [ ]

  no_single : (around : Around) (e : NetExpr) (t : Net) → SeriesOf names boxes around (e ∷ []) t → ⊥
  no_single around e t one = elim one [ ]

  pub series_two : (around : Around) (a b : NetExpr) (t : Net) → SeriesOf names boxes around (a ∷ b ∷ []) t
      → InSeries boxes (TreeOf names boxes around a) (TreeOf names boxes around b) t
  series_two around a b t (two {left} {right} one other) = (left, right, one, other, refl)

  pub series_more : (around : Around) (a b c : NetExpr) (more : List NetExpr) (t : Net) → SeriesOf names boxes around (a ∷ b ∷ c ∷ more) t
      → InSeries boxes (TreeOf names boxes around a) (SeriesOf names boxes around (b ∷ c ∷ more)) t
  series_more around a b c more t (several {left} {right} one other) = (left, right, one, other, refl)

  -- what the table has for a part that is found
  abbrev pub SeesForm : List Component → Option Meaning → Decl-F Decl NetDecl → Around → Type 0
  SeesForm nets m (Decl-F.BoxDecl declaration) there = (m ≡ Some (meaning.Box (length (boxes_before there)))) × (length (boxes_before there) < length boxes)
  SeesForm nets m (Decl-F.NetDecl called) there = (k : ℕ) × (m ≡ Some (meaning.Net k))
      × Ties boxes (λ levels. part_of boxes levels nets (Named k)) (TreeOf names boxes ((out-NetDecl called).decls ∷ there) (out-NetDecl called).connect)
  SeesForm nets m (Decl-F.TypeDecl name parts) there = Unit {0}
  SeesForm nets m (Decl-F.SigDecl name sig) there = Unit {0}

  abbrev pub Sees : List Component → Scopes → Around → Type 0
  Sees nets scopes around = (n : List ℕ) (decl : Decl) (there : Around) → found_at around n ≡ Some (decl, there) → SeesForm nets (meaning_of scopes n) (out-Decl decl) there

  -- nothing is refused in a network
  abbrev pub Unbroken : Around → NetExpr → Type 0
  Unbroken around network = (r : Refusal) → NetworkBreaks around network r → ⊥

  abbrev pub UnbrokenForm : Around → ℕ → NetForm-F NetForm NetExpr → Type 0
  UnbrokenForm around place x = ((r : Refusal) → FormBreaks around place x r → ⊥) × Each (Unbroken around) (parts_in x)

  pub unbroken_form : (around : Around) (network : NetExpr) → Unbroken around network → UnbrokenForm around (place_of network) (form_of network)
  unbroken_form around network fine = (λ r one. fine r (in_form itself one), λ part at r one. nested part at r one)
    where
      nested : (part : NetExpr) → StandsIn part (parts_of network) → (r : Refusal) → NetworkBreaks around part r → ⊥
      nested part at r (in_form inner breaks) = fine r (in_form (deeper at inner) breaks)

  module _ (nets : List Component) (scopes : Scopes) (around : Around) (sees : Sees nets scopes around) where
    abbrev TiedTo : Network → (Net → Type 0) → Type 0
    TiedTo network L = Ties boxes (λ levels. part_of boxes levels nets network) L

    abbrev form_network : NetForm → ℕ → Network
    form_network = fold-NetForm (ℕ → Network) Network (network_step names scopes) (λ n. n.form n.at)

    abbrev at_of : NetExpr → Network
    at_of = network_at names scopes

    abbrev FormTies : NetForm → Type 0
    FormTies form = (place : ℕ) → UnbrokenForm around place (out-NetForm form) → TiedTo (form_network form place) (FormTree around place (out-NetForm form))

    abbrev NetworkTies : NetExpr → Type 0
    NetworkTies network = Unbroken around network → TiedTo (at_of network) (TreeOf names boxes around network)

    level : (x : NetForm-F NetForm NetExpr) → ((place : ℕ) → UnbrokenForm around place x → TiedTo (network_step names scopes (map-NetForm NetForm NetExpr (ℕ
        → Network) Network form_network at_of x) place) (FormTree around place x)) → FormTies (roll-NetForm x)
    level x ties = subst₂ (λ (made : ℕ → Network) (form : NetForm-F NetForm NetExpr). (place : ℕ) → UnbrokenForm around place form → TiedTo (made place) (FormTree around place form))
        (sym (fold-roll-NetForm (ℕ → Network) Network (network_step names scopes) (λ n. n.form n.at) x)) (sym (out-roll-NetForm x)) ties

    whole : (place : ℕ) (form : NetForm) → FormTies form → NetworkTies (roll-NetExpr (record { at = place; form = form }))
    whole place form ties fine = ties_same boxes (λ levels. part_of boxes levels nets (at_of network)) (FormTree around (place_of network) (form_of network))
        (TreeOf names boxes around network)
        (subst₂ (λ (made : Network) (n : _). TiedTo made (FormTree around n.at (out-NetForm n.form)))
        (sym (fold-roll-NetExpr (ℕ → Network) Network (network_step names scopes) (λ n. n.form n.at) (record { at = place; form = form }))) (sym (out-roll-NetExpr
        (record { at = place; form = form }))) (ties place known))
        (λ t one. form_to around network t (form_of network) refl one) (form_from around network)
      where
        network : NetExpr
        network = roll-NetExpr (record { at = place; form = form })

        known : UnbrokenForm around place (out-NetForm form)
        known = subst (λ n. UnbrokenForm around n.at (out-NetForm n.form)) (out-roll-NetExpr (record { at = place; form = form })) (unbroken_form around network fine)

    abbrev Found : Type 0
    Found = (n : NetExpr) × NetworkTies n

    abbrev exprs : List Found → List NetExpr
    exprs parts = each (λ (e : Found). e.0) parts

    -- the trees of parts, and of parts in series
    abbrev trees_of : ℕ → Network → Option Net
    trees_of n = part_of boxes n nets

    abbrev series_of : ℕ → List Network → Option Net
    series_of n = parts_of_series boxes n nets

    -- a component of one level
    made_level : (c : Component) (L : Net → Type 0) → ((n : ℕ) → Level boxes n (node_of boxes n nets c) L) → TiedTo (Made c) L
    made_level c L step = ties_made boxes nets c L (tied boxes nets c L step)

    leaf : (c : Component) (T : Net) → ((n : ℕ) → node_of boxes n nets c ≡ Some T) → limit_parts T ≡ [] → TiedTo (Made c) (λ t. t ≡ T)
    leaf c T is none = made_level c (λ t. t ≡ T) (λ n. leaf_level boxes n (node_of boxes n nets c) T (is n) none)

    -- the name of a part
    name_ties : (name : Ident) (place : ℕ) → UnbrokenForm around place (NetForm-F.Name name)
        → TiedTo (named_at (meaning_of scopes name.text) name.at) (FormTree around place (NetForm-F.Name name))
    name_ties name place fine = cases (found_at around name.text) refl
      where
        fails : stands_for_a is_part around name.text ≡ false → ⊥
        fails wrong = fine.0 (unknown name.at) (no_such_part wrong)

        stands : (decl : Decl) (there : Around) → found_at around name.text ≡ Some (decl, there) → stands_for around name.text ≡ Some decl
        stands decl there is = sym (found_stands around name.text) ∙ ap (option_map decl_of) is

        wrong_kind : (decl : Decl) (there : Around) → found_at around name.text ≡ Some (decl, there) → is_part (out-Decl decl) ≡ false → ⊥
        wrong_kind decl there is kind = fails (ap (λ o. unwrap_or (option_map (λ decl. is_part (out-Decl decl)) o) false) (stands decl there is) ∙ kind)

        the_same : (decl : Decl) (there : Around) → found_at around name.text ≡ Some (decl, there) → (t : Net) → FormTree around place (NetForm-F.Name name) t
            → NamedTree (out-Decl decl) there name.at t
        the_same decl there is t one = subst (λ (found : Decl × Around). NamedTree (out-Decl found.0) found.1 name.at t) (same_Some one.0 (decl, there) (sym one.1 ∙ is)) one.2

        by_form : (decl : Decl) (there : Around) → found_at around name.text ≡ Some (decl, there) → (x : Decl-F Decl NetDecl) → out-Decl decl ≡ x
            → SeesForm nets (meaning_of scopes name.text) x there
            → TiedTo (named_at (meaning_of scopes name.text) name.at) (NamedTree x there name.at)
        by_form decl there is (Decl-F.BoxDecl declaration) at seen = subst (λ m. TiedTo (named_at m name.at) (λ t. t ≡ net.Box name.at (length (boxes_before there)))) (sym seen.0)
            (leaf (component.Box name.at (length (boxes_before there))) (net.Box name.at (length (boxes_before there)))
            (λ n. node-Box boxes (trees_of n) (series_of n) name.at (length (boxes_before there))
            ∙ call_within boxes name.at (length (boxes_before there)) seen.1) (parts-Box name.at (length (boxes_before there))))
        by_form decl there is (Decl-F.NetDecl called) at seen = subst (λ m. TiedTo (named_at m name.at) (TreeOf names boxes ((out-NetDecl called).decls ∷ there)
            (out-NetDecl called).connect)) (sym seen.1) seen.2
        by_form decl there is (Decl-F.TypeDecl own parts) at seen = absurd (wrong_kind decl there is (ap is_part at))
        by_form decl there is (Decl-F.SigDecl own sig) at seen = absurd (wrong_kind decl there is (ap is_part at))

        cases : (found : Option (Decl × Around)) → found_at around name.text ≡ found
            → TiedTo (named_at (meaning_of scopes name.text) name.at) (FormTree around place (NetForm-F.Name name))
        cases None none = absurd (fails (ap (λ o. unwrap_or (option_map (λ decl. is_part (out-Decl decl)) o) false) (sym (found_stands around name.text)
            ∙ ap (option_map decl_of) none)))
        cases (Some found) is = ties_same boxes (λ levels. part_of boxes levels nets (named_at (meaning_of scopes name.text) name.at)) (NamedTree
            (out-Decl found.0) found.1 name.at) (FormTree around place (NetForm-F.Name name))
            (by_form found.0 found.1 is (out-Decl found.0) refl (sees name.text found.0 found.1 is)) (λ t one. (found, is, one)) (the_same found.0 found.1 is)

    identity_ties : (place : ℕ) → UnbrokenForm around place NetForm-F.Identity → TiedTo (Made (component.Filter (identity_at place))) (FormTree around place NetForm-F.Identity)
    identity_ties place fine = leaf (component.Filter (identity_at place)) (net.Filter (identity_at place)) (λ n. node-Filter boxes (trees_of n) (series_of n)
        (identity_at place)) (parts-Filter (identity_at place))

    filter_ties : (pattern : Variant) (arms : List ArmAt) (templates : List TemplateAt) (place : ℕ) → UnbrokenForm around place (NetForm-F.Filter pattern arms templates)
        → TiedTo (Made (component.Filter (filter_at names place pattern arms templates))) (FormTree around place (NetForm-F.Filter pattern arms templates))
    filter_ties pattern arms templates place fine =
        leaf (component.Filter (filter_at names place pattern arms templates)) (net.Filter (filter_at names place pattern arms templates)) (λ n. node-Filter boxes (trees_of n)
        (series_of n) (filter_at names place pattern arms templates)) (parts-Filter (filter_at names place pattern arms templates))

    cell_ties : (patterns : List Variant) (place : ℕ) → UnbrokenForm around place (NetForm-F.Sync patterns)
        → TiedTo (Made (component.Sync place (each (variant_at names) patterns))) (FormTree around place (NetForm-F.Sync patterns))
    cell_ties patterns place fine =
        leaf (component.Sync place (each (variant_at names) patterns)) (net.Sync place (each (variant_at names) patterns)) (λ n. node-Sync boxes (trees_of n)
        (series_of n) place (each (variant_at names) patterns)) (parts-Sync place (each (variant_at names) patterns))

    -- each part with its tree
    known_parts : (parts : List Found) → Each (Unbroken around) (exprs parts) → (n : ℕ)
        → Each (λ e. At boxes n (part_of boxes n nets (at_of e)) (TreeOf names boxes around e)) (exprs parts)
    known_parts parts fine n = ties_of parts fine
      where
        ties_of : (parts : List Found) → Each (Unbroken around) (exprs parts) → Each (λ e. At boxes n (part_of boxes n nets (at_of e)) (TreeOf names boxes around e)) (exprs parts)
        ties_of [] fine = each_nil (λ e. At boxes n (part_of boxes n nets (at_of e)) (TreeOf names boxes around e))
        ties_of (part ∷ parts) fine = each_cons (λ e. At boxes n (part_of boxes n nets (at_of e)) (TreeOf names boxes around e)) part.0 (exprs parts) (part.1
            (fine part.0 here) n) (ties_of parts (λ e at. fine e (later at)))

    nothing_level : (n : ℕ) (c : Component) (L : Net → Type 0) → node_of boxes n nets c ≡ None → ((t : Net) → L t → ⊥) → Level boxes n (node_of boxes n nets c) L
    nothing_level n c L is none t = (λ made. absurd (none-some t (sym is ∙ made)), λ both. absurd (none t both.0))

    serial_component : (parts : List NetExpr) → (n : ℕ) → Each (λ e. (m : ℕ) → At boxes m (part_of boxes m nets (at_of e)) (TreeOf names boxes around e)) parts
        → Level boxes n (node_of boxes n nets (component.Serial (each at_of parts))) (SeriesOf names boxes around parts)
    serial_component [] n known = nothing_level n (component.Serial []) (SeriesOf names boxes around []) (node-Serial boxes (trees_of n) (series_of n) []) (no_series around)
    serial_component (a ∷ []) n known = nothing_level n (component.Serial (at_of a ∷ [])) (SeriesOf names boxes around (a ∷ [])) (node-Serial boxes (trees_of n) (series_of n)
        (at_of a ∷ [])) (no_single around a)
    serial_component (a ∷ b ∷ []) n known = level_same boxes n (node_of boxes n nets (component.Serial (at_of a ∷ at_of b ∷ []))) (InSeries boxes (TreeOf names boxes around a)
        (TreeOf names boxes around b)) (SeriesOf names boxes around (a ∷ b ∷ []))
        (subst (λ o. Level boxes n o (InSeries boxes (TreeOf names boxes around a) (TreeOf names boxes around b))) (sym (node-Serial boxes (trees_of n) (series_of n)
        (at_of a ∷ at_of b ∷ [])))
        (two_level boxes n (part_of boxes n nets (at_of a)) (part_of boxes n nets (at_of b)) (TreeOf names boxes around a) (TreeOf names boxes around b) (known a here n)
        (known b (later here) n)))
        (λ t one. subst (SeriesOf names boxes around (a ∷ b ∷ [])) (sym one.4) (two one.2 one.3)) (series_two around a b)
    serial_component (a ∷ b ∷ c ∷ more) n known = level_same boxes n (node_of boxes n nets (component.Serial (at_of a ∷ rest))) (InSeries boxes (TreeOf names boxes around a)
        (SeriesOf names boxes around (b ∷ c ∷ more))) (SeriesOf names boxes around (a ∷ b ∷ c ∷ more))
        (subst (λ o. Level boxes n o (InSeries boxes (TreeOf names boxes around a) (SeriesOf names boxes around (b ∷ c ∷ more)))) (sym (node-Serial boxes (trees_of n)
        (series_of n) (at_of a ∷ rest)))
        (two_level boxes n (part_of boxes n nets (at_of a)) (tree boxes n nets (component.Serial rest)) (TreeOf names boxes around a) (SeriesOf names boxes around
        (b ∷ c ∷ more)) (known a here n)
        (tied boxes nets (component.Serial rest) (SeriesOf names boxes around (b ∷ c ∷ more)) (λ m. serial_component (b ∷ c ∷ more) m (λ e at. known e (later at))) n)))
        (λ t one. subst (SeriesOf names boxes around (a ∷ b ∷ c ∷ more)) (sym one.4) (several one.2 one.3)) (series_more around a b c more)
      where
        rest : List Network
        rest = each at_of (b ∷ c ∷ more)

    serial_ties : (parts : List Found) (place : ℕ) → UnbrokenForm around place (NetForm-F.Serial (exprs parts))
        → TiedTo (Made (component.Serial (each at_of (exprs parts)))) (FormTree around place (NetForm-F.Serial (exprs parts)))
    serial_ties parts place fine = made_level (component.Serial (each at_of (exprs parts))) (SeriesOf names boxes around (exprs parts)) (λ n. serial_component (exprs parts) n
        (λ e at m. known_parts parts fine.1 m e at))

    choice_ties : (det : Bool) (parts : List Found) (place : ℕ) → UnbrokenForm around place (NetForm-F.Choice det (exprs parts))
        → TiedTo (Made (component.Choice place (merge_of det) (each at_of (exprs parts)))) (FormTree around place (NetForm-F.Choice det (exprs parts)))
    choice_ties det parts place fine = made_level (component.Choice place (merge_of det) (each at_of (exprs parts))) (FormTree around place (NetForm-F.Choice det (exprs parts)))
        (λ n. subst (λ o. Level boxes n o (FormTree around place (NetForm-F.Choice det (exprs parts)))) (sym (node-Choice boxes (trees_of n) (series_of n) place (merge_of det)
        (each at_of (exprs parts)) ∙ ap (λ os. option_map over (all_some os)) (map_twice (exprs parts) n)))
        (choice_level boxes n (λ e. part_of boxes n nets (at_of e)) (TreeOf names boxes around) (exprs parts) (known_parts parts fine.1 n) over (λ ts. parts-Choice place
        (merge_of det) ts (each (face boxes) ts))))
      where
        over : List Net → Net
        over ts = net.Choice place (merge_of det) ts (each (face boxes) ts)

        map_twice : (es : List NetExpr) (n : ℕ) → each (part_of boxes n nets) (each at_of es) ≡ each (λ e. part_of boxes n nets (at_of e)) es
        map_twice [] n = refl
        map_twice (e ∷ es) n = ap (λ more. part_of boxes n nets (at_of e) ∷ more) (map_twice es n)

    star_ties : (det : Bool) (body : Found) (exit : Variant) (guard : Option TExpr) (place : ℕ) → UnbrokenForm around place (NetForm-F.Star det body.0 exit guard)
        → TiedTo (Made (component.Star place (merge_of det) (at_of body.0) (variant_at names exit) (guard_at names guard))) (FormTree around place
        (NetForm-F.Star det body.0 exit guard))
    star_ties det body exit guard place fine = made_level (component.Star place (merge_of det) (at_of body.0) (variant_at names exit) (guard_at names guard))
        (FormTree around place (NetForm-F.Star det body.0 exit guard))
        (λ n. subst (λ o. Level boxes n o (FormTree around place (NetForm-F.Star det body.0 exit guard))) (sym (node-Star boxes (trees_of n) (series_of n) place (merge_of det)
        (at_of body.0) (variant_at names exit) (guard_at names guard)))
        (one_level boxes n (part_of boxes n nets (at_of body.0)) (TreeOf names boxes around body.0) (λ m. net.Star place (merge_of det) m (variant_at names exit)
        (guard_at names guard))
        (λ m. parts-Star place (merge_of det) m (variant_at names exit) (guard_at names guard)) (body.1 (fine.1 body.0 here) n)))

    split_ties : (det spread : Bool) (body : Found) (tag : Ident) (place : ℕ) → UnbrokenForm around place (NetForm-F.Split det spread body.0 tag)
        → TiedTo (Made (component.Split place (merge_of det) (at_of body.0) (label_number names tag.text))) (FormTree around place (NetForm-F.Split det spread body.0 tag))
    split_ties det spread body tag place fine = made_level (component.Split place (merge_of det) (at_of body.0) (label_number names tag.text)) (FormTree around place
        (NetForm-F.Split det spread body.0 tag))
        (λ n. subst (λ o. Level boxes n o (FormTree around place (NetForm-F.Split det spread body.0 tag))) (sym (node-Split boxes (trees_of n) (series_of n) place (merge_of det)
        (at_of body.0) (label_number names tag.text)))
        (one_level boxes n (part_of boxes n nets (at_of body.0)) (TreeOf names boxes around body.0) (λ m. net.Split place (merge_of det) m (label_number names tag.text))
        (λ m. parts-Split place (merge_of det) m (label_number names tag.text)) (body.1 (fine.1 body.0 here) n)))

    placed_ties : (body : Found) (node place : ℕ) → UnbrokenForm around place (NetForm-F.Placed body.0 node) → TiedTo (at_of body.0) (FormTree around place (NetForm-F.Placed body.0 node))
    placed_ties body node place fine = body.1 (fine.1 body.0 here)

    -- a network in which nothing is refused
    pub network_ties : (network : NetExpr) → NetworkTies network
    network_ties = ind-NetExpr FormTies NetworkTies
        (λ x y is. subst (λ z. FormTies (roll-NetForm z)) is (level (map-NetForm _ _ NetForm NetExpr (λ e. e.0) (λ e. e.0) y) (elim y as (λ z. (place : ℕ)
        → UnbrokenForm around place (map-NetForm _ _ NetForm NetExpr (λ e. e.0) (λ e. e.0) z) → TiedTo
        (network_step names scopes (map-NetForm NetForm NetExpr (ℕ → Network) Network form_network at_of (map-NetForm _ _ NetForm NetExpr (λ e. e.0) (λ e. e.0) z)) place)
        (FormTree around place (map-NetForm _ _ NetForm NetExpr (λ e. e.0) (λ e. e.0) z))) [
          | NetForm-F.Name name ↦ name_ties name
          | NetForm-F.Identity ↦ identity_ties
          | NetForm-F.Filter pattern arms templates ↦ filter_ties pattern arms templates
          | NetForm-F.Sync patterns ↦ cell_ties patterns
          | NetForm-F.Serial parts ↦ serial_ties parts
          | NetForm-F.Choice det branches ↦ choice_ties det branches
          | NetForm-F.Star det body exit guard ↦ star_ties det body exit guard
          | NetForm-F.Split det spread body tag ↦ split_ties det spread body tag
          | NetForm-F.Placed body node ↦ placed_ties body node
        ])))
        (λ x y is. subst (λ z. NetworkTies (roll-NetExpr z)) is (whole y.at y.form.0 y.form.1))
