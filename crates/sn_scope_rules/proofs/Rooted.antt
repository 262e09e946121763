-- Each net of a program that breaks no rule has a tree.
use Rattle.std.proofs.Common.{◌≡◌, ℕ, ◌≤◌, Bool, true, false, if◌then◌else◌, List, [], ◌∷◌, ◌++◌, length, map as each, Option, Some, option_map, refl, sym, ap, ◌∙◌, subst, append-nil, append_assoc, map-id, arith}
use Rattle.std.specs.Option.{option_or}
use Rattle.std.proofs.lemmas.Option.{none-some, same_Some}
use Rattle.sn_ast.specs.declared.declaration.Decl.{Decl}
use Rattle.sn_ast.specs.declared.declaration.Decl.TheFolds.{ind-Decl, map-Decl}
use Rattle.sn_ast.specs.declared.declaration.Decl.TheOpen.{Decl-F}
use Rattle.sn_ast.specs.declared.declaration.Decl.TheViews.{out-Decl, out-NetDecl, out-roll-Decl, out-roll-NetDecl, roll-Decl, roll-NetDecl}
use Rattle.sn_ast.specs.declared.declaration.NetDecl.{NetDecl, NetDecl-F}
use Rattle.sn_ast.specs.declared.declaration.Program.{Program}
use Rattle.sn_ast.specs.declared.label.Ident.{Ident}
use Rattle.sn_ast.specs.declared.label.Sig.{Sig}
use Rattle.sn_ast.specs.declared.network.NetExpr.{NetExpr}
use Rattle.sn_ast.specs.declared.network.NetForm.{NetForm}
use Rattle.sn_ast.specs.declared.network.NetForm.TheFolds.{ind-NetExpr, map-NetForm}
use Rattle.sn_ast.specs.declared.network.NetForm.TheOpen.{NetForm-F}
use Rattle.sn_ast.specs.declared.network.NetForm.TheViews.{out-NetForm, out-roll-NetForm, out-roll-NetExpr, roll-NetForm, roll-NetExpr}
use Rattle.sn_net.specs.declared.expr.BoxProgram.{BoxProgram}
use Rattle.sn_net.specs.declared.net.Net.{Net}
use Rattle.sn_scope_rules.specs.Claims.{is_net}
use Rattle.sn_scope_rules.specs.Declared.{StandsAt}
use Rattle.sn_scope_rules.specs.Declared.StandsAt.{inner, outermost}
use Rattle.sn_scope_rules.specs.Networks.{HasLongSeries, NetworkBreaks, form_of, parts_in}
use Rattle.sn_scope_rules.specs.Networks.FormBreaks.{no_such_part}
use Rattle.sn_scope_rules.specs.Programs.DeclBreaks.{in_inner, in_network}
use Rattle.sn_scope_rules.specs.Programs.ProgramBreaks.{in_decl}
use Rattle.sn_scope_rules.specs.Refusals.{unknown}
use Rattle.sn_scope_rules.specs.Results.{Unbroken}
use Rattle.sn_scope_rules.specs.Standing.{Beside, StandsBehind, StandsIn, StandsWithin}
use Rattle.sn_scope_rules.specs.Standing.StandsIn.{here, later}
use Rattle.sn_scope_rules.specs.Standing.StandsWithin.{deeper, itself}
use Rattle.sn_scope_rules.specs.Trees.{SeriesOf, TreeOf}
use Rattle.sn_scope_rules.specs.Trees.SeriesOf.{several, two}
use Rattle.sn_scope_rules.specs.Visible.{Around, first_named, found_at, has_name, is_part, within}
use Rattle.sn_scope_rules.proofs.Declaring.{Fine, RowFine, fine_first, fine_name, fine_rest}
use Rattle.sn_scope_rules.proofs.Held.{Each, each_cons, each_nil, inner_in, inner_of}
use Rattle.sn_scope_rules.proofs.Known.{more_named}
use Rattle.sn_scope_rules.proofs.Places.{Found}
use Rattle.sn_scope_rules.proofs.Signed.{no_net_there, same_net}
use Rattle.sn_scope_rules.proofs.Standing.{in_behind, none_in}
use Rattle.sn_scope_rules.proofs.Standings.{behind_before}
use Rattle.sn_scope_rules.proofs.Trees.{FormTree, NamedTree, UnbrokenForm, form_to, unbroken_form}
use Rattle.sn_scope_rules.proofs.Trees as trees
use Rattle.sn_scope_rules.proofs.Types.{found_kind}

module _ (names : List (List ℕ)) (boxes : List BoxProgram) where
  -- a net's network has a tree
  abbrev NetTree : Around → NetDecl-F Decl NetDecl → Type 0
  NetTree around form = (t : Net) × TreeOf names boxes (form.decls ∷ around) form.connect t

  -- and so has each net that is found
  abbrev Rooted : Around → Type 0
  Rooted around = (n : List ℕ) (decl : Decl) (there : Around) (called : NetDecl) → found_at around n ≡ Some (decl, there) → out-Decl decl ≡ Decl-F.NetDecl called
      → NetTree there (out-NetDecl called)

  -- a form is no series, or one that is long enough
  abbrev LongHere : NetForm-F NetForm NetExpr → Type 0
  LongHere x = (parts : List NetExpr) → x ≡ NetForm-F.Serial parts → 2 ≤ length parts

  abbrev LongForm : NetForm-F NetForm NetExpr → Type 0
  LongForm x = LongHere x × Each HasLongSeries (parts_in x)

  long_form : (network : NetExpr) → HasLongSeries network → LongForm (form_of network)
  long_form network long = (λ parts is. long network parts itself is, λ part at inner parts behind is. long inner parts (deeper at behind) is)

  module _ (around : Around) (rooted : Rooted around) where
    abbrev HasTree : NetExpr → Type 0
    HasTree network = (t : Net) × TreeOf names boxes around network t

    abbrev NetworkHas : NetExpr → Type 0
    NetworkHas network = trees.Unbroken names boxes around network → HasLongSeries network → HasTree network

    abbrev FormGives : NetForm-F NetForm NetExpr → Type 0
    FormGives x = (place : ℕ) → UnbrokenForm names boxes around place x → LongForm x → (t : Net) × FormTree names boxes around place x t

    abbrev FormHas : NetForm → Type 0
    FormHas form = FormGives (out-NetForm form)

    whole : (place : ℕ) (form : NetForm) → FormHas form → NetworkHas (roll-NetExpr (record { at = place; form = form }))
    whole place form has fine long =
        let found = has place
        (subst (λ n. UnbrokenForm names boxes around n.at (out-NetForm n.form)) (out-roll-NetExpr (record { at = place; form = form }))
        (unbroken_form names boxes around network fine))
        (subst (λ n. LongForm (out-NetForm n.form)) (out-roll-NetExpr (record { at = place; form = form })) (long_form network long)) in (
          found.0,
          form_to names boxes around network found.0 (form_of network) refl
              (subst (λ n. FormTree names boxes around n.at (out-NetForm n.form) found.0) (sym (out-roll-NetExpr (record { at = place; form = form }))) found.1),
        )
      where
        network : NetExpr
        network = roll-NetExpr (record { at = place; form = form })

    abbrev Given : Type 0
    Given = (n : NetExpr) × NetworkHas n

    abbrev exprs : List Given → List NetExpr
    exprs parts = each (λ (e : Given). e.0) parts

    name_has : (name : Ident) → FormGives (NetForm-F.Name name)
    name_has name place fine long =
        let found = found_kind is_part around name.text (λ wrong. fine.0 (unknown name.at) (no_such_part wrong)) in
        let made = by_form found.0 found.1 found.2 (out-Decl found.0) refl found.3 in
        (made.0, ((found.0, found.1), found.2, made.1))
      where
        by_form : (decl : Decl) (there : Around) → found_at around name.text ≡ Some (decl, there) → (x : Decl-F Decl NetDecl) → out-Decl decl ≡ x → is_part x ≡ true
            → (t : Net) × NamedTree names boxes x there name.at t
        by_form decl there is (Decl-F.BoxDecl declaration) at kind = (_, refl)
        by_form decl there is (Decl-F.NetDecl called) at kind = rooted name.text decl there called is at
        by_form decl there is (Decl-F.TypeDecl own parts) at kind = cc
        by_form decl there is (Decl-F.SigDecl own sig) at kind = cc

    parts_have : (parts : List Given) → Each (trees.Unbroken names boxes around) (exprs parts) → Each HasLongSeries (exprs parts) → Each HasTree (exprs parts)
    parts_have [] fine long = each_nil HasTree
    parts_have (part ∷ parts) fine long = each_cons HasTree part.0 (exprs parts) (part.1 (fine part.0 here) (long part.0 here)) (parts_have parts (λ e at. fine e (later at))
        (λ e at. long e (later at)))

    series_has : (parts : List NetExpr) → Each HasTree parts → 2 ≤ length parts → (t : Net) × SeriesOf names boxes around parts t
    series_has [] have long = absurd (omega (arith, long))
    series_has (a ∷ []) have long = absurd (omega (arith, long))
    series_has (a ∷ b ∷ []) have long = (_, two (have a here).1 (have b (later here)).1)
    series_has (a ∷ b ∷ c ∷ more) have long = let rest = series_has (b ∷ c ∷ more) (λ e at. have e (later at)) (omega arith) in (_, several (have a here).1 rest.1)

    branches_have : (parts : List NetExpr) → Each HasTree parts → (ts : List Net) × Beside (TreeOf names boxes around) parts ts
    branches_have [] have = ([], tt)
    branches_have (a ∷ parts) have = let rest = branches_have parts (λ e at. have e (later at)) in ((have a here).0 ∷ rest.0, ((have a here).1, rest.1))

    network_has : (network : NetExpr) → NetworkHas network
    network_has = ind-NetExpr FormHas NetworkHas
        (λ x y is. subst (λ z. FormHas (roll-NetForm z)) is (subst FormGives (sym (out-roll-NetForm (map-NetForm _ _ NetForm NetExpr (λ e. e.0) (λ e. e.0) y)))
        (elim y as (λ z. FormGives (map-NetForm _ _ NetForm NetExpr (λ e. e.0) (λ e. e.0) z)) [
          | NetForm-F.Name name ↦ name_has name
          | NetForm-F.Identity ↦ λ place fine long. (_, refl)
          | NetForm-F.Filter pattern arms templates ↦ λ place fine long. (_, refl)
          | NetForm-F.Sync patterns ↦ λ place fine long. (_, refl)
          | NetForm-F.Serial parts ↦ λ place fine long. series_has (exprs parts) (parts_have parts fine.1 long.1) (long.0 (exprs parts) refl)
          | NetForm-F.Choice det branches ↦ λ place fine long. let have = branches_have (exprs branches) (parts_have branches fine.1 long.1) in (_, (have.0, have.1, refl))
          | NetForm-F.Star det body exit guard ↦ λ place fine long. let one = body.1 (fine.1 body.0 here) (long.1 body.0 here) in (_, (one.0, one.1, refl))
          | NetForm-F.Split det spread body tag ↦ λ place fine long. let one = body.1 (fine.1 body.0 here) (long.1 body.0 here) in (_, (one.0, one.1, refl))
          | NetForm-F.Placed body node ↦ λ place fine long. body.1 (fine.1 body.0 here) (long.1 body.0 here)
        ])))
        (λ x y is. subst (λ z. NetworkHas (roll-NetExpr z)) is (whole y.at y.form.0 y.form.1))

  -- each series in the nets of a declaration is long enough
  abbrev NetsLong : Decl → Type 0
  NetsLong d = (e : Decl) → StandsWithin inner_of e d → (called : NetDecl) → out-Decl e ≡ Decl-F.NetDecl called → HasLongSeries (out-NetDecl called).connect

  abbrev DeclHas : Decl → Type 0
  DeclHas d = (scope : List Decl) (outer : Around) → Fine scope outer d → NetsLong d → Rooted (scope ∷ outer) → (called : NetDecl) → out-Decl d ≡ Decl-F.NetDecl called
      → NetTree (scope ∷ outer) (out-NetDecl called)

  abbrev RowHas : List Decl → Type 0
  RowHas ds = (scope : List Decl) (outer : Around) → RowFine scope outer ds → Each NetsLong ds → Rooted (scope ∷ outer) → Rooted ((scope ++ ds) ∷ outer)

  -- one more declaration
  rooted_more : (scope : List Decl) (outer : Around) (d : Decl) → Fine scope outer d → Rooted (scope ∷ outer) → ((called : NetDecl) → out-Decl d ≡ Decl-F.NetDecl called
      → NetTree (scope ∷ outer) (out-NetDecl called))
      → Rooted ((scope ++ d ∷ []) ∷ outer)
  rooted_more scope outer d fine rooted own n decl there called is at =
      by_name (has_name n d) (ap (λ (o : Found). option_or (option_map (within outer) o) (found_at outer n)) (sym (more_named scope d (fine_name scope outer d fine) n)) ∙ is)
    where
      by_name : (b : Bool) → option_or (option_map (within outer) (if b then Some (d, scope) else first_named n scope)) (found_at outer n) ≡ Some (decl, there)
          → NetTree there (out-NetDecl called)
      by_name true same =
          let tied = same_Some (d, scope ∷ outer) (decl, there) same in
          subst (λ a. NetTree a (out-NetDecl called)) (ap (λ (f : Decl × Around). f.1) tied) (own called (ap (λ (f : Decl × Around). out-Decl f.0) tied ∙ at))
      by_name false same = rooted n decl there called same at

  row_has : {A : Type 0} (decl : A → Decl) → ((x : A) → DeclHas (decl x)) → (xs : List A) → RowHas (each decl xs)
  row_has decl has [] scope outer fine long rooted = subst (λ s. Rooted (s ∷ outer)) (sym (append-nil scope)) rooted
  row_has decl has (x ∷ xs) scope outer fine long rooted = subst (λ s. Rooted (s ∷ outer)) (append_assoc scope (decl x ∷ []) (each decl xs))
      (row_has decl has xs (scope ++ decl x ∷ []) outer (fine_rest scope outer (decl x) (each decl xs) fine) (λ e at. long e (later at))
      (rooted_more scope outer (decl x) (fine_first scope outer (decl x) (each decl xs) fine) rooted (has x scope outer (fine_first scope outer (decl x) (each decl xs) fine)
      (long (decl x) here) rooted)))

  abbrev NetHas : NetDecl → Type 0
  NetHas called = (d : Decl) → out-Decl d ≡ Decl-F.NetDecl called → DeclHas d

  abbrev Has : Type 0
  Has = (d : Decl) × DeclHas d

  abbrev decls_of : List Has → List Decl
  decls_of decls = each (λ (e : Has). e.0) decls

  net_has : (name : Ident) (sig : Option Sig) (decls : List Has) (connect : NetExpr) (called : NetDecl)
      → out-NetDecl called ≡ record { name = name; sig = sig; decls = decls_of decls; connect = connect } → NetHas called
  net_has name sig decls connect called out d at scope outer fine long rooted other is =
      subst (λ c. NetTree (scope ∷ outer) (out-NetDecl c)) (sym (same_net d called other at is)) (subst (NetTree (scope ∷ outer)) (sym out) made)
    where
      inner_long : Each NetsLong (decls_of decls)
      inner_long e within f deep = long f (deeper (subst (StandsIn e) (sym (ap inner_in at ∙ ap (λ (f : NetDecl-F Decl NetDecl). f.decls) out)) within) deep)

      inner_fine : RowFine [] (scope ∷ outer) (decls_of decls)
      inner_fine before e behind r one = fine r (in_inner called before e at (subst (StandsBehind e before) (sym (ap (λ (f : NetDecl-F Decl NetDecl). f.decls) out)) behind) one)

      made : (t : Net) × TreeOf names boxes (decls_of decls ∷ scope ∷ outer) connect t
      made = network_has (decls_of decls ∷ scope ∷ outer) (row_has (λ (e : Has). e.0) (λ e. e.1) decls [] (scope ∷ outer) inner_fine inner_long rooted) connect
          (λ r one. fine r (in_network called at (subst (λ (f : NetDecl-F Decl NetDecl). NetworkBreaks (f.decls ∷ scope ∷ outer) f.connect r) (sym out) one)))
          (subst (λ (f : NetDecl-F Decl NetDecl). HasLongSeries f.connect) out (long d itself called at))

  no_net_has : (d : Decl) (x : Decl-F Decl NetDecl) → out-Decl d ≡ x → is_net x ≡ false → DeclHas d
  no_net_has d x at kind scope outer fine long rooted called is = absurd (no_net_there d called (ap is_net at ∙ kind) is)

  decl_has : (d : Decl) → DeclHas d
  decl_has = ind-Decl DeclHas NetHas
      (λ x y is. subst (λ z. DeclHas (roll-Decl z)) is
      (elim y as (λ z. DeclHas (roll-Decl (map-Decl _ _ Decl NetDecl (λ e. e.0) (λ e. e.0) z))) [
        | Decl-F.BoxDecl b ↦ no_net_has (roll-Decl (Decl-F.BoxDecl b)) (Decl-F.BoxDecl b) (out-roll-Decl (Decl-F.BoxDecl b)) refl
        | Decl-F.NetDecl called ↦ called.1 (roll-Decl (Decl-F.NetDecl called.0)) (out-roll-Decl (Decl-F.NetDecl called.0))
        | Decl-F.TypeDecl name parts ↦ no_net_has (roll-Decl (Decl-F.TypeDecl name parts)) (Decl-F.TypeDecl name parts) (out-roll-Decl (Decl-F.TypeDecl name parts)) refl
        | Decl-F.SigDecl name sig ↦ no_net_has (roll-Decl (Decl-F.SigDecl name sig)) (Decl-F.SigDecl name sig) (out-roll-Decl (Decl-F.SigDecl name sig)) refl
      ]))
      (λ x y is. subst (λ z. NetHas (roll-NetDecl z)) is
      (net_has y.name y.sig y.decls y.connect (roll-NetDecl (record { name = y.name; sig = y.sig; decls = decls_of y.decls; connect = y.connect })) (out-roll-NetDecl
      (record { name = y.name; sig = y.sig; decls = decls_of y.decls; connect = y.connect }))))

  row_rooted : (decls : List Decl) → RowHas decls
  row_rooted decls = subst RowHas (map-id decls) (row_has (λ d. d) decl_has decls)

  module _ (program : Program) (unbroken : Unbroken program)
      (long : (around : Around) (decl : Decl) (called : NetDecl) → StandsAt program around decl → out-Decl decl ≡ Decl-F.NetDecl called
      → HasLongSeries (out-NetDecl called).connect) where
    -- no rule is broken at a place
    abbrev FineAt : Around → Decl → Type 0
    FineAt [] d = Unit {0}
    FineAt (scope ∷ outer) d = Fine scope outer d

    within_fine : (around : Around) (whole d : Decl) (called : NetDecl) (before : List Decl) → FineAt around whole → StandsAt program around whole
        → out-Decl whole ≡ Decl-F.NetDecl called → StandsBehind d before (out-NetDecl called).decls
        → FineAt (before ∷ around) d
    within_fine [] whole d called before fine standing is at = absurd (nowhere standing)
      where
        nowhere : StandsAt program [] whole → ⊥
        nowhere standing = elim standing [ ]
    within_fine (scope ∷ outer) whole d called before fine standing is at = λ r one. fine r (in_inner called before d is at one)

    standing_fine : (around : Around) (d : Decl) → StandsAt program around d → FineAt around d
    standing_fine around d (outermost at) = λ r one. unbroken r (in_decl at one)
    standing_fine around d (inner {before} {around = outer} {decl = whole} called standing is at) = within_fine outer whole d called before
        (standing_fine outer whole standing) standing is at

    -- each series within a declaration is long enough
    nets_long : (e d : Decl) → StandsWithin inner_of e d → (around : Around) → StandsAt program around d → (called : NetDecl) → out-Decl e ≡ Decl-F.NetDecl called
        → HasLongSeries (out-NetDecl called).connect
    nets_long e d itself around standing called at = long around d called standing at
    nets_long e d (deeper {part} within deep) around standing called at = by_form (out-Decl d) refl (λ around standing. nets_long e part deep around standing called at)
      where
        by_form : (x : Decl-F Decl NetDecl) → out-Decl d ≡ x → ((around : Around) → StandsAt program around part → HasLongSeries (out-NetDecl called).connect)
            → HasLongSeries (out-NetDecl called).connect
        by_form (Decl-F.BoxDecl declaration) is rest = absurd (none_in part (subst (StandsIn part) (ap inner_in is) within))
        by_form (Decl-F.NetDecl whole) is rest =
            let behind = in_behind part (out-NetDecl whole).decls (subst (StandsIn part) (ap inner_in is) within) in
            rest (behind.0 ∷ around) (inner whole standing is behind.1)
        by_form (Decl-F.TypeDecl name parts) is rest = absurd (none_in part (subst (StandsIn part) (ap inner_in is) within))
        by_form (Decl-F.SigDecl name sig) is rest = absurd (none_in part (subst (StandsIn part) (ap inner_in is) within))

    -- the declarations before one
    before_rooted : (before : List Decl) (outer : Around) → ((some : List Decl) (e : Decl) → StandsBehind e some before → StandsAt program (some ∷ outer) e) → Rooted outer
        → Rooted (before ∷ outer)
    before_rooted before outer at rooted = row_rooted before [] outer (λ some e behind. standing_fine (some ∷ outer) e (at some e behind))
        (λ e within f deep. let behind = in_behind e before within in nets_long f e deep (behind.0 ∷ outer) (at behind.0 e behind.1)) rooted

    standing_rooted : (around : Around) (d : Decl) → StandsAt program around d → Rooted around
    standing_rooted around d (outermost {before} at) = before_rooted before [] (λ some e behind. outermost (behind_before d e before some program.decls behind at))
        (λ n decl there called none. absurd (none-some (decl, there) none))
    standing_rooted around d (inner {before} {around = outer} {decl = whole} called standing is at) =
        before_rooted before outer (λ some e behind. inner called standing is (behind_before d e before some (out-NetDecl called).decls behind at))
        (standing_rooted outer whole standing)

    -- a net of the program
    pub standing_tree : (around : Around) (d : Decl) (called : NetDecl) → StandsAt program around d → out-Decl d ≡ Decl-F.NetDecl called → NetTree around (out-NetDecl called)
    standing_tree around d called standing is = by_around around standing
      where
        by_around : (around : Around) → StandsAt program around d → NetTree around (out-NetDecl called)
        by_around [] standing = absurd (nowhere standing)
          where
            nowhere : StandsAt program [] d → ⊥
            nowhere standing = elim standing [ ]
        by_around (scope ∷ outer) standing =
            decl_has d scope outer (standing_fine (scope ∷ outer) d standing) (λ e deep. nets_long e d deep (scope ∷ outer) standing) (standing_rooted
            (scope ∷ outer) d standing) called is
