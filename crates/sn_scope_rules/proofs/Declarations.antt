-- What declarations refuse is what breaks their rules.
use Rattle.std.proofs.Common.{◌≡◌, ℕ, ◌-◌, not, List, [], ◌∷◌, ◌++◌, length, take, get_or, map as each, Option, Some, None, ◌⊎◌, inl, inr, refl, sym, ap, ◌∙◌, subst, subst₂, append-nil, append_assoc, map-id, arith}
use Rattle.std.proofs.lemmas.List.{length_push}
use Rattle.sn_ast.specs.declared.declaration.BoxDecl.{BoxDecl}
use Rattle.sn_ast.specs.declared.declaration.Decl.{Decl}
use Rattle.sn_ast.specs.declared.declaration.Decl.TheFolds.{fold-roll-Decl, fold-roll-NetDecl, ind-Decl, map-Decl}
use Rattle.sn_ast.specs.declared.declaration.Decl.TheOpen.{Decl-F}
use Rattle.sn_ast.specs.declared.declaration.Decl.TheViews.{out-Decl, out-NetDecl, out-roll-Decl, out-roll-NetDecl, roll-Decl, roll-NetDecl}
use Rattle.sn_ast.specs.declared.declaration.NetDecl.{NetDecl, NetDecl-F}
use Rattle.sn_ast.specs.declared.declaration.Program.{Program}
use Rattle.sn_ast.specs.declared.label.Ident.{Ident}
use Rattle.sn_ast.specs.declared.label.Sig.{Sig}
use Rattle.sn_ast.specs.declared.label.Sig.TheVariants.{Arrow, Named as NamedSig}
use Rattle.sn_ast.specs.declared.label.TypePart.{TypePart}
use Rattle.sn_ast.specs.declared.network.NetExpr.{NetExpr}
use Rattle.sn_box_scope.specs.Boxes.{box_required}
use Rattle.sn_label_scope.specs.Refusals.{required}
use Rattle.sn_label_scope.specs.declared.refusal.Reason.TheVariants.{Twice}
use Rattle.sn_label_scope.specs.declared.refusal.Refusal.{Refusal}
use Rattle.sn_names.specs.Names.{is_held}
use Rattle.sn_scope.specs.Declarations.{Change, after, after_box, after_net, after_sig, after_type, all_after, decl_step, declarations_of, ended, net_number, net_signature, net_step, number_at, start, with_claim, with_net_signature, with_signature, within}
use Rattle.sn_scope.specs.Numbering.{names_of}
use Rattle.sn_scope.specs.Scopes.{declared, empty_scope, entered_scope, left_scope}
use Rattle.sn_scope.specs.Types.{type_required}
use Rattle.sn_scope.specs.declared.declarations.Declarations.{Declarations}
use Rattle.sn_scope.specs.declared.declarations.Pending.{Pending}
use Rattle.sn_scope.specs.declared.scopes.Scope.{Scope}
use Rattle.sn_scope.specs.declared.scopes.Scopes.{Scopes}
use Rattle.sn_scope_rules.specs.Boxes.{BoxBreaks}
use Rattle.sn_scope_rules.specs.Labels.{SigBreaks, TypeBreaks}
use Rattle.sn_scope_rules.specs.Networks.{NetworkBreaks}
use Rattle.sn_scope_rules.specs.Programs.{DeclBreaks, ProgramBreaks}
use Rattle.sn_scope_rules.specs.Programs.DeclBreaks.{in_box, in_inner, in_net_sig, in_network, in_sig, in_type, name_twice}
use Rattle.sn_scope_rules.specs.Programs.ProgramBreaks.{in_decl}
use Rattle.sn_scope_rules.specs.Standing.{StandsBehind}
use Rattle.sn_scope_rules.specs.Standing.StandsIn.{here, later}
use Rattle.sn_scope_rules.specs.Standing.StandsBehind.{foremost, further}
use Rattle.sn_scope_rules.proofs.Boxes.{box_finds}
use Rattle.sn_scope_rules.proofs.Checks.{Either, Fails, Goes, IsLeast, finds_required, goes_nothing, goes_on, goes_same, held_from}
use Rattle.sn_scope_rules.proofs.Entries.{program_held}
use Rattle.sn_scope_rules.proofs.Held.{Each, HeldBox, HeldDecl, HeldDeclLevel, HeldNet, HeldNetDecl, HeldNetSig, HeldSig, HeldType, decl_level}
use Rattle.sn_scope_rules.proofs.Labels.{arrow_finds, named_finds, type_finds}
use Rattle.sn_scope_rules.proofs.Networks.{network_finds}
use Rattle.sn_scope_rules.proofs.Standing.{none_behind}
use Rattle.sn_scope_rules.proofs.Visible.{Matches, Sort, agrees, decl_sort, empty_matches, entered_matches, form_sort, meaning_sort, table_more}
use Rattle.sn_scope_rules.proofs.Visible.Sort.{of_net}
use Rattle.sn_scope_rules.specs.Visible.{Around, is_declared, name_in, name_of}
use Rattle.sn_scope.specs.declared.scopes.Meaning.{Meaning}
use Rattle.sn_scope.specs.declared.scopes.Meaning.TheVariants as meaning

-- the last of a list, and what stands before it
one_fewer : {A : Type 0} (xs : List A) (x : A) → length (xs ++ x ∷ []) - 1 ≡ length xs
one_fewer xs x = let more = length_push xs x in omega arith

at_end : {A : Type 0} (xs : List A) (x d : A) → get_or (xs ++ x ∷ []) (length xs) d ≡ x
at_end [] x d = refl
at_end (y ∷ xs) x d = at_end xs x d

up_to_end : {A : Type 0} (xs : List A) (x : A) → take (length xs) (xs ++ x ∷ []) ≡ xs
up_to_end [] x = refl
up_to_end (y ∷ xs) x = ap (λ more. y ∷ more) (up_to_end xs x)

last_of : {A : Type 0} (xs : List A) (x d : A) → get_or (xs ++ x ∷ []) (length (xs ++ x ∷ []) - 1) d ≡ x
last_of xs x d = ap (λ n. get_or (xs ++ x ∷ []) n d) (one_fewer xs x) ∙ at_end xs x d

before_last : {A : Type 0} (xs : List A) (x : A) → take (length (xs ++ x ∷ []) - 1) (xs ++ x ∷ []) ≡ xs
before_last xs x = ap (λ n. take n (xs ++ x ∷ [])) (one_fewer xs x) ∙ up_to_end xs x

-- the scope that ends is the one that was entered
pub left_entered : (inner : Scopes) (outer : List Scope) (current : Scope) → inner.outer ≡ outer ++ current ∷ [] → left_scope inner ≡ record { outer = outer; current = current }
left_entered inner outer current is =
    ap (λ (o : List Scope). let made : Scopes = record { outer = take (length o - 1) o; current = get_or o (length o - 1) empty_scope } in made) is
    ∙ (λ i. record { outer = before_last outer current i; current = last_of outer current empty_scope i })

-- a name that its scope has already
abbrev Taken : List Decl → Ident → Refusal → Type 0
Taken scope name r = Fails (not (is_declared scope name.text)) Twice name.at r

abbrev InSig : Around → Option Sig → Refusal → Type 0
InSig around None r = ⊥
InSig around (Some sig) r = SigBreaks around sig r

-- what is refused in one of several declarations
abbrev Inner : List Decl → Around → List Decl → Refusal → Type 0
Inner scope outer decls r = (before : List Decl) × (d : Decl) × StandsBehind d before decls × DeclBreaks (scope ++ before) outer d r

abbrev InNet : List Decl → Around → NetDecl-F Decl NetDecl → Refusal → Type 0
InNet scope outer net r = InSig (scope ∷ outer) net.sig r ⊎ (Inner [] (scope ∷ outer) net.decls r ⊎ (NetworkBreaks (net.decls ∷ scope ∷ outer) net.connect r ⊎ Taken scope net.name r))

-- what is refused in a declaration, by its form
abbrev Level : List Decl → Around → Decl-F Decl NetDecl → Refusal → Type 0
Level scope outer (Decl-F.BoxDecl declaration) r = BoxBreaks declaration r ⊎ Taken scope declaration.name r
Level scope outer (Decl-F.NetDecl net) r = InNet scope outer (out-NetDecl net) r
Level scope outer (Decl-F.TypeDecl name parts) r = TypeBreaks (scope ∷ outer) parts r ⊎ Taken scope name r
Level scope outer (Decl-F.SigDecl name sig) r = SigBreaks (scope ∷ outer) sig r ⊎ Taken scope name r

module _ (scope : List Decl) (outer : Around) (decl : Decl) (r : Refusal) where
  taken_to : (name : Ident) → name_of decl ≡ name → Taken scope name r → DeclBreaks scope outer decl r
  taken_to name is = subst (λ (n : Ident). Taken scope n r → DeclBreaks scope outer decl r) is own
    where
      own : Taken scope (name_of decl) r → DeclBreaks scope outer decl r
      own taken = subst (DeclBreaks scope outer decl) taken.1 (name_twice (held_from _ taken.0))

  net_to : (net : NetDecl) (sig : Option Sig) → out-Decl decl ≡ Decl-F.NetDecl net → (out-NetDecl net).sig ≡ sig → InSig (scope ∷ outer) sig r → DeclBreaks scope outer decl r
  net_to net None is has one = absurd one
  net_to net (Some sig) is has one = in_net_sig net sig is has one

  level_to : (x : Decl-F Decl NetDecl) → out-Decl decl ≡ x → Level scope outer x r → DeclBreaks scope outer decl r
  level_to (Decl-F.BoxDecl declaration) is (inl one) = in_box declaration is one
  level_to (Decl-F.BoxDecl declaration) is (inr taken) = taken_to declaration.name (ap name_in is) taken
  level_to (Decl-F.NetDecl net) is (inl one) = net_to net (out-NetDecl net).sig is refl one
  level_to (Decl-F.NetDecl net) is (inr (inl one)) = in_inner net one.0 one.1 is one.2 one.3
  level_to (Decl-F.NetDecl net) is (inr (inr (inl one))) = in_network net is one
  level_to (Decl-F.NetDecl net) is (inr (inr (inr taken))) = taken_to (out-NetDecl net).name (ap name_in is) taken
  level_to (Decl-F.TypeDecl name parts) is (inl one) = in_type name parts is one
  level_to (Decl-F.TypeDecl name parts) is (inr taken) = taken_to name (ap name_in is) taken
  level_to (Decl-F.SigDecl name sig) is (inl one) = in_sig name sig is one
  level_to (Decl-F.SigDecl name sig) is (inr taken) = taken_to name (ap name_in is) taken

taken_from : (x : Decl-F Decl NetDecl) (scope : List Decl) (outer : Around) (r : Refusal) → Taken scope (name_in x) r → Level scope outer x r
taken_from (Decl-F.BoxDecl declaration) scope outer r taken = inr taken
taken_from (Decl-F.NetDecl net) scope outer r taken = inr (inr (inr taken))
taken_from (Decl-F.TypeDecl name parts) scope outer r taken = inr taken
taken_from (Decl-F.SigDecl name sig) scope outer r taken = inr taken

level_from : (scope : List Decl) (outer : Around) (decl : Decl) (r : Refusal) → DeclBreaks scope outer decl r → Level scope outer (out-Decl decl) r
level_from scope outer decl r (name_twice held) = taken_from (out-Decl decl) scope outer _ (ap not held, refl)
level_from scope outer decl r (in_type name parts is one) = subst (λ x. Level scope outer x r) (sym is) (inl one)
level_from scope outer decl r (in_sig name sig is one) = subst (λ x. Level scope outer x r) (sym is) (inl one)
level_from scope outer decl r (in_box declaration is one) = subst (λ x. Level scope outer x r) (sym is) (inl one)
level_from scope outer decl r (in_net_sig net sig is has one) = subst (λ x. Level scope outer x r) (sym is) (inl (subst (λ s. InSig (scope ∷ outer) s r) (sym has) one))
level_from scope outer decl r (in_inner net before inner is at one) = subst (λ x. Level scope outer x r) (sym is) (inr (inl (before, inner, at, one)))
level_from scope outer decl r (in_network net is one) = subst (λ x. Level scope outer x r) (sym is) (inr (inr (inl one)))

-- a name is taken where its table has it
taken_goes : (scopes : Scopes) (scope : List Decl) (outer : Around) → Matches scopes scope outer → (name : Ident) (least : Option Refusal)
    → Goes least (Taken scope name) (required (not (is_held scopes.current.names name.text)) Twice name.at least)
taken_goes scopes scope outer same name least = subst (λ b. Goes least (Taken scope name) (required (not b) Twice name.at least)) (sym (same.current.held name.text))
    (finds_required (not (is_declared scope name.text)) Twice name.at least)

-- scopes with a name more in the innermost
abbrev pub more : Scopes → Ident → Meaning → Scopes
more scopes name m = record { outer = scopes.outer; current = declared scopes.current name.text m }

pub more_matches : (scopes : Scopes) (scope : List Decl) (outer : Around) → Matches scopes scope outer → (d : Decl) (m : Meaning) → meaning_sort m ≡ decl_sort d → Matches (more scopes (name_of d) m) (scope ++ d ∷ []) outer
more_matches scopes scope outer same d m sort = record { current = table_more scopes.current scope d m same.current sort; around = same.around }

-- a change refuses the least of what there was and what breaks the rules
abbrev Refuses : (List Decl → Around → Refusal → Type 0) → Change → Type 0
Refuses P change = (st : Declarations) (scope : List Decl) (outer : Around) → Matches st.scopes scope outer → Goes st.refusals (P scope outer) (change st).refusals

-- and adds the name to the innermost scope
abbrev Adds : Ident → Sort → Change → Type 0
Adds name sort change = (st : Declarations) (scope : List Decl) (outer : Around) → Matches st.scopes scope outer → (m : Meaning) × (meaning_sort m ≡ sort) × ((change st).scopes ≡ more st.scopes name m)

abbrev Extends : Decl-F Decl NetDecl → Change → Type 0
Extends x change = Adds (name_in x) (form_sort x) change

module _ (names : List (List ℕ)) where
  -- what is declared where several declarations stand one after another, and where a net's inner declarations begin
  abbrev behind : List Decl → Change
  behind decls st = all_after (each (after names) decls) st

  abbrev inside : Option Sig → Change
  inside sig st = within (with_net_signature names sig st)

  abbrev DeclHolds : Decl → Type 0
  DeclHolds d = HeldDecl names d → Refuses (λ scope outer. DeclBreaks scope outer d) (after names d) × Extends (out-Decl d) (after names d)

  abbrev NetHolds : NetDecl → Type 0
  NetHolds net = HeldNetDecl names (out-NetDecl net) × Each (HeldDecl names) (out-NetDecl net).decls → Refuses (λ scope outer. InNet scope outer (out-NetDecl net)) (after_net names net) × Adds (out-NetDecl net).name of_net (after_net names net)

  decl_holds : (x : Decl-F Decl NetDecl) (change : Change) → after names (roll-Decl x) ≡ change → (HeldDeclLevel names x → Refuses (λ scope outer. Level scope outer x) change × Extends x change) → DeclHolds (roll-Decl x)
  decl_holds x change is holds held = (refused, subst₂ (λ (y : Decl-F Decl NetDecl) (c : Change). Extends y c) (sym (out-roll-Decl x)) (sym is) (holds known).1)
    where
      known : HeldDeclLevel names x
      known = subst (HeldDeclLevel names) (out-roll-Decl x) (decl_level names (roll-Decl x) held)

      refused : Refuses (λ scope outer. DeclBreaks scope outer (roll-Decl x)) (after names (roll-Decl x))
      refused st scope outer same = goes_same st.refusals (Level scope outer x) (DeclBreaks scope outer (roll-Decl x)) (after names (roll-Decl x) st).refusals
          (subst (λ (c : Change). Goes st.refusals (Level scope outer x) (c st).refusals) (sym is) ((holds known).0 st scope outer same))
          (λ r one. level_to scope outer (roll-Decl x) r x (out-roll-Decl x) one)
          (λ r one. subst (λ y. Level scope outer y r) (out-roll-Decl x) (level_from scope outer (roll-Decl x) r one))

  box_holds : (declaration : BoxDecl) → HeldBox names declaration → Refuses (λ scope outer. Level scope outer (Decl-F.BoxDecl declaration)) (after_box names declaration) × Extends (Decl-F.BoxDecl declaration) (after_box names declaration)
  box_holds declaration held = (
    λ st scope outer same. goes_on st.refusals (BoxBreaks declaration) (box_required names declaration st.refusals) (Taken scope declaration.name) (after_box names declaration st).refusals
        (box_finds names declaration held st.refusals) (taken_goes st.scopes scope outer same declaration.name (box_required names declaration st.refusals)),
    λ st scope outer same. (meaning.Box (length st.boxes), refl, refl),
  )

  type_holds : (name : Ident) (parts : List TypePart) → HeldType names parts → Refuses (λ scope outer. Level scope outer (Decl-F.TypeDecl name parts)) (after_type names name parts) × Extends (Decl-F.TypeDecl name parts) (after_type names name parts)
  type_holds name parts held = (
    λ st scope outer same. goes_on st.refusals (TypeBreaks (scope ∷ outer) parts) (type_required names st.scopes parts st.refusals) (Taken scope name) (after_type names name parts st).refusals
        (type_finds names st.scopes (scope ∷ outer) (agrees st.scopes scope outer same) parts held st.refusals) (taken_goes st.scopes scope outer same name (type_required names st.scopes parts st.refusals)),
    λ st scope outer same. (meaning.«Type» (length st.types), refl, refl),
  )

  signature_refuses : (sig : Sig) → HeldSig names sig → Refuses (λ scope outer. SigBreaks (scope ∷ outer) sig) (with_signature names sig)
  signature_refuses (Arrow input output) held st scope outer same = arrow_finds names st.scopes (scope ∷ outer) (agrees st.scopes scope outer same) input output held.0 held.1 st.refusals
  signature_refuses (NamedSig name) held st scope outer same = named_finds names st.scopes (scope ∷ outer) (agrees st.scopes scope outer same) name st.refusals

  signature_keeps : (sig : Sig) (st : Declarations) → (with_signature names sig st).scopes ≡ st.scopes
  signature_keeps (Arrow input output) st = refl
  signature_keeps (NamedSig name) st = refl

  sig_holds : (name : Ident) (sig : Sig) → HeldSig names sig → Refuses (λ scope outer. Level scope outer (Decl-F.SigDecl name sig)) (after_sig names name sig) × Extends (Decl-F.SigDecl name sig) (after_sig names name sig)
  sig_holds name sig held = (
    λ st scope outer same. goes_on st.refusals (SigBreaks (scope ∷ outer) sig) (with_signature names sig st).refusals (Taken scope name) (after_sig names name sig st).refusals (signature_refuses sig held st scope outer same)
        (taken_goes (with_signature names sig st).scopes scope outer (subst (λ s. Matches s scope outer) (sym (signature_keeps sig st)) same) name (with_signature names sig st).refusals),
    λ st scope outer same. (meaning.Signature (number_at sig st), refl, ap (λ s. more s name (meaning.Signature (number_at sig st))) (signature_keeps sig st)),
  )

  net_signature_refuses : (sig : Option Sig) → HeldNetSig names sig → Refuses (λ scope outer. InSig (scope ∷ outer) sig) (with_net_signature names sig)
  net_signature_refuses None held st scope outer same = goes_nothing st.refusals (InSig (scope ∷ outer) None) (λ r one. one)
  net_signature_refuses (Some sig) held st scope outer same = signature_refuses sig held st scope outer same

  net_signature_keeps : (sig : Option Sig) (st : Declarations) → (with_net_signature names sig st).scopes ≡ st.scopes
  net_signature_keeps None st = refl
  net_signature_keeps (Some sig) st = signature_keeps sig st

  claim_keeps : (name : Ident) (signature : Option ℕ) (net : ℕ) (before : List Pending) (st : Declarations)
      → ((with_claim name signature net before st).refusals ≡ st.refusals) × ((with_claim name signature net before st).scopes ≡ st.scopes)
  claim_keeps name None net before st = (refl, refl)
  claim_keeps name (Some signature) net before st = (refl, refl)

  -- what is refused in a row of declarations
  inner_cons : (scope : List Decl) (outer : Around) (d : Decl) (ds : List Decl) (r : Refusal) → DeclBreaks scope outer d r ⊎ Inner (scope ++ d ∷ []) outer ds r → Inner scope outer (d ∷ ds) r
  inner_cons scope outer d ds r (inl one) = ([], d, foremost, subst (λ s. DeclBreaks s outer d r) (sym (append-nil scope)) one)
  inner_cons scope outer d ds r (inr one) = (d ∷ one.0, one.1, further one.2, subst (λ s. DeclBreaks s outer one.1 r) (append_assoc scope (d ∷ []) one.0) one.3)

  inner_at : (scope : List Decl) (outer : Around) (d : Decl) (ds : List Decl) (r : Refusal) (before : List Decl) (e : Decl) → StandsBehind e before (d ∷ ds) → DeclBreaks (scope ++ before) outer e r
      → DeclBreaks scope outer d r ⊎ Inner (scope ++ d ∷ []) outer ds r
  inner_at scope outer d ds r [] e foremost one = inl (subst (λ s. DeclBreaks s outer e r) (append-nil scope) one)
  inner_at scope outer d ds r (f ∷ before) e (further at) one = inr (before, e, at, subst (λ s. DeclBreaks s outer e r) (sym (append_assoc scope (f ∷ []) before)) one)

  abbrev RowHolds : List Decl → Type 0
  RowHolds decls = (st : Declarations) (scope : List Decl) (outer : Around) → Matches st.scopes scope outer
      → Goes st.refusals (Inner scope outer decls) (behind decls st).refusals × Matches (behind decls st).scopes (scope ++ decls) outer × ((behind decls st).scopes.outer ≡ st.scopes.outer)

  row_cons : (d : Decl) (ds : List Decl) → Refuses (λ scope outer. DeclBreaks scope outer d) (after names d) × Extends (out-Decl d) (after names d) → RowHolds ds → RowHolds (d ∷ ds)
  row_cons d ds one rest st scope outer same = (
    goes_same st.refusals (λ r. DeclBreaks scope outer d r ⊎ Inner (scope ++ d ∷ []) outer ds r) (Inner scope outer (d ∷ ds)) (behind ds (after names d st)).refusals
        (goes_on st.refusals (DeclBreaks scope outer d) (after names d st).refusals (Inner (scope ++ d ∷ []) outer ds) (behind ds (after names d st)).refusals (one.0 st scope outer same) following.0)
        (inner_cons scope outer d ds) (λ r found. inner_at scope outer d ds r found.0 found.1 found.2 found.3),
    subst (λ decls. Matches (behind ds (after names d st)).scopes decls outer) (append_assoc scope (d ∷ []) ds) following.1,
    following.2 ∙ ap (λ (s : Scopes). s.outer) (one.1 st scope outer same).2,
  )
    where
      matched : Matches (after names d st).scopes (scope ++ d ∷ []) outer
      matched = subst (λ s. Matches s (scope ++ d ∷ []) outer) (sym (one.1 st scope outer same).2) (more_matches st.scopes scope outer same d (one.1 st scope outer same).0 (one.1 st scope outer same).1)

      following : Goes (after names d st).refusals (Inner (scope ++ d ∷ []) outer ds) (behind ds (after names d st)).refusals × Matches (behind ds (after names d st)).scopes ((scope ++ d ∷ []) ++ ds) outer
          × ((behind ds (after names d st)).scopes.outer ≡ (after names d st).scopes.outer)
      following = rest (after names d st) (scope ++ d ∷ []) outer matched

  row_holds : {A : Type 0} (decl : A → Decl) → ((x : A) → DeclHolds (decl x)) → (xs : List A) → Each (HeldDecl names) (each decl xs) → RowHolds (each decl xs)
  row_holds decl holds [] held st scope outer same =
      (goes_nothing st.refusals (Inner scope outer []) (λ r one. none_behind one.1 one.0 one.2), subst (λ decls. Matches st.scopes decls outer) (sym (append-nil scope)) same, refl)
  row_holds decl holds (x ∷ xs) held st scope outer same = row_cons (decl x) (each decl xs) (holds x (held (decl x) here)) (row_holds decl holds xs (λ d at. held d (later at))) st scope outer same

  abbrev Held : Type 0
  Held = (d : Decl) × DeclHolds d

  abbrev decls_of : List Held → List Decl
  decls_of decls = each (λ (e : Held). e.0) decls

  abbrev net_form : Ident → Option Sig → List Held → NetExpr → NetDecl-F Decl NetDecl
  net_form name sig decls connect = record { name = name; sig = sig; decls = decls_of decls; connect = connect }

  -- a net: its signature, its inner declarations, its network, and its name
  module _ (name : Ident) (sig : Option Sig) (decls : List Held) (connect : NetExpr) (known : HeldNetSig names sig × HeldNet names connect) (inner_known : Each (HeldDecl names) (decls_of decls)) where
    abbrev net_change : Change
    net_change = net_step names (record { name = name; sig = sig; decls = each (after names) (decls_of decls); connect = connect })

    abbrev opened : Change
    opened st = with_net_signature names sig st

    abbrev inner_of : Change
    inner_of st = behind (decls_of decls) (inside sig st)

    abbrev closed : Change
    closed st = ended names connect (inner_of st)

    abbrev claimed : Change
    claimed st = with_claim name (net_signature sig st) (net_number names connect (inner_of st)) (opened st).claims (closed st)

    opened_matches : (st : Declarations) (scope : List Decl) (outer : Around) → Matches st.scopes scope outer → Matches (inside sig st).scopes [] (scope ∷ outer)
    opened_matches st scope outer same = subst (λ s. Matches (entered_scope s) [] (scope ∷ outer)) (sym (net_signature_keeps sig st)) (entered_matches st.scopes scope outer same)

    rows : RowHolds (decls_of decls)
    rows = row_holds (λ (e : Held). e.0) (λ e. e.1) decls inner_known

    scope_left : (st : Declarations) (scope : List Decl) (outer : Around) → Matches st.scopes scope outer → (claimed st).scopes ≡ st.scopes
    scope_left st scope outer same = (claim_keeps name (net_signature sig st) (net_number names connect (inner_of st)) (opened st).claims (closed st)).1
        ∙ left_entered (inner_of st).scopes (opened st).scopes.outer (opened st).scopes.current (rows (inside sig st) [] (scope ∷ outer) (opened_matches st scope outer same)).2 ∙ net_signature_keeps sig st

    net_refuses : Refuses (λ scope outer. InNet scope outer (net_form name sig decls connect)) net_change
    net_refuses st scope outer same =
        subst₂ (λ (scopes : Scopes) (least : Option Refusal). Goes st.refusals (InNet scope outer (net_form name sig decls connect)) (required (not (is_held scopes.current.names name.text)) Twice name.at least))
        (sym (scope_left st scope outer same)) (sym (claim_keeps name (net_signature sig st) (net_number names connect (inner_of st)) (opened st).claims (closed st)).0)
        (goes_on st.refusals (InSig (scope ∷ outer) sig) (opened st).refusals
        (λ r. Inner [] (scope ∷ outer) (decls_of decls) r ⊎ (NetworkBreaks (decls_of decls ∷ scope ∷ outer) connect r ⊎ Taken scope name r)) last (net_signature_refuses sig known.0 st scope outer same)
        (goes_on (opened st).refusals (Inner [] (scope ∷ outer) (decls_of decls)) (inner_of st).refusals
        (λ r. NetworkBreaks (decls_of decls ∷ scope ∷ outer) connect r ⊎ Taken scope name r) last row.0
        (goes_on (inner_of st).refusals (NetworkBreaks (decls_of decls ∷ scope ∷ outer) connect) (closed st).refusals (Taken scope name) last
        (network_finds names (inner_of st).scopes (decls_of decls ∷ scope ∷ outer) (agrees (inner_of st).scopes (decls_of decls) (scope ∷ outer) row.1) connect known.1 (inner_of st).refusals)
        (taken_goes st.scopes scope outer same name (closed st).refusals))))
      where
        last : Option Refusal
        last = required (not (is_held st.scopes.current.names name.text)) Twice name.at (closed st).refusals

        row : Goes (inside sig st).refusals (Inner [] (scope ∷ outer) (decls_of decls)) (inner_of st).refusals × Matches (inner_of st).scopes (decls_of decls) (scope ∷ outer) × ((inner_of st).scopes.outer ≡ (inside sig st).scopes.outer)
        row = rows (inside sig st) [] (scope ∷ outer) (opened_matches st scope outer same)

    net_adds : (st : Declarations) (scope : List Decl) (outer : Around) → Matches st.scopes scope outer → (m : Meaning) × (meaning_sort m ≡ of_net) × ((net_change st).scopes ≡ more st.scopes name m)
    net_adds st scope outer same = (meaning.Net (net_number names connect (inner_of st)), refl, ap (λ s. more s name (meaning.Net (net_number names connect (inner_of st)))) (scope_left st scope outer same))

  net_holds : (name : Ident) (sig : Option Sig) (decls : List Held) (connect : NetExpr) → NetHolds (roll-NetDecl (net_form name sig decls connect))
  net_holds name sig decls connect = subst₂ (λ (form : NetDecl-F Decl NetDecl) (c : Change). HeldNetDecl names form × Each (HeldDecl names) form.decls → Refuses (λ scope outer. InNet scope outer form) c × Adds form.name of_net c)
      (sym (out-roll-NetDecl (net_form name sig decls connect))) (sym (fold-roll-NetDecl Change Change (decl_step names) (net_step names) (net_form name sig decls connect)))
      (λ held. (net_refuses name sig decls connect held.0 held.1, net_adds name sig decls connect held.0 held.1))

  -- a declaration refuses what breaks its rules
  decl_refuses : (d : Decl) → DeclHolds d
  decl_refuses = ind-Decl DeclHolds NetHolds
      (λ x y is. subst (λ z. DeclHolds (roll-Decl z)) is
      (elim y as (λ z. DeclHolds (roll-Decl (map-Decl _ _ Decl NetDecl (λ e. e.0) (λ e. e.0) z))) [
        | Decl-F.BoxDecl b ↦ decl_holds (Decl-F.BoxDecl b) (after_box names b) (fold-roll-Decl Change Change (decl_step names) (net_step names) (Decl-F.BoxDecl b)) (λ held. box_holds b held.0)
        | Decl-F.NetDecl net ↦ decl_holds (Decl-F.NetDecl net.0) (after_net names net.0) (fold-roll-Decl Change Change (decl_step names) (net_step names) (Decl-F.NetDecl net.0)) net.1
        | Decl-F.TypeDecl name parts ↦ decl_holds (Decl-F.TypeDecl name parts) (after_type names name parts) (fold-roll-Decl Change Change (decl_step names) (net_step names) (Decl-F.TypeDecl name parts)) (λ held. type_holds name parts held.0)
        | Decl-F.SigDecl name sig ↦ decl_holds (Decl-F.SigDecl name sig) (after_sig names name sig) (fold-roll-Decl Change Change (decl_step names) (net_step names) (Decl-F.SigDecl name sig)) (λ held. sig_holds name sig held.0)
      ]))
      (λ x y is. subst (λ z. NetHolds (roll-NetDecl z)) is (net_holds y.name y.sig y.decls y.connect))

  -- several declarations, from the beginning
  pub all_refuse : (decls : List Decl) → Each (HeldDecl names) decls → Goes None (Inner [] [] decls) (all_after (each (after names) decls) start).refusals
  all_refuse decls held = subst (λ (ds : List Decl). Goes None (Inner [] [] ds) (behind ds start).refusals) (map-id decls)
      (row_holds (λ d. d) decl_refuses decls (subst (Each (HeldDecl names)) (sym (map-id decls)) held) start [] [] (record { current = empty_matches; around = λ n. refl })).0

-- the refusal of a program is the least of what breaks its rules
pub program_refuses : (program : Program) → IsLeast (ProgramBreaks program) (declarations_of (names_of program) program).refusals
program_refuses program = least (declarations_of (names_of program) program).refusals (goes_same None (Inner [] [] program.decls) (ProgramBreaks program) (declarations_of (names_of program) program).refusals
    (all_refuse (names_of program) program.decls (program_held program)) (λ r one. in_decl one.2 one.3) from)
  where
    from : (r : Refusal) → ProgramBreaks program r → Inner [] [] program.decls r
    from r (in_decl {before} {decl} at one) = (before, decl, at, one)

    least : (left : Option Refusal) → Goes None (ProgramBreaks program) left → IsLeast (ProgramBreaks program) left
    least None none = λ r one. none r (inr one)
    least (Some l) first = record { stands = own l first.stands; first = λ other one. first.first other (inr one) }
      where
        own : (r : Refusal) → Either None (ProgramBreaks program) r → ProgramBreaks program r
        own r (inl was) = cc
        own r (inr one) = one
