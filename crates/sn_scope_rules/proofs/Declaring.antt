-- What declarations add to the tables is what they declare.
use Rattle.std.proofs.Common.{◌≡◌, ℕ, suc, ◌<◌, ◌+◌, ◌==◌, ◌&&◌, Bool, true, false, if◌then◌else◌, List, [], ◌∷◌, ◌++◌, length, map as each, Option, Some, None, option_map, slice_get, unwrap_or, bytes_eq, codes, refl, sym, ap, ◌∙◌, subst, subst₂, append-nil, append_assoc, map-id, arith}
use Rattle.std.proofs.lemmas.List.{length-append, length-map, length_push, map-append}
use Rattle.std.proofs.lemmas.Grind.{flat_map-append}
use Rattle.std.proofs.lemmas.Bool.Decides.{nat_tests}
use Rattle.sn_ast.specs.declared.declaration.BoxDecl.{BoxDecl}
use Rattle.sn_ast.specs.declared.declaration.Decl.{Decl}
use Rattle.sn_ast.specs.declared.declaration.Decl.TheFolds.{fold-roll-Decl, fold-roll-NetDecl, ind-Decl, map-Decl}
use Rattle.sn_ast.specs.declared.declaration.Decl.TheOpen.{Decl-F}
use Rattle.sn_ast.specs.declared.declaration.Decl.TheViews.{out-Decl, out-NetDecl, out-roll-Decl, out-roll-NetDecl, roll-Decl, roll-NetDecl}
use Rattle.sn_ast.specs.declared.declaration.NetDecl.{NetDecl, NetDecl-F, fold-NetDecl}
use Rattle.sn_ast.specs.declared.label.Ident.{Ident}
use Rattle.sn_ast.specs.declared.label.Sig.{Sig}
use Rattle.sn_ast.specs.declared.label.Sig.TheVariants.{Arrow, Named as NamedSig}
use Rattle.sn_ast.specs.declared.label.TypePart.{TypePart}
use Rattle.sn_ast.specs.declared.network.NetExpr.{NetExpr}
use Rattle.sn_box_scope.specs.Boxes.{box_at}
use Rattle.sn_label_scope.specs.declared.refusal.Refusal.{Refusal}
use Rattle.sn_net.specs.declared.expr.BoxProgram.{BoxProgram}
use Rattle.sn_net.specs.declared.net.Net.{Net}
use Rattle.sn_record.specs.LabelSet.{Labels}
use Rattle.sn_scope.specs.Built.{part_of}
use Rattle.sn_scope.specs.Declarations.{Change, after, after_box, after_net, after_sig, after_type, all_after, decl_step, ended, net_at, net_number, net_signature, net_step, number_at, start, with_claim, with_net, with_net_signature, with_signature, within}
use Rattle.sn_scope.specs.Networks.{network_at}
use Rattle.sn_scope.specs.Scopes.{meaning_in, meaning_of, signature_number}
use Rattle.sn_scope.specs.Trees.{then_some, tree}
use Rattle.sn_scope.specs.Types.{type_at}
use Rattle.sn_scope.specs.declared.declarations.Declarations.{Declarations}
use Rattle.sn_scope.specs.declared.declarations.Pending.{Pending}
use Rattle.sn_scope.specs.declared.declarations.Signature.{Signature}
use Rattle.sn_scope.specs.declared.network.Component.{Component}
use Rattle.sn_scope.specs.declared.network.Network.{Network}
use Rattle.sn_scope.specs.declared.network.Network.TheVariants.{Named, Made}
use Rattle.sn_scope.specs.declared.scopes.Meaning.{Meaning}
use Rattle.sn_scope.specs.declared.scopes.Meaning.TheVariants as meaning
use Rattle.sn_scope.specs.declared.scopes.Scopes.{Scopes}
use Rattle.sn_scope.proofs.Levels.{component-Named, part-Made}
use Rattle.sn_scope_rules.specs.Claims.{Signed, SignedIn, is_main, is_net, name_of as signed_name}
use Rattle.sn_scope_rules.specs.Claims.SignedIn.{no_more, no_net, signed_net, unsigned_net}
use Rattle.sn_scope_rules.specs.Declared.{boxes_before, boxes_in, boxes_of, boxes_step, net_step as net_boxes}
use Rattle.sn_scope_rules.specs.Labels.{SigBreaks}
use Rattle.sn_scope_rules.specs.Labels.SigBreaks.{in_input, in_output, no_such_signature}
use Rattle.sn_scope_rules.specs.Networks.{NetworkBreaks}
use Rattle.sn_scope_rules.specs.Programs.{DeclBreaks}
use Rattle.sn_scope_rules.specs.Programs.DeclBreaks.{in_inner, in_net_sig, in_network, in_sig, in_type, name_twice}
use Rattle.sn_scope_rules.specs.Standing.{Beside, StandsBehind}
use Rattle.sn_scope_rules.specs.Standing.StandsBehind.{foremost, further}
use Rattle.sn_scope_rules.specs.Trees.{TreeOf}
use Rattle.sn_scope_rules.specs.Types.{VariantsOf, once}
use Rattle.sn_scope_rules.specs.Types.SignatureOf.{arrow, named_signature}
use Rattle.sn_scope_rules.specs.Visible.{Around, first_named, found_at, is_declared, is_signature, name_in, name_of, within as within_outer}
use Rattle.sn_scope_rules.proofs.Declarations.{left_entered, more, more_matches}
use Rattle.sn_scope_rules.proofs.Known.{Grows, Knows, Means, MeansForm, NetMeans, SignatureMeans, declared_meaning, grows_itself, grows_on, known, known_form, means_grow, more_named, net_grows, sees_parts, sees_types, signature_grows, still_there}
use Rattle.sn_scope_rules.proofs.Levels.{At, Ties}
use Rattle.sn_scope_rules.proofs.Mains.{inner_main, main_append, main_from}
use Rattle.sn_scope_rules.proofs.Standing.{together_map}
use Rattle.sn_scope_rules.proofs.Trees.{network_ties}
use Rattle.sn_scope_rules.proofs.Types.{found_kind, type_gives}
use Rattle.sn_scope_rules.proofs.Visible.{Matches, around_of, decl_sort, empty_matches, entered_matches, fold_last, form_sort, get_last, meaning_sort}

pub beside_append : {A B : Type 0} (P : A → B → Type 0) (xs : List A) (ys : List B) (us : List A) (vs : List B) → Beside P xs ys → Beside P us vs → Beside P (xs ++ us) (ys ++ vs)
beside_append P [] [] us vs one other = other
beside_append P [] (y ∷ ys) us vs one other = absurd one
beside_append P (x ∷ xs) [] us vs one other = absurd one
beside_append P (x ∷ xs) (y ∷ ys) us vs one other = (one.0, beside_append P xs ys us vs one.1 other)

pub beside_same : {A B : Type 0} (P Q : A → B → Type 0) → ((x : A) (y : B) → P x y → Q x y) → (xs : List A) (ys : List B) → Beside P xs ys → Beside Q xs ys
beside_same P Q to [] [] one = tt
beside_same P Q to [] (y ∷ ys) one = absurd one
beside_same P Q to (x ∷ xs) [] one = absurd one
beside_same P Q to (x ∷ xs) (y ∷ ys) one = (to x y one.0, beside_same P Q to xs ys one.1)

pub beside_length : {A B : Type 0} (P : A → B → Type 0) (xs : List A) (ys : List B) → Beside P xs ys → length xs ≡ length ys
beside_length P [] [] one = refl
beside_length P [] (y ∷ ys) one = absurd one
beside_length P (x ∷ xs) [] one = absurd one
beside_length P (x ∷ xs) (y ∷ ys) one = ap suc (beside_length P xs ys one.1)

-- the boxes within a net
abbrev pub net_boxes_of : NetDecl → List BoxDecl
net_boxes_of = fold-NetDecl (List BoxDecl) (List BoxDecl) boxes_step net_boxes

-- one more declaration in the scope
before_more : (scope : List Decl) (d : Decl) (outer : Around) → boxes_before ((scope ++ d ∷ []) ∷ outer) ≡ boxes_before (scope ∷ outer) ++ boxes_of d
before_more scope d outer = ap (λ xs. boxes_before outer ++ xs) (flat_map-append boxes_of scope (d ∷ []) ∙ ap (λ xs. boxes_in scope ++ xs) (append-nil (boxes_of d)))
    ∙ sym (append_assoc (boxes_before outer) (boxes_in scope) (boxes_of d))

-- nothing is refused in a declaration, or in several that stand in a row
abbrev pub Fine : List Decl → Around → Decl → Type 0
Fine scope outer d = (r : Refusal) → DeclBreaks scope outer d r → ⊥

abbrev pub RowFine : List Decl → Around → List Decl → Type 0
RowFine scope outer decls = (before : List Decl) (d : Decl) → StandsBehind d before decls → Fine (scope ++ before) outer d

pub fine_first : (scope : List Decl) (outer : Around) (d : Decl) (ds : List Decl) → RowFine scope outer (d ∷ ds) → Fine scope outer d
fine_first scope outer d ds fine = subst (λ s. Fine s outer d) (append-nil scope) (fine [] d foremost)

pub fine_rest : (scope : List Decl) (outer : Around) (d : Decl) (ds : List Decl) → RowFine scope outer (d ∷ ds) → RowFine (scope ++ d ∷ []) outer ds
fine_rest scope outer d ds fine before e at = subst (λ s. Fine s outer e) (sym (append_assoc scope (d ∷ []) before)) (fine (d ∷ before) e (further at))

pub fine_name : (scope : List Decl) (outer : Around) (d : Decl) → Fine scope outer d → is_declared scope (name_of d).text ≡ false
fine_name scope outer d fine = cases (is_declared scope (name_of d).text) refl
  where
    cases : (b : Bool) → is_declared scope (name_of d).text ≡ b → is_declared scope (name_of d).text ≡ false
    cases true is = absurd (fine _ (name_twice is))
    cases false is = is

-- a net whose network is the name of a net is that net, and any other is one more
added_net : (boxes : List BoxProgram) (network : Network) (nets : List Component) (L : Net → Type 0) → ((more : List Component)
    → Ties boxes (λ levels. part_of boxes levels (nets ++ more) network) L)
    → (more : List Component) → Ties boxes (λ levels. part_of boxes levels (with_net network nets ++ more) (Named (net_at network nets))) L
added_net boxes (Named number) nets L ties after levels = ties after levels
added_net boxes (Made component) nets L ties after levels = subst (λ made. At boxes levels made L) (sym same) (ties (component ∷ after) levels)
  where
    same : part_of boxes levels ((nets ++ component ∷ []) ++ after) (Named (length nets)) ≡ part_of boxes levels (nets ++ component ∷ after) (Made component)
    same = ap (λ o. then_some o (tree boxes levels ((nets ++ component ∷ []) ++ after))) (component-Named ((nets ++ component ∷ []) ++ after) (length nets)
        ∙ still_there (nets ++ component ∷ []) after (length nets) component (get_last nets component (length nets) refl))
        ∙ ap (λ ns. tree boxes levels ns component) (append_assoc nets (component ∷ []) after)
        ∙ sym (part-Made boxes levels (nets ++ component ∷ after) (Made component) component refl)

added_nets : (network : Network) (nets : List Component) → (more : List Component) × (with_net network nets ≡ nets ++ more)
added_nets (Named number) nets = ([], sym (append-nil nets))
added_nets (Made component) nets = (component ∷ [], refl)

module _ (names : List (List ℕ)) (boxes : List BoxProgram) where
  -- a claim is that of a net
  pub record PendingMeans (st : Declarations) (pending : Pending) (net : Signed) : Type 0 where
    pub place : pending.place ≡ (signed_name net).at
    pub tree : NetMeans names boxes st pending.net ((out-NetDecl net.net).decls ∷ net.outside) (out-NetDecl net.net).connect
    pub types : SignatureMeans names boxes st pending.signature net.outside net.sig

  pending_grows : (old new : Declarations) → Grows old new → (pending : Pending) (net : Signed) → PendingMeans old pending net → PendingMeans new pending net
  pending_grows old new grows pending net means = record {
    place = means.place;
    tree = net_grows names boxes old new grows pending.net ((out-NetDecl net.net).decls ∷ net.outside) (out-NetDecl net.net).connect means.tree;
    types = signature_grows names boxes old new grows pending.signature net.outside net.sig means.types;
  }

  pendings_grow : (old new : Declarations) → Grows old new → (ps : List Pending) (nets : List Signed) → Beside (PendingMeans old) ps nets → Beside (PendingMeans new) ps nets
  pendings_grow old new grows = beside_same (PendingMeans old) (PendingMeans new) (pending_grows old new grows)

  -- what a declaration adds
  pub record Tells (st new : Declarations) (scope : List Decl) (outer : Around) (d : Decl) : Type 0 where
    pub grows : Grows st new
    pub boxes_are : new.boxes ≡ st.boxes ++ each (box_at names) (boxes_of d)
    pub m : Meaning
    pub sort : meaning_sort m ≡ decl_sort d
    pub scopes_are : new.scopes ≡ more st.scopes (name_of d) m
    pub means : MeansForm names boxes new (Some m) (out-Decl d) (scope ∷ outer)
    pub own : List Pending
    pub nets : List Signed
    pub claims_are : new.claims ≡ st.claims ++ own
    pub beside : Beside (PendingMeans new) own nets
    pub signed_in : (ds : List Decl) (rest : List Signed) → SignedIn (scope ++ d ∷ []) outer ds rest → SignedIn scope outer (d ∷ ds) (nets ++ rest)
    pub main_is : new.main ≡ main_from (length st.claims) st.main nets

  -- and what several add
  pub record RowTells (st new : Declarations) (scope : List Decl) (outer : Around) (ds : List Decl) : Type 0 where
    pub grows : Grows st new
    pub boxes_are : new.boxes ≡ st.boxes ++ each (box_at names) (boxes_in ds)
    pub outer_is : new.scopes.outer ≡ st.scopes.outer
    pub knows : Knows names boxes new (scope ++ ds) outer
    pub own : List Pending
    pub nets : List Signed
    pub claims_are : new.claims ≡ st.claims ++ own
    pub beside : Beside (PendingMeans new) own nets
    pub signed_in : SignedIn scope outer ds nets
    pub main_is : new.main ≡ main_from (length st.claims) st.main nets

  -- the state knows the declaration, too
  knows_more : (st new : Declarations) (scope : List Decl) (outer : Around) (d : Decl) → Knows names boxes st scope outer → is_declared scope (name_of d).text ≡ false
      → Tells st new scope outer d
      → Knows names boxes new (scope ++ d ∷ []) outer
  knows_more st new scope outer d knows fresh tells = record {
    matches = subst (λ s. Matches s (scope ++ d ∷ []) outer) (sym tells.scopes_are) (more_matches st.scopes scope outer knows.matches d tells.m tells.sort);
    depth = ap (λ (s : Scopes). length s.outer) tells.scopes_are ∙ knows.depth;
    boxes_are = tells.boxes_are ∙ ap (λ xs. xs ++ each (box_at names) (boxes_of d)) knows.boxes_are ∙ sym (map-append (box_at names) (boxes_before (scope ∷ outer)) (boxes_of d))
        ∙ ap (each (box_at names)) (sym (before_more scope d outer));
    current = λ n. subst₂ (Means names boxes new) (sym (meaning_is n)) (sym (ap (option_map (within_outer outer)) (more_named scope d fresh n))) (by_name n (bytes_eq
        (name_of d).text n));
    around = λ n. subst (λ (s : Scopes). Means names boxes new (around_of s.outer n) (found_at outer n)) (sym tells.scopes_are) (means_grow names boxes st new tells.grows
        (around_of st.scopes.outer n) (found_at outer n) (knows.around n));
  }
    where
      meaning_is : (n : List ℕ) → meaning_in new.scopes.current n ≡ (if bytes_eq (name_of d).text n then Some tells.m else meaning_in st.scopes.current n)
      meaning_is n = ap (λ (s : Scopes). meaning_in s.current n) tells.scopes_are
          ∙ declared_meaning st.scopes.current (name_of d).text tells.m knows.matches.current.as_many (knows.matches.current.held (name_of d).text ∙ fresh) n

      by_name : (n : List ℕ) (b : Bool) → Means names boxes new (if b then Some tells.m else meaning_in st.scopes.current n) (option_map (within_outer outer) (if b then Some
          (d, scope) else first_named n scope))
      by_name n true = tells.means
      by_name n false = means_grow names boxes st new tells.grows (meaning_in st.scopes.current n) (option_map (within_outer outer) (first_named n scope)) (knows.current n)

  -- the same scopes and boxes, with more in the tables
  knows_grow : (old new : Declarations) (scope : List Decl) (outer : Around) → Knows names boxes old scope outer → Grows old new → new.scopes ≡ old.scopes
      → new.boxes ≡ old.boxes → Knows names boxes new scope outer
  knows_grow old new scope outer knows grows scopes_same boxes_same = record {
    matches = subst (λ s. Matches s scope outer) (sym scopes_same) knows.matches;
    depth = ap (λ (s : Scopes). length s.outer) scopes_same ∙ knows.depth;
    boxes_are = boxes_same ∙ knows.boxes_are;
    current = λ n. subst (λ (s : Scopes). Means names boxes new (meaning_in s.current n) (option_map (within_outer outer) (first_named n scope))) (sym scopes_same)
        (means_grow names boxes old new grows (meaning_in old.scopes.current n) (option_map (within_outer outer) (first_named n scope)) (knows.current n));
    around = λ n. subst (λ (s : Scopes). Means names boxes new (around_of s.outer n) (found_at outer n)) (sym scopes_same) (means_grow names boxes old new grows
        (around_of old.scopes.outer n) (found_at outer n) (knows.around n));
  }

  -- within a net's braces
  knows_within : (st : Declarations) (scope : List Decl) (outer : Around) → Knows names boxes st scope outer → Knows names boxes (within st) [] (scope ∷ outer)
  knows_within st scope outer knows = record {
    matches = entered_matches st.scopes scope outer knows.matches;
    depth = let longer = length_push st.scopes.outer st.scopes.current in let depth = knows.depth in omega (arith, longer, depth);
    boxes_are = knows.boxes_are ∙ ap (each (box_at names)) (sym (append-nil (boxes_before (scope ∷ outer))));
    current = λ n. refl;
    around = λ n. subst (λ m. Means names boxes st m (found_at (scope ∷ outer) n)) (sym (fold_last _ None st.scopes.outer st.scopes.current))
        (known names boxes st scope outer knows n);
  }

  -- a signature
  signature_grows_by : (sig : Sig) (st : Declarations) → Grows st (with_signature names sig st)
  signature_grows_by (Arrow input output) st = record {
    nets = [];
    types = [];
    signatures = _ ∷ [];
    more_nets = sym (append-nil st.nets);
    more_types = sym (append-nil st.types);
    more_signatures = refl;
  }
  signature_grows_by (NamedSig name) st = record {
    nets = [];
    types = [];
    signatures = [];
    more_nets = sym (append-nil st.nets);
    more_types = sym
        (append-nil st.types);
    more_signatures = sym (append-nil st.signatures);
  }

  signature_means : (st : Declarations) (scope : List Decl) (outer : Around) → Knows names boxes st scope outer → (sig : Sig) → ((r : Refusal) → SigBreaks (scope ∷ outer) sig r → ⊥)
      → SignatureMeans names boxes (with_signature names sig st) (number_at sig st) (scope ∷ outer) sig
  signature_means st scope outer knows (Arrow input output) fine =
      let i = type_gives names st.types st.scopes (scope ∷ outer) (sees_types names boxes st scope outer knows) input (λ r one. fine r (in_input one)) in
      let o = type_gives names st.types st.scopes (scope ∷ outer) (sees_types names boxes st scope outer knows) output (λ r one. fine r (in_output one)) in (
        once i.0,
        once o.0,
        arrow i.1 o.1,
        get_last st.signatures (record { input = type_at names st.scopes st.types input; output = type_at names st.scopes st.types output }) (length st.signatures) refl
            ∙ ap Some (signature_same (type_at names st.scopes st.types input) (once i.0) (type_at names st.scopes st.types output) (once o.0) i.2 o.2),
      )
    where
      signature_same : (a b c d : List Labels) → a ≡ b → c ≡ d → Path Signature (record { input = a; output = c }) (record { input = b; output = d })
      signature_same a b c d one other = λ k. record { input = one k; output = other k }
  signature_means st scope outer knows (NamedSig name) fine =
      let found = found_kind is_signature (scope ∷ outer) name.text (λ wrong. fine _ (no_such_signature wrong)) in
      by_form found.0 found.1 found.2 (out-Decl found.0) refl found.3 (known_form names boxes st scope outer knows name.text found.0 found.1 found.2)
    where
      by_form : (decl : Decl) (there : Around) → found_at (scope ∷ outer) name.text ≡ Some (decl, there) → (x : Decl-F Decl NetDecl) → out-Decl decl ≡ x → is_signature x ≡ true
          → MeansForm names boxes st (meaning_of st.scopes name.text) x there
          → SignatureMeans names boxes (with_signature names (NamedSig name) st) (number_at (NamedSig name) st) (scope ∷ outer) (NamedSig name)
      by_form decl there is (Decl-F.BoxDecl declaration) at kind seen = cc
      by_form decl there is (Decl-F.NetDecl called) at kind seen = cc
      by_form decl there is (Decl-F.TypeDecl own inner) at kind seen = cc
      by_form decl there is (Decl-F.SigDecl own sig) at kind seen = (
        seen.2.0,
        seen.2.1,
        named_signature is at seen.2.2,
        ap (λ m. slice_get st.signatures (unwrap_or (signature_number m) (length st.signatures))) seen.1 ∙ seen.2.3,
      )

  -- a declaration that is no net
  module _ (st new : Declarations) (scope : List Decl) (outer : Around) (d : Decl) (x : Decl-F Decl NetDecl) (at : out-Decl d ≡ x) (kind : is_net x ≡ false) (grows : Grows st new)
      (boxes_are : new.boxes ≡ st.boxes ++ each (box_at names) (boxes_of d)) (m : Meaning) (sort : meaning_sort m ≡ form_sort x) (scopes_are : new.scopes ≡ more st.scopes
      (name_in x) m)
      (means : MeansForm names boxes new (Some m) x (scope ∷ outer)) (claims_are : new.claims ≡ st.claims) (main_is : new.main ≡ st.main) where
    simple_tells : Tells st new scope outer d
    simple_tells = record {
      grows = grows;
      boxes_are = boxes_are;
      m = m;
      sort = sort ∙ ap form_sort (sym at);
      scopes_are = scopes_are ∙ ap (λ y. more st.scopes (name_in y) m) (sym at);
      means = subst (λ y. MeansForm names boxes new (Some m) y (scope ∷ outer)) (sym at) means;
      own = [];
      nets = [];
      claims_are = claims_are ∙ sym (append-nil st.claims);
      beside = tt;
      signed_in = λ ds rest one. no_net (ap is_net at ∙ kind) one;
      main_is = main_is;
    }

-- all that is declared of a program, whose boxes are known from the beginning
module _ (names : List (List ℕ)) (all : List BoxDecl) where
  abbrev pub boxes : List BoxProgram
  boxes = each (box_at names) all

  -- some first of the boxes
  abbrev pub Begin : List BoxDecl → Type 0
  Begin some = (later : List BoxDecl) × (all ≡ some ++ later)

  abbrev pub DeclTells : Decl → Type 0
  DeclTells d = (st : Declarations) (scope : List Decl) (outer : Around) → Knows names boxes st scope outer → Fine scope outer d
      → Begin (boxes_before (scope ∷ outer) ++ boxes_of d) → Tells names boxes st (after names d st) scope outer d

  begin_within : (some : List BoxDecl) (one : BoxDecl) → Begin (some ++ one ∷ []) → length some < length boxes
  begin_within some one begin =
      let many = length-map all (box_at names) in
      let split = ap (λ (xs : List BoxDecl). length xs) begin.1 ∙ length-append (some ++ one ∷ []) begin.0 in
      let longer = length_push some one in
      omega (arith, many, split, longer)

  box_tells : (d : Decl) (declaration : BoxDecl) → out-Decl d ≡ Decl-F.BoxDecl declaration → after names d ≡ after_box names declaration → boxes_of d ≡ declaration ∷ [] → DeclTells d
  box_tells d declaration at is has st scope outer knows fine begin = subst (λ (c : Change). Tells names boxes st (c st) scope outer d) (sym is)
      (simple_tells names boxes st (after_box names declaration st) scope outer d (Decl-F.BoxDecl declaration) at refl
      (record {
        nets = [];
        types = [];
        signatures = [];
        more_nets = sym (append-nil st.nets);
        more_types = sym (append-nil st.types);
        more_signatures = sym
            (append-nil st.signatures);
      })
      (ap (λ bs. st.boxes ++ each (box_at names) bs) (sym has)) (meaning.Box (length st.boxes)) refl refl (
        ap (λ n. Some (meaning.Box n)) (ap (λ (xs : List BoxProgram). length xs) knows.boxes_are ∙ length-map (boxes_before (scope ∷ outer)) (box_at names)),
        begin_within (boxes_before (scope ∷ outer)) declaration (subst (λ bs. Begin (boxes_before (scope ∷ outer) ++ bs)) has begin),
      ) refl refl)

  type_tells : (d : Decl) (name : Ident) (parts : List TypePart) → out-Decl d ≡ Decl-F.TypeDecl name parts → after names d ≡ after_type names name parts → boxes_of d ≡ [] → DeclTells d
  type_tells d name parts at is has st scope outer knows fine begin = subst (λ (c : Change). Tells names boxes st (c st) scope outer d) (sym is)
      (simple_tells names boxes st (after_type names name parts st) scope outer d (Decl-F.TypeDecl name parts) at refl
      (record {
        nets = [];
        types = type_at names st.scopes st.types parts ∷ [];
        signatures = [];
        more_nets = sym (append-nil st.nets);
        more_types = refl;
        more_signatures = sym
            (append-nil st.signatures);
      })
      (sym (append-nil st.boxes) ∙ ap (λ bs. st.boxes ++ each (box_at names) bs) (sym has)) (meaning.«Type» (length st.types)) refl refl
      (length st.types, given.0, refl, given.1, get_last st.types (type_at names st.scopes st.types parts) (length st.types) refl ∙ ap Some given.2) refl refl)
    where
      given : (vs : List Labels) × VariantsOf names (scope ∷ outer) parts vs × (type_at names st.scopes st.types parts ≡ once vs)
      given = type_gives names st.types st.scopes (scope ∷ outer) (sees_types names boxes st scope outer knows) parts (λ r one. fine r (in_type name parts at one))

  sig_tells : (d : Decl) (name : Ident) (sig : Sig) → out-Decl d ≡ Decl-F.SigDecl name sig → after names d ≡ after_sig names name sig → boxes_of d ≡ [] → DeclTells d
  sig_tells d name sig at is has st scope outer knows fine begin = subst (λ (c : Change). Tells names boxes st (c st) scope outer d) (sym is)
      (by_sig sig (signature_grows_by names boxes sig st) (signature_means names boxes st scope outer knows sig (λ r one. fine r (in_sig name sig at one))) at)
    where
      by_sig : (sig : Sig) → Grows st (with_signature names sig st) → SignatureMeans names boxes (with_signature names sig st) (number_at sig st) (scope ∷ outer) sig
          → out-Decl d ≡ Decl-F.SigDecl name sig
          → Tells names boxes st (after_sig names name sig st) scope outer d
      by_sig (Arrow input output) grows means at = simple_tells names boxes st (after_sig names name (Arrow input output) st) scope outer d (Decl-F.SigDecl name
          (Arrow input output)) at refl
          (record {
            nets = grows.nets;
            types = grows.types;
            signatures = grows.signatures;
            more_nets = grows.more_nets;
            more_types = grows.more_types;
            more_signatures = grows.more_signatures;
          })
          (sym (append-nil st.boxes) ∙ ap (λ bs. st.boxes ++ each (box_at names) bs) (sym has)) (meaning.Signature (number_at (Arrow input output) st)) refl refl (
            number_at
                (Arrow input output) st,
            refl,
            means,
          ) refl refl
      by_sig (NamedSig other) grows means at = simple_tells names boxes st (after_sig names name (NamedSig other) st) scope outer d (Decl-F.SigDecl name (NamedSig other)) at refl
          (record {
            nets = grows.nets;
            types = grows.types;
            signatures = grows.signatures;
            more_nets = grows.more_nets;
            more_types = grows.more_types;
            more_signatures = grows.more_signatures;
          })
          (sym (append-nil st.boxes) ∙ ap (λ bs. st.boxes ++ each (box_at names) bs) (sym has)) (meaning.Signature (number_at (NamedSig other) st)) refl refl (
            number_at
                (NamedSig other) st,
            refl,
            means,
          ) refl refl

  -- what is declared where several declarations stand one after another
  abbrev pub behind : List Decl → Change
  behind decls st = all_after (each (after names) decls) st

  abbrev pub RowHolds : List Decl → Type 0
  RowHolds ds = (st : Declarations) (scope : List Decl) (outer : Around) → Knows names boxes st scope outer → RowFine scope outer ds
      → Begin (boxes_before (scope ∷ outer) ++ boxes_in ds) → RowTells names boxes st (behind ds st) scope outer ds

  row_nil : RowHolds []
  row_nil st scope outer knows fine begin = record {
    grows = grows_itself st;
    boxes_are = sym (append-nil st.boxes);
    outer_is = refl;
    knows = subst (λ s. Knows names boxes st s outer) (sym (append-nil scope)) knows;
    own = [];
    nets = [];
    claims_are = sym (append-nil st.claims);
    beside = tt;
    signed_in = no_more;
    main_is = refl;
  }

  row_cons : (d : Decl) (ds : List Decl) → DeclTells d → RowHolds ds → RowHolds (d ∷ ds)
  row_cons d ds one rest st scope outer knows fine begin = record {
    grows = grows_on st mid new first.grows others.grows;
    boxes_are = others.boxes_are ∙ ap (λ xs. xs ++ each (box_at names) (boxes_in ds)) first.boxes_are
        ∙ append_assoc st.boxes (each (box_at names) (boxes_of d)) (each (box_at names) (boxes_in ds))
        ∙ ap (λ xs. st.boxes ++ xs) (sym (map-append (box_at names) (boxes_of d) (boxes_in ds)));
    outer_is = others.outer_is ∙ ap (λ (s : Scopes). s.outer) first.scopes_are;
    knows = subst (λ s. Knows names boxes new s outer) (append_assoc scope (d ∷ []) ds) others.knows;
    own = first.own ++ others.own;
    nets = first.nets ++ others.nets;
    claims_are = others.claims_are ∙ ap (λ xs. xs ++ others.own) first.claims_are ∙ append_assoc st.claims first.own others.own;
    beside = beside_append (PendingMeans names boxes new) first.own first.nets others.own others.nets
        (pendings_grow names boxes mid new others.grows first.own first.nets first.beside) others.beside;
    signed_in = first.signed_in ds others.nets others.signed_in;
    main_is = others.main_is ∙ (λ i. main_from (claims_so_far i) (first.main_is i) others.nets) ∙ sym (main_append (length st.claims) st.main first.nets others.nets);
  }
    where
      mid : Declarations
      mid = after names d st

      new : Declarations
      new = behind (d ∷ ds) st

      first : Tells names boxes st mid scope outer d
      first = one st scope outer knows (fine_first scope outer d ds fine) (
        boxes_in ds ++ begin.0,
        begin.1 ∙ ap (λ xs. xs ++ begin.0) (sym (append_assoc (boxes_before (scope ∷ outer)) (boxes_of d) (boxes_in ds)))
            ∙ append_assoc (boxes_before (scope ∷ outer) ++ boxes_of d) (boxes_in ds) begin.0,
      )

      others : RowTells names boxes mid new (scope ++ d ∷ []) outer ds
      others = rest mid (scope ++ d ∷ []) outer (knows_more names boxes st mid scope outer d knows (fine_name scope outer d (fine_first scope outer d ds fine)) first)
          (fine_rest scope outer d ds fine) (
            begin.0,
            begin.1 ∙ ap (λ xs. xs ++ begin.0) (sym (append_assoc (boxes_before (scope ∷ outer)) (boxes_of d) (boxes_in ds))
                ∙ ap (λ xs. xs ++ boxes_in ds) (sym (before_more scope d outer))),
          )

      claims_so_far : length mid.claims ≡ length st.claims + length first.nets
      claims_so_far = ap (λ (xs : List Pending). length xs) first.claims_are ∙ length-append st.claims first.own
          ∙ ap (λ n. length st.claims + n) (beside_length (PendingMeans names boxes mid) first.own first.nets first.beside)

  row_tells : {A : Type 0} (decl : A → Decl) → ((x : A) → DeclTells (decl x)) → (xs : List A) → RowHolds (each decl xs)
  row_tells decl holds [] = row_nil
  row_tells decl holds (x ∷ xs) = row_cons (decl x) (each decl xs) (holds x) (row_tells decl holds xs)

  -- tables that are as they were
  same_grows : (old new : Declarations) → new.nets ≡ old.nets → new.types ≡ old.types → new.signatures ≡ old.signatures → Grows old new
  same_grows old new nets types signatures = record {
    nets = [];
    types = [];
    signatures = [];
    more_nets = nets ∙ sym (append-nil old.nets);
    more_types = types ∙ sym (append-nil old.types);
    more_signatures = signatures ∙ sym (append-nil old.signatures);
  }

  -- what a signature leaves as it was
  record Keeps (old new : Declarations) : Type 0 where
    grows : Grows old new
    scopes : new.scopes ≡ old.scopes
    boxes_same : new.boxes ≡ old.boxes
    claims : new.claims ≡ old.claims
    main : new.main ≡ old.main

  signature_keeps : (sig : Option Sig) (st : Declarations) → Keeps st (with_net_signature names sig st)
  signature_keeps None st = record { grows = grows_itself st; scopes = refl; boxes_same = refl; claims = refl; main = refl }
  signature_keeps (Some (Arrow input output)) st = record {
    grows = signature_grows_by names boxes
        (Arrow input output) st;
    scopes = refl;
    boxes_same = refl;
    claims = refl;
    main = refl;
  }
  signature_keeps (Some (NamedSig name)) st = record { grows = signature_grows_by names boxes (NamedSig name) st; scopes = refl; boxes_same = refl; claims = refl; main = refl }

  outermost_is : (n m : ℕ) → n ≡ m → (n == 0) ≡ (suc m == 1)
  outermost_is n m same = ap (λ k. k == 0) same ∙ one_more m
    where
      one_more : (m : ℕ) → (m == 0) ≡ (suc m == 1)
      one_more m = grind (arith, nat_tests)

  abbrev net_form : Ident → Option Sig → List Decl → NetExpr → NetDecl-F Decl NetDecl
  net_form name sig decls connect = record { name = name; sig = sig; decls = decls; connect = connect }

  abbrev net_change : Ident → Option Sig → List Decl → NetExpr → Change
  net_change name sig decls connect = net_step names (record { name = name; sig = sig; decls = each (after names) decls; connect = connect })

  -- a net
  module _ (name : Ident) (sig : Option Sig) (decls : List Decl) (connect : NetExpr) (net : NetDecl) (out : out-NetDecl net ≡ net_form name sig decls connect) (rows : RowHolds decls)
      (d : Decl) (at : out-Decl d ≡ Decl-F.NetDecl net) (has : boxes_of d ≡ boxes_in decls) (st : Declarations) (scope : List Decl) (outer : Around)
      (knows : Knows names boxes st scope outer)
      (fine : Fine scope outer d) (begin : Begin (boxes_before (scope ∷ outer) ++ boxes_of d)) where
    abbrev opened : Declarations
    opened = with_net_signature names sig st

    abbrev inside : Declarations
    inside = within opened

    abbrev inner : Declarations
    inner = behind decls inside

    abbrev closed : Declarations
    closed = ended names connect inner

    abbrev number : ℕ
    number = net_number names connect inner

    abbrev there : Around
    there = scope ∷ outer

    kept : Keeps st opened
    kept = signature_keeps sig st

    row : RowTells names boxes inside inner [] there decls
    row = rows inside [] there (knows_within names boxes opened scope outer (knows_grow names boxes st opened scope outer knows kept.grows kept.scopes kept.boxes_same))
        (λ before e behind r one. fine r (in_inner net before e at (subst (StandsBehind e before) (sym (ap (λ (f : NetDecl-F Decl NetDecl). f.decls) out)) behind) one))
        (begin.0, begin.1 ∙ (λ i. (sym (append-nil (boxes_before there)) i ++ has i) ++ begin.0))

    abbrev L : Net → Type 0
    L = TreeOf names boxes (decls ∷ there) connect

    closed_means : NetMeans names boxes closed number (decls ∷ there) connect
    closed_means = added_net boxes (network_at names inner.scopes connect) inner.nets L
        (λ more. network_ties names boxes (inner.nets ++ more) inner.scopes (decls ∷ there) (sees_parts names boxes inner decls there row.knows more) connect
        (λ r one. fine r (in_network net at (subst (λ (f : NetDecl-F Decl NetDecl). NetworkBreaks (f.decls ∷ there) f.connect r) (sym out) one))))

    closed_grows : Grows inner closed
    closed_grows =
        let added = added_nets (network_at names inner.scopes connect) inner.nets in
        record { nets = added.0; types = []; signatures = []; more_nets = added.1; more_types = sym (append-nil inner.types); more_signatures = sym (append-nil inner.signatures) }

    opened_closed : Grows opened closed
    opened_closed = grows_on opened inside closed (same_grows opened inside refl refl refl) (grows_on inside inner closed row.grows closed_grows)

    closed_scopes : closed.scopes ≡ st.scopes
    closed_scopes = left_entered inner.scopes opened.scopes.outer opened.scopes.current row.outer_is ∙ kept.scopes

    inner_claims : inner.claims ≡ row.own
    inner_claims = row.claims_are

    inner_mains : (place : ℕ) (found : Option ℕ) → main_from place found row.nets ≡ found
    inner_mains = inner_main [] there decls row.nets row.signed_in (omega arith)

    closed_main : closed.main ≡ st.main
    closed_main = row.main_is ∙ inner_mains 0 inside.main ∙ kept.main

    tree_of : (state : Declarations) → Grows closed state → NetMeans names boxes state number ((out-NetDecl net).decls ∷ there) (out-NetDecl net).connect
    tree_of state grows = subst (λ (f : NetDecl-F Decl NetDecl). NetMeans names boxes state number (f.decls ∷ there) f.connect) (sym out)
        (net_grows names boxes closed state grows number (decls ∷ there) connect closed_means)

    -- the claim, if there is one
    record ClaimPart (claimed : Declarations) : Type 0 where
      grows : Grows closed claimed
      scopes : claimed.scopes ≡ closed.scopes
      boxes_same : claimed.boxes ≡ closed.boxes
      own : List Pending
      nets : List Signed
      claims_are : claimed.claims ≡ st.claims ++ own
      beside : Beside (PendingMeans names boxes claimed) own nets
      signed_in : (ds : List Decl) (rest : List Signed) → SignedIn (scope ++ d ∷ []) outer ds rest → SignedIn scope outer (d ∷ ds) (nets ++ rest)
      main_is : claimed.main ≡ main_from (length st.claims) st.main nets

    inner_signed : SignedIn [] there (out-NetDecl net).decls row.nets
    inner_signed = subst (λ (f : NetDecl-F Decl NetDecl). SignedIn [] there f.decls row.nets) (sym out) row.signed_in

    abbrev claimed_by : Option Sig → Declarations
    claimed_by s = with_claim name (net_signature s st) number opened.claims closed

    claim_part : (s : Option Sig) → s ≡ sig → ClaimPart (claimed_by s)
    claim_part None none = record {
      grows = same_grows closed (claimed_by None) refl refl refl;
      scopes = refl;
      boxes_same = refl;
      own = row.own;
      nets = row.nets;
      claims_are = λ i. kept.claims i ++ inner_claims i;
      beside = pendings_grow names boxes inner (claimed_by None) (grows_on inner closed (claimed_by None) closed_grows (same_grows closed
          (claimed_by None) refl refl refl)) row.own row.nets row.beside;
      signed_in = λ ds rest one. unsigned_net net at (ap (λ (f : NetDecl-F Decl NetDecl). f.sig) out ∙ sym none) inner_signed one;
      main_is = closed_main ∙ sym (inner_mains (length st.claims) st.main);
    }
    claim_part (Some s) some = record {
      grows = grows;
      scopes = refl;
      boxes_same = refl;
      own = pending ∷ row.own;
      nets = entry ∷ row.nets;
      claims_are = (λ i. (kept.claims i ++ pending ∷ []) ++ inner_claims i) ∙ append_assoc st.claims (pending ∷ []) row.own;
      beside = (own_means, pendings_grow names boxes inner (claimed_by (Some s)) (grows_on inner closed (claimed_by (Some s)) closed_grows grows) row.own row.nets row.beside);
      signed_in = λ ds rest one. signed_net net s at (ap (λ (f : NetDecl-F Decl NetDecl). f.sig) out ∙ sym some) inner_signed one;
      main_is = main_same ∙ sym (inner_mains (suc (length st.claims)) (if is_main entry then Some (length st.claims) else st.main));
    }
      where
        pending : Pending
        pending = record { place = name.at; net = number; signature = number_at s st }

        entry : Signed
        entry = record { net = net; sig = s; outside = there }

        grows : Grows closed (claimed_by (Some s))
        grows = same_grows closed (claimed_by (Some s)) refl refl refl

        types : SignatureMeans names boxes opened (number_at s st) there s
        types = subst (λ o. SignatureMeans names boxes (with_net_signature names o st) (number_at s st) there s) some
            (signature_means names boxes st scope outer knows s (λ r one. fine r (in_net_sig net s at (ap (λ (f : NetDecl-F Decl NetDecl). f.sig) out ∙ sym some) one)))

        own_means : PendingMeans names boxes (claimed_by (Some s)) pending entry
        own_means = record {
          place = sym (ap (λ (f : NetDecl-F Decl NetDecl). f.name.at) out);
          tree = tree_of (claimed_by (Some s)) grows;
          types = signature_grows names boxes opened (claimed_by (Some s)) (grows_on opened closed (claimed_by (Some s)) opened_closed grows) (number_at s st) there s types;
        }

        is_outer : (length closed.scopes.outer == 0) ≡ (suc (length outer) == 1)
        is_outer = outermost_is (length closed.scopes.outer) (length outer) (ap (λ (x : Scopes). length x.outer) closed_scopes ∙ knows.depth)

        main_same : (claimed_by (Some s)).main ≡ (if is_main entry then Some (length st.claims) else st.main)
        main_same = λ i. if (is_outer i && bytes_eq (sym (ap (λ (f : NetDecl-F Decl NetDecl). f.name.text) out) i) (codes "main")) then Some (length (kept.claims i)) else closed_main i

    part : ClaimPart (claimed_by sig)
    part = claim_part sig refl

    abbrev new : Declarations
    new = net_change name sig decls connect st

    claimed_new : Grows (claimed_by sig) new
    claimed_new = same_grows (claimed_by sig) new refl refl refl

    closed_new : Grows closed new
    closed_new = grows_on closed (claimed_by sig) new part.grows claimed_new

    name_same : name_of d ≡ name
    name_same = ap name_in at ∙ ap (λ (f : NetDecl-F Decl NetDecl). f.name) out

    whole_tells : Tells names boxes st new scope outer d
    whole_tells = record {
      grows = grows_on st opened new kept.grows (grows_on opened closed new opened_closed closed_new);
      boxes_are = part.boxes_same ∙ row.boxes_are ∙ (λ i. kept.boxes_same i ++ each (box_at names) (sym has i));
      m = meaning.Net number;
      sort = ap form_sort (sym at);
      scopes_are = (λ i. more (part.scopes i) (sym name_same i) (meaning.Net number)) ∙ ap (λ s. more s (name_of d) (meaning.Net number)) closed_scopes;
      means = subst (λ y. MeansForm names boxes new (Some (meaning.Net number)) y there) (sym at) (number, refl, tree_of new closed_new);
      own = part.own;
      nets = part.nets;
      claims_are = part.claims_are;
      beside = pendings_grow names boxes (claimed_by sig) new claimed_new part.own part.nets part.beside;
      signed_in = part.signed_in;
      main_is = part.main_is;
    }

  abbrev NetTells : NetDecl → Type 0
  NetTells net = (d : Decl) → out-Decl d ≡ Decl-F.NetDecl net → after names d ≡ after_net names net → boxes_of d ≡ net_boxes_of net → DeclTells d

  abbrev Told : Type 0
  Told = (d : Decl) × DeclTells d

  net_tells : (name : Ident) (sig : Option Sig) (decls : List Told) (connect : NetExpr) → NetTells (roll-NetDecl (net_form name sig (each (λ (e : Told). e.0) decls) connect))
  net_tells name sig decls connect d at is has st scope outer knows fine begin =
      subst (λ (c : Change). Tells names boxes st (c st) scope outer d) (sym (is
      ∙ fold-roll-NetDecl Change Change (decl_step names) (net_step names) (net_form name sig (each (λ (e : Told). e.0) decls) connect)))
      (whole_tells name sig (each (λ (e : Told). e.0) decls) connect (roll-NetDecl (net_form name sig (each (λ (e : Told). e.0) decls) connect)) (out-roll-NetDecl
      (net_form name sig (each (λ (e : Told). e.0) decls) connect))
      (row_tells (λ (e : Told). e.0) (λ e. e.1) decls) d at
      (has ∙ fold-roll-NetDecl (List BoxDecl) (List BoxDecl) boxes_step net_boxes (net_form name sig (each (λ (e : Told). e.0) decls) connect)
      ∙ together_map boxes_of (each (λ (e : Told). e.0) decls)) st scope outer knows fine begin)

  after_roll : (x : Decl-F Decl NetDecl) → after names (roll-Decl x) ≡ decl_step names (map-Decl Decl NetDecl Change Change (after names) (after_net names) x)
  after_roll x = fold-roll-Decl Change Change (decl_step names) (net_step names) x

  boxes_roll : (x : Decl-F Decl NetDecl) → boxes_of (roll-Decl x) ≡ boxes_step (map-Decl Decl NetDecl (List BoxDecl) (List BoxDecl) boxes_of net_boxes_of x)
  boxes_roll x = fold-roll-Decl (List BoxDecl) (List BoxDecl) boxes_step net_boxes x

  -- each declaration adds what it declares
  decl_tells : (d : Decl) → DeclTells d
  decl_tells = ind-Decl DeclTells NetTells
      (λ x y is. subst (λ z. DeclTells (roll-Decl z)) is
      (elim y as (λ z. DeclTells (roll-Decl (map-Decl _ _ Decl NetDecl (λ e. e.0) (λ e. e.0) z))) [
        | Decl-F.BoxDecl b ↦ box_tells (roll-Decl (Decl-F.BoxDecl b)) b (out-roll-Decl (Decl-F.BoxDecl b)) (after_roll (Decl-F.BoxDecl b)) (boxes_roll (Decl-F.BoxDecl b))
        | Decl-F.NetDecl net ↦ net.1 (roll-Decl (Decl-F.NetDecl net.0)) (out-roll-Decl (Decl-F.NetDecl net.0)) (after_roll (Decl-F.NetDecl net.0)) (boxes_roll (Decl-F.NetDecl net.0))
        | Decl-F.TypeDecl name parts ↦ type_tells (roll-Decl (Decl-F.TypeDecl name parts)) name parts (out-roll-Decl (Decl-F.TypeDecl name parts)) (after_roll
            (Decl-F.TypeDecl name parts)) (boxes_roll (Decl-F.TypeDecl name parts))
        | Decl-F.SigDecl name sig ↦ sig_tells (roll-Decl (Decl-F.SigDecl name sig)) name sig (out-roll-Decl (Decl-F.SigDecl name sig)) (after_roll (Decl-F.SigDecl name sig))
            (boxes_roll (Decl-F.SigDecl name sig))
      ]))
      (λ x y is. subst (λ z. NetTells (roll-NetDecl z)) is (net_tells y.name y.sig y.decls y.connect))

  -- several declarations add what they declare
  pub all_tell : (decls : List Decl) → RowHolds decls
  all_tell decls = subst RowHolds (map-id decls) (row_tells (λ d. d) decl_tells decls)

  -- the state before all declarations
  pub knows_start : Knows names boxes start [] []
  knows_start = record {
    matches = record { current = empty_matches; around = λ n. refl };
    depth = refl;
    boxes_are = refl;
    current = λ n. refl;
    around = λ n. refl;
  }
