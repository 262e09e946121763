-- What the tables have behind declarations: for each name, what it stands for.
use Rattle.std.proofs.Common.{◌≡◌, ℕ, ◌<◌, ◌≤◌, Bool, true, false, ◌||◌, if◌then◌else◌, List, [], ◌∷◌, ◌++◌, length, map as each, Option, Some, None, option_map, slice_get, bytes_eq, refl, sym, ap, ◌∙◌, subst, append-nil, append_assoc, arith}
use Rattle.std.specs.Option.{option_or}
use Rattle.std.proofs.lemmas.List.{length_push}
use Rattle.std.proofs.lemmas.List.Folds.{list_any-append}
use Rattle.std.proofs.lemmas.Option.{slice_get_past, slice_get_within}
use Rattle.sn_ast.specs.declared.declaration.Decl.{Decl}
use Rattle.sn_ast.specs.declared.declaration.Decl.TheOpen.{Decl-F}
use Rattle.sn_ast.specs.declared.declaration.Decl.TheViews.{out-Decl, out-NetDecl}
use Rattle.sn_ast.specs.declared.declaration.NetDecl.{NetDecl}
use Rattle.sn_ast.specs.declared.label.Sig.{Sig}
use Rattle.sn_ast.specs.declared.network.NetExpr.{NetExpr}
use Rattle.sn_box_scope.specs.Boxes.{box_at}
use Rattle.sn_names.specs.Names.{is_held, number_in}
use Rattle.sn_names.proofs.NamesLaws.{number_in-append, number_in-held, number_in-new, number_in_last, same_text}
use Rattle.sn_net.specs.declared.expr.BoxProgram.{BoxProgram}
use Rattle.sn_record.specs.LabelSet.{Labels}
use Rattle.sn_scope.specs.Built.{part_of}
use Rattle.sn_scope.specs.Scopes.{declared, first_of, meaning_in, meaning_of}
use Rattle.sn_scope.specs.declared.declarations.Declarations.{Declarations}
use Rattle.sn_scope.specs.declared.declarations.Signature.{Signature}
use Rattle.sn_scope.specs.declared.network.Component.{Component}
use Rattle.sn_scope.specs.declared.network.Network.TheVariants.{Named}
use Rattle.sn_scope.specs.declared.scopes.Meaning.{Meaning}
use Rattle.sn_scope.specs.declared.scopes.Meaning.TheVariants as meaning
use Rattle.sn_scope.specs.declared.scopes.Scope.{Scope}
use Rattle.sn_scope_rules.specs.Declared.{boxes_before}
use Rattle.sn_scope_rules.specs.Trees.{TreeOf}
use Rattle.sn_scope_rules.specs.Types.{SignatureOf}
use Rattle.sn_scope_rules.specs.Visible.{Around, first_named, found_at, has_name, is_declared, name_of, within}
use Rattle.sn_scope_rules.proofs.Levels.{Ties}
use Rattle.sn_scope_rules.proofs.Places.{Found, first_new, first_none, first_old}
use Rattle.sn_scope_rules.proofs.Trees.{Sees, SeesForm}
use Rattle.sn_scope_rules.proofs.Types.{SeesType, TypeMeans}
use Rattle.sn_scope_rules.proofs.Visible.{Matches, around_of, get_last, get_left}

-- what was there before is there still
pub record Grows (old new : Declarations) : Type 0 where
  pub nets : List Component
  pub types : List (List Labels)
  pub signatures : List Signature
  pub more_nets : new.nets ≡ old.nets ++ nets
  pub more_types : new.types ≡ old.types ++ types
  pub more_signatures : new.signatures ≡ old.signatures ++ signatures

pub grows_itself : (st : Declarations) → Grows st st
grows_itself st = record {
  nets = [];
  types = [];
  signatures = [];
  more_nets = sym (append-nil st.nets);
  more_types = sym (append-nil st.types);
  more_signatures = sym
      (append-nil st.signatures);
}

pub grows_on : (a b c : Declarations) → Grows a b → Grows b c → Grows a c
grows_on a b c one other = record {
  nets = one.nets ++ other.nets;
  types = one.types ++ other.types;
  signatures = one.signatures ++ other.signatures;
  more_nets = other.more_nets ∙ ap (λ xs. xs ++ other.nets) one.more_nets ∙ append_assoc a.nets one.nets other.nets;
  more_types = other.more_types ∙ ap (λ xs. xs ++ other.types) one.more_types ∙ append_assoc a.types one.types other.types;
  more_signatures = other.more_signatures ∙ ap (λ xs. xs ++ other.signatures) one.more_signatures ∙ append_assoc a.signatures one.signatures other.signatures;
}

pub still_there : {A : Type 0} (xs ys : List A) (k : ℕ) (x : A) → slice_get xs k ≡ Some x → slice_get (xs ++ ys) k ≡ Some x
still_there xs ys k x is = get_left xs ys k (slice_get_within xs k x is) ∙ is

module _ (names : List (List ℕ)) (boxes : List BoxProgram) where
  -- the trees of the net of the number, also where more nets follow
  abbrev pub NetMeans : Declarations → ℕ → Around → NetExpr → Type 0
  NetMeans st k around connect = (more : List Component) → Ties boxes (λ levels. part_of boxes levels (st.nets ++ more) (Named k)) (TreeOf names boxes around connect)

  -- the signature of the number
  abbrev pub SignatureMeans : Declarations → ℕ → Around → Sig → Type 0
  SignatureMeans st k around sig = (input : List Labels) × (output : List Labels) × SignatureOf names around sig input output × (slice_get st.signatures k ≡ Some
      (record { input = input; output = output }))

  abbrev pub MeansForm : Declarations → Option Meaning → Decl-F Decl NetDecl → Around → Type 0
  MeansForm st m (Decl-F.BoxDecl declaration) there = (m ≡ Some (meaning.Box (length (boxes_before there)))) × (length (boxes_before there) < length boxes)
  MeansForm st m (Decl-F.NetDecl called) there = (k : ℕ) × (m ≡ Some (meaning.Net k)) × NetMeans st k ((out-NetDecl called).decls ∷ there) (out-NetDecl called).connect
  MeansForm st m (Decl-F.TypeDecl name parts) there = TypeMeans names st.types m parts there
  MeansForm st m (Decl-F.SigDecl name sig) there = (k : ℕ) × (m ≡ Some (meaning.Signature k)) × SignatureMeans st k there sig

  abbrev pub Means : Declarations → Option Meaning → Option (Decl × Around) → Type 0
  Means st m None = m ≡ None
  Means st m (Some found) = MeansForm st m (out-Decl found.0) found.1

  module _ (old new : Declarations) (grows : Grows old new) where
    pub net_grows : (k : ℕ) (around : Around) (connect : NetExpr) → NetMeans old k around connect → NetMeans new k around connect
    net_grows k around connect means more =
        subst (λ nets. Ties boxes (λ levels. part_of boxes levels nets (Named k)) (TreeOf names boxes around connect)) (sym (append_assoc old.nets grows.nets more)
        ∙ ap (λ xs. xs ++ more) (sym grows.more_nets)) (means (grows.nets ++ more))

    pub signature_grows : (k : ℕ) (around : Around) (sig : Sig) → SignatureMeans old k around sig → SignatureMeans new k around sig
    signature_grows k around sig means = (means.0, means.1, means.2, ap (λ xs. slice_get xs k) grows.more_signatures ∙ still_there old.signatures grows.signatures k _ means.3)

    form_grows : (m : Option Meaning) (x : Decl-F Decl NetDecl) (there : Around) → MeansForm old m x there → MeansForm new m x there
    form_grows m (Decl-F.BoxDecl declaration) there means = means
    form_grows m (Decl-F.NetDecl called) there means = (means.0, means.1, net_grows means.0 ((out-NetDecl called).decls ∷ there) (out-NetDecl called).connect means.2)
    form_grows m (Decl-F.TypeDecl name parts) there means = (
      means.0,
      means.1,
      means.2,
      means.3,
      ap (λ xs. slice_get xs means.0) grows.more_types
          ∙ still_there old.types grows.types means.0 _ means.4,
    )
    form_grows m (Decl-F.SigDecl name sig) there means = (means.0, means.1, signature_grows means.0 there sig means.2)

    pub means_grow : (m : Option Meaning) (found : Option (Decl × Around)) → Means old m found → Means new m found
    means_grow m None means = means
    means_grow m (Some found) means = form_grows m (out-Decl found.0) found.1 means

  -- what is declared has a meaning
  some_form : (st : Declarations) (m : Option Meaning) (x : Decl-F Decl NetDecl) (there : Around) → MeansForm st m x there → (k : Meaning) × (m ≡ Some k)
  some_form st m (Decl-F.BoxDecl declaration) there means = (meaning.Box (length (boxes_before there)), means.0)
  some_form st m (Decl-F.NetDecl called) there means = (meaning.Net means.0, means.1)
  some_form st m (Decl-F.TypeDecl name parts) there means = (meaning.«Type» means.0, means.2)
  some_form st m (Decl-F.SigDecl name sig) there means = (meaning.Signature means.0, means.1)

  both_mean : (st : Declarations) (a b : Option Meaning) (f g : Option (Decl × Around)) → Means st a f → Means st b g → Means st (first_of a b) (option_or f g)
  both_mean st a b None g one other = subst (λ x. Means st (first_of x b) g) (sym one) other
  both_mean st a b (Some found) g one other =
      let is = some_form st a (out-Decl found.0) found.1 one in
      subst (λ x. MeansForm st x (out-Decl found.0) found.1) (is.1 ∙ sym (ap (λ x. first_of x b) is.1)) one

  -- the state behind the declarations of a scope, with the scopes around it
  pub record Knows (st : Declarations) (scope : List Decl) (outer : Around) : Type 0 where
    pub matches : Matches st.scopes scope outer
    pub depth : length st.scopes.outer ≡ length outer
    pub boxes_are : st.boxes ≡ each (box_at names) (boxes_before (scope ∷ outer))
    pub current : (n : List ℕ) → Means st (meaning_in st.scopes.current n) (option_map (within outer) (first_named n scope))
    pub around : (n : List ℕ) → Means st (around_of st.scopes.outer n) (found_at outer n)

  module _ (st : Declarations) (scope : List Decl) (outer : Around) (knows : Knows st scope outer) where
    pub known : (n : List ℕ) → Means st (meaning_of st.scopes n) (found_at (scope ∷ outer) n)
    known n = both_mean st (meaning_in st.scopes.current n) (around_of st.scopes.outer n) (option_map (within outer) (first_named n scope)) (found_at outer n) (knows.current n)
        (knows.around n)

    pub known_form : (n : List ℕ) (decl : Decl) (there : Around) → found_at (scope ∷ outer) n ≡ Some (decl, there) → MeansForm st (meaning_of st.scopes n) (out-Decl decl) there
    known_form n decl there is = subst (Means st (meaning_of st.scopes n)) is (known n)

    -- the parts of networks
    pub sees_parts : (more : List Component) → Sees names boxes (st.nets ++ more) st.scopes (scope ∷ outer)
    sees_parts more n decl there is = by_form (meaning_of st.scopes n) (out-Decl decl) there (known_form n decl there is)
      where
        by_form : (m : Option Meaning) (x : Decl-F Decl NetDecl) (there : Around) → MeansForm st m x there → SeesForm names boxes (st.nets ++ more) m x there
        by_form m (Decl-F.BoxDecl declaration) there means = means
        by_form m (Decl-F.NetDecl called) there means = (means.0, means.1, means.2 more)
        by_form m (Decl-F.TypeDecl name parts) there means = tt
        by_form m (Decl-F.SigDecl name sig) there means = tt

    -- the parts of types
    pub sees_types : (n : List ℕ) (decl : Decl) (there : Around) → found_at (scope ∷ outer) n ≡ Some (decl, there)
        → SeesType names st.types (meaning_of st.scopes n) (out-Decl decl) there
    sees_types n decl there is = by_form (meaning_of st.scopes n) (out-Decl decl) there (known_form n decl there is)
      where
        by_form : (m : Option Meaning) (x : Decl-F Decl NetDecl) (there : Around) → MeansForm st m x there → SeesType names st.types m x there
        by_form m (Decl-F.BoxDecl declaration) there means = tt
        by_form m (Decl-F.NetDecl called) there means = tt
        by_form m (Decl-F.TypeDecl name parts) there means = means
        by_form m (Decl-F.SigDecl name sig) there means = tt

-- the table of a scope with a new name
module _ (scope : Scope) (name : List ℕ) (m : Meaning) (as_many : length scope.meanings ≡ length scope.names) (fresh : is_held scope.names name ≡ false) where
  abbrev pushed : Scope
  pushed = record { names = scope.names ++ name ∷ []; meanings = scope.meanings ++ m ∷ [] }

  pushed_meaning : (n : List ℕ) (held same : Bool) → is_held scope.names n ≡ held → bytes_eq name n ≡ same → meaning_in pushed n ≡ (if same then Some m else meaning_in scope n)
  pushed_meaning n true true there is = absurd_by (sym fresh ∙ ap (is_held scope.names) (same_text name n is) ∙ there)
    where
      absurd_by : false ≡ true → meaning_in pushed n ≡ Some m
      absurd_by wrong = cc
  pushed_meaning n true false there is = ap (slice_get (scope.meanings ++ m ∷ [])) (number_in-append scope.names (name ∷ []) n there)
      ∙ get_left scope.meanings (m ∷ []) (number_in scope.names n) (subst (λ k. number_in scope.names n < k) (sym as_many) (number_in-held scope.names n there))
  pushed_meaning n false true none is =
      get_last scope.meanings m (number_in (scope.names ++ name ∷ []) n) (subst (λ x. number_in (scope.names ++ name ∷ []) x ≡ length scope.meanings) (same_text name n is)
      (number_in_last scope.names name fresh ∙ sym as_many))
  pushed_meaning n false false none is = slice_get_past (scope.meanings ++ m ∷ []) (number_in (scope.names ++ name ∷ []) n) past
      ∙ sym (slice_get_past scope.meanings (number_in scope.names n) was_past)
    where
      absent : is_held (scope.names ++ name ∷ []) n ≡ false
      absent = list_any-append (λ x. bytes_eq x n) scope.names (name ∷ []) ∙ ap (λ b. b || (bytes_eq name n || false)) none ∙ ap (λ b. b || false) is

      past : length (scope.meanings ++ m ∷ []) ≤ number_in (scope.names ++ name ∷ []) n
      past = let number = number_in-new (scope.names ++ name ∷ []) n absent in let longer = length_push scope.meanings m in let named = length_push scope.names name in omega
          (arith, number, longer, named, as_many)

      was_past : length scope.meanings ≤ number_in scope.names n
      was_past = let number = number_in-new scope.names n none in omega (arith, number, as_many)

  pub declared_meaning : (n : List ℕ) → meaning_in (declared scope name m) n ≡ (if bytes_eq name n then Some m else meaning_in scope n)
  declared_meaning n =
      ap (λ b. meaning_in (if b then scope else record { names = if b then scope.names else scope.names ++ name ∷ []; meanings = scope.meanings ++ m ∷ [] }) n) fresh
      ∙ pushed_meaning n (is_held scope.names n) (bytes_eq name n) refl refl

-- the declarations of a scope with one more, whose name is new
pub more_named : (scope : List Decl) (d : Decl) → is_declared scope (name_of d).text ≡ false → (n : List ℕ)
    → first_named n (scope ++ d ∷ []) ≡ (if has_name n d then Some (d, scope) else first_named n scope)
more_named scope d fresh n = cases (is_declared scope n) (has_name n d) refl refl
  where
    cases : (there same : Bool) → is_declared scope n ≡ there → has_name n d ≡ same → first_named n (scope ++ d ∷ []) ≡ (if has_name n d then Some (d, scope) else first_named n scope)
    cases true true there is = absurd_by (sym fresh ∙ ap (is_declared scope) (same_text (name_of d).text n is) ∙ there)
      where
        absurd_by : false ≡ true → first_named n (scope ++ d ∷ []) ≡ (if has_name n d then Some (d, scope) else first_named n scope)
        absurd_by wrong = cc
    cases true false there is = first_old n scope (d ∷ []) there ∙ sym (ap (λ b. if b then Some (d, scope) else first_named n scope) is)
    cases false same none is = first_new n scope d (has_name n d) none refl ∙ ap (λ (o : Found). if has_name n d then Some (d, scope) else o) (sym (first_none n scope none))
