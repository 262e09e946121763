-- The tables of scopes tell what a name stands for.
use Rattle.std.proofs.Common.{◌≡◌, ℕ, zero, suc, ◌<◌, ◌≤◌, ◌+◌, Bool, true, false, ◌||◌, cond, if◌then◌else◌, List, [], ◌∷◌, ◌++◌, length, find, Option, Some, None, is_some, option_map, unwrap_or, slice_get, bytes_eq, fold, refl, sym, ap, ◌∙◌, subst, arith}
use Rattle.std.specs.List.{list_any}
use Rattle.std.specs.Option.{option_or}
use Rattle.std.proofs.lemmas.List.{length_push}
use Rattle.std.proofs.lemmas.List.Folds.{list_any-append}
use Rattle.std.proofs.lemmas.Option.{slice_get_past}
use Rattle.sn_ast.specs.declared.declaration.Decl.{Decl}
use Rattle.sn_ast.specs.declared.declaration.Decl.TheOpen.{Decl-F}
use Rattle.sn_ast.specs.declared.declaration.Decl.TheViews.{out-Decl}
use Rattle.sn_ast.specs.declared.declaration.NetDecl.{NetDecl}
use Rattle.sn_names.specs.Names.{is_held, number_in}
use Rattle.sn_names.proofs.NamesLaws.{number_in-append, number_in-held, number_in-new, number_in_last, same_text}
use Rattle.sn_scope.specs.Networks.{is_part as may_stand}
use Rattle.sn_scope.specs.Scopes.{declared, empty_scope, entered_scope, first_of, meaning_in, meaning_of, signature_number, signature_of, type_number, type_of}
use Rattle.sn_scope.specs.declared.scopes.Meaning.{Meaning}
use Rattle.sn_scope.specs.declared.scopes.Meaning.TheVariants as meaning
use Rattle.sn_scope.specs.declared.scopes.Scope.{Scope}
use Rattle.sn_scope.specs.declared.scopes.Scopes.{Scopes}
use Rattle.sn_scope_rules.specs.Visible.{Around, has_name, is_declared, is_part, is_signature, is_type, name_of, stands_for, stands_for_a}

-- what a declaration declares
pub data Sort : Type 0 where
  of_type of_signature of_net of_box : Sort

abbrev pub meaning_sort : Meaning → Sort
meaning_sort (meaning.«Type» number) = of_type
meaning_sort (meaning.Signature number) = of_signature
meaning_sort (meaning.Net number) = of_net
meaning_sort (meaning.Box number) = of_box

abbrev pub form_sort : Decl-F Decl NetDecl → Sort
form_sort (Decl-F.BoxDecl declaration) = of_box
form_sort (Decl-F.NetDecl net) = of_net
form_sort (Decl-F.TypeDecl name parts) = of_type
form_sort (Decl-F.SigDecl name sig) = of_signature

abbrev pub decl_sort : Decl → Sort
decl_sort decl = form_sort (out-Decl decl)

-- a table has the names of the declarations of its scope, with what they declare
pub record Table (scope : Scope) (decls : List Decl) : Type 0 where
  pub as_many : length scope.meanings ≡ length scope.names
  pub held : (n : List ℕ) → is_held scope.names n ≡ is_declared decls n
  pub sorts : (n : List ℕ) → option_map meaning_sort (meaning_in scope n) ≡ option_map decl_sort (find (has_name n) decls)

abbrev pub around_of : List Scope → List ℕ → Option Meaning
around_of outer n = fold (λ found scope. first_of (meaning_in scope n) found) None outer

-- so do the tables of the scope and of those around it
pub record Matches (scopes : Scopes) (decls : List Decl) (outer : Around) : Type 0 where
  pub current : Table scopes.current decls
  pub around : (n : List ℕ) → option_map meaning_sort (around_of scopes.outer n) ≡ option_map decl_sort (stands_for outer n)

-- each name stands for what its meaning is of
abbrev pub Agrees : Scopes → Around → Type 0
Agrees scopes around = (n : List ℕ) → option_map meaning_sort (meaning_of scopes n) ≡ option_map decl_sort (stands_for around n)

first_sort : (a b : Option Meaning) → option_map meaning_sort (first_of a b) ≡ option_or (option_map meaning_sort a) (option_map meaning_sort b)
first_sort None b = refl
first_sort (Some m) b = refl

or_sort : (a b : Option Decl) → option_map decl_sort (option_or a b) ≡ option_or (option_map decl_sort a) (option_map decl_sort b)
or_sort None b = refl
or_sort (Some d) b = refl

both_sort : (a b : Option Meaning) (c d : Option Decl) → option_map meaning_sort a ≡ option_map decl_sort c → option_map meaning_sort b ≡ option_map decl_sort d
    → option_map meaning_sort (first_of a b) ≡ option_map decl_sort (option_or c d)
both_sort a b c d one other = first_sort a b ∙ ap (λ x. option_or x (option_map meaning_sort b)) one ∙ ap (option_or (option_map decl_sort c)) other ∙ sym (or_sort c d)

pub agrees : (scopes : Scopes) (decls : List Decl) (outer : Around) → Matches scopes decls outer → Agrees scopes (decls ∷ outer)
agrees scopes decls outer same n = both_sort (meaning_in scopes.current n) (around_of scopes.outer n) (find (has_name n) decls) (stands_for outer n) (same.current.sorts n) (same.around n)

-- the tests of what a name stands for
type_test : Option Sort → Bool
type_test None = false
type_test (Some of_type) = true
type_test (Some of_signature) = false
type_test (Some of_net) = false
type_test (Some of_box) = false

signature_test : Option Sort → Bool
signature_test None = false
signature_test (Some of_type) = false
signature_test (Some of_signature) = true
signature_test (Some of_net) = false
signature_test (Some of_box) = false

part_test : Option Sort → Bool
part_test None = false
part_test (Some of_type) = false
part_test (Some of_signature) = false
part_test (Some of_net) = true
part_test (Some of_box) = true

type_meaning : (m : Option Meaning) → is_some (type_number m) ≡ type_test (option_map meaning_sort m)
unfolding type_test
type_meaning None = refl
type_meaning (Some (meaning.«Type» number)) = refl
type_meaning (Some (meaning.Signature number)) = refl
type_meaning (Some (meaning.Net number)) = refl
type_meaning (Some (meaning.Box number)) = refl

signature_meaning : (m : Option Meaning) → is_some (signature_number m) ≡ signature_test (option_map meaning_sort m)
unfolding signature_test
signature_meaning None = refl
signature_meaning (Some (meaning.«Type» number)) = refl
signature_meaning (Some (meaning.Signature number)) = refl
signature_meaning (Some (meaning.Net number)) = refl
signature_meaning (Some (meaning.Box number)) = refl

part_meaning : (m : Option Meaning) → may_stand m ≡ part_test (option_map meaning_sort m)
unfolding part_test
part_meaning None = refl
part_meaning (Some (meaning.«Type» number)) = refl
part_meaning (Some (meaning.Signature number)) = refl
part_meaning (Some (meaning.Net number)) = refl
part_meaning (Some (meaning.Box number)) = refl

type_form : (x : Decl-F Decl NetDecl) → type_test (Some (form_sort x)) ≡ is_type x
unfolding type_test
type_form (Decl-F.BoxDecl declaration) = refl
type_form (Decl-F.NetDecl net) = refl
type_form (Decl-F.TypeDecl name parts) = refl
type_form (Decl-F.SigDecl name sig) = refl

signature_form : (x : Decl-F Decl NetDecl) → signature_test (Some (form_sort x)) ≡ is_signature x
unfolding signature_test
signature_form (Decl-F.BoxDecl declaration) = refl
signature_form (Decl-F.NetDecl net) = refl
signature_form (Decl-F.TypeDecl name parts) = refl
signature_form (Decl-F.SigDecl name sig) = refl

part_form : (x : Decl-F Decl NetDecl) → part_test (Some (form_sort x)) ≡ is_part x
unfolding part_test
part_form (Decl-F.BoxDecl declaration) = refl
part_form (Decl-F.NetDecl net) = refl
part_form (Decl-F.TypeDecl name parts) = refl
part_form (Decl-F.SigDecl name sig) = refl

test_of : (test : Option Sort → Bool) (kind : Decl-F Decl NetDecl → Bool) → test None ≡ false → ((x : Decl-F Decl NetDecl) → test (Some (form_sort x)) ≡ kind x)
    → (found : Option Decl) → test (option_map decl_sort found) ≡ unwrap_or (option_map (λ decl. kind (out-Decl decl)) found) false
test_of test kind none same None = none
test_of test kind none same (Some d) = same (out-Decl d)

pub type_stands : (scopes : Scopes) (around : Around) → Agrees scopes around → (n : List ℕ) → is_some (type_of scopes n) ≡ stands_for_a is_type around n
unfolding type_test
type_stands scopes around same n = type_meaning (meaning_of scopes n) ∙ ap type_test (same n) ∙ test_of type_test is_type refl type_form (stands_for around n)

pub signature_stands : (scopes : Scopes) (around : Around) → Agrees scopes around → (n : List ℕ) → is_some (signature_of scopes n) ≡ stands_for_a is_signature around n
unfolding signature_test
signature_stands scopes around same n = signature_meaning (meaning_of scopes n) ∙ ap signature_test (same n) ∙ test_of signature_test is_signature refl signature_form (stands_for around n)

pub part_stands : (scopes : Scopes) (around : Around) → Agrees scopes around → (n : List ℕ) → may_stand (meaning_of scopes n) ≡ stands_for_a is_part around n
unfolding part_test
part_stands scopes around same n = part_meaning (meaning_of scopes n) ∙ ap part_test (same n) ∙ test_of part_test is_part refl part_form (stands_for around n)

-- look-ups in lists with one more at the end
pub get_left : {A : Type 0} (xs ys : List A) (k : ℕ) → k < length xs → slice_get (xs ++ ys) k ≡ slice_get xs k
get_left [] ys k within = absurd (omega arith)
get_left (x ∷ xs) ys zero within = refl
get_left (x ∷ xs) ys (suc k) within = get_left xs ys k (omega arith)

pub get_last : {A : Type 0} (xs : List A) (x : A) (k : ℕ) → k ≡ length xs → slice_get (xs ++ x ∷ []) k ≡ Some x
get_last xs x k is = ap (slice_get (xs ++ x ∷ [])) is ∙ at_length xs x
  where
    at_length : {A : Type 0} (xs : List A) (x : A) → slice_get (xs ++ x ∷ []) (length xs) ≡ Some x
    at_length [] x = refl
    at_length (y ∷ xs) x = at_length xs x

find_old : {A : Type 0} (test : A → Bool) (xs ys : List A) → list_any test xs ≡ true → find test (xs ++ ys) ≡ find test xs
find_old test [] ys there = cc
find_old test (x ∷ xs) ys there = (elim (test x) as (λ b. (b || list_any test xs) ≡ true → cond b (Some x) (find test (xs ++ ys)) ≡ cond b (Some x) (find test xs)) [
  | true ↦ λ _. refl
  | false ↦ λ rest. find_old test xs ys rest
]) there

find_new : {A : Type 0} (test : A → Bool) (xs ys : List A) → list_any test xs ≡ false → find test (xs ++ ys) ≡ find test ys
find_new test [] ys none = refl
find_new test (x ∷ xs) ys none = (elim (test x) as (λ b. (b || list_any test xs) ≡ false → cond b (Some x) (find test (xs ++ ys)) ≡ find test ys) [
  | true ↦ λ no. cc
  | false ↦ λ rest. find_new test xs ys rest
]) none

pub fold_last : {A B : Type 0} (f : B → A → B) (b : B) (xs : List A) (x : A) → fold f b (xs ++ x ∷ []) ≡ f (fold f b xs) x
fold_last f b [] x = refl
fold_last f b (y ∷ xs) x = fold_last f (f b y) xs x

pub empty_matches : Table empty_scope []
empty_matches = record { as_many = refl; held = λ n. refl; sorts = λ n. refl }

or_none : (b : Bool) → (b || false) ≡ b
or_none true = refl
or_none false = refl

-- a declaration more is a name more
module _ (scope : Scope) (decls : List Decl) (d : Decl) (m : Meaning) (table : Table scope decls) (same : meaning_sort m ≡ decl_sort d) where
  abbrev name : List ℕ
  name = (name_of d).text

  one_more : (n : List ℕ) → is_declared (decls ++ d ∷ []) n ≡ (is_declared decls n || bytes_eq name n)
  one_more n = list_any-append (has_name n) decls (d ∷ []) ∙ ap (λ b. is_declared decls n || b) (or_none (bytes_eq name n))

  -- the name is there already
  old_table : is_held scope.names name ≡ true → Table scope (decls ++ d ∷ [])
  old_table known = record {
    as_many = table.as_many;
    held = λ n. table.held n ∙ (kept n (bytes_eq name n) refl ∙ sym (one_more n));
    sorts = λ n. table.sorts n ∙ ap (option_map decl_sort) (sym (found n (is_declared decls n) refl));
  }
    where
      there : (n : List ℕ) → bytes_eq name n ≡ true → is_declared decls n ≡ true
      there n same = sym (table.held n) ∙ ap (is_held scope.names) (sym (same_text name n same)) ∙ known

      kept : (n : List ℕ) (b : Bool) → bytes_eq name n ≡ b → is_declared decls n ≡ (is_declared decls n || bytes_eq name n)
      kept n true is = there n is ∙ sym (ap (λ b. b || bytes_eq name n) (there n is))
      kept n false is = sym (ap (λ b. is_declared decls n || b) is ∙ or_none (is_declared decls n))

      other : (n : List ℕ) (b : Bool) → is_declared decls n ≡ false → bytes_eq name n ≡ b → find (has_name n) (d ∷ []) ≡ find (has_name n) decls
      other n true none is = absurd_by (sym none ∙ there n is)
        where
          absurd_by : false ≡ true → find (has_name n) (d ∷ []) ≡ find (has_name n) decls
          absurd_by wrong = cc
      other n false none is = ap (λ b. cond b (Some d) None) is ∙ sym (find_none (has_name n) decls none)
        where
          find_none : {A : Type 0} (test : A → Bool) (xs : List A) → list_any test xs ≡ false → find test xs ≡ None
          find_none test [] none = refl
          find_none test (x ∷ xs) none = (elim (test x) as (λ b. (b || list_any test xs) ≡ false → cond b (Some x) (find test xs) ≡ None) [
            | true ↦ λ no. cc
            | false ↦ λ rest. find_none test xs rest
          ]) none

      found : (n : List ℕ) (b : Bool) → is_declared decls n ≡ b → find (has_name n) (decls ++ d ∷ []) ≡ find (has_name n) decls
      found n true is = find_old (has_name n) decls (d ∷ []) is
      found n false is = find_new (has_name n) decls (d ∷ []) is ∙ other n (bytes_eq name n) is refl

  -- the name is new
  abbrev pushed : Scope
  pushed = record { names = scope.names ++ name ∷ []; meanings = scope.meanings ++ m ∷ [] }

  new_sorts : (n : List ℕ) (old : Bool) → is_held scope.names n ≡ old → (now : Bool) → bytes_eq name n ≡ now → is_held scope.names name ≡ false
      → option_map meaning_sort (meaning_in pushed n) ≡ option_map decl_sort (find (has_name n) (decls ++ d ∷ []))
  new_sorts n true held now is fresh =
      ap (option_map meaning_sort) (ap (slice_get (scope.meanings ++ m ∷ [])) (number_in-append scope.names (name ∷ []) n held)
      ∙ get_left scope.meanings (m ∷ []) (number_in scope.names n) (subst (λ k. number_in scope.names n < k) (sym table.as_many) (number_in-held scope.names n held)))
      ∙ table.sorts n ∙ ap (option_map decl_sort) (sym (find_old (has_name n) decls (d ∷ []) (sym (table.held n) ∙ held)))
  new_sorts n false none true is fresh =
      ap (option_map meaning_sort) (get_last scope.meanings m (number_in (scope.names ++ name ∷ []) n) (subst (λ x. number_in (scope.names ++ name ∷ []) x ≡ length scope.meanings) (same_text name n is) (number_in_last scope.names name fresh ∙ sym table.as_many)))
      ∙ ap Some same ∙ ap (option_map decl_sort) (sym (find_new (has_name n) decls (d ∷ []) (sym (table.held n) ∙ none) ∙ ap (λ b. cond b (Some d) None) is))
  new_sorts n false none false is fresh =
      ap (option_map meaning_sort) (slice_get_past (scope.meanings ++ m ∷ []) (number_in (scope.names ++ name ∷ []) n) past)
      ∙ ap (option_map decl_sort) (sym (find_new (has_name n) decls (d ∷ []) (sym (table.held n) ∙ none) ∙ ap (λ b. cond b (Some d) None) is))
    where
      absent : is_held (scope.names ++ name ∷ []) n ≡ false
      absent = list_any-append (λ x. bytes_eq x n) scope.names (name ∷ []) ∙ ap (λ b. b || (bytes_eq name n || false)) none ∙ ap (λ b. b || false) is

      past : length (scope.meanings ++ m ∷ []) ≤ number_in (scope.names ++ name ∷ []) n
      past = let number = number_in-new (scope.names ++ name ∷ []) n absent in let longer = length_push scope.meanings m in let named = length_push scope.names name in let many = table.as_many in omega arith

  new_table : is_held scope.names name ≡ false → Table pushed (decls ++ d ∷ [])
  new_table fresh = record {
    as_many = length_push scope.meanings m ∙ ap (λ k. k + 1) table.as_many ∙ sym (length_push scope.names name);
    held = λ n. list_any-append (λ x. bytes_eq x n) scope.names (name ∷ []) ∙ ap (λ b. b || (bytes_eq name n || false)) (table.held n) ∙ ap (λ b. is_declared decls n || b) (or_none (bytes_eq name n)) ∙ sym (one_more n);
    sorts = λ n. new_sorts n (is_held scope.names n) refl (bytes_eq name n) refl fresh;
  }

  pub table_more : Table (declared scope name m) (decls ++ d ∷ [])
  table_more =
      (elim (is_held scope.names name) as (λ b. is_held scope.names name ≡ b → Table (if b then scope else record { names = if b then scope.names else scope.names ++ name ∷ []; meanings = scope.meanings ++ m ∷ [] }) (decls ++ d ∷ [])) [
        | true ↦ old_table
        | false ↦ new_table
      ]) refl

-- a scope that is entered has no declarations yet, and stands within those around it
pub entered_matches : (scopes : Scopes) (decls : List Decl) (outer : Around) → Matches scopes decls outer → Matches (entered_scope scopes) [] (decls ∷ outer)
entered_matches scopes decls outer same = record {
  current = empty_matches;
  around = λ n. ap (option_map meaning_sort) (fold_last (λ found scope. first_of (meaning_in scope n) found) None scopes.outer scopes.current) ∙ agrees scopes decls outer same n;
}
