-- Names, each once, beside the place of the first with it among many.
use Rattle.std.proofs.Common.{◌≡◌, ℕ, zero, suc, ◌+◌, ◌||◌, Bool, true, false, cond, List, [], ◌∷◌, ◌++◌, length, map as each, take, drop, get_or, ◌<◌, not, if◌then◌else◌, Option, Some, None, slice_get, refl, sym, ap, ◌∙◌, subst, subst₂, arith}
use Rattle.std.specs.Str.{bytes_eq}
use Rattle.std.proofs.lemmas.List.{drop_more, length-map, length-take-le, length_push, map-append, take_more}
use Rattle.std.proofs.lemmas.List.Folds.{list_any-append}
use Rattle.sn_names.specs.Names.{entered, is_held, number_in}
use Rattle.sn_names.proofs.NamesLaws.{number_in-append, number_in-new, number_in_last, same_text}
use Rattle.sn_ast.specs.declared.declaration.FunDecl.{FunDecl}
use Rattle.sn_label_scope.specs.Refusals.{required}
use Rattle.sn_label_scope.specs.declared.refusal.Reason.TheVariants.{Twice}
use Rattle.sn_label_scope.specs.declared.refusal.Refusal.{Refusal}
use Rattle.sn_box_scope.specs.Boxes.{names_apart}
use Rattle.sn_box_scope.specs.Functions.{AreFirst, function_number}

-- what may follow nothing
or_none : (b : Bool) → (b || false) ≡ b
or_none true = refl
or_none false = refl

-- an element in front of more stays at its place
get_front : (xs ys : List ℕ) (i x : ℕ) → slice_get xs i ≡ Some x → slice_get (xs ++ ys) i ≡ Some x
get_front [] ys i x there = cc
get_front (y ∷ xs) ys zero x there = there
get_front (y ∷ xs) ys (suc i) x there = get_front xs ys i x there

-- the one behind them is the last
get_last : (xs : List ℕ) (x : ℕ) → slice_get (xs ++ x ∷ []) (length xs) ≡ Some x
get_last [] x = refl
get_last (y ∷ xs) x = get_last xs x

-- whether a name is among names and one more
held_more : (names : List (List ℕ)) (n m : List ℕ) → is_held (names ++ n ∷ []) m ≡ (is_held names m || (bytes_eq n m || false))
held_more names n m = list_any-append (λ x. bytes_eq x m) names (n ∷ [])

-- no names are among none
pub first_none : AreFirst [] [] []
first_none = record { same = λ name. refl; as_many = refl; first = λ name held. cc }

-- a name that is there already adds nothing
known_more : (all names : List (List ℕ)) (places : List ℕ) (n : List ℕ) → AreFirst all names places → is_held names n ≡ true → AreFirst (all ++ n ∷ []) names places
known_more all names places n are held = record {
  same = λ m. elim (bytes_eq n m) as (λ b. bytes_eq n m ≡ b → is_held names m ≡ is_held (all ++ n ∷ []) m) [
    | true ↦ λ same.
        let here : is_held names m ≡ true = subst (λ x. is_held names x ≡ true) (same_text n m same) held in
        let before : is_held all m ≡ true = sym (are.same m) ∙ here in
        here ∙ sym (held_more all n m ∙ ap (λ b. b || (bytes_eq n m || false)) before)
    | false ↦ λ other. are.same m ∙ sym (held_more all n m ∙ ap (λ b. is_held all m || (b || false)) other ∙ or_none (is_held all m))
  ] refl;
  as_many = are.as_many;
  first = λ m here. are.first m here ∙ ap Some (sym (number_in-append all (n ∷ []) m (sym (are.same m) ∙ here)));
}

-- a new name is put at the end, beside its place
new_more : (all names : List (List ℕ)) (places : List ℕ) (n : List ℕ) → AreFirst all names places → is_held names n ≡ false → AreFirst (all ++ n ∷ []) (names ++ n ∷ []) (places ++ length all ∷ [])
new_more all names places n are fresh = record {
  same = λ m. held_more names n m ∙ ap (λ b. b || (bytes_eq n m || false)) (are.same m) ∙ sym (held_more all n m);
  as_many = length_push places (length all) ∙ ap (λ k. k + 1) are.as_many ∙ sym (length_push names n);
  first = λ m here. elim (is_held names m) as (λ b. is_held names m ≡ b → slice_get (places ++ length all ∷ []) (number_in (names ++ n ∷ []) m) ≡ Some (number_in (all ++ n ∷ []) m)) [
    | true ↦ λ old. ap (slice_get (places ++ length all ∷ [])) (number_in-append names (n ∷ []) m old)
        ∙ get_front places (length all ∷ []) (number_in names m) (number_in all m) (are.first m old)
        ∙ ap Some (sym (number_in-append all (n ∷ []) m (sym (are.same m) ∙ old)))
    | false ↦ λ new'.
        let last : bytes_eq n m ≡ true = sym (or_none (bytes_eq n m)) ∙ sym (held_more names n m ∙ ap (λ b. b || (bytes_eq n m || false)) new') ∙ here in
        subst (λ x. slice_get (places ++ length all ∷ []) (number_in (names ++ n ∷ []) x) ≡ Some (number_in (all ++ n ∷ []) x)) (same_text n m last)
        (ap (slice_get (places ++ length all ∷ [])) (number_in_last names n fresh ∙ sym are.as_many) ∙ get_last places (length all) ∙ ap Some (sym (number_in_last all n (sym (are.same n) ∙ fresh))))
  ] refl;
}

-- one name more, which is put at the end where it is new
pub first_more : (all names : List (List ℕ)) (places : List ℕ) (n : List ℕ) → AreFirst all names places → AreFirst (all ++ n ∷ []) (entered names n) (cond (is_held names n) places (places ++ length all ∷ []))
first_more all names places n are = elim (is_held names n) as (λ b. is_held names n ≡ b → AreFirst (all ++ n ∷ []) (cond b names (names ++ n ∷ [])) (cond b places (places ++ length all ∷ []))) [
  | true ↦ known_more all names places n are
  | false ↦ new_more all names places n are
] refl

-- a name that is not found is not held
not_found : (held : Bool) (number : ℕ) (found : Option ℕ) → found ≡ (if held then Some number else None) → found ≡ None → held ≡ false
not_found true number found is none = cc
not_found false number found is none = refl

-- a name that is not found is past all functions
pub number_past : (funs : List FunDecl) (names : List (List ℕ)) (places : List ℕ) (name : List ℕ) (found : Option ℕ) (count : ℕ) → AreFirst (each (λ fun. fun.name.text) funs) names places
    → found ≡ (if is_held names name then Some (number_in names name) else None) → found ≡ None → count ≡ length funs → count ≡ function_number funs name
number_past funs names places name found count are is none counted =
    let all = each (λ (fun : FunDecl). fun.name.text) funs in
    let fresh = not_found (is_held names name) (number_in names name) found is none in
    counted ∙ sym (number_in-new all name (sym (are.same name) ∙ fresh) ∙ length-map funs (λ fun. fun.name.text))

-- the names of the first functions, with those of the next
pub first_next : (funs : List FunDecl) (i : ℕ) (fun : FunDecl) (names new_names : List (List ℕ)) (places new_places : List ℕ) → i < length funs → fun ≡ get_or funs i fun
    → AreFirst (each (λ fun. fun.name.text) (take i funs)) names places
    → new_names ≡ entered names fun.name.text → new_places ≡ (if is_held names fun.name.text then places else places ++ i ∷ [])
    → AreFirst (each (λ fun. fun.name.text) (take (i + 1) funs)) new_names new_places
first_next funs i fun names new_names places new_places within is are grown placed =
    let text : FunDecl → List ℕ = λ fun. fun.name.text in
    let all = each text (take i funs) in
    let name = fun.name.text in
    let many : length all ≡ i = length-map (take i funs) text ∙ length-take-le i funs (omega arith) in
    let more : all ++ name ∷ [] ≡ each text (take (i + 1) funs) = sym (ap (each text) (take_more funs i fun within ∙ ap (λ x. take i funs ++ x ∷ []) (sym is)) ∙ map-append text (take i funs) (fun ∷ [])) in
    let all_first : AreFirst (all ++ name ∷ []) (entered names name) (cond (is_held names name) places (places ++ length all ∷ [])) = first_more all names places name are in
    let at_place : AreFirst (all ++ name ∷ []) (entered names name) (cond (is_held names name) places (places ++ i ∷ [])) = subst (λ n. AreFirst (all ++ name ∷ []) (entered names name) (cond (is_held names name) places (places ++ n ∷ []))) many all_first in
    let grown_so : AreFirst (all ++ name ∷ []) new_names (cond (is_held names name) places (places ++ i ∷ [])) = subst (λ ns. AreFirst (all ++ name ∷ []) ns (cond (is_held names name) places (places ++ i ∷ []))) (sym grown) at_place in
    subst₂ (λ ns ps. AreFirst ns new_names ps) more (sym placed) grown_so

-- the names of the functions that are left, without that of the next
pub apart_next : (funs : List FunDecl) (i : ℕ) (fun : FunDecl) (names new_names : List (List ℕ)) (least new_least all : Option Refusal) → i < length funs → fun ≡ get_or funs i fun
    → new_names ≡ entered names fun.name.text → new_least ≡ required (not (is_held names fun.name.text)) Twice fun.name.at least
    → names_apart names (each (λ fun. fun.name) (drop i funs)) least ≡ all → names_apart new_names (each (λ fun. fun.name) (drop (i + 1) funs)) new_least ≡ all
apart_next funs i fun names new_names least new_least all within is grown noted before =
    ap (λ ns. names_apart ns (each (λ fun. fun.name) (drop (i + 1) funs)) new_least) grown
    ∙ ap (names_apart (entered names fun.name.text) (each (λ fun. fun.name) (drop (i + 1) funs))) noted
    ∙ sym (ap (λ rest. names_apart names (each (λ fun. fun.name) rest) least) (drop_more funs i fun within ∙ ap (λ x. x ∷ drop (i + 1) funs) (sym is)))
    ∙ before
