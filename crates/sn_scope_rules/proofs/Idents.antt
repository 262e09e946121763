-- Checks of lists of names find those that stand before.
use Rattle.std.proofs.Common.{◌≡◌, ℕ, Bool, true, false, not, ◌||◌, if◌then◌else◌, List, [], ◌∷◌, ◌++◌, map as each, bytes_eq, fold, ◌⊎◌, inl, inr, refl, sym, ap, ◌∙◌, subst}
use Rattle.std.proofs.lemmas.List.Folds.{list_any-append}
use Rattle.sn_ast.specs.declared.label.Ident.{Ident}
use Rattle.sn_box_scope.specs.Boxes.{names_apart}
use Rattle.sn_label_scope.specs.Refusals.{required}
use Rattle.sn_label_scope.specs.declared.refusal.Reason.TheVariants.{Twice}
use Rattle.sn_label_scope.specs.declared.refusal.Refusal.{Refusal}
use Rattle.sn_names.specs.Names.{entered, is_held}
use Rattle.sn_names.proofs.NamesLaws.{same_text}
use Rattle.sn_scope_rules.specs.Boxes.{IdentsBreak}
use Rattle.sn_scope_rules.specs.Boxes.IdentsBreak.{ident_twice}
use Rattle.sn_scope_rules.proofs.Checks.{Fails, Finds, finds_both, finds_nothing, finds_required, finds_same}
use Rattle.sn_scope_rules.proofs.Checks.{held_from}
use Rattle.sn_scope_rules.proofs.Standing.{Behind, behind_cases, behind_first, behind_more, none_behind}

abbrev with_name : List (List ℕ) → Ident → List (List ℕ)
with_name seen name = entered seen name.text

abbrev texts : List Ident → List (List ℕ)
texts idents = each (λ name. name.text) idents

or_false : (b : Bool) → (b || false) ≡ b
or_false true = refl
or_false false = refl

or_true : (b : Bool) → (b || true) ≡ true
or_true true = refl
or_true false = refl

-- a name is among the entered ones where it is one of them or was there
pub held_entered : (seen : List (List ℕ)) (n m : List ℕ) → is_held (entered seen n) m ≡ (is_held seen m || bytes_eq n m)
held_entered seen n m =
    (elim (is_held seen n) as (λ b. is_held seen n ≡ b → is_held (if b then seen else seen ++ n ∷ []) m ≡ (is_held seen m || bytes_eq n m)) [
      | true ↦ λ held. there held (bytes_eq n m) refl
      | false ↦ λ _. list_any-append (λ x. bytes_eq x m) seen (n ∷ []) ∙ ap (λ b. is_held seen m || b) (or_false (bytes_eq n m))
    ]) refl
  where
    there : is_held seen n ≡ true → (b : Bool) → bytes_eq n m ≡ b → is_held seen m ≡ (is_held seen m || b)
    there held true same = let known : is_held seen m ≡ true = ap (is_held seen) (sym (same_text n m same)) ∙ held in known ∙ sym (or_true (is_held seen m))
    there held false other = sym (or_false (is_held seen m))

held_after : (seen : List (List ℕ)) (idents : List Ident) (m : List ℕ) → is_held (fold with_name seen idents) m ≡ (is_held seen m || is_held (texts idents) m)
held_after seen [] m = sym (or_false (is_held seen m))
held_after seen (name ∷ idents) m =
    held_after (with_name seen name) idents m ∙ ap (λ b. b || is_held (texts idents) m) (held_entered seen name.text m) ∙ regroup (is_held seen m) (bytes_eq name.text m) (is_held (texts idents) m)
  where
    regroup : (a b c : Bool) → ((a || b) || c) ≡ (a || (b || c))
    regroup true b c = refl
    regroup false b c = refl

abbrev Again : Refusal → List (List ℕ) → Ident → Type 0
Again r seen name = Fails (not (is_held seen name.text)) Twice name.at r

apart_find : (seen : List (List ℕ)) (idents : List Ident) → Finds (names_apart seen idents) (λ r. Behind with_name seen (Again r) idents)
apart_find seen [] = finds_nothing (λ r. Behind with_name seen (Again r) []) (λ r one. none_behind one.1 one.0 one.2)
apart_find seen (name ∷ idents) = finds_same (names_apart seen (name ∷ idents)) (λ r. Again r seen name ⊎ Behind with_name (with_name seen name) (Again r) idents) (λ r. Behind with_name seen (Again r) (name ∷ idents))
    (finds_both (required (not (is_held seen name.text)) Twice name.at) (names_apart (with_name seen name) idents) (λ r. Again r seen name) (λ r. Behind with_name (with_name seen name) (Again r) idents)
    (finds_required (not (is_held seen name.text)) Twice name.at) (apart_find (with_name seen name) idents))
    to (λ r one. behind_cases with_name seen (Again r) name one.1 idents one.0 one.2 one.3)
  where
    to : (r : Refusal) → Again r seen name ⊎ Behind with_name (with_name seen name) (Again r) idents → Behind with_name seen (Again r) (name ∷ idents)
    to r (inl one) = behind_first with_name seen (Again r) name idents one
    to r (inr one) = behind_more with_name seen (Again r) name idents one

idents_to : (idents : List Ident) (r : Refusal) → Behind with_name [] (Again r) idents → IdentsBreak idents r
idents_to idents r one = subst (IdentsBreak idents) one.3.1 (ident_twice one.2 (sym (held_after [] one.0 one.1.text) ∙ held_from _ one.3.0))

idents_from : (idents : List Ident) (r : Refusal) → IdentsBreak idents r → Behind with_name [] (Again r) idents
idents_from idents r (ident_twice {before} {name} at held) = (before, name, at, (ap not (held_after [] before name.text ∙ held), refl))

pub idents_find : (idents : List Ident) → Finds (names_apart [] idents) (IdentsBreak idents)
idents_find idents = finds_same (names_apart [] idents) (λ r. Behind with_name [] (Again r) idents) (IdentsBreak idents) (apart_find [] idents) (idents_to idents) (idents_from idents)
