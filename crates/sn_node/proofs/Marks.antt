-- What is listed and what is marked, where a number is listed and where it is taken off.
use Rattle.std.proofs.Common.{◌≡◌, ◌==◌, ℕ, zero, suc, ◌+◌, ◌<◌, ◌≤◌, Bool, true, false, ◌||◌, List, [], ◌∷◌, ◌++◌, length, get_or, set, refl, sym, ap, ◌∙◌, subst, arith, true≢false, eq-eqb}
use Rattle.std.specs.Prelude.{slice_get, Some}
use Rattle.std.proofs.lemmas.Bool.Decides.{nat_tests}
use Rattle.std.proofs.lemmas.Bool.{cases_eq}
use mathlib.Core.Logic.{◌⊎◌, inl, inr}
use Rattle.std.proofs.lemmas.List.{set_past}
use Rattle.std.proofs.lemmas.List.Folds.{list_any-append}
use Rattle.sn_node.specs.Agenda.{AreMarked, is_listed, unlisted}

or_left : (a b : Bool) → (a || (b || false)) ≡ true → b ≡ false → a ≡ true
or_left true b whole not_b = refl
or_left false true whole not_b = sym not_b
or_left false false whole not_b = whole

or_right : (a b : Bool) → b ≡ true → (a || b) ≡ true
or_right true b h = refl
or_right false b h = h

pub listed_more : (j i : ℕ) (stack : List ℕ) → is_listed j stack ≡ true → is_listed j (stack ++ i ∷ []) ≡ true
listed_more j i stack h = list_any-append (λ k. j == k) stack (i ∷ []) ∙ ap (λ b. b || (j == i || false)) h

pub listed_last : (i : ℕ) (stack : List ℕ) → is_listed i (stack ++ i ∷ []) ≡ true
listed_last i [] = ap (λ b. b || false) (eq-eqb i i refl)
listed_last i (x ∷ stack) = or_right (i == x) (is_listed i (stack ++ i ∷ [])) (listed_last i stack)

-- what is listed besides the last is still listed when that is taken off
pub listed_before : (j i : ℕ) (stack : List ℕ) → is_listed j (stack ++ i ∷ []) ≡ true → (j == i) ≡ false → is_listed j stack ≡ true
listed_before j i stack h other = or_left (is_listed j stack) (j == i) (sym (list_any-append (λ k. j == k) stack (i ∷ [])) ∙ h) other

pub unlisted_marked : (marks : List Bool) (i : ℕ) (d : Bool) → i < length marks → get_or marks i d ≡ false → unlisted (set marks i true) + 1 ≡ unlisted marks
unlisted_marked [] i d within free = absurd (omega (arith, within))
unlisted_marked (true ∷ marks) zero d within free = absurd (true≢false free)
unlisted_marked (false ∷ marks) zero d within free = refl
unlisted_marked (true ∷ marks) (suc i) d within free = unlisted_marked marks i d (omega (arith, within)) free
unlisted_marked (false ∷ marks) (suc i) d within free = ap (λ n. n + 1) (unlisted_marked marks i d (omega (arith, within)) free)

pub unlisted_unmarked : (marks : List Bool) (i : ℕ) → unlisted (set marks i false) ≤ unlisted marks + 1
unlisted_unmarked [] i = omega arith
unlisted_unmarked (true ∷ marks) zero = omega arith
unlisted_unmarked (false ∷ marks) zero = omega arith
unlisted_unmarked (true ∷ marks) (suc i) = unlisted_unmarked marks i
unlisted_unmarked (false ∷ marks) (suc i) = omega (arith, unlisted_unmarked marks i)

pub unlisted_more : (marks : List Bool) → unlisted (marks ++ false ∷ []) ≡ unlisted marks + 1
unlisted_more [] = refl
unlisted_more (true ∷ marks) = unlisted_more marks
unlisted_more (false ∷ marks) = ap (λ n. n + 1) (unlisted_more marks)

other_mark : (marks : List Bool) (i j : ℕ) (b : Bool) → (j ≡ i → ⊥) → slice_get (set marks i b) j ≡ slice_get marks j
other_mark [] i j b other = refl
other_mark (x ∷ marks) zero zero b other = absurd (other refl)
other_mark (x ∷ marks) zero (suc j) b other = refl
other_mark (x ∷ marks) (suc i) zero b other = refl
other_mark (x ∷ marks) (suc i) (suc j) b other = other_mark marks i j b (λ e. other (ap suc e))

not_marked : (marks : List Bool) (i : ℕ) → slice_get (set marks i false) i ≡ Some true → ⊥
not_marked [] i h = absurd (cc h)
not_marked (x ∷ marks) zero h = absurd (cc h)
not_marked (x ∷ marks) (suc i) h = not_marked marks i h

more_marks : (marks : List Bool) (j : ℕ) → slice_get (marks ++ false ∷ []) j ≡ Some true → slice_get marks j ≡ Some true
more_marks [] zero h = absurd (cc h)
more_marks [] (suc j) h = h
more_marks (x ∷ marks) zero h = h
more_marks (x ∷ marks) (suc j) h = more_marks marks j h

pub AreMarked_listed : (stack : List ℕ) (marks : List Bool) (i : ℕ) → AreMarked stack marks → AreMarked (stack ++ i ∷ []) (set marks i true)
AreMarked_listed stack marks i all j h = by (cases_eq j i)
  where
    by : (j ≡ i) ⊎ (j ≡ i → ⊥) → is_listed j (stack ++ i ∷ []) ≡ true
    by (inl same) = subst (λ k. is_listed k (stack ++ i ∷ []) ≡ true) (sym same) (listed_last i stack)
    by (inr other) = listed_more j i stack (all j (sym (other_mark marks i j true other) ∙ h))

pub AreMarked_popped : (stack : List ℕ) (marks : List Bool) (i : ℕ) → AreMarked (stack ++ i ∷ []) marks → AreMarked stack (set marks i false)
AreMarked_popped stack marks i all j h = by (cases_eq j i)
  where
    by : (j ≡ i) ⊎ (j ≡ i → ⊥) → is_listed j stack ≡ true
    by (inl same) = absurd (not_marked marks i (subst (λ k. slice_get (set marks i false) k ≡ Some true) same h))
    by (inr other) = listed_before j i stack (all j (sym (other_mark marks i j false other) ∙ h)) (grind (arith, nat_tests))

-- past the end there is no mark
pub AreMarked_popped_past : (stack : List ℕ) (marks : List Bool) (i : ℕ) → length marks ≤ i → AreMarked (stack ++ i ∷ []) marks → AreMarked stack marks
AreMarked_popped_past stack marks i past all = subst (λ ms. AreMarked stack ms) (set_past marks i false past) (AreMarked_popped stack marks i all)

pub AreMarked_reached : (stack : List ℕ) (marks : List Bool) → AreMarked stack marks → AreMarked stack (marks ++ false ∷ [])
AreMarked_reached stack marks all j h = all j (more_marks marks j h)
