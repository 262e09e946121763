-- The tests of a choice tell which variants are sent to its branches, and the branches are visited one after another.
use Rattle.std.proofs.Common.{◌≡◌, ◌↔◌, ◌⊎◌, inl, inr, ◌==◌, ℕ, zero, suc, ◌+◌, ◌<◌, Bool, true, false, cond, not, ◌||◌, ◌&&◌, IsTrue, List, [], ◌∷◌, Option, Some, None, refl, sym, ap, ◌∙◌, subst, arith}
use Rattle.std.specs.Prelude.{nat_lt, slice_get, unwrap_or}
use Rattle.std.specs.List.{Contains, list_any}
use Rattle.std.specs.FinMap as map
use Rattle.std.proofs.lemmas.Bool.Decides.{nat_tests}
use Rattle.sn_record.specs.LabelSet.{Labels, union}
use Rattle.sn_record.specs.Fits.{Fits, bind_alike, fits}
use Rattle.sn_record.proofs.Fitting.{bind_alike-BindAlike, fits-Fits}
use Rattle.sn_typing.specs.Flow.{IsBeaten, MayTake}
use Rattle.sn_flow.specs.Chosen.{chosen_of, is_beaten, is_beaten_from, is_before, is_passed_over, sent_of}
use Rattle.sn_flow.proofs.Lists.{behind, cases, head, none}

pub true_false : true ≡ false → ⊥
true_false e = cc

or_cases : (a b : Bool) → IsTrue (a || b) → IsTrue a ⊎ IsTrue b
or_cases true b e = inl refl
or_cases false b e = inr e

or_left : (a b : Bool) → IsTrue a → IsTrue (a || b)
or_left true b e = refl
or_left false b e = cc

or_right : (a b : Bool) → IsTrue b → IsTrue (a || b)
or_right true b e = refl
or_right false b e = e

and_parts : (a b : Bool) → IsTrue (a && b) → IsTrue a × IsTrue b
and_parts true b e = (refl, e)
and_parts false b e = cc

and_from : (a b : Bool) → IsTrue a → IsTrue b → IsTrue (a && b)
and_from true b e f = f
and_from false b e f = cc

-- an element with which a test holds
pub any_found : {X : Type 0} (p : X → Bool) (xs : List X) → IsTrue (list_any p xs) → (x : X) × Contains xs x × IsTrue (p x)
any_found p [] e = cc
any_found p (x ∷ xs) e = at (or_cases (p x) (list_any p xs) e) (λ rest. any_found p xs rest)
  where
    at : IsTrue (p x) ⊎ IsTrue (list_any p xs) → (IsTrue (list_any p xs) → (y : _) × Contains xs y × IsTrue (p y)) → (y : _) × Contains (x ∷ xs) y × IsTrue (p y)
    at (inl here) later = (x, head x xs, here)
    at (inr rest) later = let (y, listed, is) = later rest in (y, behind x xs y listed, is)

pub found_any : {X : Type 0} (p : X → Bool) (xs : List X) (x : X) → Contains xs x → IsTrue (p x) → IsTrue (list_any p xs)
found_any p [] x there is = absurd (none x there)
found_any p (y ∷ xs) x there is = at (cases y xs x there) (λ rest. found_any p xs x rest is)
  where
    at : (y ≡ x) ⊎ Contains xs x → (Contains xs x → IsTrue (list_any p xs)) → IsTrue (list_any p (y ∷ xs))
    at (inl same) later = or_left (p y) (list_any p xs) (ap p same ∙ is)
    at (inr rest) later = or_right (p y) (list_any p xs) (later rest)

module _ (i : ℕ) (w s : Labels) where
  before_is : (j : ℕ) (x : Labels) → IsTrue (is_before i (map.len w) s j x) → Fits x s × ((map.len w < map.len x) ⊎ ((map.len x ≡ map.len w) × (j < i)))
  before_is j x e =
      let parts = and_parts (fits x s) _ e in
      ((fits-Fits x s).0 parts.0, at (or_cases (nat_lt (map.len w) (map.len x)) _ parts.1))
    where
      at : IsTrue (nat_lt (map.len w) (map.len x)) ⊎ IsTrue ((map.len x == map.len w) && nat_lt j i) → (map.len w < map.len x) ⊎ ((map.len x ≡ map.len w) × (j < i))
      at (inl larger) = inl (grind (arith, nat_tests, larger))
      at (inr both) = let two = and_parts (map.len x == map.len w) (nat_lt j i) both in inr (grind (arith, nat_tests, two.0), grind (arith, nat_tests, two.1))

  is_before_test : (j : ℕ) (x : Labels) → Fits x s → (map.len w < map.len x) ⊎ ((map.len x ≡ map.len w) × (j < i)) → IsTrue (is_before i (map.len w) s j x)
  is_before_test j x fit before = and_from (fits x s) _ ((fits-Fits x s).1 fit) (at before)
    where
      at : (map.len w < map.len x) ⊎ ((map.len x ≡ map.len w) × (j < i)) → IsTrue (nat_lt (map.len w) (map.len x) || ((map.len x == map.len w) && nat_lt j i))
      at (inl larger) = or_left (nat_lt (map.len w) (map.len x)) _ (grind (arith, nat_tests, larger))
      at (inr (same, left)) = or_right (nat_lt (map.len w) (map.len x)) _ (and_from (map.len x == map.len w) (nat_lt j i) (grind (arith, nat_tests, same)) (grind (arith, nat_tests, left)))

  -- among the faces from j on
  record BeatenFrom (j : ℕ) (faces : List (List Labels)) : Type 0 where
    place : ℕ
    face : List Labels
    variant : Labels
    here : slice_get faces place ≡ Some face
    listed : Contains face variant
    test : IsTrue (is_before i (map.len w) s (j + place) variant)

  beaten_found : (faces : List (List Labels)) (j : ℕ) → IsTrue (is_beaten_from i (map.len w) s j faces) → BeatenFrom j faces
  beaten_found [] j e = cc
  beaten_found (face ∷ faces) j e = at (or_cases (list_any (is_before i (map.len w) s j) face) _ e) (λ rest. beaten_found faces (j + 1) rest)
    where
      at : IsTrue (list_any (is_before i (map.len w) s j) face) ⊎ IsTrue (is_beaten_from i (map.len w) s (j + 1) faces) → (IsTrue (is_beaten_from i (map.len w) s (j + 1) faces) → BeatenFrom (j + 1) faces) → BeatenFrom j (face ∷ faces)
      at (inl first) later =
          let (x, listed, is) = any_found (is_before i (map.len w) s j) face first in
          let same : j + 0 ≡ j = omega arith in
          record { place = 0; face = face; variant = x; here = refl; listed = listed; test = subst (λ k. IsTrue (is_before i (map.len w) s k x)) (sym same) is }
      at (inr rest) later =
          let found = later rest in
          let same : j + suc found.place ≡ (j + 1) + found.place = omega arith in
          record { place = suc found.place; face = found.face; variant = found.variant; here = found.here; listed = found.listed; test = subst (λ k. IsTrue (is_before i (map.len w) s k found.variant)) (sym same) found.test }

  found_beaten : (faces : List (List Labels)) (j k : ℕ) (face : List Labels) (x : Labels) → slice_get faces k ≡ Some face → Contains face x → IsTrue (is_before i (map.len w) s (j + k) x) → IsTrue (is_beaten_from i (map.len w) s j faces)
  found_beaten [] j k face x here listed test = cc
  found_beaten (first ∷ faces) j zero face x here listed test =
      let is : first ≡ face = cc in
      let same : j + 0 ≡ j = omega arith in
      or_left (list_any (is_before i (map.len w) s j) first) _
      (found_any (is_before i (map.len w) s j) first x (subst (λ (f : List Labels). Contains f x) (sym is) listed) (subst (λ n. IsTrue (is_before i (map.len w) s n x)) same test))
  found_beaten (first ∷ faces) j (suc k) face x here listed test =
      let same : j + suc k ≡ (j + 1) + k = omega arith in
      or_right (list_any (is_before i (map.len w) s j) first) _ (found_beaten faces (j + 1) k face x here listed (subst (λ n. IsTrue (is_before i (map.len w) s n x)) same test))

  beaten_is : (faces : List (List Labels)) → is_beaten faces i (map.len w) s ≡ true → IsBeaten faces i w s
  beaten_is faces e =
      let found = beaten_found faces 0 e in
      let same : 0 + found.place ≡ found.place = omega arith in
      let told = before_is found.place found.variant (subst (λ n. IsTrue (is_before i (map.len w) s n found.variant)) same found.test) in
      record { branch = found.place; variant = found.variant; other = record { face = found.face; here = found.here; listed = found.listed }; fits = told.0; before = told.1 }

  is_beaten_test : (faces : List (List Labels)) → IsBeaten faces i w s → is_beaten faces i (map.len w) s ≡ true
  is_beaten_test faces beaten =
      let same : 0 + beaten.branch ≡ beaten.branch = omega arith in
      found_beaten faces 0 beaten.branch beaten.other.face beaten.variant beaten.other.here beaten.other.listed
      (subst (λ n. IsTrue (is_before i (map.len w) s n beaten.variant)) (sym same) (is_before_test beaten.branch beaten.variant beaten.fits beaten.before))

-- what is not passed over binds alike and is not beaten
kept_parts : (a b : Bool) → (not a || b) ≡ false → IsTrue a × (b ≡ false)
kept_parts true b e = (refl, e)
kept_parts false b e = cc

kept_from : (a b : Bool) → IsTrue a → b ≡ false → (not a || b) ≡ false
kept_from true b e f = f
kept_from false b e f = cc

module _ (faces : List (List Labels)) (i : ℕ) (v : Labels) where
  abbrev Sent : List Labels → Labels → Type 0
  Sent own u = (w : Labels) × Contains own w × (is_passed_over faces i v w ≡ false) × (u ≡ union v w)

  chosen_is : (own : List Labels) (u : Labels) → Contains (chosen_of faces i v own) u → Sent own u
  chosen_is [] u there = absurd (none u there)
  chosen_is (w ∷ own) u there = at (is_passed_over faces i v w) refl there (λ rest. chosen_is own u rest)
    where
      further : Sent own u → Sent (w ∷ own) u
      further (x, listed, test, is) = (x, behind w own x listed, test, is)

      which : is_passed_over faces i v w ≡ false → (union v w ≡ u) ⊎ Contains (chosen_of faces i v own) u → (Contains (chosen_of faces i v own) u → Sent own u) → Sent (w ∷ own) u
      which test (inl same) later = (w, head w own, test, sym same)
      which test (inr rest) later = further (later rest)

      at : (b : Bool) → is_passed_over faces i v w ≡ b → Contains (cond b (chosen_of faces i v own) (union v w ∷ chosen_of faces i v own)) u → (Contains (chosen_of faces i v own) u → Sent own u) → Sent (w ∷ own) u
      at true test here later = further (later here)
      at false test here later = which test (cases (union v w) (chosen_of faces i v own) u here) later

  is_chosen : (own : List Labels) (u : Labels) → Sent own u → Contains (chosen_of faces i v own) u
  is_chosen [] u (x, listed, test, is) = absurd (none x listed)
  is_chosen (w ∷ own) u (x, listed, test, is) = at (is_passed_over faces i v w) refl (cases w own x listed) (λ rest. is_chosen own u (x, rest, test, is))
    where
      at : (b : Bool) → is_passed_over faces i v w ≡ b → (w ≡ x) ⊎ Contains own x → (Contains own x → Contains (chosen_of faces i v own) u) → Contains (cond b (chosen_of faces i v own) (union v w ∷ chosen_of faces i v own)) u
      at true told (inl same) later = absurd (true_false (sym told ∙ subst (λ (z : Labels). is_passed_over faces i v z ≡ false) (sym same) test))
      at true told (inr rest) later = later rest
      at false told (inl same) later = subst (Contains (union v w ∷ chosen_of faces i v own)) (ap (union v) same ∙ sym is) (head (union v w) (chosen_of faces i v own))
      at false told (inr rest) later = behind (union v w) (chosen_of faces i v own) u (later rest)

pub are_sent : (faces : List (List Labels)) (v : Labels) (i : ℕ) (u : Labels) → Contains (sent_of faces v i) u ↔ ((w : Labels) × MayTake faces i w v × (u ≡ union v w))
are_sent faces v i u = at (slice_get faces i) refl
  where
    to : (face : List Labels) → slice_get faces i ≡ Some face → Sent faces i v face u → (w : Labels) × MayTake faces i w v × (u ≡ union v w)
    to face here (w, listed, test, is) = (
      w,
      (let parts = kept_parts (bind_alike w v) (is_beaten faces i (map.len w) (union v w)) test in
          record {
            own = record { face = face; here = here; listed = listed };
            alike = (bind_alike-BindAlike w v).0 parts.0;
            best = λ beaten. true_false (sym (is_beaten_test i w (union v w) faces beaten) ∙ parts.1);
          }),
      is,
    )

    from : (face : List Labels) → slice_get faces i ≡ Some face → (w : Labels) × MayTake faces i w v × (u ≡ union v w) → Sent faces i v face u
    from face here (w, taken, is) = (
      w,
      (let same : taken.own.face ≡ face = some_same (sym taken.own.here ∙ here) in subst (λ (f : List Labels). Contains f w) same taken.own.listed),
      kept_from (bind_alike w v) (is_beaten faces i (map.len w) (union v w)) ((bind_alike-BindAlike w v).1 taken.alike) (test (is_beaten faces i (map.len w) (union v w)) refl),
      is,
    )
      where
        some_same : {f g : List Labels} → Some f ≡ Some g → f ≡ g
        some_same e = cc

        test : (b : Bool) → is_beaten faces i (map.len w) (union v w) ≡ b → is_beaten faces i (map.len w) (union v w) ≡ false
        test true told = absurd (taken.best (beaten_is i w (union v w) faces told))
        test false told = told

    at : (b : Option (List Labels)) → slice_get faces i ≡ b → Contains (chosen_of faces i v (unwrap_or b [])) u ↔ ((w : Labels) × MayTake faces i w v × (u ≡ union v w))
    at None gone = ((λ there. absurd (none u there)), (λ (w, taken, is). absurd (differ (sym taken.own.here ∙ gone))))
      where
        differ : {f : List Labels} → Some f ≡ None → ⊥
        differ e = cc
    at (Some face) here = ((λ there. to face here (chosen_is faces i v face u there)), (λ sent. is_chosen faces i v face u (from face here sent)))
