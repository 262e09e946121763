-- The branch that a record goes to has a variant that the record matches and that nothing beats.
use Rattle.std.proofs.Common.{◌≡◌, ◌⊎◌, inl, inr, ℕ, zero, suc, ◌<◌, ◌≤◌, IfSome, Bool, true, false, cond, List, [], ◌∷◌, take, max, Option, None, Some, refl, sym, ap, ◌∙◌, subst, arith}
use Rattle.std.specs.Prelude.{map as map_list, slice_get, nat_le}
use Rattle.std.specs.List.{All, Contains}
use Rattle.std.specs.FinMap as map
use Rattle.std.proofs.lemmas.Bool.Decides.{nat_tests}
use Rattle.std.proofs.lemmas.List.{get_or-take, length-take}
use Rattle.std.proofs.lemmas.Option.{none-some, slice_get_within, get_or_from_slice_get}
use Rattle.sn_record.specs.LabelSet.{Labels, union}
use Rattle.sn_record.specs.Record.{Entries, Matches, is_match, greater, score}
use Rattle.sn_record.proofs.Fitting.{fits_through}
use Rattle.sn_record.proofs.Scores.{is_match-Matches}
use Rattle.sn_net.specs.Best.{IsBest}
use Rattle.sn_net.specs.Route.{best_branch}
use Rattle.sn_net.proofs.BestBranches.{best_branch-Some, best_branch-None}
use Rattle.sn_typing.proofs.Subsets.{both_alike, union_fit}
use Rattle.sn_typing.specs.Flow.{HasFace, IsFaceVariant, MayTake}

-- what stands in a list stands at its head or behind
pub contains_cases : {X : Type 0} (y : X) (ys : List X) (x : X) → Contains (y ∷ ys) x → (y ≡ x) ⊎ Contains ys x
contains_cases y ys x (zero, below, is) = inl is
contains_cases y ys x (suc k, below, is) = inr (k, omega (arith, below), is)

pub contains_head : {X : Type 0} (y : X) (ys : List X) → Contains (y ∷ ys) y
contains_head y ys = (0, omega arith, refl)

pub contains_behind : {X : Type 0} (y : X) (ys : List X) (x : X) → Contains ys x → Contains (y ∷ ys) x
contains_behind y ys x (k, below, is) = (suc k, omega (arith, below), is)

pub contains_mapped : {A B : Type 0} (f : A → B) (xs : List A) (x : A) → Contains xs x → Contains (map_list f xs) (f x)
contains_mapped f [] x (k, below, is) = absurd (omega (arith, below))
contains_mapped {B = B} f (y ∷ xs) x there = which (contains_cases y xs x there) (λ rest. contains_mapped f xs x rest)
  where
    which : (y ≡ x) ⊎ Contains xs x → (Contains xs x → Contains (map_list f xs) (f x)) → Contains (f y ∷ map_list f xs) (f x)
    which (inl same) later = subst (λ (z : B). Contains (f y ∷ map_list f xs) z) (ap f same) (contains_head (f y) (map_list f xs))
    which (inr rest) later = contains_behind (f y) (map_list f xs) (f x) (later rest)

one_of_both : (m n : ℕ) → (max m n ≡ m) ⊎ (max m n ≡ n)
one_of_both m n = at (nat_le m n) refl
  where
    at : (b : Bool) → nat_le m n ≡ b → (max m n ≡ m) ⊎ (max m n ≡ n)
    at true e = inr (grind (arith, nat_tests, e))
    at false e = inl (grind (arith, nat_tests, e))

abbrev pub Reaching : List Labels → Entries → ℕ → Type 0
Reaching face r size = (w : Labels) × Contains face w × Matches r w × (map.len w ≡ size)

reaching_behind : (v : Labels) (face : List Labels) (r : Entries) (size : ℕ) → Reaching face r size → Reaching (v ∷ face) r size
reaching_behind v face r size (w, there, matches, is) = (w, contains_behind v face w there, matches, is)

same_some : (m n : ℕ) → Some m ≡ Some n → m ≡ n
same_some m n e = cc

-- a score is the size of a variant that is matched
pub score_reached : (face : List Labels) (r : Entries) (size : ℕ) → score face r ≡ Some size → Reaching face r size
score_reached [] r size e = absurd (none-some size e)
score_reached (v ∷ face) r size e = at (is_match r v) refl (score face r) refl (λ n is. score_reached face r n is) e
  where
    here : (n : ℕ) → is_match r v ≡ true → map.len v ≡ n → Reaching (v ∷ face) r n
    here n test is = (v, contains_head v face, (is_match-Matches r v).0 test, is)

    at : (b : Bool) → is_match r v ≡ b → (s : Option ℕ) → score face r ≡ s → ((n : ℕ) → score face r ≡ Some n → Reaching face r n)
        → greater (cond b (Some (map.len v)) None) s ≡ Some size → Reaching (v ∷ face) r size
    at false test None is behind e = absurd (none-some size e)
    at false test (Some n) is behind e = reaching_behind v face r size (behind size (is ∙ e))
    at true test None is behind e = here size test (same_some _ _ e)
    at true test (Some n) is behind e = which (one_of_both (map.len v) n)
      where
        which : (max (map.len v) n ≡ map.len v) ⊎ (max (map.len v) n ≡ n) → Reaching (v ∷ face) r size
        which (inl same) = here size test (sym same ∙ same_some _ _ e)
        which (inr same) = reaching_behind v face r size (behind size (is ∙ ap (λ (k : ℕ). Some k) (sym same ∙ same_some _ _ e)))

-- and no variant that is matched is larger
pub score_bound : (face : List Labels) (r : Entries) (x : Labels) → Contains face x → Matches r x → (n : ℕ) × (score face r ≡ Some n) × (map.len x ≤ n)
score_bound [] r x (k, below, is) matches = absurd (omega (arith, below))
score_bound (v ∷ face) r x there matches = which (contains_cases v face x there) (λ behind. score_bound face r x behind matches)
  where
    larger : (s : Option ℕ) (m : ℕ) → (n : ℕ) × (greater (Some m) s ≡ Some n) × (m ≤ n)
    larger None m = (m, refl, omega arith)
    larger (Some k) m = (max m k, refl, omega arith)

    behind_larger : (b : Bool) (k m : ℕ) → m ≤ k → (n : ℕ) × (greater (cond b (Some (map.len v)) None) (Some k) ≡ Some n) × (m ≤ n)
    behind_larger true k m le = (max (map.len v) k, refl, omega (arith, le))
    behind_larger false k m le = (k, refl, le)

    which : (v ≡ x) ⊎ Contains face x → (Contains face x → (n : ℕ) × (score face r ≡ Some n) × (map.len x ≤ n)) → (n : ℕ) × (score (v ∷ face) r ≡ Some n) × (map.len x ≤ n)
    which (inl same) rest =
        let test : is_match r v ≡ true = (is_match-Matches r v).1 (subst (Matches r) (sym same) matches) in
        let found = larger (score face r) (map.len v) in
        (found.0, ap (λ b. greater (cond b (Some (map.len v)) None) (score face r)) test ∙ found.1, subst (λ (t : Labels). map.len t ≤ found.0) same found.2)
    which (inr behind) rest =
        let before = rest behind in
        let found = behind_larger (is_match r v) before.0 (map.len x) before.2 in
        (found.0, ap (greater (cond (is_match r v) (Some (map.len v)) None)) before.1 ∙ found.1, found.2)

pub all_at : {X : Type 0} (P : X → Type 0) (xs : List X) (i : ℕ) (x : X) → All P xs → slice_get xs i ≡ Some x → P x
all_at P xs i x all here = subst P (get_or_from_slice_get xs i x x here) (all i x (slice_get_within xs i x here))

all_before : {X : Type 0} (P : X → Type 0) (xs : List X) (i j : ℕ) (x : X) → All P (take i xs) → j < i → slice_get xs j ≡ Some x → P x
all_before P xs i j x all before here =
    let within = slice_get_within xs j x here in
    subst P (get_or-take i xs j x before ∙ get_or_from_slice_get xs j x x here) (all j x (omega (arith, length-take i xs, before, within)))

if_some : (P : ℕ → Type 0) (s : Option ℕ) (n : ℕ) → IfSome s P → s ≡ Some n → P n
if_some P s n has is = subst (λ t. IfSome t P) is has

-- what the record matches within a face that is not best is smaller, or as large and not further left
module _ (faces : List (List Labels)) (r : Entries) (i : ℕ) (best : IsBest faces r i) where
  not_larger : (j : ℕ) (x : Labels) → IsFaceVariant faces j x → Matches r x → map.len x ≤ best.size
  not_larger j x other matches =
      let found = score_bound other.face r x other.listed matches in
      let most : found.0 ≤ best.size = if_some (λ n. n ≤ best.size) (score other.face r) found.0 (all_at (λ face. IfSome (score face r) (λ n. n ≤ best.size)) faces j other.face best.greatest other.here) found.1 in
      omega (arith, found.2, most)

  smaller_before : (j : ℕ) (x : Labels) → IsFaceVariant faces j x → Matches r x → j < i → map.len x < best.size
  smaller_before j x other matches before =
      let found = score_bound other.face r x other.listed matches in
      let most : found.0 < best.size = if_some (λ n. n < best.size) (score other.face r) found.0 (all_before (λ face. IfSome (score face r) (λ n. n < best.size)) faces i j other.face best.leftmost before other.here) found.1 in
      omega (arith, found.2, most)

-- a record that matches v goes to a branch with a variant w that it matches too, and that nothing beats within both
abbrev pub Chosen : List (List Labels) → Entries → Labels → ℕ → Type 0
Chosen faces r v i = (w : Labels) × MayTake faces i w v × Matches r (union v w)

pub best_is_taken : (faces : List (List Labels)) (r : Entries) (v : Labels) (i : ℕ) → Matches r v → best_branch faces r ≡ Some i → Chosen faces r v i
best_is_taken faces r v i matches is =
    let best : IsBest faces r i = best_branch-Some faces r i is in
    let reached = score_reached best.face r best.size best.scored in
    let w : Labels = reached.0 in
    let whole : Matches r (union v w) = union_fit (map.contains_key r) v w matches reached.2 in (
      w,
      record {
        own = record { face = best.face; here = best.here; listed = reached.1 };
        alike = both_alike (map.contains_key r) w v reached.2 matches;
        best = λ beaten.
            let there : Matches r beaten.variant = fits_through (map.contains_key r) beaten.variant (union v w) beaten.fits whole in
            contradicts beaten.branch beaten.variant best.size (map.len w) i reached.3
            (not_larger faces r i best beaten.branch beaten.variant beaten.other there)
            (smaller_before faces r i best beaten.branch beaten.variant beaten.other there)
            beaten.before;
      },
      whole,
    )
  where
    contradicts : (j : ℕ) (x : Labels) (size len i : ℕ) → len ≡ size → map.len x ≤ size → (j < i → map.len x < size)
        → (len < map.len x) ⊎ ((map.len x ≡ len) × (j < i)) → ⊥
    contradicts j x size len i same most before (inl larger) = absurd (omega (arith, same, most, larger))
    contradicts j x size len i same most before (inr (as_large, left)) = absurd (omega (arith, same, as_large, before left))

-- a record that matches a face variant has a branch
pub some_branch : (faces : List (List Labels)) (r : Entries) (v : Labels) → Matches r v → HasFace faces v → best_branch faces r ≡ None → ⊥
some_branch faces r v matches has is =
    let found = score_bound has.own.face r has.variant has.own.listed (fits_through (map.contains_key r) has.variant v has.fits matches) in
    let none : score has.own.face r ≡ None = all_at (λ face. score face r ≡ None) faces has.branch has.own.face (best_branch-None faces r is) has.own.here in
    none-some found.0 (sym none ∙ found.1)
