-- The tests of what a component takes, and of what leaves a star.
use Rattle.std.proofs.Common.{◌≡◌, ◌↔◌, ◌⊎◌, inl, inr, ℕ, ◌+◌, ◌<◌, ◌&&◌, Bool, true, false, cond, IsTrue, List, [], ◌∷◌, ◌++◌, length, get_or, take, map as each, refl, sym, ap, ◌∙◌, subst}
use Rattle.std.specs.Cmp.{both_ways}
use Rattle.std.specs.List.{Contains, filter}
use Rattle.std.proofs.lemmas.List.{take_more}
use Rattle.std.proofs.lemmas.List.Elements.{All-contains, All-contains_itself, All-weaker}
use Rattle.std.proofs.lemmas.List.Sums.{AllPass-from_list_all, list_all-from_AllPass}
use Rattle.sn_record.specs.LabelSet.{Labels, union}
use Rattle.sn_record.specs.Fits.{BindAlike, bind_alike}
use Rattle.sn_record.proofs.Fitting.{bind_alike-BindAlike, bind_alike_through, bind_alike_turned, fits_bind_alike}
use Rattle.sn_types.proofs.Subtypes.{has_fit-HasFit}
use Rattle.sn_typing.specs.Flow.{Takes}
use Rattle.sn_flow.specs.Taken.{is_taken, with_exit}
use Rattle.sn_flow.proofs.Lists.{cases, head, behind, none}

-- what holds exactly where two sets bind alike is the test
pub same_binding_test : (b : Bool) (s t : Labels) → IsTrue b ↔ BindAlike s t → b ≡ bind_alike s t
same_binding_test b s t law =
    both_ways b (bind_alike s t) (λ told. (bind_alike-BindAlike s t).1 (law.0 told)) (λ test. law.1 ((bind_alike-BindAlike s t).0 test))

both : (a b : Bool) → IsTrue a → IsTrue b → IsTrue (a && b)
both true b e f = f
both false b e f = cc

first_of_both : (a b : Bool) → IsTrue (a && b) → IsTrue a
first_of_both true b e = refl
first_of_both false b e = cc

second_of_both : (a b : Bool) → IsTrue (a && b) → IsTrue b
second_of_both true b e = e
second_of_both false b e = cc

-- ---- what a component takes

taken_is : (takes : List Labels) (v : Labels) → IsTrue (is_taken takes v) → Takes takes v
taken_is takes v test =
    let all = AllPass-from_list_all (λ w. bind_alike w v) takes (second_of_both _ _ test) in
    let alike = λ (w : Labels) (there : Contains takes w).
    (bind_alike-BindAlike w v).0 (All-contains (λ w. bind_alike w v ≡ true) takes w all there) in
    record {
      has = (has_fit-HasFit takes v).0 (first_of_both _ _ test);
      alike = λ s t first second. bind_alike_through s v t (alike s first) (bind_alike_turned t v (alike t second));
    }

is_taken_test : (takes : List Labels) (v : Labels) → Takes takes v → IsTrue (is_taken takes v)
is_taken_test takes v route =
    let own = route.has in
    let alike = λ (w : Labels) (there : Contains takes w).
    (bind_alike-BindAlike w v).1
    (bind_alike_through w own.variant v (route.alike w own.variant there own.listed) (fits_bind_alike own.variant v own.fits)) in
    both _ _ ((has_fit-HasFit takes v).1 own)
    (list_all-from_AllPass (λ w. bind_alike w v) takes (All-weaker (Contains takes) (λ w. bind_alike w v ≡ true) alike takes (All-contains_itself takes)))

pub is_taken-Takes : (takes : List Labels) (v : Labels) → IsTrue (is_taken takes v) ↔ Takes takes v
is_taken-Takes takes v = (taken_is takes v, is_taken_test takes v)

-- ---- what leaves a star

-- where what leaves comes from
pub record Leaving (members : List Labels) (exit u : Labels) : Type 0 where
  pub origin : Labels
  pub listed : Contains members origin
  pub alike : BindAlike origin exit
  pub is : u ≡ union origin exit

pub leaving_from : (members : List Labels) (exit u : Labels) → Contains (with_exit members exit) u → Leaving members exit u
leaving_from [] exit u there = absurd (none u there)
leaving_from (m ∷ members) exit u there = at (bind_alike m exit) refl there (λ rest. leaving_from members exit u rest)
  where
    first_or : bind_alike m exit ≡ true → (union m exit ≡ u) ⊎ Contains (with_exit members exit) u → (Contains (with_exit members exit) u → Leaving members exit u) → Leaving (m ∷ members) exit u
    first_or test (inl same) later = record { origin = m; listed = head m members; alike = (bind_alike-BindAlike m exit).0 test; is = sym same }
    first_or test (inr rest) later = let found = later rest in record { origin = found.origin; listed = behind m members found.origin found.listed; alike = found.alike; is = found.is }

    at : (b : Bool) → bind_alike m exit ≡ b → Contains (each (λ w. union w exit) (cond b (m ∷ filter (λ w. bind_alike w exit) members) (filter (λ w. bind_alike w exit) members))) u
        → (Contains (with_exit members exit) u → Leaving members exit u) → Leaving (m ∷ members) exit u
    at true test here later = first_or test (cases (union m exit) (with_exit members exit) u here) later
    at false test here later = let found = later here in record { origin = found.origin; listed = behind m members found.origin found.listed; alike = found.alike; is = found.is }

pub leaving_to : (members : List Labels) (exit w : Labels) → Contains members w → BindAlike w exit → Contains (with_exit members exit) (union w exit)
leaving_to [] exit w there alike = absurd (none w there)
leaving_to (m ∷ members) exit w there alike = at (bind_alike m exit) refl (cases m members w there) (λ rest. leaving_to members exit w rest alike)
  where
    differ : false ≡ true → ⊥
    differ e = cc

    at : (b : Bool) → bind_alike m exit ≡ b → (m ≡ w) ⊎ Contains members w → (Contains members w → Contains (with_exit members exit) (union w exit))
        → Contains (each (λ x. union x exit) (cond b (m ∷ filter (λ x. bind_alike x exit) members) (filter (λ x. bind_alike x exit) members))) (union w exit)
    at true test (inl same) later = subst (Contains (union m exit ∷ with_exit members exit)) (ap (λ x. union x exit) same) (head (union m exit) (with_exit members exit))
    at true test (inr rest) later = behind (union m exit) (with_exit members exit) (union w exit) (later rest)
    at false test (inl same) later = absurd (differ (sym test ∙ (bind_alike-BindAlike m exit).1 (subst (λ (x : Labels). BindAlike x exit) (sym same) alike)))
    at false test (inr rest) later = later rest

-- ---- a member more

exit_append : (ms more : List Labels) (exit : Labels) → with_exit (ms ++ more) exit ≡ with_exit ms exit ++ with_exit more exit
exit_append [] more exit = refl
exit_append (m ∷ ms) more exit =
    elim (bind_alike m exit) as (λ b. each (λ w. union w exit) (cond b (m ∷ filter (λ w. bind_alike w exit) (ms ++ more)) (filter (λ w. bind_alike w exit) (ms ++ more)))
    ≡ each (λ w. union w exit) (cond b (m ∷ filter (λ w. bind_alike w exit) ms) (filter (λ w. bind_alike w exit) ms)) ++ with_exit more exit) [
      | true ↦ ap (λ us. union m exit ∷ us) (exit_append ms more exit)
      | false ↦ exit_append ms more exit
    ]

pub exit_more : (members : List Labels) (exit : Labels) (i : ℕ) (m : Labels) → i < length members → m ≡ get_or members i m
    → with_exit (take (i + 1) members) exit ≡ with_exit (take i members) exit ++ with_exit (m ∷ []) exit
exit_more members exit i m below here =
    ap (λ ms. with_exit ms exit) (take_more members i m below ∙ ap (λ (x : Labels). take i members ++ x ∷ []) (sym here)) ∙ exit_append (take i members) (m ∷ []) exit

alone : (m exit : Labels) (b : Bool) → bind_alike m exit ≡ b → with_exit (m ∷ []) exit ≡ cond b (union m exit ∷ []) []
alone m exit b test = ap (λ c. each (λ w. union w exit) (cond c (m ∷ []) [])) test ∙ at b
  where
    at : (b : Bool) → each (λ w. union w exit) (cond b (m ∷ []) []) ≡ cond b (union m exit ∷ []) []
    at true = refl
    at false = refl

pub alone_leaves : (m exit : Labels) → bind_alike m exit ≡ true → with_exit (m ∷ []) exit ≡ union m exit ∷ []
alone_leaves m exit test = alone m exit true test

pub alone_stays : (m exit : Labels) → bind_alike m exit ≡ false → with_exit (m ∷ []) exit ≡ []
alone_stays m exit test = alone m exit false test
