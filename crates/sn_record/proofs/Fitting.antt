-- The tests of fits, and where binding tags stand among labels in order.
use Rattle.std.proofs.Common.{◌≡◌, ℕ, ◌+◌, ◌<◌, ◌&&◌, ◌||◌, Bool, true, false, not, IsTrue, ◌↔◌, List, [], ◌∷◌, ◌++◌, length, get_or, take, drop, refl, sym, ap, ◌∙◌, subst, arith}
use Rattle.std.specs.Prelude.{nat_le}
use Rattle.std.specs.List.{list_all}
use Rattle.std.specs.FinMap as map
use Rattle.std.specs.FinMap.{is_sorted}
use Rattle.std.specs.Ordering.{MatchOrdering, nat_cmp}
use Rattle.std.specs.Cmp.{ranks, tied_itself}
use Rattle.std.specs.declared.cmp.Ordering.TheVariants.{Less}
use Rattle.std.proofs.lemmas.Bool.{both_ways}
use Rattle.std.proofs.lemmas.List.{take-append-drop, drop_more}
use Rattle.std.proofs.lemmas.List.Folds.{list_all-map}
use Rattle.sn_record.specs.declared.label.Kind.{Kind}
use Rattle.sn_record.specs.declared.label.Kind.TheVariants.{Field, Tag}
use Rattle.sn_record.specs.declared.label.Label.{Label}
use Rattle.sn_record.specs.InOrder.{are_below}
use Rattle.sn_record.specs.Label.{label_cmp, label_cmp_total, is_tag, is_binding, first_binding}
use Rattle.sn_record.specs.LabelSet.{Labels, contains, IsSubset}
use Rattle.sn_record.specs.Fits.{BindAlike, bind_alike, FitsAmong, Fits, fits, is_bound}
use Rattle.sn_record.proofs.Maps.{list_all-entries}
use Rattle.sn_record.proofs.Rising.{first_below, others_below}
use Rattle.sn_record.proofs.Searched.{below_tied}

-- ---- the test

bound_there : (w : Labels) (l : Label) → IsTrue (is_bound w l) → IsTrue (is_binding l) → IsTrue (contains w l)
bound_there w l test binds = subst (λ b. IsTrue (not b || contains w l)) binds test

there_bound : (w : Labels) (l : Label) → (IsTrue (is_binding l) → IsTrue (contains w l)) → IsTrue (is_bound w l)
there_bound w l named =
    elim (is_binding l) as (λ b. is_binding l ≡ b → IsTrue (not b || contains w l)) [ true ↦ λ binds. named binds | false ↦ λ _. refl ] refl

same_tests : (a b : Bool) → (IsTrue a → IsTrue b) → (IsTrue b → IsTrue a) → a ≡ b
same_tests true b f g = sym (f refl)
same_tests false true f g = g refl
same_tests false false f g = refl

both : (a b : Bool) → IsTrue a → IsTrue b → IsTrue (a && b)
both true b e f = f
both false b e f = cc

first_of_both : (a b : Bool) → IsTrue (a && b) → IsTrue a
first_of_both true b e = refl
first_of_both false b e = cc

second_of_both : (a b : Bool) → IsTrue (a && b) → IsTrue b
second_of_both true b e = e
second_of_both false b e = cc

-- of two tests in turn the second decides where the first passes, and else the first
pub second_decides : (a b r : Bool) (P : Type 0) → IsTrue (a && b) ↔ P → a ≡ true → r ≡ b → IsTrue r ↔ P
second_decides a b r P law passes is = (λ told. law.0 (both a b passes (sym is ∙ told)), λ holds. is ∙ second_of_both a b (law.1 holds))

pub first_decides : (a b r : Bool) (P : Type 0) → IsTrue (a && b) ↔ P → a ≡ false → r ≡ a → IsTrue r ↔ P
first_decides a b r P law fails is = (λ told. absurd (both_ways a fails (sym is ∙ told)), λ holds. is ∙ first_of_both a b (law.1 holds))

module _ {X : Type 0} (w : Labels) (m : map.FinMap label_cmp X) where
  -- the two tests, as loops over the entries have them
  pub entries_fit : IsTrue (list_all (λ e. map.contains_key m e.0) (map.entries w) && list_all (λ e. is_bound w e.0) (map.entries m)) ↔ FitsAmong (map.contains_key m) w
  entries_fit = (
    λ test. record {
      within = (list_all-entries (map.contains_key m) w).0 (first_of_both _ _ test);
      bound = λ l binds there. bound_there w l ((list_all-entries (is_bound w) m).0 (second_of_both _ _ test) l there) binds;
    },
    λ fit. both _ _
        ((list_all-entries (map.contains_key m) w).1 fit.within)
        ((list_all-entries (is_bound w) m).1 (λ l there. there_bound w l (λ binds. fit.bound l binds there))),
  )

  by_keys : fits w m ≡ (list_all (λ e. map.contains_key m e.0) (map.entries w) && list_all (λ e. is_bound w e.0) (map.entries m))
  by_keys = λ i. list_all-map (map.contains_key m) (λ e. e.0) (map.entries w) i && list_all-map (is_bound w) (λ e. e.0) (map.entries m) i

  -- the test holds exactly where w fits
  pub fits-Fits : IsTrue (fits w m) ↔ FitsAmong (map.contains_key m) w
  fits-Fits = (λ test. entries_fit.0 (sym by_keys ∙ test), λ fit. by_keys ∙ entries_fit.1 fit)

-- the two tests, as loops over the entries have them
pub entries_bind_alike : (s t : Labels) → IsTrue (list_all (λ e. is_bound s e.0) (map.entries t) && list_all (λ e. is_bound t e.0) (map.entries s)) ↔ BindAlike s t
entries_bind_alike s t = (
  λ test l binds. same_tests (contains s l) (contains t l)
      (λ there. bound_there t l ((list_all-entries (is_bound t) s).0 (second_of_both _ _ test) l there) binds)
      (λ there. bound_there s l ((list_all-entries (is_bound s) t).0 (first_of_both _ _ test) l there) binds),
  λ same. both _ _
      ((list_all-entries (is_bound s) t).1 (λ l there. there_bound s l (λ binds. same l binds ∙ there)))
      ((list_all-entries (is_bound t) s).1 (λ l there. there_bound t l (λ binds. sym (same l binds) ∙ there))),
)

pub bind_alike-BindAlike : (s t : Labels) → IsTrue (bind_alike s t) ↔ BindAlike s t
bind_alike-BindAlike s t =
    let by_entries : bind_alike s t ≡ (list_all (λ e. is_bound s e.0) (map.entries t) && list_all (λ e. is_bound t e.0) (map.entries s)) =
    λ i. list_all-map (is_bound s) (λ e. e.0) (map.entries t) i && list_all-map (is_bound t) (λ e. e.0) (map.entries s) i in
    (λ test. (entries_bind_alike s t).0 (sym by_entries ∙ test), λ same. by_entries ∙ (entries_bind_alike s t).1 same)

-- ---- binding tags stand behind all others

smaller_unbinding : (a b : ℕ) → nat_cmp a b ≡ Less → nat_le first_binding b ≡ false → nat_le first_binding a ≡ false
smaller_unbinding a b less apart =
    let below : a < b = subst (λ o. MatchOrdering o (a < b) (a ≡ b) (b < a)) less (ranks a b) in
    grind (arith, below, apart)

before_unbinding : (l k : Label) → label_cmp l k ≡ Less → is_binding k ≡ false → is_binding l ≡ false
before_unbinding l k less apart = at l.kind k.kind less apart
  where
    at : (a b : Kind) → label_cmp (record { kind = a; id = l.id }) (record { kind = b; id = k.id }) ≡ Less → (is_tag b && nat_le first_binding k.id) ≡ false → (is_tag a && nat_le first_binding l.id) ≡ false
    at Field b e f = refl
    at Tag Field e f = cc
    at Tag Tag e f = smaller_unbinding l.id k.id e f

unbinding_bound : (w : Labels) (l : Label) → is_binding l ≡ false → is_bound w l ≡ true
unbinding_bound w l e = ap (λ b. not b || contains w l) e

module _ {V : Type 0} (w : Labels) where
  none_binding : (es : List (Label × V)) (k : Label) → IsTrue (are_below label_cmp es k) → is_binding k ≡ false → list_all (λ e. is_bound w e.0) es ≡ true
  none_binding [] k below apart = refl
  none_binding (e ∷ es) k below apart =
      both _ _
      (unbinding_bound w e.0 (before_unbinding e.0 k (first_below label_cmp k e es below) apart))
      (none_binding es k (others_below label_cmp k e es below) apart)

  all_append : (xs ys : List (Label × V)) → list_all (λ e. is_bound w e.0) xs ≡ true → list_all (λ e. is_bound w e.0) ys ≡ true → list_all (λ e. is_bound w e.0) (xs ++ ys) ≡ true
  all_append [] ys first second = second
  all_append (x ∷ xs) ys first second = both _ _ (first_of_both _ _ first) (all_append xs ys (second_of_both _ _ first) second)

  -- before an entry whose label is no binding tag there is none
  pub bound_before : (es : List (Label × V)) (i : ℕ) (d : Label × V) → i < length es → IsTrue (is_sorted label_cmp es) → is_binding (get_or es i d).0 ≡ false
      → list_all (λ e. is_bound w e.0) (drop (i + 1) es) ≡ true → list_all (λ e. is_bound w e.0) es ≡ true
  bound_before es i d within rises apart rest =
      let e = get_or es i d in
      let whole : take i es ++ e ∷ drop (i + 1) es ≡ es = ap (λ xs. take i es ++ xs) (sym (drop_more es i d within)) ∙ take-append-drop i es in
      let sorted = subst (λ xs. IsTrue (is_sorted label_cmp xs)) (sym whole) rises in
      let front = none_binding (take i es) e.0 (below_tied label_cmp label_cmp_total (take i es) e (drop (i + 1) es) e.0 sorted (tied_itself label_cmp_total e.0)) apart in
      subst (λ xs. list_all (λ x. is_bound w x.0) xs ≡ true) whole
      (all_append (take i es) (e ∷ drop (i + 1) es) front (both _ _ (unbinding_bound w e.0 apart) rest))

-- ---- fits in turn

pub fits_itself : (s : Labels) → Fits s s
fits_itself s = record { within = λ l there. there; bound = λ l binds there. there }

-- what fits a set that fits, fits
pub fits_through : (has : Label → Bool) (w s : Labels) → Fits w s → FitsAmong has s → FitsAmong has w
fits_through has w s first second = record {
  within = λ l there. second.within l (first.within l there);
  bound = λ l binds there. first.bound l binds (second.bound l binds there);
}

pub fits_chain : (w s t : Labels) → Fits w s → Fits s t → Fits w t
fits_chain w s t first second = fits_through (contains t) w s first second

-- the same labels, told otherwise
pub fits_same : (has other : Label → Bool) (w : Labels) → ((l : Label) → has l ≡ other l) → FitsAmong has w → FitsAmong other w
fits_same has other w same fit = record {
  within = λ l there. sym (same l) ∙ fit.within l there;
  bound = λ l binds there. fit.bound l binds (same l ∙ there);
}

pub bind_alike_itself : (s : Labels) → BindAlike s s
bind_alike_itself s l binds = refl

pub bind_alike_turned : (s t : Labels) → BindAlike s t → BindAlike t s
bind_alike_turned s t same l binds = sym (same l binds)

pub bind_alike_through : (s t u : Labels) → BindAlike s t → BindAlike t u → BindAlike s u
bind_alike_through s t u first second l binds = first l binds ∙ second l binds

-- what fits has the same binding tags
pub fits_bind_alike : (w s : Labels) → Fits w s → BindAlike w s
fits_bind_alike w s fit l binds = same_tests (contains w l) (contains s l) (fit.within l) (fit.bound l binds)

-- a subset with the same binding tags fits
pub subset_fits : (w s : Labels) → IsSubset w s → BindAlike w s → Fits w s
subset_fits w s within same = record { within = within; bound = λ l binds there. same l binds ∙ there }
