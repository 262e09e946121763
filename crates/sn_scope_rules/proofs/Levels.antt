-- What a level of a tree is made of, within the limits of height and width.
use Rattle.std.proofs.Common.{◌≡◌, ℕ, zero, suc, ◌≤◌, Bool, true, false, nat_le, if◌then◌else◌, List, [], ◌∷◌, length, map as each, Option, Some, None, option_map, refl, sym, ap, ◌∙◌, subst, arith}
use Rattle.std.proofs.lemmas.Bool.Decides.{nat_tests}
use Rattle.std.proofs.lemmas.Option.{none-some, same_Some}
use Rattle.sn_net.specs.Face.{face}
use Rattle.sn_net.specs.declared.expr.BoxProgram.{BoxProgram}
use Rattle.sn_net.specs.declared.filter.Filter.{Filter}
use Rattle.sn_net.specs.declared.net.Merge.{Merge}
use Rattle.sn_net.specs.declared.net.Net.{Net}
use Rattle.sn_net.specs.declared.net.Net.TheOpen.{Net-F}
use Rattle.sn_net.specs.declared.net.Net.TheVariants as net
use Rattle.sn_net.specs.declared.net.Net.TheViews.{out-roll-Net}
use Rattle.sn_record.specs.LabelSet.{Labels}
use Rattle.sn_scope.specs.Built.{node_of, part_of}
use Rattle.sn_scope.specs.Trees.{all_some, in_series, most_variants, narrow, then_some, tree}
use Rattle.sn_scope.specs.declared.network.Component.{Component}
use Rattle.sn_scope.specs.declared.network.Network.TheVariants.{Made}
use Rattle.sn_scope.proofs.Levels.{part-Made}
use Rattle.sn_tagexpr.specs.declared.expr.TagExpr.{TagExpr}
use Rattle.sn_scope_rules.specs.Limits.{Fits, parts_in, parts_of}
use Rattle.sn_scope_rules.specs.Standing.{Beside}
use Rattle.sn_scope_rules.specs.Standing.StandsIn.{here, later}
use Rattle.sn_scope_rules.specs.Standing.StandsWithin.{itself}
use Rattle.sn_scope_rules.proofs.Held.{Each, each_cons, each_nil}
use Rattle.sn_scope_rules.proofs.Limits.{fits_none, fits_parts, fits_up}

pub then_to : {A B : Type 0} (o : Option A) (f : A → Option B) (y : B) → then_some o f ≡ Some y → (x : A) × (o ≡ Some x) × (f x ≡ Some y)
then_to None f y is = absurd (none-some y is)
then_to (Some x) f y is = (x, refl, is)

pub map_to : {A B : Type 0} (o : Option A) (f : A → B) (y : B) → option_map f o ≡ Some y → (x : A) × (o ≡ Some x) × (f x ≡ y)
map_to None f y is = absurd (none-some y is)
map_to (Some x) f y is = (x, refl, same_Some (f x) y is)

-- the parts of each form
pub parts-Box : (place number : ℕ) → parts_of (net.Box place number) ≡ []
parts-Box place number = ap parts_of (sym (net.rolls-Box place number)) ∙ ap parts_in (out-roll-Net (Net-F.Box place number))

pub parts-Filter : (filter : Filter) → parts_of (net.Filter filter) ≡ []
parts-Filter filter = ap parts_of (sym (net.rolls-Filter filter)) ∙ ap parts_in (out-roll-Net (Net-F.Filter filter))

pub parts-Sync : (place : ℕ) (patterns : List Labels) → parts_of (net.Sync place patterns) ≡ []
parts-Sync place patterns = ap parts_of (sym (net.rolls-Sync place patterns)) ∙ ap parts_in (out-roll-Net (Net-F.Sync place patterns))

pub parts-Serial : (left right : Net) → parts_of (net.Serial left right) ≡ left ∷ right ∷ []
parts-Serial left right = ap parts_of (sym (net.rolls-Serial left right)) ∙ ap parts_in (out-roll-Net (Net-F.Serial left right))

pub parts-Choice : (place : ℕ) (merge : Merge) (branches : List Net) (faces : List (List Labels)) → parts_of (net.Choice place merge branches faces) ≡ branches
parts-Choice place merge branches faces = ap parts_of (sym (net.rolls-Choice place merge branches faces)) ∙ ap parts_in (out-roll-Net (Net-F.Choice place merge branches faces))

pub parts-Star : (place : ℕ) (merge : Merge) (body : Net) (exit : Labels) (guard : Option TagExpr) → parts_of (net.Star place merge body exit guard) ≡ body ∷ []
parts-Star place merge body exit guard = ap parts_of (sym (net.rolls-Star place merge body exit guard)) ∙ ap parts_in (out-roll-Net (Net-F.Star place merge body exit guard))

pub parts-Split : (place : ℕ) (merge : Merge) (body : Net) (tag : ℕ) → parts_of (net.Split place merge body tag) ≡ body ∷ []
parts-Split place merge body tag = ap parts_of (sym (net.rolls-Split place merge body tag)) ∙ ap parts_in (out-roll-Net (Net-F.Split place merge body tag))

module _ (boxes : List BoxProgram) where
  -- what is made with so many levels is one of those trees, where it fits, and each of them that fits is made
  abbrev pub At : ℕ → Option Net → (Net → Type 0) → Type 0
  At levels made L = (t : Net) → (made ≡ Some t → L t × Fits boxes levels t) × (L t × Fits boxes levels t → made ≡ Some t)

  abbrev pub Ties : (ℕ → Option Net) → (Net → Type 0) → Type 0
  Ties made L = (levels : ℕ) → At levels (made levels) L

  pub ties_same : (made : ℕ → Option Net) (L M : Net → Type 0) → Ties made L → ((t : Net) → L t → M t) → ((t : Net) → M t → L t) → Ties made M
  ties_same made L M ties to from levels t = (λ is. let known = (ties levels t).0 is in (to t known.0, known.1), λ both. (ties levels t).1 (from t both.0, both.1))

  -- and so does one level, over parts that fit
  abbrev pub Level : ℕ → Option Net → (Net → Type 0) → Type 0
  Level n made L = (t : Net) → (made ≡ Some t → L t × Each (Fits boxes n) (parts_of t)) × (L t × Each (Fits boxes n) (parts_of t) → made ≡ Some t)

  pub level_same : (n : ℕ) (made : Option Net) (L M : Net → Type 0) → Level n made L → ((t : Net) → L t → M t) → ((t : Net) → M t → L t) → Level n made M
  level_same n made L M level to from t = (λ is. let known = (level t).0 is in (to t known.0, known.1), λ both. (level t).1 (from t both.0, both.1))

  narrow_to : (u t : Net) → narrow boxes u ≡ Some t → (u ≡ t) × (length (face boxes t) ≤ most_variants)
  narrow_to u t is = cases (nat_le (length (face boxes u)) most_variants) refl is
    where
      cases : (b : Bool) → nat_le (length (face boxes u)) most_variants ≡ b → (if b then Some u else None) ≡ Some t → (u ≡ t) × (length (face boxes t) ≤ most_variants)
      cases true wide same = (same_Some u t same, subst (λ v. length (face boxes v) ≤ most_variants) (same_Some u t same) (grind (arith, nat_tests, wide)))
      cases false wide same = absurd (none-some t same)

  narrow_from : (t : Net) → length (face boxes t) ≤ most_variants → narrow boxes t ≡ Some t
  narrow_from t wide =
      let is : nat_le (length (face boxes t)) most_variants ≡ true = grind (arith, nat_tests, wide) in
      ap (λ b. if b then Some t else None) is

  -- a component whose levels are known
  pub tied : (nets : List Component) (c : Component) (L : Net → Type 0) → ((n : ℕ) → Level n (node_of boxes n nets c) L) → Ties (λ levels. tree boxes levels nets c) L
  tied nets c L step zero t = (λ is. absurd (none-some t is), λ both. absurd (fits_none boxes t both.1))
  tied nets c L step (suc n) t = (to, from)
    where
      to : tree boxes (suc n) nets c ≡ Some t → L t × Fits boxes (suc n) t
      to is =
          let made = then_to (node_of boxes n nets c) (narrow boxes) t is in
          let narrowed = narrow_to made.0 t made.2 in
          let known = (step n t).0 (made.1 ∙ ap Some narrowed.0) in
          (known.0, fits_up boxes n t known.1 narrowed.1)

      from : L t × Fits boxes (suc n) t → tree boxes (suc n) nets c ≡ Some t
      from both = ap (λ o. then_some o (narrow boxes)) ((step n t).1 (both.0, fits_parts boxes n t both.1)) ∙ narrow_from t (both.1.narrow t itself)

  pub ties_made : (nets : List Component) (c : Component) (L : Net → Type 0) → Ties (λ levels. tree boxes levels nets c) L → Ties (λ levels. part_of boxes levels nets (Made c)) L
  ties_made nets c L ties levels = subst (λ made. At levels made L) (sym (part-Made boxes levels nets (Made c) c refl)) (ties levels)

  -- a tree without parts
  pub leaf_level : (n : ℕ) (made : Option Net) (T : Net) → made ≡ Some T → parts_of T ≡ [] → Level n made (λ t. t ≡ T)
  leaf_level n made T is none t = (
    λ same. let tied = same_Some t T (sym same ∙ is) in (tied, subst (Each (Fits boxes n)) (sym (ap parts_of tied ∙ none)) (each_nil (Fits boxes n))),
    λ both. is ∙ ap Some (sym both.0),
  )

  -- a tree over another
  pub one_level : (n : ℕ) (made : Option Net) (B : Net → Type 0) (over : Net → Net) → ((m : Net) → parts_of (over m) ≡ m ∷ []) → At n made B
      → Level n (option_map over made) (λ t. (m : Net) × B m × (t ≡ over m))
  one_level n made B over parts at t = (to, from)
    where
      to : option_map over made ≡ Some t → ((m : Net) × B m × (t ≡ over m)) × Each (Fits boxes n) (parts_of t)
      to is =
          let found = map_to made over t is in
          let known = (at found.0).0 found.1 in (
            (found.0, known.0, sym found.2),
            subst (Each (Fits boxes n)) (sym (ap parts_of (sym found.2)
                ∙ parts found.0)) (each_cons (Fits boxes n) found.0 [] known.1 (each_nil (Fits boxes n))),
          )

      from : ((m : Net) × B m × (t ≡ over m)) × Each (Fits boxes n) (parts_of t) → option_map over made ≡ Some t
      from both =
          let fits = subst (Each (Fits boxes n)) (ap parts_of both.0.2 ∙ parts both.0.0) both.1 in
          ap (option_map over) ((at both.0.0).1 (both.0.1, fits both.0.0 here)) ∙ ap Some (sym both.0.2)

  -- two trees in series
  abbrev pub InSeries : (Net → Type 0) → (Net → Type 0) → Net → Type 0
  InSeries A B t = (l : Net) × (r : Net) × A l × B r × (t ≡ net.Serial l r)

  pub two_level : (n : ℕ) (left right : Option Net) (A B : Net → Type 0) → At n left A → At n right B → Level n (in_series left right) (InSeries A B)
  two_level n left right A B one other t = (to, from)
    where
      to : in_series left right ≡ Some t → InSeries A B t × Each (Fits boxes n) (parts_of t)
      to is =
          let first = then_to left (λ l. option_map (λ r. net.Serial l r) right) t is in
          let second = map_to right (λ r. net.Serial first.0 r) t first.2 in
          let a = (one first.0).0 first.1 in
          let b = (other second.0).0 second.1 in (
            (first.0, second.0, a.0, b.0, sym second.2),
            subst (Each (Fits boxes n)) (sym (ap parts_of (sym second.2) ∙ parts-Serial first.0 second.0)) (each_cons (Fits boxes n) first.0 (second.0 ∷ []) a.1 (each_cons
                (Fits boxes n) second.0 [] b.1 (each_nil (Fits boxes n)))),
          )

      from : InSeries A B t × Each (Fits boxes n) (parts_of t) → in_series left right ≡ Some t
      from both =
          let l = both.0.0 in
          let r = both.0.1 in
          let fits = subst (Each (Fits boxes n)) (ap parts_of both.0.4 ∙ parts-Serial l r) both.1 in
          ap (λ o. in_series o right) ((one l).1 (both.0.2, fits l here))
          ∙ ap (option_map (λ r. net.Serial l r)) ((other r).1 (both.0.3, fits r (later here))) ∙ ap Some (sym both.0.4)

  -- several trees beside one another
  module _ {E : Type 0} (n : ℕ) (o : E → Option Net) (A : E → Net → Type 0) where
    all_to : (es : List E) → Each (λ e. At n (o e) (A e)) es → (ts : List Net) → all_some (each o es) ≡ Some ts → Beside A es ts × Each (Fits boxes n) ts
    all_to [] held [] is = (tt, each_nil (Fits boxes n))
    all_to [] held (t ∷ ts) is = cc
    all_to (e ∷ es) held ts is =
        let first = then_to (o e) (λ t. option_map (λ more. t ∷ more) (all_some (each o es))) ts is in
        let rest = map_to (all_some (each o es)) (λ more. first.0 ∷ more) ts first.2 in
        let one = (held e here first.0).0 first.1 in
        let others = all_to es (λ x at. held x (later at)) rest.0 rest.1 in
        subst (λ us. Beside A (e ∷ es) us × Each (Fits boxes n) us) rest.2 ((one.0, others.0), each_cons (Fits boxes n) first.0 rest.0 one.1 others.1)

    all_from : (es : List E) → Each (λ e. At n (o e) (A e)) es → (ts : List Net) → Beside A es ts → Each (Fits boxes n) ts → all_some (each o es) ≡ Some ts
    all_from [] held [] beside fits = refl
    all_from [] held (t ∷ ts) beside fits = absurd beside
    all_from (e ∷ es) held [] beside fits = absurd beside
    all_from (e ∷ es) held (t ∷ ts) beside fits =
        ap (λ x. then_some x (λ u. option_map (λ more. u ∷ more) (all_some (each o es)))) ((held e here t).1 (beside.0, fits t here))
        ∙ ap (option_map (λ more. t ∷ more)) (all_from es (λ x at. held x (later at)) ts beside.1 (λ u at. fits u (later at)))

    pub choice_level : (es : List E) → Each (λ e. At n (o e) (A e)) es → (over : List Net → Net) → ((ts : List Net) → parts_of (over ts) ≡ ts)
        → Level n (option_map over (all_some (each o es))) (λ t. (ts : List Net) × Beside A es ts × (t ≡ over ts))
    choice_level es held over parts t = (to, from)
      where
        to : option_map over (all_some (each o es)) ≡ Some t → ((ts : List Net) × Beside A es ts × (t ≡ over ts)) × Each (Fits boxes n) (parts_of t)
        to is =
            let found = map_to (all_some (each o es)) over t is in
            let known = all_to es held found.0 found.1 in
            ((found.0, known.0, sym found.2), subst (Each (Fits boxes n)) (sym (ap parts_of (sym found.2) ∙ parts found.0)) known.1)

        from : ((ts : List Net) × Beside A es ts × (t ≡ over ts)) × Each (Fits boxes n) (parts_of t) → option_map over (all_some (each o es)) ≡ Some t
        from both =
            let fits = subst (Each (Fits boxes n)) (ap parts_of both.0.2 ∙ parts both.0.0) both.1 in
            ap (option_map over) (all_from es held both.0.0 both.0.1 fits) ∙ ap Some (sym both.0.2)
