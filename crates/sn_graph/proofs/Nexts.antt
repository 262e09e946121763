-- What may happen next.
use Rattle.std.proofs.Common.{◌≡◌, ℕ, suc, ◌==◌, Bool, true, false, true≢false, List, [], ◌∷◌, refl, sym, ap, ◌∙◌, inl, inr}
use Rattle.std.specs.Prelude.{slice_get, Option, Some, None, IfSome, IfNone, is_some}
use Rattle.std.proofs.lemmas.Bool.{eqb-true, or_cases}
use Rattle.std.proofs.lemmas.Option.{IfSome_then}
use Rattle.sn_view.specs.Next.{enabled, if_node, may_merge, node_at}
use Rattle.sn_view.specs.Touched.{happens_at}
use Rattle.sn_view.specs.View as view
use Rattle.sn_view.specs.View.{Emit, Finish, Happening, Local, Merge, Route, Start, Take, Unfold, View}
use Rattle.sn_node.specs.Agenda.{is_listed}
use Rattle.sn_graph.specs.Event.{happening_of, is_finish}
use Rattle.sn_graph.specs.Listed.{AreListed}
use Rattle.sn_graph.specs.declared.event.Event.{Event}
use Rattle.sn_graph.specs.declared.event.Event.TheVariants as event

-- MERGES
module _ (g : View) (i : ℕ) (n : view.Node) (there : node_at i g ≡ Some n) where
  merges_as : (c : ℕ) → enabled g (Merge i c) ≡ may_merge n c
  merges_as c = ap (if_node (λ (m : view.Node). may_merge m c) false) there

  pub merges_some : (r : Option ℕ) → IfSome r (λ c. may_merge n c ≡ true) → IfSome r (λ c. enabled g (Merge i c) ≡ true)
  merges_some r some = IfSome_then r some (λ c is. merges_as c ∙ is)

  pub merges_none : (r : Option ℕ) → IfNone r ((c : ℕ) → may_merge n c ≡ false) → IfNone r ((c : ℕ) → enabled g (Merge i c) ≡ false)
  merges_none None none = λ c. merges_as c ∙ none c
  merges_none (Some c) none = tt

-- WHAT IS LISTED
listed_place : (i : ℕ) (stack : List ℕ) → is_listed i stack ≡ true → (m : ℕ) × (slice_get stack m ≡ Some i)
listed_place i [] is = absurd (true≢false (sym is))
listed_place i (j ∷ stack) is = elim (or_cases (i == j) (is_listed i stack) is) [
  | inl same ↦ (0, ap Some (sym (eqb-true i j same)))
  | inr later ↦ let (m, there) = listed_place i stack later in (suc m, there)
]

-- nothing may happen where nothing may at what is listed
pub none_happens : (g : View) (stack : List ℕ) → AreListed g stack → ((m i : ℕ) (e : Happening) → slice_get stack m ≡ Some i → happens_at e ≡ Some i → enabled g e ≡ false)
    → (e : Happening) (i : ℕ) → happens_at e ≡ Some i → enabled g e ≡ false
none_happens g stack listed none e i at = by (enabled g e) refl
  where
    by : (b : Bool) → enabled g e ≡ b → enabled g e ≡ false
    by false is = is
    by true is = let (m, there) = listed_place i stack (listed e i at is) in none m i e there at

-- nor at the ends of the network
pub none_enabled : (g : View) → enabled g Take ≡ false → enabled g Emit ≡ false → ((e : Happening) (i : ℕ) → happens_at e ≡ Some i → enabled g e ≡ false) → (e : Happening) → enabled g e ≡ false
none_enabled g take emit none Take = take
none_enabled g take emit none (Start i) = none (Start i) i refl
none_enabled g take emit none (Finish call number place given) = refl
none_enabled g take emit none (Local i) = none (Local i) i refl
none_enabled g take emit none (Route i) = none (Route i) i refl
none_enabled g take emit none (Unfold i) = none (Unfold i) i refl
none_enabled g take emit none (Merge i c) = none (Merge i c) i refl
none_enabled g take emit none Emit = emit

-- what may happen in the words of `enabled` answers no call
pub no_finish : (g : View) (e : Event) → enabled g (happening_of e) ≡ true → is_finish e ≡ false
no_finish g event.Take is = refl
no_finish g (event.Start i) is = refl
no_finish g (event.Finish done) is = absurd (true≢false (sym is))
no_finish g (event.Local i) is = refl
no_finish g (event.Route i) is = refl
no_finish g (event.Unfold i) is = refl
no_finish g (event.Merge i c) is = refl
no_finish g event.Emit is = refl

-- what holds where there is none
pub if_none : {X P : Type 0} (r : Option X) → is_some r ≡ false → IfNone r P → P
if_none None is none = none
if_none (Some x) is none = absurd (true≢false is)
