-- Which children of a free dispatcher are listed, where something is kept, taken, added or passed.
use Rattle.std.proofs.Common.{◌≡◌, ◌==◌, ℕ, zero, suc, Bool, true, false, ◌&&◌, ◌||◌, List, [], ◌∷◌, length, refl, sym, ap, subst, ◌∙◌, arith, cond, true≢false}
use Rattle.std.specs.Prelude.{slice_get, Option, None, Some, unwrap_or, is_some}
use Rattle.std.specs.List.{list_any}
use Rattle.std.specs.Option.{option_map}
use Rattle.std.proofs.lemmas.Bool.{cases_eq, false≢true}
use Rattle.std.proofs.lemmas.Bool.Decides.{nat_tests}
use mathlib.Core.Logic.{◌⊎◌, inl, inr}
use Rattle.sn_net.specs.Item.{ModelItem}
use Rattle.sn_view.specs.Epochs.{Epochs, counted_at, marked, moved_on, stands_at_output}
use Rattle.sn_view.proofs.FreeMerges.{length-counted}
use Rattle.sn_view.specs.Next.{may_merge_by}
use Rattle.sn_view.specs.View.{Child, Entry, changed_at, first_of, rest_of}
use Rattle.sn_view.specs.View as view
use Rattle.sn_node.specs.Agenda.{is_listed}
use Rattle.sn_node.specs.Woken.{AreAwake, AreWoken, IsWoken, Wakes}
use Rattle.sn_node.specs.declared.node.State.{State}
use Rattle.sn_node.specs.declared.node.State.TheVariants as state
use Rattle.sn_node.specs.declared.freely.Freely.{Freely}

-- something is kept of a child in the output's epoch
abbrev is_ready : Bool → Option Child → Bool
is_ready b None = false
is_ready b (Some child) = b && is_some (first_of child.kept)

abbrev stands : ℕ → List ℕ → ℕ → Bool
stands output epochs c = unwrap_or (option_map (λ epoch. epoch == output) (slice_get epochs c)) false

may_is : (e : Epochs) (c : ℕ) (o : Option Child) → may_merge_by (view.Freely e) c o ≡ is_ready (stands_at_output e c) o
may_is e c None = refl
may_is e c (Some child) = refl

-- where no other child is ready than was, no more need be listed
awake_by : (e f : Epochs) (listed : List ℕ) (old new : List Child)
    → ((c : ℕ) → is_ready (stands_at_output f c) (slice_get new c) ≡ true → is_ready (stands_at_output e c) (slice_get old c) ≡ true) → AreAwake e listed old → AreAwake f listed new
awake_by e f listed old new was awake c is = awake c (may_is e c (slice_get old c) ∙ was c (sym (may_is f c (slice_get new c)) ∙ is))

taken_ready : (b : Bool) (c d : ℕ) (children : List Child)
    → is_ready b (slice_get (changed_at c (λ (child : Child). record child { kept = rest_of child.kept }) children) d) ≡ true → is_ready b (slice_get children d) ≡ true
taken_ready b c d [] is = is
taken_ready b zero zero (child ∷ children) is = by b child.kept is
  where
    by : (b : Bool) (kept : List (Entry ModelItem)) → b && is_some (first_of (rest_of kept)) ≡ true → b && is_some (first_of kept) ≡ true
    by false kept is = is
    by true [] is = is
    by true (e ∷ kept) is = refl
taken_ready b zero (suc d) (child ∷ children) is = is
taken_ready b (suc c) zero (child ∷ children) is = is
taken_ready b (suc c) (suc d) (child ∷ children) is = taken_ready b c d children is

-- an entry of a child is taken
pub awake_taken : (e : Epochs) (listed : List ℕ) (children : List Child) (c : ℕ) → AreAwake e listed children
    → AreAwake e listed (changed_at c (λ (child : Child). record child { kept = rest_of child.kept }) children)
awake_taken e listed children c = awake_by e e listed children (changed_at c (λ (child : Child). record child { kept = rest_of child.kept }) children) (λ d. taken_ready (stands_at_output e d) c d children)

marked_stands : (output c d : ℕ) (epochs : List ℕ) → stands output epochs c ≡ true → stands output (counted_at c epochs) d ≡ true → stands output epochs d ≡ true
marked_stands output c d [] here is = is
marked_stands output zero zero (n ∷ epochs) here is = here
marked_stands output zero (suc d) (n ∷ epochs) here is = is
marked_stands output (suc c) zero (n ∷ epochs) here is = is
marked_stands output (suc c) (suc d) (n ∷ epochs) here is = marked_stands output c d epochs here is

ready_by : (a b : Bool) (o : Option Child) → (a ≡ true → b ≡ true) → is_ready a o ≡ true → is_ready b o ≡ true
ready_by a b None more is = is
ready_by true b (Some child) more is = ap (λ t. t && is_some (first_of child.kept)) (more refl) ∙ is
ready_by false b (Some child) more is = absurd (false≢true is)

-- a child of the output's epoch gives a mark
pub awake_marked : (e : Epochs) (listed : List ℕ) (children : List Child) (c : ℕ) → stands_at_output e c ≡ true → AreAwake e listed children → AreAwake (marked c e) listed children
awake_marked e listed children c here =
    awake_by e (marked c e) listed children children (λ d. ready_by (stands_at_output (marked c e) d) (stands_at_output e d) (slice_get children d) (marked_stands e.output c d e.children here))

other_at : (f : Child → Child) (c d : ℕ) (children : List Child) → (d ≡ c → ⊥) → slice_get (changed_at c f children) d ≡ slice_get children d
other_at f c d [] other = refl
other_at f zero zero (x ∷ children) other = absurd (other refl)
other_at f zero (suc d) (x ∷ children) other = refl
other_at f (suc c) zero (x ∷ children) other = refl
other_at f (suc c) (suc d) (x ∷ children) other = other_at f c d children (λ e. other (ap suc e))

-- where a child changes, it alone must be listed
pub awake_changed : (e : Epochs) (old new : List ℕ) (children : List Child) (f : Child → Child) (c : ℕ)
    → (may_merge_by (view.Freely e) c (slice_get (changed_at c f children) c) ≡ true → is_listed c new ≡ true) → ((d : ℕ) → is_listed d old ≡ true → is_listed d new ≡ true)
    → AreAwake e old children → AreAwake e new (changed_at c f children)
awake_changed e old new children f c here others awake d is = by (cases_eq d c)
  where
    by : (d ≡ c) ⊎ (d ≡ c → ⊥) → is_listed d new ≡ true
    by (inl same) = subst (λ k. is_listed k new ≡ true) (sym same) (here (subst (λ k. may_merge_by (view.Freely e) k (slice_get (changed_at c f children) k) ≡ true) same is))
    by (inr other) = others d (awake d (ap (may_merge_by (view.Freely e) d) (sym (other_at f c d children other)) ∙ is))

-- none is listed that passes the test
pub none_listed : (test : ℕ → Bool) (listed : List ℕ) (c : ℕ) → list_any test listed ≡ false → is_listed c listed ≡ true → test c ≡ false
none_listed test [] c none is = absurd (false≢true is)
none_listed test (d ∷ listed) c none is = by (none_listed test listed c) (cases_eq c d)
  where
    first : (a b : Bool) → (a || b) ≡ false → a ≡ false
    first false b is = refl
    first true b is = is

    later : (a b : Bool) → (a || b) ≡ false → b ≡ false
    later false b is = is
    later true b is = absurd (true≢false is)

    right : (a b : Bool) → (a || b) ≡ true → a ≡ false → b ≡ true
    right false b is not = is
    right true b is not = absurd (true≢false not)

    by : (list_any test listed ≡ false → is_listed c listed ≡ true → test c ≡ false) → (c ≡ d) ⊎ (c ≡ d → ⊥) → test c ≡ false
    by below (inl same) = subst (λ k. test k ≡ false) (sym same) (first (test d) (list_any test listed) none)
    by below (inr other) = below (later (test d) (list_any test listed) none) (right (c == d) (is_listed c listed) is (grind (arith, nat_tests)))

-- so where nothing may be merged of what is listed, nothing may be merged
pub nothing_ready : (e : Epochs) (listed : List ℕ) (children : List Child) → AreAwake e listed children
    → list_any (λ c. may_merge_by (view.Freely e) c (slice_get children c)) listed ≡ false → (c : ℕ) → may_merge_by (view.Freely e) c (slice_get children c) ≡ false
nothing_ready e listed children awake none c = by (may_merge_by (view.Freely e) c (slice_get children c)) refl
  where
    by : (b : Bool) → may_merge_by (view.Freely e) c (slice_get children c) ≡ b → may_merge_by (view.Freely e) c (slice_get children c) ≡ false
    by false is = is
    by true is = none_listed (λ c. may_merge_by (view.Freely e) c (slice_get children c)) listed c none (awake c is)

pub length_changed : (f : Child → Child) (c : ℕ) (children : List Child) → length (changed_at c f children) ≡ length children
length_changed f c [] = refl
length_changed f zero (x ∷ children) = refl
length_changed f (suc c) (x ∷ children) = ap suc (length_changed f c children)

-- where a mark of a child is noted, and the output may move on, there are as many epochs as before
pub length_passed : (b : Bool) (e f g : Epochs) (c : ℕ) → f ≡ marked c e → g ≡ cond b (moved_on f) f → length g.children ≡ length e.children
length_passed true e f g c is moved = ap (λ (e : Epochs). length e.children) (moved ∙ ap moved_on is) ∙ length-counted c e.children
length_passed false e f g c is moved = ap (λ (e : Epochs). length e.children) (moved ∙ is) ∙ length-counted c e.children

pub woken_taken : (s : State) (old new : List Child) (c : ℕ) → new ≡ changed_at c (λ (child : Child). record child { kept = rest_of child.kept }) old → AreWoken s old → AreWoken s new
woken_taken state.Alone old new c is woken = tt
woken_taken (state.Cell cell) old new c is woken = tt
woken_taken (state.InTurn decisions) old new c is woken = tt
woken_taken (state.Freely f) old new c is woken =
    let take : Child → Child = λ child. record child { kept = rest_of child.kept } in
    subst (IsWoken f) (sym is) (woken.0 ∙ sym (length_changed take c old), awake_taken f.fork f.waking.stack.items old c woken.1)

-- more is kept of a child, which is listed then
pub woken_changed : (s : State) (f new : Freely) (kids now : List Child) (g : Child → Child) (c : ℕ) → s ≡ state.Freely f → now ≡ changed_at c g kids → Wakes now c f new → AreWoken s kids → IsWoken new now
woken_changed s f new kids now g c here is wakes woken =
    let was : IsWoken f kids = subst (λ t. AreWoken t kids) here woken in (
      ap (λ (e : Epochs). length e.children) wakes.fork ∙ was.0 ∙ sym (length_changed g c kids) ∙ ap length (sym is),
      subst (λ e. AreAwake e new.waking.stack.items now) (sym wakes.fork)
          (subst (AreAwake f.fork new.waking.stack.items) (sym is)
          (awake_changed f.fork f.waking.stack.items new.waking.stack.items kids g c
          (subst (λ l. may_merge_by (view.Freely f.fork) c (slice_get l c) ≡ true → is_listed c new.waking.stack.items ≡ true) is wakes.listed) wakes.others was.1)),
    )
