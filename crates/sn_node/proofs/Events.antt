-- What a node does, as an event of the graph that it stands in.
use Rattle.std.proofs.Common.{◌≡◌, ◌==◌, ℕ, zero, suc, ◌+◌, Bool, true, false, cond, ◌&&◌, IsTrue, List, [], ◌∷◌, map, length, ◌≤◌, is_some, refl, sym, ap, subst, ◌∙◌, arith}
use Rattle.std.specs.Prelude.{slice_get, slice_set, None, Some}
use Rattle.std.specs.List.{Any, list_any}
use Rattle.std.proofs.lemmas.Bool.Decides.{nat_tests}
use Rattle.std.proofs.lemmas.Option.{get_or_from_slice_get, same_Some, slice_get_within}
use Rattle.sn_record.specs.Record.{Entries}
use Rattle.sn_net.specs.declared.net.Net.TheOpen.{Net-F}
use Rattle.sn_net.specs.Item.{ModelItem}
use Rattle.sn_view.specs.Calls.{FliesAt}
use Rattle.sn_view.specs.View.{Entry, Finish, Finished, InFlight, Local, Node, Plain, Start, View, Waiting, changed_at}
use Rattle.sn_view.specs.Next.{Given as Step, HasCall, IsCall, IsEnabled, after, enabled, form_of, gets_answer, has_no_call, if_node, is_box, is_box_of, keeps, local_of, local_then, may_start, passed, send, with_answer}
use Rattle.sn_view.specs.Routed.{AllRouted}
use Rattle.sn_node.specs.Calls.{Begins, IsNextCall, begins, finishes}
use Rattle.sn_node.specs.Local.{Gives, GivesAtMost, HasRoute, PassesOn, Stays, local_at}
use Rattle.sn_node.proofs.Calling.{some_free}

changed_is : {X : Type 0} (f : X → X) (xs : List X) (i : ℕ) (x y : X) → slice_get xs i ≡ Some x → y ≡ f x → changed_at i f xs ≡ slice_set xs i y
changed_is f [] i x y there is = refl
changed_is f (z ∷ xs) zero x y there is = ap (λ v. v ∷ xs) (ap f (same_Some z x there) ∙ sym is)
changed_is f (z ∷ xs) (suc i) x y there is = ap (λ vs. z ∷ vs) (changed_is f xs i x y there is)

map_same : {X : Type 0} (f : X → X) (xs : List X) → ((j : ℕ) (z : X) → slice_get xs j ≡ Some z → f z ≡ z) → map f xs ≡ xs
map_same f [] same = refl
map_same f (x ∷ xs) same = ap (λ y. y ∷ map f xs) (same 0 x refl) ∙ ap (λ ys. x ∷ ys) (map_same f xs (λ j. same (suc j)))

-- a function that changes one element alone
map_changes : {X : Type 0} (f : X → X) (xs : List X) (i : ℕ) (x y : X) → slice_get xs i ≡ Some x → f x ≡ y
    → ((j : ℕ) (z : X) → slice_get xs j ≡ Some z → (j ≡ i → ⊥) → f z ≡ z) → map f xs ≡ slice_set xs i y
map_changes f [] i x y there is others = absurd (cc)
map_changes f (z ∷ xs) zero x y there is others =
    ap (λ v. v ∷ map f xs) (ap f (same_Some z x there) ∙ is) ∙ ap (λ vs. y ∷ vs) (map_same f xs (λ j v at. others (suc j) v at (λ e. absurd (omega (arith, e)))))
map_changes f (z ∷ xs) (suc i) x y there is others =
    ap (λ v. v ∷ map f xs) (others 0 z refl (λ e. absurd (omega (arith, e))))
    ∙ ap (λ vs. z ∷ vs) (map_changes f xs i x y there is (λ j v at not. others (suc j) v at (λ e. not (omega (arith, e)))))

same_number : (n : ℕ) → (n == n) ≡ true
same_number n = grind (arith, nat_tests)

-- an answer changes no other entry
answered_call : (call : ℕ) (given : Entries) → with_answer call (InFlight call given) ≡ Finished given
answered_call call given = ap (λ (b : Bool). cond b (Finished given) (InFlight call given)) (same_number call)

answered_other : (call : ℕ) (w : Waiting) → ((given : Entries) → w ≡ InFlight call given → ⊥) → with_answer call w ≡ w
answered_other call (Plain e) other = refl
answered_other call (Finished given) other = refl
answered_other call (InFlight number given) other = at (call == number) refl
  where
    at : (b : Bool) → (call == number) ≡ b → cond b (Finished given) (InFlight number given) ≡ InFlight number given
    at true e = let same : number ≡ call = grind (arith, nat_tests) in absurd (other given (ap (λ c. InFlight c given) same))
    at false e = refl

module _ (g : View) (i : ℕ) (n : Node) (there : slice_get g.nodes i ≡ Some n) where
  -- the graph with another node in its place
  abbrev pub with_node : Node → View
  with_node m = record g { nodes = slice_set g.nodes i m }

  -- LOCAL
  pub local_enabled : (m : Node) (es : List (Entry ModelItem)) → PassesOn g.run (form_of g n) n m es → enabled g (Local i) ≡ true
  local_enabled m es passes = ap (if_node (λ n. is_some (local_of g n)) false) there ∙ ap is_some passes.step

  pub local_disabled : (m : Node) → Stays g.run (form_of g n) n m → enabled g (Local i) ≡ false
  local_disabled m stays = ap (if_node (λ n. is_some (local_of g n)) false) there ∙ ap is_some stays.none

  pub local_sends : (m : Node) (es : List (Entry ModelItem)) → PassesOn g.run (form_of g n) n m es → after g (Local i) ≡ send n.goes es (with_node m)
  local_sends m es passes =
      ap (if_node (λ n. local_then i n g (local_of g n)) g) there ∙ ap (local_then i n g) passes.step
      ∙ ap (λ ns. send n.goes es (record g { nodes = ns })) (changed_is (λ n. keeps m.state (passed n)) g.nodes i n m there passes.kept)

  -- where no item lacks a route
  pub has_route : AllRouted g → HasRoute g.run (form_of g n) n
  has_route routed = (routed.nodes i n there).passes

  -- what is given while the entry still waits
  pub gives_enabled : (es : List (Entry ModelItem)) → Gives g.run (form_of g n) n es → enabled g (Local i) ≡ true
  gives_enabled es gives = ap (if_node (λ n. is_some (local_of g n)) false) there ∙ ap is_some gives.step

  pub gives_sends : (es : List (Entry ModelItem)) → Gives g.run (form_of g n) n es → after g (Local i) ≡ send n.goes es (with_node (passed n))
  gives_sends es gives = local_sends (passed n) es (record { step = gives.step; kept = refl })

  pub nothing_disabled : local_at g.run (form_of g n) n ≡ None → enabled g (Local i) ≡ false
  nothing_disabled none = local_disabled n (record { none = none; same = refl })

  -- no more is passed on than was counted, and something is
  pub few_passed : (most : ℕ) (m : Node) (es : List (Entry ModelItem)) → GivesAtMost g.run (form_of g n) n most → PassesOn g.run (form_of g n) n m es → length es ≤ most
  few_passed most m es counts passes =
      let step : Step = record { state = m.state; entries = es } in
      subst (λ (s : Step). length s.entries ≤ most) (same_Some counts.step step (sym counts.is ∙ passes.step)) counts.few

  pub some_passed : {P : Type 0} (most : ℕ) (m : Node) → GivesAtMost g.run (form_of g n) n most → Stays g.run (form_of g n) n m → P
  some_passed most m counts stays = absurd (let none : Some counts.step ≡ None = sym counts.is ∙ stays.none in cc)

  -- START
  pub start_enabled : (given : Entries) (m : Node) → is_box (form_of g n) ≡ true → Begins g.calls given n m → enabled g (Start i) ≡ true
  start_enabled given m at_box begun = ap (if_node (may_start g) false) there ∙ ap (λ b. b && list_any has_no_call n.waiting) at_box ∙ begun.some

  pub next_enabled : (p : ℕ) (given : Entries) → is_box (form_of g n) ≡ true → IsNextCall p given n → enabled g (Start i) ≡ true
  next_enabled p given at_box next = ap (if_node (may_start g) false) there ∙ ap (λ b. b && list_any has_no_call n.waiting) at_box ∙ some_free n.waiting p given next.here

  pub start_disabled : list_any has_no_call n.waiting ≡ false → enabled g (Start i) ≡ false
  start_disabled none = ap (if_node (may_start g) false) there ∙ at (is_box (form_of g n)) none
    where
      at : (b : Bool) → list_any has_no_call n.waiting ≡ false → (b && list_any has_no_call n.waiting) ≡ false
      at true none = none
      at false none = refl

  pub start_begins : (given : Entries) (m : Node) → Begins g.calls given n m → after g (Start i) ≡ record (with_node m) { calls = g.calls + 1 }
  start_begins given m begun = ap (λ ns. record g { nodes = ns; calls = g.calls + 1 }) (changed_is (begins g.calls) g.nodes i n m there begun.begun)

  is_this_box : (place number : ℕ) → form_of g n ≡ Some (Net-F.Box place number) → IsTrue (is_box_of number place (form_of g n))
  is_this_box place number form = ap (is_box_of number place) form ∙ ap (λ b. b && place == place) (same_number number) ∙ same_number place

  -- the call is in flight there then
  pub start_flies : (place number : ℕ) (given : Entries) (m : Node) → form_of g n ≡ Some (Net-F.Box place number) → Begins g.calls given n m
      → HasCall (after g (Start i)) g.calls number place given m
  start_flies place number given m form begun =
      let path : m.path ≡ n.path = ap (λ (n : Node). n.path) begun.begun in
      let here : IsTrue (is_box_of number place (form_of g m)) = subst (λ path. IsTrue (is_box_of number place (form_of g (record n { path = path })))) (sym path) (is_this_box place number form) in
      record { at_box = here; flies = begun.flies }

  -- FINISH
  pub finish_enabled : (place number p call : ℕ) (given : Entries) → form_of g n ≡ Some (Net-F.Box place number) → slice_get n.waiting p ≡ Some (InFlight call given)
      → IsEnabled g (Finish call number place given)
  finish_enabled place number p call given form flies =
      let here : Any (IsCall call given) n.waiting =
      (p, InFlight call given, slice_get_within n.waiting p (InFlight call given) flies, get_or_from_slice_get n.waiting p (InFlight call given) (InFlight call given) flies, refl) in
      (i, n, slice_get_within g.nodes i n there, get_or_from_slice_get g.nodes i n n there, record { at_box = is_this_box place number form; flies = here })

  -- where no other place has the call's number
  pub finish_finishes : (number place p call : ℕ) (given : Entries) → slice_get n.waiting p ≡ Some (InFlight call given)
      → ((j q : ℕ) (other : Entries) → FliesAt g j q call other → (i ≡ j) × (p ≡ q))
      → after g (Finish call number place given) ≡ with_node (finishes p given n)
  finish_finishes number place p call given flies once =
      ap (λ ns. record g { nodes = ns }) (map_changes (gets_answer call) g.nodes i n (finishes p given n) there here others)
    where
      here : gets_answer call n ≡ finishes p given n
      here = ap (λ ws. record n { waiting = ws }) (map_changes (with_answer call) n.waiting p (InFlight call given) (Finished given) flies (answered_call call given)
          (λ q w at not. answered_other call w (λ other is. not (sym (once i q other (record { node = n; there = there; flies = at ∙ ap (λ v. Some v) is })).1))))

      others : (j : ℕ) (m : Node) → slice_get g.nodes j ≡ Some m → (j ≡ i → ⊥) → gets_answer call m ≡ m
      others j m at not = ap (λ ws. record m { waiting = ws }) (map_same (with_answer call) m.waiting
          (λ q w is_there. answered_other call w (λ other is. not (sym (once j q other (record { node = m; there = at; flies = is_there ∙ ap (λ v. Some v) is })).0))))
