-- Calls that are begun and finished, as the view has them.
use Rattle.std.proofs.Common.{◌≡◌, ℕ, zero, suc, ◌+◌, ◌<◌, ◌≤◌, ◌==◌, Bool, true, false, true≢false, cond, ◌&&◌, List, [], ◌∷◌, map, length, get_or, set, refl, sym, ap, ap₂, subst, ◌∙◌, arith, eq-eqb}
use Rattle.std.specs.Prelude.{slice_get, slice_set, Option, Some, IfSome}
use Rattle.std.specs.List.{Any, list_any}
use Rattle.std.proofs.lemmas.Bool.{and_right, eqb-true}
use Rattle.std.proofs.lemmas.List.{get_or-set_same, length-map, length-set}
use Rattle.std.proofs.lemmas.Option.{get_or_from_slice_get, none-some, same_Some, slice_get_within}
use Rattle.sn_record.specs.Record.{Entries}
use Rattle.sn_net.specs.declared.net.Net.{Net}
use Rattle.sn_net.specs.declared.net.Net.TheOpen.{Net-F}
use Rattle.sn_model.specs.declared.run.Run.{Run}
use Rattle.sn_model.specs.Components.{box_item}
use Rattle.sn_model.specs.Run.{boxes_of, fuel_of, net_of}
use Rattle.sn_record.specs.declared.item.Item.{Item}
use Rattle.sn_net.specs.Item.{Rec}
use Rattle.sn_boxrun.specs.Job.{IsAnswer}
use Rattle.sn_boxrun.specs.declared.job.Job.{Job}
use Rattle.sn_view.specs.View as view
use Rattle.sn_view.specs.View.{Finished, InFlight, Plain, Start, View, Waiting, changed_at}
use Rattle.sn_view.specs.Calls.{Flies, FliesAt}
use Rattle.sn_view.specs.Next.{HasCall, IsCall, after, enabled, finished, form_of, gets_answer, has_no_call, if_node, is_box, is_box_of, may_start, node_at, with_answer}
use Rattle.sn_node.specs.Answered.{form_at}
use Rattle.sn_node.specs.Calls.{Begins, IsAnswering, IsNextCall, begins, finishes}
use Rattle.sn_node.specs.Seen.{node_of}
use Rattle.sn_node.specs.declared.node.Node.{Node}
use Rattle.sn_graph.specs.Arena.{IsOf, view_of}
use Rattle.sn_graph.specs.Started.{Finishes, IsCallAt, StandOnce, StartsCall, StartsNone}
use Rattle.sn_graph.specs.declared.arena.Arena.{Arena}
use Rattle.sn_graph.proofs.Changes.{changes, read_twice, seen_get, seen_none}

-- ONE ELEMENT IS CHANGED
module _ {X : Type 0} (f : X → X) where
  map_none : (xs : List X) → ((j : ℕ) (x : X) → slice_get xs j ≡ Some x → f x ≡ x) → map f xs ≡ xs
  map_none [] same = refl
  map_none (x ∷ xs) same = ap₂ (λ (y : X) (ys : List X). y ∷ ys) (same 0 x refl) (map_none xs (λ j y there. same (suc j) y there))

  -- where f changes none but the i-th, which becomes y
  map_one : (xs : List X) (i : ℕ) (x y : X) → slice_get xs i ≡ Some x → f x ≡ y → ((j : ℕ) (z : X) → slice_get xs j ≡ Some z → (j ≡ i → ⊥) → f z ≡ z) → map f xs ≡ slice_set xs i y
  map_one [] i x y there is others = absurd (none-some x there)
  map_one (z ∷ xs) zero x y there is others =
      ap₂ (λ (u : X) (us : List X). u ∷ us) (ap f (same_Some z x there) ∙ is) (map_none xs (λ j u at. others (suc j) u at (λ e. cc)))
  map_one (z ∷ xs) (suc i) x y there is others =
      ap₂ (λ (u : X) (us : List X). u ∷ us) (others 0 z refl (λ e. cc)) (map_one xs i x y there is (λ j u at apart. others (suc j) u at (λ e. apart (same_suc j i e))))
    where
      same_suc : (j i : ℕ) → suc j ≡ suc i → j ≡ i
      same_suc j i e = cc

set_changes : {X : Type 0} (f : X → X) (xs : List X) (i : ℕ) (x : X) → slice_get xs i ≡ Some x → slice_set xs i (f x) ≡ changed_at i f xs
set_changes f [] i x there = refl
set_changes f (z ∷ xs) zero x there = ap (λ u. f u ∷ xs) (sym (same_Some z x there))
set_changes f (z ∷ xs) (suc i) x there = ap (λ us. z ∷ us) (set_changes f xs i x there)

-- FINISH
module _ (g : View) (once : StandOnce g) (i p call : ℕ) (given : Entries) (at : FliesAt g i p call given) where
  -- an entry that is not at that place of that node keeps its call
  keeps_call : (j q : ℕ) (n : view.Node) (w : Waiting) → slice_get g.nodes j ≡ Some n → slice_get n.waiting q ≡ Some w → ((j ≡ i) × (q ≡ p) → ⊥) → with_answer call w ≡ w
  keeps_call j q n (Plain e) there here apart = refl
  keeps_call j q n (Finished r) there here apart = refl
  keeps_call j q n (InFlight other r) there here apart = by (call == other) refl
    where
      by : (b : Bool) → (call == other) ≡ b → cond b (Finished r) (InFlight other r) ≡ InFlight other r
      by true same =
          let flies : FliesAt g j q call r = record { node = n; there = there; flies = here ∙ ap (λ k. Some (InFlight k r)) (sym (eqb-true call other same)) } in
          absurd (apart (once j q i p call r given flies at))
      by false other = refl

  -- so the call is finished there, and nothing else changes
  pub finished_once : (finished call g).nodes ≡ changed_at i (finishes p given) g.nodes
  finished_once =
      map_one (gets_answer call) g.nodes i at.node (finishes p given at.node) at.there
      (ap (λ ws. record at.node { waiting = ws })
      (map_one (with_answer call) at.node.waiting p (InFlight call given) (Finished given) at.flies (ap (λ b. cond b (Finished given) (InFlight call given)) (eq-eqb call call refl))
      (λ q w here apart. keeps_call i q at.node w at.there here (λ e. apart e.1))))
      (λ j n there apart. ap (λ ws. record n { waiting = ws }) (map_none (with_answer call) n.waiting (λ q w here. keeps_call j q n w there here (λ e. apart e.0))))
      ∙ set_changes (finishes p given) g.nodes i at.node at.there

same_box : (number place at own : ℕ) → (number == own && place == at) ≡ true → (number ≡ own) × (place ≡ at)
same_box number place at own is = by (number == own) refl (place == at) refl is
  where
    by : (a : Bool) → (number == own) ≡ a → (b : Bool) → (place == at) ≡ b → (a && b) ≡ true → (number ≡ own) × (place ≡ at)
    by true e true h is = (eqb-true number own e, eqb-true place at h)
    by true e false h is = absurd (true≢false (sym is))
    by false e b h is = absurd (true≢false (sym is))

-- the call of a job is finished at the node where it is
module _ (arena : Arena) (run : Run) (of : IsOf arena run) (job : Job) (i p : ℕ) (a b : Node) (read : a ≡ get_or arena.nodes.items i a) (call : IsCallAt i p job (view_of arena)) where
  within_nodes : i < length arena.nodes.items
  within_nodes = subst (λ n. i < n) (length-map arena.nodes.items node_of) (slice_get_within (view_of arena).nodes i call.node call.there)

  is_there : node_of a ≡ call.node
  is_there = same_Some (node_of a) call.node (sym (seen_get node_of arena.nodes.items i a within_nodes read) ∙ call.there)

  of_run : a.made.run.value ≡ run
  of_run = ap (λ (n : Node). n.made.run.value) read ∙ of.nodes i a within_nodes

  pub flies_here : slice_get (node_of a).waiting p ≡ Some (InFlight job.call job.given)
  flies_here = ap (λ (n : view.Node). slice_get n.waiting p) is_there ∙ call.flies

  form_there : is_box_of job.number job.place (form_at (net_of run) a.made.path) ≡ true
  form_there =
      ap (λ r. is_box_of job.number job.place (form_at (net_of r) a.made.path)) (sym of.made)
      ∙ ap (λ (n : view.Node). is_box_of job.number job.place (form_of (view_of arena) n)) is_there ∙ call.at_box

  -- the answer to a job is that of the box
  pub answers : (items : List Item) → IsAnswer run job items → IsAnswering a.made.run.value a.made.path p items (node_of a)
  answers items answer = record {
    call = job.call;
    given = job.given;
    flies = flies_here;
    answer = λ place number form.
        let at : (job.number ≡ number) × (job.place ≡ place) =
        same_box job.number job.place place number
        (sym (ap (is_box_of job.number job.place) (ap (λ r. form_at (net_of r) a.made.path) (sym of_run) ∙ form)) ∙ form_there) in
        answer
        ∙ ap₂ (λ own from. box_item (boxes_of run) (fuel_of run) from own (Rec job.given)) at.0 at.1
        ∙ ap (λ r. box_item (boxes_of r) (fuel_of r) place number (Rec job.given)) (sym of_run);
  }

  module _ (once : StandOnce (view_of arena)) (done : node_of b ≡ finishes p job.given (node_of a)) where
    pub nodes_finished : map node_of (set arena.nodes.items i b) ≡ (finished job.call (view_of arena)).nodes
    nodes_finished =
        let at : FliesAt (view_of arena) i p job.call job.given = record { node = call.node; there = call.there; flies = call.flies } in
        changes node_of (finishes p job.given) arena.nodes.items i a b read done ∙ sym (finished_once (view_of arena) once i p job.call job.given at)

    pub finishes_call : Finishes job (view_of arena) (record (view_of arena) { nodes = map node_of (set arena.nodes.items i b) })
    finishes_call = record {
      wanted =
          let w : Waiting = InFlight job.call job.given in
          let flies : Any (IsCall job.call job.given) call.node.waiting =
          (p, w, slice_get_within call.node.waiting p w call.flies, get_or_from_slice_get call.node.waiting p w w call.flies, refl) in (
            i,
            call.node,
            slice_get_within (view_of arena).nodes i call.node call.there,
            get_or_from_slice_get (view_of arena).nodes i call.node call.node call.there,
            record { at_box = call.at_box; flies = flies },
          );
      is_after = ap (λ ns. record (view_of arena) { nodes = ns }) nodes_finished;
    }

-- START
both_same : (n p : ℕ) → (n == n && p == p) ≡ true
both_same n p = ap (λ b. b && p == p) (eq-eqb n n refl) ∙ eq-eqb p p refl

-- what is known of a node that was read twice
pub next_read : (nodes : List Node) (i p : ℕ) (given : Entries) (a b : Node) → i < length nodes → a ≡ get_or nodes i a → b ≡ get_or nodes i b → IsNextCall p given (node_of a) → IsNextCall p given (node_of b)
next_read nodes i p given a b within one two = subst (λ (n : Node). IsNextCall p given (node_of n)) (read_twice nodes i a b within one two)

-- the box that is read there
pub form_read : (nodes : List Node) (i place number : ℕ) (run : Run) (net : Net) (path : List ℕ) (a b : Node) → i < length nodes → a ≡ get_or nodes i a → b ≡ get_or nodes i b
    → net ≡ net_of run → path ≡ a.made.path → form_at net path ≡ Some (Net-F.Box place number) → form_at (net_of run) b.made.path ≡ Some (Net-F.Box place number)
form_read nodes i place number run net path a b within one two is from form =
    sym (ap₂ form_at is (from ∙ ap (λ (n : Node). n.made.path) (read_twice nodes i a b within one two))) ∙ form

-- where nothing may start
pub none_past : (arena : Arena) (i : ℕ) → length arena.nodes.items ≤ i → StartsNone i (view_of arena) (view_of arena)
none_past arena i past = record { not_enabled = ap (if_node (may_start (view_of arena)) false) (seen_none node_of arena.nodes.items i past); same = refl }

module _ (arena : Arena) (run : Run) (made : arena.run.value ≡ run) (i : ℕ) (a : Node) (within : i < length arena.nodes.items) (read : a ≡ get_or arena.nodes.items i a) where
  -- what may start there, by the part of the network that the node is
  pub may_there : (net : Net) (path : List ℕ) → net ≡ net_of run → path ≡ a.made.path
      → enabled (view_of arena) (Start i) ≡ (is_box (form_at net path) && list_any has_no_call (node_of a).waiting)
  may_there net path is from =
      ap (if_node (may_start (view_of arena)) false) (seen_get node_of arena.nodes.items i a within read)
      ∙ ap (λ o. is_box o && list_any has_no_call (node_of a).waiting) (ap (λ (r : Run). form_at (net_of r) a.made.path) made ∙ sym (ap₂ form_at is from))

  pub none_elsewhere : (net : Net) (path : List ℕ) → net ≡ net_of run → path ≡ a.made.path → is_box (form_at net path) ≡ false → StartsNone i (view_of arena) (view_of arena)
  none_elsewhere net path is from other = record { not_enabled = may_there net path is from ∙ ap (λ b. b && list_any has_no_call (node_of a).waiting) other; same = refl }

  pub none_waits : list_any has_no_call (node_of a).waiting ≡ false → StartsNone i (view_of arena) (view_of arena)
  none_waits none = record {
    not_enabled = may_there (net_of run) a.made.path refl refl ∙ ap (λ b. is_box (form_at (net_of run) a.made.path) && b) none ∙ and_right (is_box (form_at (net_of run) a.made.path)) false refl;
    same = refl;
  }

-- the first free record of a box is in flight
module _ (arena : Arena) (run : Run) (made : arena.run.value ≡ run) (i : ℕ) (a b : Node) (within : i < length arena.nodes.items) (read : a ≡ get_or arena.nodes.items i a)
    (place number : ℕ) (at_box : form_at (net_of run) a.made.path ≡ Some (Net-F.Box place number)) (given : Entries) (begun : Begins arena.calls given (node_of a) (node_of b)) where
  form_is : form_of (view_of arena) (node_of a) ≡ Some (Net-F.Box place number)
  form_is = ap (λ r. form_at (net_of r) a.made.path) made ∙ at_box

  may_begin : enabled (view_of arena) (Start i) ≡ true
  may_begin =
      ap (λ (o : Option view.Node). if_node (may_start (view_of arena)) false o) (seen_get node_of arena.nodes.items i a within read)
      ∙ ap (λ form. is_box form && list_any has_no_call (node_of a).waiting) form_is ∙ begun.some

  abbrev pub with_call : View
  with_call = record (view_of arena) { nodes = map node_of (set arena.nodes.items i b); calls = arena.calls + 1 }

  pub nodes_started : map node_of (set arena.nodes.items i b) ≡ (after (view_of arena) (Start i)).nodes
  nodes_started = changes node_of (begins arena.calls) arena.nodes.items i a b read begun.begun

  node_there : node_at i with_call ≡ Some (node_of b)
  node_there = seen_get node_of (set arena.nodes.items i b) i b (omega (arith, within, length-set arena.nodes.items i b)) (sym (get_or-set_same arena.nodes.items i b b within))

  pub flies_started : Flies with_call i arena.calls given
  flies_started = record { node = node_of b; there = node_there; flies = begun.flies }

  pub starts_call : StartsCall i (record { call = arena.calls; number = number; place = place; given = given }) (view_of arena) with_call
  starts_call = record {
    enabled_there = may_begin;
    is_after = ap (λ ns. record (view_of arena) { nodes = ns; calls = arena.calls + 1 }) nodes_started;
    call = refl;
    flies =
        let form : form_of with_call (node_of b) ≡ Some (Net-F.Box place number) = ap (λ (n : view.Node). form_at (net_of arena.run.value) n.path) begun.begun ∙ form_is in
        let call : HasCall with_call arena.calls number place given (node_of b) = record { at_box = ap (is_box_of number place) form ∙ both_same number place; flies = begun.flies } in
        subst (λ (o : Option view.Node). IfSome o (HasCall with_call arena.calls number place given)) (sym node_there) call;
  }
