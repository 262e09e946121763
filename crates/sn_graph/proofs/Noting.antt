-- What an event writes to is noted before.
use Rattle.std.proofs.Common.{◌≡◌, ℕ, zero, suc, ◌+◌, ◌<◌, ◌==◌, true, false, true≢false, ◌&&◌, ◌||◌, List, [], ◌∷◌, map, length, get_or, refl, sym, ap, subst, ◌∙◌, arith, inl, inr}
use Rattle.std.specs.Prelude.{slice_get, Option, Some, None, unwrap_or, nat_eq}
use Rattle.std.specs.List.{Any, list_any}
use Rattle.std.specs.Option.{option_map}
use Rattle.std.proofs.lemmas.Bool.{cases_order, eqb-true, or_cases}
use Rattle.std.proofs.lemmas.Option.{none-some, same_Some}
use Rattle.indexmap.specs.IndexMap.{get}
use Rattle.sn_record.specs.Record.{Entries}
use Rattle.sn_net.specs.Item.{ModelItem}
use Rattle.sn_boxrun.specs.declared.job.Job.{Job}
use Rattle.sn_view.specs.Calls.{Flies}
use Rattle.sn_view.specs.Next.{IsCall, child_of as child_number, enabled, if_node, needs, node_at, plain_entry, routing_of}
use Rattle.sn_view.specs.Touched.{begins_at, is_first_of, is_in_call, is_routed_to, is_sent_to, routing_touches}
use Rattle.sn_view.specs.View as view
use Rattle.sn_view.specs.View.{Alone, Cell, End, Entry, Finished, Freely, InFlight, InTurn, It, Local, Mark, Merge, Plain, Route, State, View, Waiting, first_of, rest_of}
use Rattle.sn_node.specs.Child.{child_of}
use Rattle.sn_node.specs.States.{is_freely}
use Rattle.sn_node.specs.declared.children.Child.{Child}
use Rattle.sn_graph.specs.Arena.{view_of}
use Rattle.sn_graph.specs.Listed.{HasListed, IsNoted, broadcasts_at}
use Rattle.sn_graph.specs.Started.{finish_of}
use Rattle.sn_graph.specs.Tabled.{IsTabled}
use Rattle.sn_graph.specs.Ways.{Goes, is_mark}
use Rattle.sn_graph.specs.declared.arena.Arena.{Arena}
use Rattle.sn_graph.specs.declared.arena.Place.{Place}
use Rattle.sn_graph.specs.declared.route.Way.{Way}
use Rattle.sn_graph.proofs.Changes.{seen_get}
use Rattle.sn_graph.proofs.Turning.{plain}

-- WHAT IS SENT
module _ (arena : Arena) (i : ℕ) (n : view.Node) (there : node_at i (view_of arena) ≡ Some n) (own : HasListed i arena) (sent : (j : ℕ) → is_sent_to n.goes j ≡ true → HasListed j arena) where
  sends : (j : ℕ) → (j == i || if_node (λ (m : view.Node). is_sent_to m.goes j) false (node_at i (view_of arena))) ≡ true → HasListed j arena
  sends j touched = elim (or_cases _ _ touched) [
    | inl same ↦ subst (λ k. HasListed k arena) (sym (eqb-true j i same)) own
    | inr goes ↦ sent j (sym (ap (if_node (λ (m : view.Node). is_sent_to m.goes j) false) there) ∙ goes)
  ]

  pub local_noted : IsNoted (Local i) arena
  local_noted may j touched = sends j touched

  pub merge_noted : (c : ℕ) → IsNoted (Merge i c) arena
  merge_noted c may j touched = sends j touched

-- THE CHILDREN
any_there : (j : ℕ) (cs : List view.Child) → list_any (begins_at j) cs ≡ true → (c : ℕ) × (child : view.Child) × (slice_get cs c ≡ Some child) × (child.entry ≡ j)
any_there j [] is = absurd (true≢false (sym is))
any_there j (child ∷ cs) is = elim (or_cases (j == child.entry) (list_any (begins_at j) cs) is) [
  | inl here ↦ (0, child, refl, sym (eqb-true j child.entry here))
  | inr later ↦ let (c, other, there, at) = any_there j cs later in (suc c, other, there, at)
]

rest_there : (cs : List view.Child) (c : ℕ) (child : view.Child) → slice_get (rest_of cs) c ≡ Some child → slice_get cs (suc c) ≡ Some child
rest_there [] c child is = absurd (none-some child is)
rest_there (first ∷ cs) c child is = is

-- one child more was looked at
pub entries_noted : (cs : List Child) (k : ℕ) (x : Child) (Noted : ℕ → Type 0) → k < length cs → x ≡ get_or cs k x → Noted x.entry
    → ((c : ℕ) (child : view.Child) → suc c < k → slice_get (map child_of cs) (suc c) ≡ Some child → Noted child.entry)
    → (c : ℕ) (child : view.Child) → suc c < k + 1 → slice_get (map child_of cs) (suc c) ≡ Some child → Noted child.entry
entries_noted cs k x Noted within read new old c child less there = elim (cases_order (suc c) k) [
  | inl same ↦
      let is : child_of x ≡ child = same_Some (child_of x) child (sym (seen_get child_of cs k x within read) ∙ ap (slice_get (map child_of cs)) (sym same) ∙ there) in
      subst (λ (e : ℕ). Noted e) (ap (λ (c : view.Child). c.entry) is) new
  | inr (inl before) ↦ old c child before there
  | inr (inr past) ↦ absurd (omega (arith, past, less))
]

-- WHERE A DISPATCHER SENDS
module _ (arena : Arena) (i : ℕ) (way : Way) (goes : Goes (view_of arena) i way) (own : HasListed i arena) (entry : HasListed way.entry arena)
    (all : broadcasts_at i (view_of arena) ≡ true → (c : ℕ) (child : view.Child) → slice_get goes.node.children (suc c) ≡ Some child → HasListed child.entry arena) where
  first_noted : (c : ℕ) (child : Option view.Child) (j : ℕ) → child ≡ Some goes.child → is_first_of c child j ≡ true → HasListed j arena
  first_noted zero child j is touched = absurd (true≢false (sym touched))
  first_noted (suc c) None j is touched = absurd (true≢false (sym touched))
  first_noted (suc c) (Some child) j is touched =
      let same : child ≡ goes.child = same_Some child goes.child is in
      subst (λ k. HasListed k arena) (sym (eqb-true j child.entry touched ∙ ap (λ (c : view.Child). c.entry) same ∙ goes.entry)) entry

  mark_noted : (j : ℕ) → is_freely goes.node.state ≡ true → plain_entry (first_of goes.node.waiting) ≡ Some Mark → list_any (begins_at j) (rest_of goes.node.children) ≡ true → HasListed j arena
  mark_noted j free mark any =
      let (c, child, there, at) = any_there j (rest_of goes.node.children) any in
      let broadcasts : broadcasts_at i (view_of arena) ≡ true =
      ap (if_node (λ (m : view.Node). is_freely m.state && is_mark (plain_entry (first_of m.waiting))) false) goes.there ∙ ap (λ b. b && is_mark (plain_entry (first_of goes.node.waiting))) free ∙ ap is_mark mark in
      subst (λ k. HasListed k arena) at (all broadcasts c child (rest_there goes.node.children c child there))

  routed_noted : (s : State) (e : Entry ModelItem) (j : ℕ) → goes.node.state ≡ s → goes.goes.by.entry ≡ e → is_routed_to s goes.node e way.child j ≡ true → HasListed j arena
  routed_noted s (It x) j state is touched = first_noted way.child (slice_get goes.node.children way.child) j goes.at touched
  routed_noted (Freely epochs) Mark j state is touched = mark_noted j (ap is_freely state) (plain (view_of arena) i way goes ∙ ap Some is) touched
  routed_noted Alone Mark j state is touched = absurd (true≢false (sym touched))
  routed_noted (Cell patterns cell) Mark j state is touched = absurd (true≢false (sym touched))
  routed_noted (InTurn ds) Mark j state is touched = absurd (true≢false (sym touched))
  routed_noted s End j state is touched = absurd (true≢false (sym touched))

  needed : needs goes.node goes.goes.by ≡ Some way.child
  needed = ap (child_number goes.node.children) goes.goes.key ∙ goes.number

  pub route_noted : IsNoted (Route i) arena
  route_noted may j touched = elim (or_cases _ _ touched) [
    | inl same ↦ subst (λ k. HasListed k arena) (sym (eqb-true j i same)) own
    | inr sent ↦
        let at : routing_touches goes.node (routing_of (view_of arena) goes.node) j ≡ true =
        sym (ap (if_node (λ (m : view.Node). routing_touches m (routing_of (view_of arena) m) j) false) goes.there) ∙ sent in
        routed_noted goes.node.state goes.goes.by.entry j refl refl
        (sym (ap (λ (o : Option ℕ). unwrap_or (option_map (λ c. is_routed_to goes.node.state goes.node goes.goes.by.entry c j) o) false) needed)
        ∙ sym (ap (λ r. routing_touches goes.node r j) goes.goes.is) ∙ at)
  ]

-- where there is no way, nothing is routed
pub no_way_noted : (arena : Arena) (i : ℕ) → enabled (view_of arena) (Route i) ≡ false → IsNoted (Route i) arena
no_way_noted arena i none may j touched = absurd (true≢false (sym may ∙ none))

-- CALLS
call_later : (call : ℕ) (w : Waiting) (ws : List Waiting) (given : Entries) → Any (IsCall call given) ws → Any (IsCall call given) (w ∷ ws)
call_later call w ws given (k, other, within, at, is) = (suc k, other, omega (arith, within), at, is)

call_there : (call : ℕ) (ws : List Waiting) → list_any (is_in_call call) ws ≡ true → (given : Entries) × Any (IsCall call given) ws
call_there call [] is = absurd (true≢false (sym is))
call_there call (Plain e ∷ ws) is = let (given, any) = call_there call ws is in (given, call_later call (Plain e) ws given any)
call_there call (Finished r ∷ ws) is = let (given, any) = call_there call ws is in (given, call_later call (Finished r) ws given any)
call_there call (InFlight other r ∷ ws) is = elim (or_cases (call == other) (list_any (is_in_call call) ws) is) [
  | inl same ↦ (r, (0, InFlight other r, omega arith, refl, ap (λ k. InFlight k r) (sym (eqb-true call other same))))
  | inr later ↦ let (given, any) = call_there call ws later in (given, call_later call (InFlight other r) ws given any)
]

pub finish_noted : (arena : Arena) (job : Job) → ((j : ℕ) (given : Entries) → Flies (view_of arena) j job.call given → HasListed j arena) → IsNoted (finish_of job) arena
finish_noted arena job each may j touched = at (node_at j (view_of arena)) refl touched
  where
    at : (o : Option view.Node) → node_at j (view_of arena) ≡ o → if_node (λ (n : view.Node). list_any (is_in_call job.call) n.waiting) false o ≡ true → HasListed j arena
    at None there is = absurd (true≢false (sym is))
    at (Some n) there is = let (given, any) = call_there job.call n.waiting is in each j given (record { node = n; there = there; flies = any })

-- no call of that number is in the table
pub none_noted : (arena : Arena) (call : ℕ) → IsTabled arena → get nat_eq arena.places call ≡ None → (j : ℕ) (given : Entries) → Flies (view_of arena) j call given → HasListed j arena
none_noted arena call tabled none j given flies =
    absurd (none-some j (sym (ap (option_map (λ (place : Place). place.node)) none) ∙ tabled.found j call given flies))

-- the node of the table is listed
pub call_noted : (old new : Arena) (call : ℕ) (place : Place) → IsTabled old → view_of new ≡ view_of old → get nat_eq old.places call ≡ Some place → HasListed place.node new
    → (j : ℕ) (given : Entries) → Flies (view_of new) j call given → HasListed j new
call_noted old new call place tabled same at listed j given flies =
    let is : place.node ≡ j =
    same_Some place.node j (sym (ap (option_map (λ (place : Place). place.node)) at) ∙ tabled.found j call given (subst (λ (g : View). Flies g j call given) same flies)) in
    subst (λ k. HasListed k new) is listed
