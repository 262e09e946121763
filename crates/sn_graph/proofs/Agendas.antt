-- What is listed while events happen.
use Rattle.std.proofs.Common.{◌≡◌, ℕ, ◌<◌, ◌≤◌, ◌==◌, Bool, true, false, true≢false, List, length, refl, sym, ap, subst, ◌∙◌, arith}
use Rattle.std.specs.Prelude.{Result, Ok, Err, Some}
use Rattle.std.proofs.lemmas.Bool.{eqb-true}
use Rattle.std.proofs.lemmas.List.{length-map}
use Rattle.sn_model.specs.declared.run.Run.{Run}
use Rattle.sn_view.specs.Next.{IsEnabled, Next, enabled}
use Rattle.sn_view.specs.Touched.{happens_at, is_touched}
use Rattle.sn_view.specs.View.{Emit, Finish, Happening, Local, Merge, Route, Start, Take, Unfold, View}
use Rattle.sn_view.proofs.Untouched.{others-stay}
use Rattle.sn_node.specs.Agenda.{is_listed}
use Rattle.sn_node.specs.Seen.{node_of}
use Rattle.sn_node.specs.declared.agenda.Agenda.{Agenda}
use Rattle.sn_graph.specs.Arena.{IsOf, view_of}
use Rattle.sn_graph.specs.Event.{Applies, happening_of}
use Rattle.sn_graph.specs.Listed.{HasListed, IsListed, IsNoted, KeepsStack, LeavesAgenda, OnlyLists, with_agenda}
use Rattle.sn_graph.specs.Tabled.{IsTabled}
use Rattle.sn_graph.specs.declared.arena.Arena.{Arena}
use Rattle.sn_graph.specs.declared.event.ApplyFault.{ApplyFault}
use Rattle.sn_graph.specs.declared.event.Effect.{Effect}
use Rattle.sn_graph.specs.declared.event.Event.{Event}
use Rattle.sn_graph.proofs.Applying.{unchanged_by}
use Rattle.sn_graph.proofs.Sizes.{enabled_there, size_next, touched_there}
use Rattle.sn_graph.proofs.Tabling.{tabled_same}

-- MORE IS LISTED
pub only_none : (arena : Arena) → OnlyLists arena arena
only_none arena = record { same = refl; listed = λ j is. is; bound = refl }

pub only_then : (a b c : Arena) → OnlyLists a b → OnlyLists b c → OnlyLists a c
only_then a b c first next = record {
  same = next.same ∙ ap (with_agenda c.agenda) first.same;
  listed = λ j is. next.listed j (first.listed j is);
  bound = next.bound ∙ first.bound;
}

-- a graph with another agenda is of the same run
pub settled_of : (old new : Arena) → new ≡ with_agenda new.agenda old → (run : Run) → IsOf old run → IsOf new run
settled_of old new same run of = subst (λ (a : Arena). IsOf a run) (sym same) (record { made = of.made; nodes = of.nodes })

module _ (old new : Arena) (only : OnlyLists old new) where
  pub only_view : view_of new ≡ view_of old
  only_view = ap view_of only.same

  pub only_of : (run : Run) → IsOf old run → IsOf new run
  only_of = settled_of old new only.same

  pub only_tabled : IsTabled old → IsTabled new
  only_tabled tabled = tabled_same old new (ap (λ (a : Arena). a.places.entries) only.same) (ap (λ (a : Arena). (view_of a).nodes) only.same) tabled

  pub only_listed : IsListed old → IsListed new
  only_listed is = record {
    each = λ e i at may. only.listed i (is.each e i at (ap (λ (g : View). enabled g e) (sym only_view) ∙ may));
    room = subst (λ (n : ℕ). length new.nodes.items ≤ n) (sym only.bound) (subst (λ (n : ℕ). n ≤ length old.agenda.listed.items) (sym (ap (λ (a : Arena). length a.nodes.items) only.same)) is.room);
  }

  -- what was noted before is noted still
  pub only_noted : (j : ℕ) → HasListed j old → HasListed j new
  only_noted j has within = only.listed j (has (subst (λ n. j < n) only.bound within))

  pub only_is_noted : (e : Happening) → IsNoted e old → IsNoted e new
  only_is_noted e noted may j touched =
      only_noted j (noted (subst (λ (g : View). IsEnabled g e) only_view may) j (ap (λ (g : View). is_touched g e j) (sym only_view) ∙ touched))

-- AN EVENT
abbrev node_count : Arena → ℕ
node_count arena = length arena.nodes.items

seen_count : (arena : Arena) → length (view_of arena).nodes ≡ node_count arena
seen_count arena = length-map arena.nodes.items node_of

same_count : (old new : Arena) → length (view_of new).nodes ≡ length (view_of old).nodes → node_count new ≡ node_count old
same_count old new same = sym (seen_count new) ∙ same ∙ seen_count old

-- the agenda of a graph that has as many nodes as before
keeps : (old new : Arena) → new.agenda ≡ old.agenda → length (view_of new).nodes ≡ length (view_of old).nodes → KeepsStack old new
keeps old new agenda same = record {
  stack = ap (λ a. a.stack.items) agenda;
  room = λ room. subst (λ (n : ℕ). node_count new ≤ n) (sym (ap (λ a. length a.listed.items) agenda)) (subst (λ (n : ℕ). n ≤ length old.agenda.listed.items) (sym (same_count old new same)) room);
}

leaves_next : (old new : Arena) (e : Happening) → view_of new ≡ Next (view_of old) e → LeavesAgenda e old new → KeepsStack old new
leaves_next old new Take next leaves = keeps old new leaves (ap (λ (g : View). length g.nodes) next ∙ size_next (view_of old) Take tt)
leaves_next old new (Start i) next leaves = keeps old new leaves (ap (λ (g : View). length g.nodes) next ∙ size_next (view_of old) (Start i) tt)
leaves_next old new (Finish call number place given) next leaves =
    keeps old new leaves (ap (λ (g : View). length g.nodes) next ∙ size_next (view_of old) (Finish call number place given) tt)
leaves_next old new (Local i) next leaves = keeps old new leaves (ap (λ (g : View). length g.nodes) next ∙ size_next (view_of old) (Local i) tt)
leaves_next old new (Route i) next leaves = keeps old new leaves (ap (λ (g : View). length g.nodes) next ∙ size_next (view_of old) (Route i) tt)
leaves_next old new (Unfold i) next leaves = leaves
leaves_next old new (Merge i c) next leaves = keeps old new leaves (ap (λ (g : View). length g.nodes) next ∙ size_next (view_of old) (Merge i c) tt)
leaves_next old new Emit next leaves = keeps old new leaves (ap (λ (g : View). length g.nodes) next ∙ size_next (view_of old) Emit tt)

leaves_same : (old new : Arena) (e : Happening) → view_of new ≡ view_of old → LeavesAgenda e old new → KeepsStack old new
leaves_same old new Take same leaves = keeps old new leaves (ap (λ (g : View). length g.nodes) same)
leaves_same old new (Start i) same leaves = keeps old new leaves (ap (λ (g : View). length g.nodes) same)
leaves_same old new (Finish call number place given) same leaves = keeps old new leaves (ap (λ (g : View). length g.nodes) same)
leaves_same old new (Local i) same leaves = keeps old new leaves (ap (λ (g : View). length g.nodes) same)
leaves_same old new (Route i) same leaves = keeps old new leaves (ap (λ (g : View). length g.nodes) same)
leaves_same old new (Unfold i) same leaves = leaves
leaves_same old new (Merge i c) same leaves = keeps old new leaves (ap (λ (g : View). length g.nodes) same)
leaves_same old new Emit same leaves = keeps old new leaves (ap (λ (g : View). length g.nodes) same)

-- what is listed behind an event, where what it writes to was listed before
listed_next : (old new : Arena) (e : Happening) → IsListed old → IsNoted e old → IsEnabled (view_of old) e → view_of new ≡ Next (view_of old) e → KeepsStack old new → IsListed new
listed_next old new e listed noted may next keeps = record {
  each = λ other j at is. subst (λ (stack : List ℕ). is_listed j stack ≡ true) (sym keeps.stack)
      (by other j at (sym (ap (λ (g : View). enabled g other) next) ∙ is) (is_touched (view_of old) e j) refl);
  room = keeps.room listed.room;
}
  where
    by : (other : Happening) (j : ℕ) → happens_at other ≡ Some j → enabled (Next (view_of old) e) other ≡ true → (b : Bool) → is_touched (view_of old) e j ≡ b
        → is_listed j old.agenda.stack.items ≡ true
    by other j at is false apart = listed.each other j at (others-stay (view_of old) e other j at apart is)
    by other j at is true touched =
        let there : j < length (view_of old).nodes = touched_there (view_of old) e j may touched (enabled_there (Next (view_of old) e) other j at is) in
        noted may j touched (omega (arith, listed.room, there, seen_count old))

listed_same : (old new : Arena) → IsListed old → view_of new ≡ view_of old → KeepsStack old new → IsListed new
listed_same old new listed same keeps = record {
  each = λ e j at is. subst (λ (stack : List ℕ). is_listed j stack ≡ true) (sym keeps.stack) (listed.each e j at (sym (ap (λ (g : View). enabled g e) same) ∙ is));
  room = keeps.room listed.room;
}

pub listed_applied : (run : Run) (event : Event) (old new : Arena) (r : Result Effect ApplyFault) → IsListed old → IsNoted (happening_of event) old
    → Applies run event (view_of old) r (view_of new) → LeavesAgenda (happening_of event) old new → IsListed new
listed_applied run event old new (Ok effect) listed noted is leaves =
    listed_next old new (happening_of event) listed noted is.may is.next (leaves_next old new (happening_of event) is.next leaves)
listed_applied run event old new (Err fault) listed noted is leaves =
    let same = unchanged_by run event (view_of old) (view_of new) fault.cause is.cause in
    listed_same old new listed same (leaves_same old new (happening_of event) same leaves)

-- where all nodes are listed, those are at which something may happen
pub all_listed : (arena : Arena) → ((i : ℕ) → i < length arena.nodes.items → is_listed i arena.agenda.stack.items ≡ true) → length arena.nodes.items ≤ length arena.agenda.listed.items → IsListed arena
all_listed arena each room = record {
  each = λ e i at may. each i (subst (λ (n : ℕ). i < n) (seen_count arena) (enabled_there (view_of arena) e i at may));
  room = room;
}

-- WHAT IS TAKEN OFF
module _ (old : Arena) (listed : IsListed old) (taken : Agenda) (bound : length taken.listed.items ≡ length old.agenda.listed.items) (i : ℕ)
    (others : (j : ℕ) → is_listed j old.agenda.stack.items ≡ true → (j == i) ≡ false → is_listed j taken.stack.items ≡ true) where
  room_for : (again : Agenda) → length again.listed.items ≡ length taken.listed.items → length old.nodes.items ≤ length again.listed.items
  room_for again same = subst (λ (n : ℕ). length old.nodes.items ≤ n) (sym (same ∙ bound)) listed.room

  -- a number at which nothing may happen
  pub taken_listed : ((e : Happening) → happens_at e ≡ Some i → enabled (view_of old) e ≡ false) → IsListed (with_agenda taken old)
  taken_listed none = record { each = λ e j at may. by e j at may (j == i) refl; room = room_for taken refl }
    where
      by : (e : Happening) (j : ℕ) → happens_at e ≡ Some j → enabled (view_of old) e ≡ true → (b : Bool) → (j == i) ≡ b → is_listed j taken.stack.items ≡ true
      by e j at may false apart = others j (listed.each e j at may) apart
      by e j at may true same = absurd (true≢false (sym may ∙ none e (at ∙ ap Some (eqb-true j i same))))

  -- a number that is listed again
  pub listed_again : (again : Agenda) → length again.listed.items ≡ length taken.listed.items → (i < length taken.listed.items → is_listed i again.stack.items ≡ true)
      → ((j : ℕ) → is_listed j taken.stack.items ≡ true → is_listed j again.stack.items ≡ true) → IsListed (with_agenda again old)
  listed_again again same itself more = record { each = λ e j at may. by e j at may (j == i) refl; room = room_for again same }
    where
      by : (e : Happening) (j : ℕ) → happens_at e ≡ Some j → enabled (view_of old) e ≡ true → (b : Bool) → (j == i) ≡ b → is_listed j again.stack.items ≡ true
      by e j at may false apart = more j (others j (listed.each e j at may) apart)
      by e j at may true same =
          let there : j < length old.nodes.items = subst (λ (n : ℕ). j < n) (seen_count old) (enabled_there (view_of old) e j at may) in
          subst (λ (k : ℕ). is_listed k again.stack.items ≡ true) (sym (eqb-true j i same))
          (itself (subst (λ (k : ℕ). k < length taken.listed.items) (eqb-true j i same) (omega (arith, there, listed.room, bound))))

-- the same numbers are listed
pub same_listed : (old : Arena) (agenda : Agenda) → IsListed old → agenda.stack.items ≡ old.agenda.stack.items → length agenda.listed.items ≡ length old.agenda.listed.items → IsListed (with_agenda agenda old)
same_listed old agenda listed same bound = record {
  each = λ e i at may. subst (λ (stack : List ℕ). is_listed i stack ≡ true) (sym same) (listed.each e i at may);
  room = subst (λ (n : ℕ). length old.nodes.items ≤ n) (sym bound) listed.room;
}
