-- What the rounds of a turn come to.
use Rattle.std.proofs.Common.{◌≡◌, ◌≤◌, ◌<◌, ◌+◌, ℕ, zero, suc, Bool, true, false, arith, List, [], ◌∷◌, ◌++◌, length, map, refl, sym, ap, subst, ◌∙◌, append_assoc, append-nil, length-append}
use Rattle.std.specs.Prelude.{None, Some, if◌then◌else◌}
use Rattle.std.specs.Option.{option_map}
use Rattle.std.proofs.lemmas.Bool.{false≢true}
use Rattle.std.proofs.lemmas.List.{length-map, map-append}
use Rattle.std.proofs.lemmas.List.Sums.{sum_by-append}
use mathlib.Core.Logic.{inl, inr}
use Rattle.sn_model.specs.declared.run.Run.{Run}
use Rattle.sn_component.specs.Moved.{WentSourcing, WentWorking, is_done}
use Rattle.sn_component.specs.Outbox.{Ends, has_ended}
use Rattle.sn_component.specs.Seen.{Sourcing, Working}
use Rattle.sn_component.specs.declared.moved.Moved.{Moved}
use Rattle.sn_component.specs.declared.moved.Moved.TheVariants as moved
use Rattle.sn_fork.specs.Progress.{WentForking}
use Rattle.sn_fork.specs.Seen.{Forking}
use Rattle.sn_fork.specs.Turns as fork
use Rattle.sn_fork.specs.Turns.{moved_at, ways_of}
use Rattle.sn_turn.specs.Kinds.{way_out}
use Rattle.sn_turn.specs.Nodes.{Grown}
use Rattle.sn_turn.specs.Turns.{GoesOn, Moves, Spawned, Spawns, Unfolds, Went, new_parts, times}
use Rattle.sn_turn.specs.Unfolding.{Unfolded}
use Rattle.sn_turn.specs.declared.node.Kind.{Kind}
use Rattle.sn_turn.specs.declared.node.Kind.TheVariants as kind
use Rattle.sn_turn.specs.declared.node.Node.{Node}
use Rattle.sn_turn.specs.declared.turned.Turned.{Turned}
use Rattle.sn_turn.proofs.Nodes.{grown_more, grown_none}

as_many : (a b : Forking) → map ways_of b.children ≡ map ways_of a.children → length b.children ≡ length a.children + 0
as_many a b same = sym (length-map b.children ways_of) ∙ ap length same ∙ length-map a.children ways_of ∙ omega arith

-- a fork that stays what it is
pub unfolds_still : (f : Forking) → Unfolds f f
unfolds_still f = record { run = refl; path = refl; left = refl; steps = refl; input = refl; output = refl; more = []; children = sym (append-nil (map ways_of f.children)); moves = omega arith }

pub unfolds_going : (a b : Forking) → fork.GoesOn a b → Unfolds a b
unfolds_going a b goes = record {
  run = goes.run;
  path = goes.path;
  left = goes.left;
  steps = goes.steps;
  input = goes.input;
  output = goes.output;
  more = [];
  children = goes.children ∙ sym (append-nil (map ways_of a.children));
  moves = goes.moves;
}

pub unfolds_further : (a b c : Forking) → Unfolds a b → Unfolds b c → Unfolds a c
unfolds_further a b c first later = record {
  run = later.run ∙ first.run;
  path = later.path ∙ first.path;
  left = later.left ∙ first.left;
  steps = later.steps ∙ first.steps;
  input = later.input ∙ first.input;
  output = later.output ∙ first.output;
  more = first.more ++ later.more;
  children = later.children ∙ ap (λ w. w ++ later.more) first.children ∙ append_assoc (map ways_of a.children) first.more later.more;
  moves = omega (arith, first.moves, later.moves);
}

-- one that has a child more
pub unfolds_made : (a b : Forking) (before now : List Node) → Unfolded a b before now → Unfolds a b
unfolds_made a b before now made = subst (Unfolds a) (sym made.fork) (record {
  run = refl;
  path = refl;
  left = refl;
  steps = refl;
  input = refl;
  output = refl;
  more = ways_of made.child ∷ [];
  children = map-append ways_of a.children (made.child ∷ []);
  moves = omega (arith, sum_by-append moved_at a.children (made.child ∷ []));
})

pub one_child_more : (a b : Forking) (before now : List Node) → Unfolded a b before now → length a.children < length b.children
one_child_more a b before now made =
    let longer : length b.children ≡ length a.children + 1 = ap (λ (f : Forking). length f.children) made.fork ∙ length-append a.children (made.child ∷ []) in
    omega (arith, longer)

-- the nodes of as many replicas
times_more : (m n : ℕ) (parts : List (List ℕ)) → times m parts ++ times n parts ≡ times (m + n) parts
times_more m zero parts =
    let same : m ≡ m + 0 = omega arith in
    append-nil (times m parts) ∙ ap (λ k. times k parts) same
times_more m (suc n) parts =
    let same : suc (m + n) ≡ m + suc n = omega arith in
    sym (append_assoc (times m parts) (times n parts) parts) ∙ ap (λ l. l ++ parts) (times_more m n parts) ∙ ap (λ k. times k parts) same

pub spawned_still : (f : Forking) (nodes : List Node) → Spawned f f nodes nodes
spawned_still f nodes = record { count = 0; many = omega arith; grown = grown_none nodes }

pub spawned_going : (a b : Forking) (nodes : List Node) → fork.GoesOn a b → Spawned a b nodes nodes
spawned_going a b nodes goes = record { count = 0; many = as_many a b goes.children; grown = grown_none nodes }

pub spawned_made : (a b : Forking) (before now : List Node) → Unfolded a b before now → Spawned a b before now
spawned_made a b before now made = record {
  count = 1;
  many = ap (λ (f : Forking). length f.children) made.fork ∙ length-append a.children (made.child ∷ []);
  grown = made.grown;
}

pub spawned_further : (a b c : Forking) (x y z : List Node) → Unfolds a b → Spawned a b x y → Spawned b c y z → Spawned a c x z
spawned_further a b c x y z goes first later =
    let parts : List (List ℕ) = new_parts a.run a.path in
    let further : Grown y z (times later.count parts) =
    subst (λ (u : Run × List ℕ). Grown y z (times later.count (new_parts u.0 u.1))) (λ i. (goes.run i, goes.path i)) later.grown in
    record {
      count = first.count + later.count;
      many = omega (arith, first.many, later.many);
      grown = subst (Grown x z) (times_more first.count later.count parts) (grown_more x y z (times first.count parts) (times later.count parts) first.grown further);
    }

-- what a turn answers
pub went_to : (old new : Kind) (turned : Turned) (m : Moved) (spawned : List Node) → turned.moved ≡ m → turned.spawned.items ≡ spawned
    → option_map (λ (n : Node). n.kind) turned.node ≡ (if is_done m then None else Some new) → GoesOn old new → Moves old new m → has_ended (way_out new) ≡ is_done m → Spawns old new spawned
    → Went old turned
went_to old new turned m spawned moved_is spawned_is node goes moves ended spawns = record {
  new = new;
  goes = goes;
  moved = subst (Moves old new) (sym moved_is) moves;
  ended = ended ∙ ap is_done (sym moved_is);
  node = node ∙ ap (λ m. if is_done m then None else Some new) (sym moved_is);
  spawned = subst (Spawns old new) (sym spawned_is) spawns;
}

pub source_moves : (old new : Sourcing) (m : Moved) → WentSourcing old new m → Moves (kind.Source old) (kind.Source new) m
source_moves old new moved.Some went = inl went
source_moves old new moved.Idle went = went
source_moves old new moved.Done went = went

pub component_moves : (old new : Working) (m : Moved) → WentWorking old new m → Moves (kind.Component old) (kind.Component new) m
component_moves old new moved.Some went = inl went
component_moves old new moved.Idle went = went
component_moves old new moved.Done went = went

pub fork_moves : (old new : Forking) (m : Moved) → WentForking old new m → Moves (kind.Fork old) (kind.Fork new) m
fork_moves old new moved.Some went = inl went
fork_moves old new moved.Idle went = went
fork_moves old new moved.Done went = went

abbrev is_some_moved : Moved → Bool
is_some_moved moved.Some = true
is_some_moved moved.Idle = false
is_some_moved moved.Done = false

-- a fork that goes on has no fewer children
no_fewer : (b c : Forking) → Unfolds b c → length b.children ≤ length c.children
no_fewer b c on =
    let now = sym (length-map c.children ways_of) ∙ ap length on.children ∙ length-append (map ways_of b.children) on.more in
    omega (arith, now, length-map b.children ways_of)

-- a replica was made, and then it went on
pub fork_moves_more : (a b c : Forking) (m : Moved) → length a.children < length b.children → Unfolds b c → (m ≡ moved.Done → Ends c.output) → (m ≡ moved.Idle → ⊥)
    → Moves (kind.Fork a) (kind.Fork c) m
fork_moves_more a b c moved.Some made on done busy = inr (omega (arith, made, no_fewer b c on))
fork_moves_more a b c moved.Idle made on done busy = absurd (busy refl)
fork_moves_more a b c moved.Done made on done busy = done refl

-- what a turn answers after a replica was made
pub busy_after : (m after : Moved) → after ≡ (if is_done m then m else moved.Some) → after ≡ moved.Idle → ⊥
busy_after moved.Some after is idle = absurd (false≢true (sym (ap is_some_moved (sym is ∙ idle))))
busy_after moved.Idle after is idle = absurd (false≢true (sym (ap is_some_moved (sym is ∙ idle))))
busy_after moved.Done after is idle = absurd (false≢true (sym (ap is_done (sym is ∙ idle))))

pub done_after : (m after : Moved) (old new : Forking) → after ≡ (if is_done m then m else moved.Some) → WentForking old new m → after ≡ moved.Done → Ends new.output
done_after moved.Some after old new is went done = absurd (false≢true (sym (ap is_done (sym done ∙ is))))
done_after moved.Idle after old new is went done = absurd (false≢true (sym (ap is_done (sym done ∙ is))))
done_after moved.Done after old new is went done = went

pub ended_after : (m after : Moved) → after ≡ (if is_done m then m else moved.Some) → is_done m ≡ is_done after
ended_after moved.Some after is = sym (ap is_done is)
ended_after moved.Idle after is = sym (ap is_done is)
ended_after moved.Done after is = sym (ap is_done is)
