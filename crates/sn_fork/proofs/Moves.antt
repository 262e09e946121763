-- What moves in a step of a turn.
use Rattle.std.proofs.Common.{◌≡◌, ◌≤◌, ◌+◌, ℕ, suc, Bool, List, [], ◌∷◌, ◌++◌, length, map, take, drop, set, Some, arith, refl, sym, ap, ◌∙◌, subst, length-append}
use Rattle.std.specs.Prelude.{slice_get, ◌<◌, ◌⊎◌, if◌then◌else◌, IsTrue, true, false}
use Rattle.std.specs.List.{sum_by}
use Rattle.std.proofs.lemmas.List.Sums.{sum_by-append, sum_by-cons}
use mathlib.Core.List.{map-append}
use Rattle.sn_net.specs.Dispatchers.{stream_key}
use Rattle.sn_dispatch.specs.declared.det_fork.Decision.{Decision}
use Rattle.sn_stream.specs.Ends.{End, WasEmpty, WasFull, moves}
use Rattle.sn_stream.specs.declared.item.StreamItem.{StreamItem}
use Rattle.sn_fork.specs.declared.fork.Child.{Child}
use Rattle.sn_fork.specs.Fork.{child_seen}
use Rattle.sn_fork.specs.Seen.{ChildSeen, Forking}
use Rattle.sn_component.specs.declared.moved.Moved.{Moved}
use Rattle.sn_component.specs.declared.moved.Moved.TheVariants as moved
use Rattle.sn_fork.specs.Progress.{WentForking}
use Rattle.sn_fork.specs.Turns.{ChildFull, GoesOn, moved_at, moves_of, ways_of, without_held}
use Rattle.sn_fork.proofs.Steps.{seen_around, seen_other}

-- it goes on from step to step
pub goes_still : (f : Forking) → GoesOn f f
goes_still f = record { run = refl; path = refl; left = refl; steps = refl; input = refl; output = refl; children = refl; moves = omega arith }

pub goes_as : (a b : Forking) → b ≡ a → GoesOn a b
goes_as a b same = subst (GoesOn a) (sym same) (goes_still a)

pub goes_further : (a b c : Forking) → GoesOn a b → GoesOn b c → GoesOn a c
goes_further a b c g h = record {
  run = h.run ∙ g.run;
  path = h.path ∙ g.path;
  left = h.left ∙ g.left;
  steps = h.steps ∙ g.steps;
  input = h.input ∙ g.input;
  output = h.output ∙ g.output;
  children = h.children ∙ g.children;
  moves = omega (arith, g.moves, h.moves);
}

-- an entry was got
pub goes_getting : (a b : Forking) → b ≡ record a { input = b.input; waiting = b.waiting } → b.input.made ≡ a.input.made → length a.input.moved ≤ length b.input.moved → GoesOn a b
goes_getting a b same made more = record {
  run = ap (λ (f : Forking). f.run) same;
  path = ap (λ (f : Forking). f.path) same;
  left = ap (λ (f : Forking). f.left) same;
  steps = ap (λ (f : Forking). f.steps) same;
  input = made;
  output = ap (λ (f : Forking). f.output.made) same;
  children = ap (λ (f : Forking). map ways_of f.children) same;
  moves = omega (arith, more, ap (λ (f : Forking). length f.output.moved) same, ap (λ (f : Forking). sum_by moved_at f.children) same);
}

-- entries were put
pub goes_putting : (a b : Forking) → b ≡ record a { output = b.output; held = b.held } → b.output.made ≡ a.output.made → length a.output.moved ≤ length b.output.moved → GoesOn a b
goes_putting a b same made more = record {
  run = ap (λ (f : Forking). f.run) same;
  path = ap (λ (f : Forking). f.path) same;
  left = ap (λ (f : Forking). f.left) same;
  steps = ap (λ (f : Forking). f.steps) same;
  input = ap (λ (f : Forking). f.input.made) same;
  output = made;
  children = ap (λ (f : Forking). map ways_of f.children) same;
  moves = omega (arith, more, ap (λ (f : Forking). length f.input.moved) same, ap (λ (f : Forking). sum_by moved_at f.children) same);
}

-- a decision was served by what the node has
pub goes_serving : (a b : Forking) → b ≡ record a { decisions = b.decisions; held = b.held } → GoesOn a b
goes_serving a b same = record {
  run = ap (λ (f : Forking). f.run) same;
  path = ap (λ (f : Forking). f.path) same;
  left = ap (λ (f : Forking). f.left) same;
  steps = ap (λ (f : Forking). f.steps) same;
  input = ap (λ (f : Forking). f.input.made) same;
  output = ap (λ (f : Forking). f.output.made) same;
  children = ap (λ (f : Forking). map ways_of f.children) same;
  moves = omega (arith, ap moves_of same);
}

ways_kept : (cs : List ChildSeen) → map ways_of (map without_held cs) ≡ map ways_of cs
ways_kept [] = refl
ways_kept (c ∷ cs) = ap (λ l. ways_of c ∷ l) (ways_kept cs)

moves_kept : (cs : List ChildSeen) → sum_by moved_at (map without_held cs) ≡ sum_by moved_at cs
moves_kept [] = refl
moves_kept (c ∷ cs) = sum_by-cons moved_at (without_held c) (map without_held cs) ∙ ap (λ n. moved_at c + n) (moves_kept cs) ∙ sym (sum_by-cons moved_at c cs)

-- what waited was decided on
pub goes_deciding : (a b : Forking) → b ≡ record a { waiting = b.waiting; decisions = b.decisions; children = b.children }
    → map without_held b.children ≡ map without_held a.children → GoesOn a b
goes_deciding a b same held = record {
  run = ap (λ (f : Forking). f.run) same;
  path = ap (λ (f : Forking). f.path) same;
  left = ap (λ (f : Forking). f.left) same;
  steps = ap (λ (f : Forking). f.steps) same;
  input = ap (λ (f : Forking). f.input.made) same;
  output = ap (λ (f : Forking). f.output.made) same;
  children = sym (ways_kept b.children) ∙ ap (map ways_of) held ∙ ways_kept a.children;
  moves = omega (
    arith,
    ap (λ (f : Forking). length f.input.moved) same,
    ap (λ (f : Forking). length f.output.moved) same,
    sym (moves_kept b.children) ∙ ap (sum_by moved_at) held ∙ moves_kept a.children,
  );
}

-- one child is another
module _ (f : Forking) (xs : List Child) (n : ℕ) (x y : Child) (are : map child_seen xs ≡ f.children) (at : slice_get xs n ≡ Some x) where
  before : sum_by moved_at f.children ≡ sum_by moved_at (map child_seen (take n xs)) + (moved_at (child_seen x) + sum_by moved_at (map child_seen (drop (suc n) xs)))
  before = ap (sum_by moved_at) (sym are ∙ seen_around xs n x at) ∙ sum_by-append moved_at (map child_seen (take n xs)) (child_seen x ∷ map child_seen (drop (suc n) xs))
      ∙ ap (λ m. sum_by moved_at (map child_seen (take n xs)) + m) (sum_by-cons moved_at (child_seen x) (map child_seen (drop (suc n) xs)))

  after : sum_by moved_at (map child_seen (set xs n y)) ≡ sum_by moved_at (map child_seen (take n xs)) + (moved_at (child_seen y) + sum_by moved_at (map child_seen (drop (suc n) xs)))
  after = ap (sum_by moved_at) (seen_other xs n x y at) ∙ sum_by-append moved_at (map child_seen (take n xs)) (child_seen y ∷ map child_seen (drop (suc n) xs))
      ∙ ap (λ m. sum_by moved_at (map child_seen (take n xs)) + m) (sum_by-cons moved_at (child_seen y) (map child_seen (drop (suc n) xs)))

  pub goes_child : ways_of (child_seen y) ≡ ways_of (child_seen x) → moved_at (child_seen x) ≤ moved_at (child_seen y) → GoesOn f (record f { children = map child_seen (set xs n y) })
  goes_child same more = record {
    run = refl;
    path = refl;
    left = refl;
    steps = refl;
    input = refl;
    output = refl;
    children = ap (map ways_of) (seen_other xs n x y at) ∙ map-append ways_of (map child_seen (take n xs)) (child_seen y ∷ map child_seen (drop (suc n) xs))
        ∙ ap (λ w. map ways_of (map child_seen (take n xs)) ++ w ∷ map ways_of (map child_seen (drop (suc n) xs))) same
        ∙ sym (map-append ways_of (map child_seen (take n xs)) (child_seen x ∷ map child_seen (drop (suc n) xs))) ∙ ap (map ways_of) (sym (sym are ∙ seen_around xs n x at));
    moves = omega (arith, more, before, after);
  }

  pub child_moves : moved_at (child_seen x) < moved_at (child_seen y) → moves_of f < moves_of (record f { children = map child_seen (set xs n y) })
  child_moves more = omega (arith, more, before, after)

-- an entry was got from a child
pub goes_got : (f : Forking) (xs : List Child) (n : ℕ) (x : Child) → map child_seen xs ≡ f.children → slice_get xs n ≡ Some x → (from : End) (e : StreamItem) (ds : List Decision)
    (held : List StreamItem) → from ≡ moves x.from e
    → GoesOn f (record f { children = map child_seen (set xs n (record x { from = from })); decisions = ds; held = held })
    × (moves_of f < moves_of (record f { children = map child_seen (set xs n (record x { from = from })); decisions = ds; held = held }))
goes_got f xs n x are at from e ds held got =
    let made : from.made ≡ x.from.made = ap (λ (e : End). e.made) got in
    let longer : length from.moved ≡ length x.from.moved + 1 = ap (λ (e : End). length e.moved) got ∙ length-append x.from.moved (e ∷ []) in
    let y : Child = record x { from = from } in
    let g = goes_child f xs n x y are at (λ i. (stream_key x.key, (x.to.put.made, made i))) (omega (arith, longer)) in (
      record { run = refl; path = refl; left = refl; steps = refl; input = refl; output = refl; children = g.children; moves = g.moves },
      child_moves f xs n x y are at (omega (arith, longer)),
    )

-- how a round ends where something was put before, or else for a reason
pub went_or_idle : (old mid new : Forking) (some : Bool) (m : Moved) → GoesOn old mid → (IsTrue some → moves_of mid < moves_of new)
    → WasEmpty new.input ⊎ (WasFull new.output ⊎ ChildFull new) → m ≡ (if some then moved.Some else moved.Idle) → WentForking old new m
went_or_idle old mid new true m g more why is = subst (WentForking old new) (sym is) (omega (arith, g.moves, more refl))
went_or_idle old mid new false m g more why is = subst (WentForking old new) (sym is) why
