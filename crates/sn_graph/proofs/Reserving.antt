-- Room where a node changes, or where it gets more.
use Rattle.std.proofs.Common.{◌≡◌, ◌≢◌, ℕ, zero, suc, ◌+◌, ◌-◌, ◌<◌, ◌≤◌, List, [], ◌∷◌, length, get_or, set, refl, sym, ap, subst, ◌∙◌, arith}
use Rattle.std.specs.Prelude.{slice_get, Some}
use Rattle.std.specs.VecDeque.{deque_capacity, deque_len}
use Rattle.std.proofs.lemmas.List.{length-map}
use Rattle.std.proofs.lemmas.Option.{none-some, same_Some}
use Rattle.sn_view.specs.View as view
use Rattle.sn_node.specs.Child.{child_of}
use Rattle.sn_node.specs.Kept.{kept_room}
use Rattle.sn_node.specs.Queue.{room}
use Rattle.sn_node.specs.Seen.{node_of}
use Rattle.sn_node.specs.declared.children.Children.{Children}
use Rattle.sn_node.specs.declared.node.Node.{Node}
use Rattle.sn_node.specs.declared.node.Target.{Target}
use Rattle.sn_node.specs.declared.node.Target.TheVariants as target
use Rattle.sn_graph.specs.declared.arena.Arena.{Arena}
use Rattle.sn_graph.specs.Quiet.{IsQuiet}
use Rattle.sn_graph.specs.Room.{HasRoom, written}

-- this holds of the element at a place, if there is one
abbrev pub At : {X : Type 0} → (X → Type 0) → List X → ℕ → Type 0
At {X} P xs i = (x : X) → slice_get xs i ≡ Some x → P x

pub at_past : {X : Type 0} (P : X → Type 0) (xs : List X) (i : ℕ) → length xs ≤ i → At P xs i
at_past P [] i past x got = absurd (none-some x got)
at_past P (y ∷ xs) zero past x got = absurd (omega (arith, past))
at_past P (y ∷ xs) (suc i) past x got = at_past P xs i (omega (arith, past)) x got

pub at_set : {X : Type 0} (P : X → Type 0) (xs : List X) (i : ℕ) (b : X) → P b → At P (set xs i b) i
at_set P [] i b p x got = absurd (none-some x got)
at_set P (y ∷ xs) zero b p x got = subst P (same_Some b x got) p
at_set P (y ∷ xs) (suc i) b p x got = at_set P xs i b p x got

pub at_other : {X : Type 0} (P : X → Type 0) (xs : List X) (i j : ℕ) (b : X) → j ≢ i → At P xs j → At P (set xs i b) j
at_other P [] i j b other at x got = at x got
at_other P (y ∷ xs) zero zero b other at x got = absurd (other refl)
at_other P (y ∷ xs) zero (suc j) b other at x got = at x got
at_other P (y ∷ xs) (suc i) zero b other at x got = at x got
at_other P (y ∷ xs) (suc i) (suc j) b other at x got = at_other P xs i j b (λ e. other (ap suc e)) at x got

-- what the changed element keeps
pub at_kept : {X : Type 0} (P : X → Type 0) (xs : List X) (i j : ℕ) (a b : X) → a ≡ get_or xs i a → (P a → P b) → At P xs j → At P (set xs i b) j
at_kept P [] i j a b read keeps at x got = at x got
at_kept P (y ∷ xs) zero zero a b read keeps at x got = subst P (same_Some b x got) (keeps (subst P (sym read) (at y refl)))
at_kept P (y ∷ xs) zero (suc j) a b read keeps at x got = at x got
at_kept P (y ∷ xs) (suc i) zero a b read keeps at x got = at x got
at_kept P (y ∷ xs) (suc i) (suc j) a b read keeps at x got = at_kept P xs i j a b read keeps at x got

-- and where what is known is of the element that changes
pub at_changed : {X : Type 0} (P Q : X → Type 0) (xs : List X) (i : ℕ) (a b : X) → a ≡ get_or xs i a → (P a → Q b) → At P xs i → At Q (set xs i b) i
at_changed P Q [] i a b read keeps at x got = absurd (none-some x got)
at_changed P Q (y ∷ xs) zero a b read keeps at x got = subst Q (same_Some b x got) (keeps (subst P (sym read) (at y refl)))
at_changed P Q (y ∷ xs) (suc i) a b read keeps at x got = at_changed P Q xs i a b read keeps at x got

-- room for so many entries behind what waits at a node, and behind what it keeps of a child
abbrev pub WaitsRoom : ℕ → Node → Type 0
WaitsRoom n node = n ≤ room node.waiting

abbrev pub KeptRoom : ℕ → ℕ → Node → Type 0
KeptRoom c n node = c < length node.children.list.items → n ≤ kept_room node.children c

pub room_at_node : (goes : Target) (n i : ℕ) (new : Arena) → goes ≡ target.Node i → At (WaitsRoom n) new.nodes.items i → HasRoom goes n new
room_at_node goes n i new is at = subst (λ (t : Target). HasRoom t n new) (sym is) at

pub room_at_child : (goes : Target) (n i c : ℕ) (new : Arena) → goes ≡ target.Child i c → At (KeptRoom c n) new.nodes.items i → HasRoom goes n new
room_at_child goes n i c new is at = subst (λ (t : Target). HasRoom t n new) (sym is) at

pub at_node : (goes : Target) (n i : ℕ) (old : Arena) → goes ≡ target.Node i → HasRoom goes n old → At (WaitsRoom n) old.nodes.items i
at_node goes n i old is has = subst (λ (t : Target). HasRoom t n old) is has

pub at_child : (goes : Target) (n i c : ℕ) (old : Arena) → goes ≡ target.Child i c → HasRoom goes n old → At (KeptRoom c n) old.nodes.items i
at_child goes n i c old is has = subst (λ (t : Target). HasRoom t n old) is has

-- a node keeps its room
pub record KeepsRoom (a b : Node) : Type 0 where
  pub waiting : room a.waiting ≤ room b.waiting
  pub kept : (c : ℕ) → kept_room a.children c ≤ kept_room b.children c
  pub children : length b.children.list.items ≡ length a.children.list.items

pub waits_kept : (a b : Node) (n : ℕ) → KeepsRoom a b → WaitsRoom n a → WaitsRoom n b
waits_kept a b n keeps has = let more = keeps.waiting in omega (arith, more, has)

pub kept_kept : (a b : Node) (c n : ℕ) → KeepsRoom a b → KeptRoom c n a → KeptRoom c n b
kept_kept a b c n keeps has within =
    let few = keeps.children in
    let more = keeps.kept c in
    let was = has (omega (arith, few, within)) in
    omega (arith, more, was)

-- then room stays everywhere
pub rooms_kept : (old new : Arena) (i : ℕ) (a b : Node) → new.ready ≡ old.ready → new.nodes.items ≡ set old.nodes.items i b → a ≡ get_or old.nodes.items i a → KeepsRoom a b
    → (other : Target) (m : ℕ) → HasRoom other m old → HasRoom other m new
rooms_kept old new i a b ready nodes read keeps target.Out m has = subst (λ r. m ≤ deque_capacity r - deque_len r) (sym ready) has
rooms_kept old new i a b ready nodes read keeps (target.Node j) m has =
    subst (λ ns. At (WaitsRoom m) ns j) (sym nodes) (at_kept (WaitsRoom m) old.nodes.items i j a b read (waits_kept a b m keeps) has)
rooms_kept old new i a b ready nodes read keeps (target.Child j c) m has =
    subst (λ ns. At (KeptRoom c m) ns j) (sym nodes) (at_kept (KeptRoom c m) old.nodes.items i j a b read (kept_kept a b c m keeps) has)

-- room stays where another node changes
pub room_stays : (goes : Target) (n i : ℕ) (b : Node) (old new : Arena) → new.ready ≡ old.ready → new.nodes.items ≡ set old.nodes.items i b → written goes ≢ Some i
    → HasRoom goes n old → HasRoom goes n new
room_stays target.Out n i b old new ready nodes other has = subst (λ r. n ≤ deque_capacity r - deque_len r) (sym ready) has
room_stays (target.Node j) n i b old new ready nodes other has =
    subst (λ ns. At (WaitsRoom n) ns j) (sym nodes) (at_other (WaitsRoom n) old.nodes.items i j b (λ e. other (ap (λ k. Some k) e)) has)
room_stays (target.Child j c) n i b old new ready nodes other has =
    subst (λ ns. At (KeptRoom c n) ns j) (sym nodes) (at_other (KeptRoom c n) old.nodes.items i j b (λ e. other (ap (λ k. Some k) e)) has)

-- as many children, where the node is seen the same
pub as_many : (a b : Node) → node_of b ≡ node_of a → length b.children.list.items ≡ length a.children.list.items
as_many a b same =
    sym (length-map b.children.list.items child_of) ∙ ap (λ (n : view.Node). length n.children) same ∙ length-map a.children.list.items child_of

-- a node whose queue got more room, and one whose kept entries did
pub keeps_waits : (a b : Node) → room a.waiting ≤ room b.waiting → b.children ≡ a.children → KeepsRoom a b
keeps_waits a b more same = record {
  waiting = more;
  kept = λ c. let e : kept_room b.children c ≡ kept_room a.children c = ap (λ cs. kept_room cs c) same in omega (arith, e);
  children = ap (λ (cs : Children). length cs.list.items) same;
}

pub keeps_kept : (a b : Node) → b.waiting ≡ a.waiting → ((c : ℕ) → kept_room a.children c ≤ kept_room b.children c) → node_of b ≡ node_of a → KeepsRoom a b
keeps_kept a b same more seen = record {
  waiting = let e : room b.waiting ≡ room a.waiting = ap room same in omega (arith, e);
  kept = more;
  children = as_many a b seen;
}

-- a node that got one entry has room for one less
pub waits_less : (a b : Node) (n : ℕ) → room b.waiting + 1 ≡ room a.waiting → WaitsRoom (n + 1) a → WaitsRoom n b
waits_less a b n less has = omega (arith, less, has)

pub kept_less : (a b : Node) (c n : ℕ) → (c < length a.children.list.items → kept_room b.children c + 1 ≡ kept_room a.children c) → length b.children.list.items ≡ length a.children.list.items
    → KeptRoom c (n + 1) a → KeptRoom c n b
kept_less a b c n less same has within =
    let was : c < length a.children.list.items = omega (arith, same, within) in
    let one = less was in
    let more = has was in
    omega (arith, one, more)

-- room for so many is room for fewer
pub room_less : (goes : Target) (n m : ℕ) (arena : Arena) → m ≤ n → HasRoom goes n arena → HasRoom goes m arena
room_less target.Out n m arena few has = omega (arith, few, has)
room_less (target.Node i) n m arena few has = λ node got. let more = has node got in omega (arith, few, more)
room_less (target.Child i c) n m arena few has = λ node got within. let more = has node got within in omega (arith, few, more)

pub room_for_one : {X : Type 0} (goes : Target) (arena : Arena) (x : X) (xs ys : List X) → ys ≡ x ∷ xs → HasRoom goes (length ys) arena → HasRoom goes 1 arena
room_for_one goes arena x xs ys is has = let long = ap (λ zs. length zs) is in room_less goes (length ys) 1 arena (omega (arith, long)) has

pub room_for_rest : {X : Type 0} (goes : Target) (arena : Arena) (x : X) (xs ys : List X) → ys ≡ x ∷ xs → HasRoom goes (length ys) arena → HasRoom goes (length xs + 1) arena
room_for_rest goes arena x xs ys is has = let long = ap (λ zs. length zs) is in room_less goes (length ys) (length xs + 1) arena (omega (arith, long)) has

pub quiet_twice : (a b c : Arena) → IsQuiet a b → IsQuiet b c → IsQuiet a c
quiet_twice a b c first second = record { places = second.places ∙ first.places; agenda = second.agenda ∙ first.agenda }
