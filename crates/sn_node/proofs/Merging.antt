-- A merge, in the view.
use Rattle.std.proofs.Common.{◌≡◌, ℕ, zero, suc, Bool, true, false, cond, ◌&&◌, List, [], ◌∷◌, refl, sym, ap, ◌∙◌}
use Rattle.std.specs.Prelude.{slice_get, Option, Some, None, is_some, unwrap_or}
use Rattle.std.specs.Option.{option_map}
use Rattle.sn_streams.specs.Keys.{key_eq}
use Rattle.sn_view.specs.Epochs.{Epochs, marked, stands_at_output, is_passed, moved_on}
use Rattle.sn_net.specs.Item.{ModelItem}
use Rattle.sn_view.specs.View.{Entry, It, Mark, End, Turn, To, Own, State, Alone, Cell, InTurn, Freely, Child, Node, View, Merge, first_of, rest_of, changed_at, at_node}
use Rattle.sn_view.specs.Next.{if_node, node_at, enabled, after, keeps, takes_kept, send, may_merge_by, may_merge, merges_by, det_merges, free_merges, group_gives, mark_passes, kept_of, is_turn_of, has_entry}
use Rattle.sn_node.specs.Merged.{Moved, merged, state_moved, det_moved, turn_moved, group_moved, free_moved, epoch_moved, mark_moved}
use Rattle.sn_node.proofs.Sending.{send-nil}

-- a change of the element that stands there is that element changed
pub changed-const : (f : Node → Node) (i : ℕ) (xs : List Node) (a : Node) → slice_get xs i ≡ Some a → changed_at i f xs ≡ changed_at i (λ old. f a) xs
changed-const f i [] a is = refl
changed-const f zero (x ∷ xs) a is = let get : Option Node → Node = λ o. unwrap_or o x in ap (λ y. f y ∷ xs) (ap get is)
changed-const f (suc i) (x ∷ xs) a is = ap (λ ys. x ∷ ys) (changed-const f i xs a is)

module _ (i : ℕ) (n : Node) (g : View) (here : node_at i g ≡ Some n) where
  abbrev out_of : Moved → View
  out_of m = send n.goes m.entries (record g { nodes = changed_at i (λ old. m.node) g.nodes })

  abbrev then_of : Option Moved → View
  then_of None = g
  then_of (Some m) = out_of m

  moves : (f : Node → Node) (es : List (Entry ModelItem)) → send n.goes es (at_node i f g) ≡ send n.goes es (record g { nodes = changed_at i (λ old. f n) g.nodes })
  moves f es = ap (λ ns. send n.goes es (record g { nodes = ns })) (changed-const f i g.nodes n here)

  moves-nil : (f : Node → Node) → at_node i f g ≡ send n.goes [] (record g { nodes = changed_at i (λ old. f n) g.nodes })
  moves-nil f = sym (send-nil n.goes (at_node i f g)) ∙ moves f []

  group_is : (c : ℕ) (ds : List (Entry Turn)) (e : Option (Entry ModelItem)) → group_gives i n c ds e g ≡ then_of (group_moved n c ds e)
  group_is c ds (Some (It y)) = moves (takes_kept c) (It y ∷ [])
  group_is c ds (Some Mark) = moves-nil (λ n. keeps (InTurn (rest_of ds)) (takes_kept c n))
  group_is c ds (Some End) = moves-nil (takes_kept c)
  group_is c ds None = refl

  mark_is : (b : Bool) (c : ℕ) (e : Epochs) → is_passed e ≡ b → mark_passes i n c e g ≡ then_of (mark_moved b n c e)
  mark_is true c e is =
      let F : Bool → View = λ b. cond b (send n.goes (Mark ∷ []) (at_node i (λ n. keeps (Freely (moved_on e)) (takes_kept c n)) g)) (at_node i (λ n. keeps (Freely e) (takes_kept c n)) g) in
      ap F is ∙ moves (λ n. keeps (Freely (moved_on e)) (takes_kept c n)) (Mark ∷ [])
  mark_is false c e is =
      let F : Bool → View = λ b. cond b (send n.goes (Mark ∷ []) (at_node i (λ n. keeps (Freely (moved_on e)) (takes_kept c n)) g)) (at_node i (λ n. keeps (Freely e) (takes_kept c n)) g) in
      ap F is ∙ moves-nil (λ n. keeps (Freely e) (takes_kept c n))

  free_is : (c : ℕ) (e : Epochs) (k : Option (Entry ModelItem)) → free_merges i n c e k g ≡ then_of (free_moved n c e k)
  free_is c e (Some (It y)) = moves (takes_kept c) (It y ∷ [])
  free_is c e (Some Mark) = mark_is (is_passed (marked c e)) c (marked c e) refl
  free_is c e (Some End) = moves (takes_kept c) (End ∷ [])
  free_is c e None = refl

  -- where it may happen it is that
  abbrev Fits : ℕ → State → Option Child → Option Moved → Type 0
  Fits c s child m = (may_merge_by s c child ≡ is_some m)

  group_some : (c : ℕ) (ds : List (Entry Turn)) (e : Option (Entry ModelItem)) → is_some e ≡ is_some (group_moved n c ds e)
  group_some c ds (Some (It y)) = refl
  group_some c ds (Some Mark) = refl
  group_some c ds (Some End) = refl
  group_some c ds None = refl

  turn_some : (b : Bool) (c : ℕ) (ds : List (Entry Turn)) (child : Child) → b && is_some (first_of child.kept) ≡ is_some (turn_moved b n c ds child)
  turn_some true c ds child = group_some c ds (first_of child.kept)
  turn_some false c ds child = refl

  det_some : (c : ℕ) (ds : List (Entry Turn)) (d : Option (Entry Turn)) (child : Option Child) → is_turn_of d c child && has_entry c child ≡ is_some (det_moved n c ds d child)
  det_some zero ds (Some (It (Own y))) child = refl
  det_some zero ds (Some Mark) child = refl
  det_some zero ds (Some End) child = refl
  det_some zero ds (Some (It (To k))) child = refl
  det_some zero ds None child = refl
  det_some (suc c) ds (Some (It (Own y))) child = refl
  det_some (suc c) ds (Some Mark) child = refl
  det_some (suc c) ds (Some End) child = refl
  det_some (suc c) ds (Some (It (To k))) (Some child) = turn_some (key_eq k child.key) (suc c) ds child
  det_some (suc c) ds (Some (It (To k))) None = refl
  det_some (suc c) ds None child = refl

  mark_some : (b : Bool) (c : ℕ) (e : Epochs) → true ≡ is_some (mark_moved b n c e)
  mark_some true c e = refl
  mark_some false c e = refl

  free_some : (c : ℕ) (e : Epochs) (k : Option (Entry ModelItem)) → is_some k ≡ is_some (free_moved n c e k)
  free_some c e (Some (It y)) = refl
  free_some c e (Some Mark) = mark_some (is_passed (marked c e)) c (marked c e)
  free_some c e (Some End) = refl
  free_some c e None = refl

  epoch_some : (b : Bool) (c : ℕ) (e : Epochs) (child : Child) → b && is_some (first_of child.kept) ≡ is_some (epoch_moved b n c e (Some child))
  epoch_some true c e child = free_some c e (first_of child.kept)
  epoch_some false c e child = refl

  epoch_none : (b : Bool) (c : ℕ) (e : Epochs) → false ≡ is_some (epoch_moved b n c e None)
  epoch_none true c e = refl
  epoch_none false c e = refl

  state_some : (c : ℕ) (s : State) (child : Option Child) → may_merge_by s c child ≡ is_some (state_moved n c s child)
  state_some c Alone child = refl
  state_some c (Cell patterns cell) child = refl
  state_some c (InTurn ds) child = det_some c ds (first_of ds) child
  state_some c (Freely e) (Some child) = epoch_some (stands_at_output e c) c e child
  state_some c (Freely e) None = epoch_none (stands_at_output e c) c e

  pub merge_enabled : (c : ℕ) → enabled g (Merge i c) ≡ is_some (merged n c)
  merge_enabled c =
      let F : Option Node → Bool = λ o. if_node (λ n. may_merge n c) false o in
      ap F here ∙ state_some c n.state (slice_get n.children c)

  -- and what it makes of the graph
  kept_is : (c : ℕ) (child : Option Child) → slice_get n.children c ≡ child → kept_of n.children c ≡ unwrap_or (option_map (λ child. child.kept) child) []
  kept_is c child is = ap (λ o. unwrap_or (option_map (λ child. child.kept) o) []) is

  turn_after : (b : Bool) (c : ℕ) (ds : List (Entry Turn)) (child : Child) (m : Moved) → slice_get n.children c ≡ Some child → turn_moved b n c ds child ≡ Some m
      → group_gives i n c ds (first_of (kept_of n.children c)) g ≡ out_of m
  turn_after true c ds child m there is = ap (λ k. group_gives i n c ds (first_of k) g) (kept_is c (Some child) there) ∙ group_is c ds (first_of child.kept) ∙ ap then_of is
  turn_after false c ds child m there is = absurd (cc)

  det_after : (c : ℕ) (ds : List (Entry Turn)) (d : Option (Entry Turn)) (child : Option Child) (m : Moved) → slice_get n.children c ≡ child → det_moved n c ds d child ≡ Some m
      → det_merges i n c ds d g ≡ out_of m
  det_after zero ds (Some (It (Own y))) child m there is = moves (keeps (InTurn (rest_of ds))) (It y ∷ []) ∙ ap then_of is
  det_after zero ds (Some Mark) child m there is = moves (keeps (InTurn (rest_of ds))) (Mark ∷ []) ∙ ap then_of is
  det_after zero ds (Some End) child m there is = moves (keeps (InTurn (rest_of ds))) (End ∷ []) ∙ ap then_of is
  det_after zero ds (Some (It (To k))) child m there is = absurd (cc)
  det_after zero ds None child m there is = absurd (cc)
  det_after (suc c) ds (Some (It (Own y))) child m there is = absurd (cc)
  det_after (suc c) ds (Some Mark) child m there is = absurd (cc)
  det_after (suc c) ds (Some End) child m there is = absurd (cc)
  det_after (suc c) ds (Some (It (To k))) (Some child) m there is = turn_after (key_eq k child.key) (suc c) ds child m there is
  det_after (suc c) ds (Some (It (To k))) None m there is = absurd (cc)
  det_after (suc c) ds None child m there is = absurd (cc)

  epoch_after : (b : Bool) (c : ℕ) (e : Epochs) (child : Option Child) (m : Moved) → slice_get n.children c ≡ child → epoch_moved b n c e child ≡ Some m
      → free_merges i n c e (first_of (kept_of n.children c)) g ≡ out_of m
  epoch_after true c e (Some child) m there is = ap (λ k. free_merges i n c e (first_of k) g) (kept_is c (Some child) there) ∙ free_is c e (first_of child.kept) ∙ ap then_of is
  epoch_after true c e None m there is = absurd (cc)
  epoch_after false c e (Some child) m there is = absurd (cc)
  epoch_after false c e None m there is = absurd (cc)

  state_after : (c : ℕ) (s : State) (m : Moved) → state_moved n c s (slice_get n.children c) ≡ Some m → merges_by i n c s g ≡ out_of m
  state_after c Alone m is = absurd (cc)
  state_after c (Cell patterns cell) m is = absurd (cc)
  state_after c (InTurn ds) m is = det_after c ds (first_of ds) (slice_get n.children c) m refl is
  state_after c (Freely e) m is = epoch_after (stands_at_output e c) c e (slice_get n.children c) m refl is

  pub merge_after : (c : ℕ) (m : Moved) → merged n c ≡ Some m
      → after g (Merge i c) ≡ send n.goes m.entries (record g { nodes = changed_at i (λ old. m.node) g.nodes })
  merge_after c m is =
      let F : Option Node → View = λ o. if_node (λ n. merges_by i n c n.state g) g o in
      ap F here ∙ state_after c n.state m is
