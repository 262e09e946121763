-- Where no event but Finish is left and no call is in flight, nothing more can come.
use Rattle.std.proofs.Common.{◌≡◌, ℕ, zero, suc, ◌-◌, ◌≤◌, ◌<◌, nat_lt, Bool, true, false, cond, not, ◌&&◌, ◌||◌, ◌==◌, List, [], ◌∷◌, map, drop, length, Option, Some, None, refl, sym, ap, ap₂, ◌∙◌, subst, arith, pred}
use Rattle.std.proofs.Math.ListN.{length-map}
use Rattle.std.specs.Prelude.{slice_get, is_some, unwrap_or}
use Rattle.std.specs.Option.{option_map}
use Rattle.std.specs.List.{list_any, list_all}
use Rattle.sn_streams.specs.Forks.{Router, Merge as StreamMerge, Free, Deterministic}
use Rattle.sn_streams.specs.Keys.{Key, key_eq, is_among, AreDistinct}
use Rattle.sn_streams.specs.Keys as key
use Rattle.sn_streams.specs.Trees.{Fork}
use Rattle.sn_streams.proofs.Keys.{same_key}
use Rattle.sn_record.specs.LabelSet.{Labels}
use Rattle.sn_net.specs.declared.net.Net.{Net}
use Rattle.sn_net.specs.declared.net.Net.TheOpen.{Net-F}
use Rattle.sn_net.specs.Cell.{CellState, Passing}
use Rattle.sn_net.specs.Dispatchers.{Network, merge_of}
use Rattle.sn_net.specs.Item.{ModelItem, Rec, Fault, Stuck}
use Rattle.sn_view.specs.Epochs.{Epochs, stands_at_output}
use Rattle.sn_model.specs.declared.run.Run.{Run}
use Rattle.sn_model.specs.Run.{setting_of, input_of}
use Rattle.sn_view.specs.View.{Entry, It, Mark, End, Waiting, Plain, InFlight, Finished, Turn, To, Own, State, Alone, Cell, InTurn, Freely, Child, Node, View, Take, Start, Local, Route, Unfold, Merge, Emit, first_of}
use Rattle.sn_view.specs.Next.{if_node, form_of, local_of, local_step, has_no_call, is_box, may_start, may_route, may_unfold_then, routing_of, both, plain_entry, router_of, child_of, key_of, is_fork, may_merge, may_merge_by, has_key, next_input}
use Rattle.sn_live.specs.Entries.{Entry as LiveEntry, It as LiveIt, Mark as LiveMark}
use Rattle.sn_live.specs.Live.{Step as LiveStep, stands as stands_in}
use Rattle.sn_live.specs.Parts.{part}
use Rattle.sn_live.specs.Flat.{look, base, steps_eq, QuietTurn, QuietFree, QuietAt}
use Rattle.sn_live.specs.Runs.{AtRest as LiveAtRest}
use Rattle.sn_live.proofs.Arena.{steps_eq-true}
use Rattle.sn_live.proofs.FreeLives.{part-Lives}
use Rattle.sn_live.proofs.Quiet.{quiet-from, base-quiet, quiet-at}
use Rattle.sn_live.proofs.Rest.{part-Rests, whole}
use Rattle.sn_view.specs.Seen.{step_of, erased, entry_of, own_groups, seen_turns, kept_by_key, epoch_by_key, seen_kept, seen_node, seen, live_of, tree_of, running, Can}
use Rattle.sn_view.specs.Placed.{Kind, IsAlone, IsCell, IsInTurn, IsFreely, kind_of, fork_kind, IsFork, HasKind, fit, shape_of, Door, door_of, HasKey, Stands, WellPlaced, IsSane, NoneInFlight, AtRest, AllPlain, AreBetween, IsOrderlyState, IsOrderly}
use Rattle.sn_view.proofs.Lists.{there-map, position-passes}
use Rattle.sn_view.proofs.Children.{keys_of, keys-of-doors, kept-here, epoch-here, key-among}
use Rattle.sn_view.proofs.Events.{ForkAt, fork-at, in-turn, freely, differ}

contradiction : {X : Type 0} → true ≡ false → X
contradiction h = cc

-- components
box-none : (run : Run) (place number : ℕ) (ws : List Waiting) → NoneInFlight ws → is_some (local_step run (Some (Net-F.Box place number)) Alone (first_of ws)) ≡ false → list_any has_no_call ws ≡ false → ws ≡ []
box-none run place number [] f l s = refl
box-none run place number (Plain (It (Rec r)) ∷ ws) f l s = contradiction s
box-none run place number (Plain (It (Fault x)) ∷ ws) f l s = contradiction l
box-none run place number (Plain (It (Stuck x)) ∷ ws) f l s = contradiction l
box-none run place number (Plain Mark ∷ ws) f l s = contradiction l
box-none run place number (Plain End ∷ ws) f l s = contradiction l
box-none run place number (InFlight call r ∷ ws) f l s = absurd f
box-none run place number (Finished r ∷ ws) f l s = contradiction l

filter-none : (run : Run) (filter : _) (ws : List Waiting) → AllPlain ws → is_some (local_step run (Some (Net-F.Filter filter)) Alone (first_of ws)) ≡ false → ws ≡ []
filter-none run filter [] p l = refl
filter-none run filter (Plain e ∷ ws) p l = contradiction l
filter-none run filter (InFlight call r ∷ ws) p l = absurd p
filter-none run filter (Finished r ∷ ws) p l = absurd p

cell-none : (run : Run) (place : ℕ) (own patterns : List Labels) (c : CellState) (ws : List Waiting) → AllPlain ws → is_some (local_step run (Some (Net-F.Sync place own)) (Cell patterns c) (first_of ws)) ≡ false → ws ≡ []
cell-none run place own patterns c [] p l = refl
cell-none run place own patterns c (Plain e ∷ ws) p l = contradiction l
cell-none run place own patterns c (InFlight call r ∷ ws) p l = absurd p
cell-none run place own patterns c (Finished r ∷ ws) p l = absurd p

fork-none : (n : Node) (r : Router ModelItem) (ws : List Waiting) → AllPlain ws → is_fork n.state ≡ true → may_route n (both (Some r) (plain_entry (first_of ws))) ≡ false
    → may_unfold_then n (both (Some r) (plain_entry (first_of ws))) ≡ false → ws ≡ []
fork-none n r [] p f a b = refl
fork-none n r (InFlight call x ∷ ws) p f a b = absurd p
fork-none n r (Finished x ∷ ws) p f a b = absurd p
fork-none n r (Plain x ∷ ws) p f a b =
    at (child_of n.children (key_of r x)) (sym (ap (λ (v : Bool). v && is_some (child_of n.children (key_of r x))) f) ∙ a) (sym (ap (λ (v : Bool). v && not (is_some (child_of n.children (key_of r x)))) f) ∙ b)
  where
    at : (o : Option ℕ) → (true && is_some o) ≡ false → (true && not (is_some o)) ≡ false → Plain x ∷ ws ≡ []
    at None a b = contradiction b
    at (Some c) a b = contradiction a

alone-state : (st : State) → kind_of st ≡ IsAlone → st ≡ Alone
alone-state Alone e = refl
alone-state (Cell patterns c) e = cc
alone-state (InTurn ds) e = cc
alone-state (Freely q) e = cc

-- what is kept of a child that is not there
kept-absent : (cs : List Child) (k : Key) → is_among k (keys_of cs) ≡ false → kept_by_key cs k ≡ []
kept-absent [] k h = refl
kept-absent (c ∷ cs) k h = at (key_eq k c.key) h (kept-absent cs k)
  where
    at : (b : Bool) → cond b true (is_among k (keys_of cs)) ≡ false → (is_among k (keys_of cs) ≡ false → kept_by_key cs k ≡ []) → cond b (erased c.kept) (kept_by_key cs k) ≡ []
    at true u later = contradiction u
    at false u later = later u

among-there : (cs : List Child) (k : Key) → is_among k (keys_of cs) ≡ true → (c : ℕ) × (y : Child) × (slice_get cs c ≡ Some y) × (k ≡ y.key)
among-there [] k h = cc
among-there (x ∷ cs) k h = at (key_eq k x.key) refl h (among-there cs k)
  where
    at : (b : Bool) → key_eq k x.key ≡ b → cond b true (is_among k (keys_of cs)) ≡ true → (is_among k (keys_of cs) ≡ true → (c : ℕ) × (y : Child) × (slice_get cs c ≡ Some y) × (k ≡ y.key))
        → (c : ℕ) × (y : Child) × (slice_get (x ∷ cs) c ≡ Some y) × (k ≡ y.key)
    at true t u later = (0, x, refl, same_key k x.key t)
    at false t u later = let r : (c : ℕ) × (y : Child) × (slice_get cs c ≡ Some y) × (k ≡ y.key) = later u in (suc r.0, r.1, r.2, r.3)

same-place : {X Y : Type 0} (xs : List X) (ys : List Y) (c : ℕ) (x : X) → slice_get xs c ≡ Some x → length ys ≡ length xs → (y : Y) × (slice_get ys c ≡ Some y)
same-place [] ys c x e l = cc
same-place (z ∷ xs) [] c x e l = cc
same-place (z ∷ xs) (y ∷ ys) zero x e l = (y, refl)
same-place (z ∷ xs) (y ∷ ys) (suc c) x e l = same-place xs ys c x e (ap pred l)

all-from : (p : ℕ → Bool) (ns : List ℕ) → ((c m : ℕ) → slice_get ns c ≡ Some m → p m ≡ true) → list_all p ns ≡ true
all-from p [] h = refl
all-from p (n ∷ ns) h = ap (λ (b : Bool). b && list_all p ns) (h 0 n refl) ∙ all-from p ns (λ c m e. h (suc c) m e)

empty-first : {X : Type 0} (xs : List X) → is_some (first_of xs) ≡ false → xs ≡ []
empty-first [] h = refl
empty-first (x ∷ xs) h = contradiction h

drop-none : {X : Type 0} (xs : List X) (i : ℕ) → slice_get xs i ≡ None → drop i xs ≡ []
drop-none [] zero e = refl
drop-none [] (suc i) e = refl
drop-none (x ∷ xs) zero e = cc
drop-none (x ∷ xs) (suc i) e = drop-none xs i e

-- an epoch of those that are between
between-at : (low high : ℕ) (ms : List ℕ) (c m : ℕ) → AreBetween low high ms → slice_get ms c ≡ Some m → (low ≤ m) × (m ≤ high)
between-at low high [] c m h e = cc
between-at low high (x ∷ ms) zero m (a, b, h) e = let u : x ≡ m = cc in subst (λ (y : ℕ). (low ≤ y) × (y ≤ high)) u (a, b)
between-at low high (x ∷ ms) (suc c) m (a, b, h) e = between-at low high ms c m h e

module _ (g : View) (placed : WellPlaced g) (rest : AtRest g) (orderly : IsOrderly g) where
  module _ (i : ℕ) (n : Node) (e : slice_get g.nodes i ≡ Some n) where
    not-at : (f : Node → Bool) → if_node f false (slice_get g.nodes i) ≡ false → f n ≡ false
    not-at f h = sym (ap (λ (o : Option Node). if_node f false o) e) ∙ h

    stands : Stands (tree_of g) g.run (map shape_of g.nodes) (shape_of n)
    stands = placed.all i (shape_of n) (there-map shape_of g.nodes i n e)

    not-local : is_some (local_of g n) ≡ false
    not-local = not-at (λ m. is_some (local_of g m)) (rest.none_enabled (Local i))

    not-start : may_start g n ≡ false
    not-start = not-at (may_start g) (rest.none_enabled (Start i))

    not-route : may_route n (routing_of g n) ≡ false
    not-route = not-at (λ m. may_route m (routing_of g m)) (rest.none_enabled (Route i))

    not-unfold : may_unfold_then n (routing_of g n) ≡ false
    not-unfold = not-at (λ m. may_unfold_then m (routing_of g m)) (rest.none_enabled (Unfold i))

    not-merge : (c : ℕ) → may_merge n c ≡ false
    not-merge c = not-at (λ m. may_merge m c) (rest.none_enabled (Merge i c))

    distinct : AreDistinct (keys_of n.children)
    distinct = subst AreDistinct (keys-of-doors n.children) stands.keys

    plain : (form : Net-F Net) → form_of g n ≡ Some form → is_box (Some form) ≡ false → AllPlain n.waiting
    plain form h b = (orderly i n e).calls (ap is_box h ∙ b)

    seen-none : n.waiting ≡ [] → (seen_node n).waiting ≡ []
    seen-none h = ap (λ (w : List Waiting). erased (map entry_of w)) h

    fork-state : (st : State) → IsFork (kind_of st) → is_fork st ≡ true
    fork-state Alone f = absurd f
    fork-state (Cell patterns c) f = absurd f
    fork-state (InTurn ds) f = refl
    fork-state (Freely q) f = refl

    -- a deterministic dispatcher
    turn-quiet : (ds : List (Entry Turn)) → n.state ≡ InTurn ds → n.waiting ≡ [] → QuietTurn (seen_node n)
    turn-quiet ds st none = record {
      waits = seen-none none;
      first_waits = λ k d h. ap (λ (s : State). seen_kept s n.children k) st ∙ first ds refl k d (sym (ap (λ (s : State). (seen_node (record n { state = s })).decisions) st) ∙ h);
      no_mark = λ d h. no-mark ds refl d (sym (ap (λ (s : State). (seen_node (record n { state = s })).decisions) st) ∙ h);
    }
      where
        not-turn : (c : ℕ) → may_merge_by (InTurn ds) c (slice_get n.children c) ≡ false
        not-turn c = ap (λ (s : State). may_merge_by s c (slice_get n.children c)) (sym st) ∙ not-merge c

        with-first : (q : List (Entry Turn)) → ds ≡ q → (c : ℕ) → may_merge_by (InTurn q) c (slice_get n.children c) ≡ false
        with-first q u c = ap (λ (d : List (Entry Turn)). may_merge_by (InTurn d) c (slice_get n.children c)) (sym u) ∙ not-turn c

        of_child : (k : Key) (q : List (Entry Turn)) → ds ≡ It (To k) ∷ q → key_eq k key.Own ≡ false → (o : Option ℕ) → child_of n.children k ≡ o → kept_by_key n.children k ≡ []
        of_child k q u past None h = kept-absent n.children k (differ k n.children h)
        of_child k q u past (Some zero) h =
            let y : (x : Child) × (slice_get n.children 0 ≡ Some x) × (key_eq k x.key ≡ true) = position-passes (has_key k) n.children 0 h in
            let own : HasKey (map door_of n.children) 0 key.Own = stands.own_first (subst IsFork (sym (ap kind_of st)) tt) in
            let d : door_of y.0 ≡ own.0 = (let v : Some (door_of y.0) ≡ Some own.0 = sym (there-map door_of n.children 0 y.0 y.1) ∙ own.1 in cc) in
            contradiction (sym y.2 ∙ ap (λ (j : Key). key_eq k j) (ap (λ (x : Door). x.key) d ∙ own.2) ∙ past)
        of_child k q u past (Some (suc c)) h =
            let y : (x : Child) × (slice_get n.children (suc c) ≡ Some x) × (key_eq k x.key ≡ true) = position-passes (has_key k) n.children (suc c) h in
            let m : (key_eq k y.0.key && is_some (first_of y.0.kept)) ≡ false = sym (ap (λ (o : Option Child). may_merge_by (InTurn (It (To k) ∷ q)) (suc c) o) y.1) ∙ with-first (It (To k) ∷ q) u (suc c) in
            let none : y.0.kept ≡ [] = empty-first y.0.kept (sym (ap (λ (b : Bool). b && is_some (first_of y.0.kept)) y.2) ∙ m) in
            ap (kept_by_key n.children) (same_key k y.0.key y.2) ∙ kept-here n.children (suc c) y.0 y.1 distinct ∙ ap erased none

        first : (q : List (Entry Turn)) → ds ≡ q → (k : Key) (d : List (LiveEntry Key)) → seen_turns q ≡ LiveIt k ∷ d → seen_kept (InTurn ds) n.children k ≡ []
        first [] u k d h = cc
        first (It (Own y) ∷ q) u k d h = contradiction (with-first (It (Own y) ∷ q) u 0)
        first (Mark ∷ q) u k d h = cc
        first (End ∷ q) u k d h = contradiction (with-first (End ∷ q) u 0)
        first (It (To j) ∷ q) u k d h =
            let same : j ≡ k = cc in
            let past : key_eq j key.Own ≡ false = (subst IsOrderlyState (st ∙ ap (λ (x : List (Entry Turn)). InTurn x) u) (orderly i n e).state).0 in
            subst (λ (l : Key). seen_kept (InTurn ds) n.children l ≡ []) same
            ((let F : Bool → List (LiveEntry ModelItem) = λ b. cond b (own_groups ds) (kept_by_key n.children j) in ap F past)
            ∙ of_child j q u past (child_of n.children j) refl)

        no-mark : (q : List (Entry Turn)) → ds ≡ q → (d : List (LiveEntry Key)) → seen_turns q ≡ LiveMark ∷ d → ⊥
        no-mark [] u d h = cc
        no-mark (It (Own y) ∷ q) u d h = cc
        no-mark (It (To j) ∷ q) u d h = cc
        no-mark (Mark ∷ q) u d h = contradiction (with-first (Mark ∷ q) u 0)
        no-mark (End ∷ q) u d h = contradiction (with-first (End ∷ q) u 0)

    -- a free one
    free-quiet : (q : Epochs) → n.state ≡ Freely q → length q.children ≡ length n.children → n.waiting ≡ [] → QuietFree (seen_node n)
    free-quiet q st fits none = record {
      waits = seen-none none;
      none_there = λ k h. ap (λ (s : State). seen_kept s n.children k) st ∙ there k (is_among k (keys_of n.children)) refl (sym (stood k) ∙ h);
      not_past = λ h. past (λ k. ((h k).0, sym (stood k) ∙ (h k).1));
    }
      where
        abbrev-stood : Key → ℕ
        abbrev-stood k = cond (is_among k (keys_of n.children)) (epoch_by_key n.children q.children k - q.output) (q.input - q.output)

        stood : (k : Key) → stands_in (seen_node n) k ≡ abbrev-stood k
        stood k = ap (λ (s : State). stands_in (seen_node (record n { state = s })) k) st

        ordered : AreBetween q.output q.input q.children × (list_all (λ epoch. nat_lt q.output epoch) q.children ≡ false)
        ordered = subst IsOrderlyState st (orderly i n e).state

        epoch-of : (c : ℕ) (y : Child) → slice_get n.children c ≡ Some y → (m : ℕ) × (slice_get q.children c ≡ Some m) × (epoch_by_key n.children q.children y.key ≡ m)
        epoch-of c y h =
            let m : (x : ℕ) × (slice_get q.children c ≡ Some x) = same-place n.children q.children c y h fits in
            (m.0, m.1, epoch-here n.children c y q.children m.0 h m.1 distinct)

        at-output : (m : ℕ) → m ≡ q.output → (m == q.output) ≡ true
        at-output m h = grind (arith, h)

        there : (k : Key) (b : Bool) → is_among k (keys_of n.children) ≡ b → abbrev-stood k ≡ 0 → kept_by_key n.children k ≡ []
        there k false a h = kept-absent n.children k a
        there k true a h =
            let y : (c : ℕ) × (y : Child) × (slice_get n.children c ≡ Some y) × (k ≡ y.key) = among-there n.children k a in
            let m : (x : ℕ) × (slice_get q.children y.0 ≡ Some x) × (epoch_by_key n.children q.children y.1.key ≡ x) = epoch-of y.0 y.1 y.2 in
            let low : (q.output ≤ m.0) × (m.0 ≤ q.input) = between-at q.output q.input q.children y.0 m.0 ordered.0 m.1 in
            let z : epoch_by_key n.children q.children k - q.output ≡ 0 =
            sym (let F : Bool → ℕ = λ b. cond b (epoch_by_key n.children q.children k - q.output) (q.input - q.output) in ap F a) ∙ h in
            let w : epoch_by_key n.children q.children k ≡ m.0 = ap (epoch_by_key n.children q.children) y.3 ∙ m.2 in
            let same : m.0 ≡ q.output = (let l : q.output ≤ m.0 = low.0 in omega (arith, z, w, l)) in
            let at : stands_at_output q y.0 ≡ true = ap (λ (o : Option ℕ). unwrap_or (option_map (λ epoch. epoch == q.output) o) false) m.1 ∙ at-output m.0 same in
            let may : (stands_at_output q y.0 && is_some (first_of y.1.kept)) ≡ false =
            sym (ap (λ (o : Option Child). may_merge_by (Freely q) y.0 o) y.2) ∙ ap (λ (s : State). may_merge_by s y.0 (slice_get n.children y.0)) (sym st) ∙ not-merge y.0 in
            let none : y.1.kept ≡ [] = empty-first y.1.kept (sym (ap (λ (b : Bool). b && is_some (first_of y.1.kept)) at) ∙ may) in
            ap (kept_by_key n.children) y.3 ∙ kept-here n.children y.0 y.1 y.2 distinct ∙ ap erased none

        past : ((k : Key) → (m : ℕ) × (abbrev-stood k ≡ suc m)) → ⊥
        past h = contradiction (sym all ∙ ordered.1)
          where
            beyond : (c : ℕ) (y : Child) (m : ℕ) → slice_get n.children c ≡ Some y → slice_get q.children c ≡ Some m → q.output < m
            beyond c y m u v =
                let k : epoch_by_key n.children q.children y.key ≡ m = epoch-here n.children c y q.children m u v distinct in
                let a : epoch_by_key n.children q.children y.key - q.output ≡ suc ((h y.key).0) =
                sym (let F : Bool → ℕ = λ b. cond b (epoch_by_key n.children q.children y.key - q.output) (q.input - q.output) in ap F (key-among n.children c y u)) ∙ (h y.key).1 in
                omega (arith, k, a)

            less : (a b : ℕ) → a < b → nat_lt a b ≡ true
            less a b u = grind (arith, u)

            all : list_all (λ epoch. nat_lt q.output epoch) q.children ≡ true
            all = all-from (λ epoch. nat_lt q.output epoch) q.children (λ c m v.
                let y : (x : Child) × (slice_get n.children c ≡ Some x) = same-place q.children n.children c m v (sym fits) in
                less q.output m (beyond c y.0 m y.1 v))

    is-dispatcher : (m : _) (k : Kind) → k ≡ fork_kind (merge_of m) (length (map door_of n.children)) → IsFork k
    is-dispatcher m k h = subst IsFork (sym h) (at (merge_of m))
      where
        at : (v : StreamMerge) → IsFork (fork_kind v (length (map door_of n.children)))
        at Free = tt
        at Deterministic = tt

    -- a dispatcher
    fork-quiet : (f : ForkAt (fit (setting_of g.run) stands.form n.left) stands.form n.left (length (map door_of n.children)) (kind_of n.state)) → IsFork (kind_of n.state) → is_box (Some stands.form) ≡ false
        → QuietAt (fit (setting_of g.run) stands.form n.left) [] (seen_node n)
    fork-quiet f k b = subst (λ (t : Network). QuietAt t [] (seen_node n)) (sym f.is) (by-state n.state refl)
      where
        routes : router_of (form_of g n) n.left ≡ Some f.sends
        routes = ap (λ (o : Option (Net-F Net)). router_of o n.left) stands.is_form ∙ f.routes

        none : n.waiting ≡ []
        none = fork-none n f.sends n.waiting (plain stands.form stands.is_form b) (fork-state n.state k)
            (ap (λ (o : Option (Router ModelItem)). may_route n (both o (plain_entry (first_of n.waiting)))) (sym routes) ∙ not-route)
            (ap (λ (o : Option (Router ModelItem)). may_unfold_then n (both o (plain_entry (first_of n.waiting)))) (sym routes) ∙ not-unfold)

        by-state : (st : State) → n.state ≡ st → QuietAt (Fork f.merge f.sends f.child) [] (seen_node n)
        by-state Alone h = absurd (subst (λ (s : State). IsFork (kind_of s)) h k)
        by-state (Cell patterns c) h = absurd (subst (λ (s : State). IsFork (kind_of s)) h k)
        by-state (InTurn ds) h =
            subst (λ (m : StreamMerge). QuietAt (Fork m f.sends f.child) [] (seen_node n)) (sym (in-turn f.merge (length (map door_of n.children)) (sym (ap kind_of h) ∙ f.kind))) (turn-quiet ds h none)
        by-state (Freely q) h =
            let u : (f.merge ≡ Free) × (length q.children ≡ length (map door_of n.children)) × (nat_lt q.input q.output ≡ false) =
            freely f.merge (length (map door_of n.children)) (length q.children) (nat_lt q.input q.output) (sym (ap kind_of h) ∙ f.kind) in
            subst (λ (m : StreamMerge). QuietAt (Fork m f.sends f.child) [] (seen_node n)) (sym u.0) (free-quiet q h (u.1 ∙ length-map n.children door_of) none)

    by-form : (form : Net-F Net) → stands.form ≡ form → HasKind form (length (map door_of n.children)) (kind_of n.state) → QuietAt (fit (setting_of g.run) stands.form n.left) [] (seen_node n)
    by-form (Net-F.Box place number) h k =
        let f : form_of g n ≡ Some (Net-F.Box place number) = stands.is_form ∙ ap (λ (z : Net-F Net). let o : Option (Net-F Net) = Some z in o) h in
        let st : n.state ≡ Alone = alone-state n.state k in
        subst (λ (z : Net-F Net). QuietAt (fit (setting_of g.run) z n.left) [] (seen_node n)) (sym h)
        (seen-none (box-none g.run place number n.waiting (rest.no_call i n e)
        (ap₂ (λ (o : Option (Net-F Net)) (s : State). is_some (local_step g.run o s (first_of n.waiting))) (sym f) (sym st) ∙ not-local)
        (ap (λ (o : Option (Net-F Net)). is_box o && list_any has_no_call n.waiting) (sym f) ∙ not-start)))
    by-form (Net-F.Filter filter) h k =
        let f : form_of g n ≡ Some (Net-F.Filter filter) = stands.is_form ∙ ap (λ (z : Net-F Net). let o : Option (Net-F Net) = Some z in o) h in
        let st : n.state ≡ Alone = alone-state n.state k in
        subst (λ (z : Net-F Net). QuietAt (fit (setting_of g.run) z n.left) [] (seen_node n)) (sym h)
        (seen-none (filter-none g.run filter n.waiting (plain (Net-F.Filter filter) f refl)
        (ap₂ (λ (o : Option (Net-F Net)) (s : State). is_some (local_step g.run o s (first_of n.waiting))) (sym f) (sym st) ∙ not-local)))
    by-form (Net-F.Sync place own) h k =
        let f : form_of g n ≡ Some (Net-F.Sync place own) = stands.is_form ∙ ap (λ (z : Net-F Net). let o : Option (Net-F Net) = Some z in o) h in
        subst (λ (z : Net-F Net). QuietAt (fit (setting_of g.run) z n.left) [] (seen_node n)) (sym h)
        (seen-none (at f n.state refl k))
      where
        at : form_of g n ≡ Some (Net-F.Sync place own) → (st : State) → n.state ≡ st → kind_of n.state ≡ IsCell own → n.waiting ≡ []
        at f Alone s k = never-kind (sym (ap kind_of s) ∙ k)
          where
            never-kind : IsAlone ≡ IsCell own → n.waiting ≡ []
            never-kind u = cc
        at f (InTurn ds) s k = never-kind (sym (ap kind_of s) ∙ k)
          where
            never-kind : IsInTurn ≡ IsCell own → n.waiting ≡ []
            never-kind u = cc
        at f (Freely q) s k = never-kind (sym (ap kind_of s) ∙ k)
          where
            never-kind : IsFreely (length q.children) (nat_lt q.input q.output) ≡ IsCell own → n.waiting ≡ []
            never-kind u = cc
        at f (Cell patterns c) s k =
            cell-none g.run place own patterns c n.waiting (plain (Net-F.Sync place own) f refl)
            (ap₂ (λ (o : Option (Net-F Net)) (t : State). is_some (local_step g.run o t (first_of n.waiting))) (sym f) (sym s) ∙ not-local)
    by-form (Net-F.Serial l r) h k = absurd k
    by-form (Net-F.Choice place m branches faces) h k = fork-quiet (fork-at (setting_of g.run) stands.form n.left (length (map door_of n.children)) (kind_of n.state) stands.has_kind (is-dispatcher m (kind_of n.state) k)) (is-dispatcher m (kind_of n.state) k) (ap (λ (z : Net-F Net). is_box (Some z)) h)
    by-form (Net-F.Star place m body exit guard) h k = fork-quiet (fork-at (setting_of g.run) stands.form n.left (length (map door_of n.children)) (kind_of n.state) stands.has_kind (is-dispatcher m (kind_of n.state) k)) (is-dispatcher m (kind_of n.state) k) (ap (λ (z : Net-F Net). is_box (Some z)) h)
    by-form (Net-F.Split place m body id) h k = fork-quiet (fork-at (setting_of g.run) stands.form n.left (length (map door_of n.children)) (kind_of n.state) stands.has_kind (is-dispatcher m (kind_of n.state) k)) (is-dispatcher m (kind_of n.state) k) (ap (λ (z : Net-F Net). is_box (Some z)) h)

  look-quiet : (ns : List Node) (q : List LiveStep) → ((j : ℕ) (m : Node) → slice_get ns j ≡ Some m → QuietAt (tree_of g) (map step_of m.steps) (seen_node m)) → QuietAt (tree_of g) q (look (base Passing (tree_of g)) (map seen ns) q)
  look-quiet [] q h = base-quiet Passing (tree_of g) q
  look-quiet (m ∷ ns) q h = at (steps_eq q (map step_of m.steps)) refl (h 0 m refl) (look-quiet ns q (λ j x u. h (suc j) x u))
    where
      at : (b : Bool) → steps_eq q (map step_of m.steps) ≡ b → QuietAt (tree_of g) (map step_of m.steps) (seen_node m) → QuietAt (tree_of g) q (look (base Passing (tree_of g)) (map seen ns) q)
          → QuietAt (tree_of g) q (cond b (seen_node m) (look (base Passing (tree_of g)) (map seen ns) q))
      at false u here later = later
      at true u here later = subst (λ (w : List LiveStep). QuietAt (tree_of g) w (seen_node m)) (sym (steps_eq-true q (map step_of m.steps) u)) here

  rests : LiveAtRest (part (tree_of g)) (running g)
  rests = record {
    none_todo = drop-none (input_of g.run) g.taken (no-input (next_input g) refl (rest.none_enabled Take));
    none_ready = ap erased (empty-first g.ready (rest.none_enabled Emit));
    is_quiet = quiet-from (tree_of g) (live_of g) (λ q. look-quiet g.nodes q (λ j m u.
        let s : Stands (tree_of g) g.run (map shape_of g.nodes) (shape_of m) = stands j m u in
        quiet-at (tree_of g) (map step_of m.steps) (fit (setting_of g.run) s.form m.left) (seen_node m) s.fits (by-form j m u s.form refl s.has_kind)));
  }
    where
      no-input : (o : Option ModelItem) → next_input g ≡ o → (is_some (next_input g) || not g.ended) ≡ false → next_input g ≡ None
      no-input None h u = h
      no-input (Some x) h u = contradiction (ap (λ (o : Option ModelItem). is_some o || not g.ended) (sym h) ∙ u)

  pub nothing-more : IsSane g → (ys : List ModelItem) → Can g ys → ys ≡ g.out
  nothing-more s ys h = whole (part (tree_of g)) (part-Lives (tree_of g)) (part-Rests (tree_of g)) (running g) s rests ys h
