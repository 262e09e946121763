-- After Unfold the nodes are well placed.
use Rattle.std.proofs.Common.{◌≡◌, ℕ, zero, suc, true, false, not, List, [], ◌∷◌, ◌++◌, map, length, Option, Some, None, refl, sym, ap, ◌∙◌, subst, ◌⊎◌, inl, inr, IsTrue}
use Rattle.std.specs.Prelude.{slice_get, is_some, ℤ}
use Rattle.std.specs.FinMap.{get}
use Rattle.sn_streams.specs.Forks.{Router, Merge as StreamMerge, Free, Deterministic}
use Rattle.sn_streams.specs.Keys.{Key, is_among}
use Rattle.sn_streams.specs.Keys as key
use Rattle.sn_streams.specs.Trees.{Fork, Series, passing, with_own}
use Rattle.sn_net.specs.declared.net.Net.{Net}
use Rattle.sn_net.specs.declared.net.Net.TheOpen.{Net-F}
use Rattle.sn_net.specs.Cell.{Passing}
use Rattle.sn_net.specs.Dispatchers.{Network, router, stream_key, merge_of, level, replica_child, inside_child}
use Rattle.sn_net.specs.Filter.{tag}
use Rattle.sn_net.specs.Item.{ModelItem, Rec, Fault, Stuck}
use Rattle.sn_net.specs.Route.{of_record, choice_key, branch_key, best_branch, best_score, scores}
use Rattle.sn_net.specs.WellFormed.{IsWellFormed, IsSound, IsSoundChoice}
use Rattle.sn_net.specs.Face.{face}
use Rattle.sn_net.specs.declared.expr.BoxProgram.{BoxProgram}
use Rattle.sn_net.specs.declared.net.Merge.{Merge as MergeKind}
use Rattle.sn_net.specs.declared.net.Net.TheViews.{out-Net, roll-out-Net}
use Rattle.sn_net.proofs.Sound.{parts, parts_formed, level_sound}
use Rattle.sn_record.specs.LabelSet.{Labels}
use Rattle.sn_record.specs.Record.{Entries}
use Rattle.sn_view.specs.Parts.{part_at, part_below}
use Rattle.std.specs.List.{All, position}
use Rattle.std.specs.Option.{option_map, option_and_then}
use Rattle.std.proofs.lemmas.List.Elements.{All-head, All-tail}
use Rattle.sn_model.specs.Meaning.{tree}
use Rattle.sn_model.specs.Run.{boxes_of, depth_of, net_of, setting_of}
use Rattle.sn_view.specs.View.{Entry, It, Mark, End, Waiting, Plain, InFlight, Finished, State, Alone, Cell, InTurn, Freely, Node, View, Unfold, changed_at, first_of}
use Rattle.sn_view.specs.Next.{Next, enabled, if_node, form_of, router_of, routing_of, both, plain_entry, key_of, child_of, is_fork, may_unfold_then, unfolded, unfolded_by, new_nodes, adds_child}
use Rattle.sn_live.specs.Live.{At}
use Rattle.sn_live.specs.Flat.{at_steps}
use Rattle.sn_live.proofs.Within.{at_steps-append}
use Rattle.sn_view.specs.Seen.{step_of, tree_of}
use Rattle.sn_view.specs.Placed.{kind_of, IsFork, HasKind, fit, shape_of, Stands, ArePlaced, WellPlaced, Door, door_of, HasBranches, ChoicesAreWhole, fork_kind}
use Rattle.sn_view.proofs.Lists.{there-map, there-unmap, position-passes-by}
use Rattle.sn_view.proofs.Children.{keys_of, keys-of-doors}
use Rattle.sn_view.proofs.Events.{never, both-true, differ, ForkAt, fork-at}
use Rattle.sn_view.proofs.Growing.{grown}
use Rattle.sn_view.proofs.Making.{absent, own-there, same-children, star_router, split_router, star-key, split-at}
use Rattle.sn_view.proofs.Replicas.{split-made, star-made}

-- a part of a well-formed network is well formed
module _ (boxes : List BoxProgram) where
  part-formed : (z : Net-F Net) (i : ℕ) (n : Net) → All (IsWellFormed boxes) (parts z) → part_below z i ≡ Some n → IsWellFormed boxes n
  part-formed (Net-F.Box place number) i n h e = cc
  part-formed (Net-F.Filter filter) i n h e = cc
  part-formed (Net-F.Sync place patterns) i n h e = cc
  part-formed (Net-F.Serial left right) zero n h e = let u : left ≡ n = cc in subst (IsWellFormed boxes) u (All-head (IsWellFormed boxes) left (right ∷ []) h)
  part-formed (Net-F.Serial left right) (suc zero) n h e =
      let u : right ≡ n = cc in subst (IsWellFormed boxes) u (All-head (IsWellFormed boxes) right [] (All-tail (IsWellFormed boxes) left (right ∷ []) h))
  part-formed (Net-F.Serial left right) (suc (suc i)) n h e = cc
  part-formed (Net-F.Choice place merge branches faces) i n h e = each branches i h e
    where
      each : (ns : List Net) (i : ℕ) → All (IsWellFormed boxes) ns → slice_get ns i ≡ Some n → IsWellFormed boxes n
      each [] i h e = cc
      each (m ∷ ns) zero h e = let u : m ≡ n = cc in subst (IsWellFormed boxes) u (All-head (IsWellFormed boxes) m ns h)
      each (m ∷ ns) (suc i) h e = each ns i (All-tail (IsWellFormed boxes) m ns h) e
  part-formed (Net-F.Star place merge body exit guard) zero n h e = let u : body ≡ n = cc in subst (IsWellFormed boxes) u (All-head (IsWellFormed boxes) body [] h)
  part-formed (Net-F.Star place merge body exit guard) (suc i) n h e = cc
  part-formed (Net-F.Split place merge body id) zero n h e = let u : body ≡ n = cc in subst (IsWellFormed boxes) u (All-head (IsWellFormed boxes) body [] h)
  part-formed (Net-F.Split place merge body id) (suc i) n h e = cc

  path-formed : (net : Net) (path : List ℕ) (n : Net) → IsWellFormed boxes net → part_at net path ≡ Some n → IsWellFormed boxes n
  path-formed net [] n h e = let u : net ≡ n = cc in subst (IsWellFormed boxes) u h
  path-formed net (i ∷ path) n h e =
      at (part_below (out-Net net) i) refl (λ m k u. path-formed m path n k u) e
    where
      below : All (IsWellFormed boxes) (parts (out-Net net))
      below = parts_formed boxes (out-Net net) (subst (IsWellFormed boxes) (sym (roll-out-Net net)) h)

      at : (o : Option Net) → part_below (out-Net net) i ≡ o → ((m : Net) → IsWellFormed boxes m → part_at m path ≡ Some n → IsWellFormed boxes n)
          → option_and_then (λ part. part_at part path) o ≡ Some n → IsWellFormed boxes n
      at None u later e = cc
      at (Some m) u later e = later m (part-formed (out-Net net) i m below u) e

  choice-sound : (net : Net) (path : List ℕ) → IsWellFormed boxes net → (place : ℕ) (merge : MergeKind) (branches : List Net) (faces : List (List Labels))
      → option_map out-Net (part_at net path) ≡ Some (Net-F.Choice place merge branches faces) → IsSoundChoice boxes branches faces
  choice-sound net path h place merge branches faces f = at (part_at net path) refl f
    where
      at : (o : Option Net) → part_at net path ≡ o → option_map out-Net o ≡ Some (Net-F.Choice place merge branches faces) → IsSoundChoice boxes branches faces
      at None u f = cc
      at (Some m) u f =
          let v : out-Net m ≡ Net-F.Choice place merge branches faces = cc in
          subst (IsSound boxes) v (level_sound boxes (out-Net m) (subst (IsWellFormed boxes) (sym (roll-out-Net m)) (path-formed net path m h u)))

  -- the branch of the face that is best
  branch-of-face : (branches : List Net) (faces : List (List Labels)) → IsSoundChoice boxes branches faces → (r : Entries) (c : ℕ) → best_branch faces r ≡ Some c
      → (branch : Net) × (slice_get branches c ≡ Some branch)
  branch-of-face branches faces h r c e = at (best_score faces r) e
    where
      at : (o : Option ℕ) → option_and_then (λ n. position (scores r n) faces) o ≡ Some c → (branch : Net) × (slice_get branches c ≡ Some branch)
      at None e = cc
      at (Some n) e =
          let x : (y : List Labels) × (slice_get faces c ≡ Some y) × (scores r n y ≡ true) = position-passes-by (scores r n) faces c e in
          let b : (m : Net) × (slice_get branches c ≡ Some m) × (face boxes m ≡ x.0) = there-unmap (face boxes) branches c x.0 (sym (ap (λ (fs : List (List Labels)). slice_get fs c) h.paired) ∙ x.1) in
          (b.0, b.1)

contradiction : {X : Type 0} → true ≡ false → X
contradiction h = cc

module _ (g : View) (placed : WellPlaced g) (formed : IsWellFormed (boxes_of g.run) (net_of g.run)) (i : ℕ) (n : Node) (there : slice_get g.nodes i ≡ Some n) (fork : IsFork (kind_of n.state)) where
  branch-there : (x : ModelItem) (place : ℕ) (m : MergeKind) (branches : List Net) (faces : List (List Labels)) → form_of g n ≡ Some (Net-F.Choice place m branches faces)
      → HasBranches (Net-F.Choice place m branches faces) (map (λ (d : Door). d.key) (map door_of n.children)) → is_among ((router place (of_record (choice_key faces))).key x) (keys_of n.children) ≡ true
  branch-there x place m branches faces f whole = at x
    where
      own : is_among key.Own (keys_of n.children) ≡ true
      own = own-there g placed i n there fork

      by-best : (r : Entries) (o : Option ℕ) → best_branch faces r ≡ o → is_among (stream_key (branch_key o)) (keys_of n.children) ≡ true
      by-best r None e = own
      by-best r (Some c) e =
          let b : (branch : Net) × (slice_get branches c ≡ Some branch) = branch-of-face (boxes_of g.run) branches faces (choice-sound (boxes_of g.run) (net_of g.run) n.path formed place m branches faces f) r c e in
          sym (ap (is_among (key.Branch c)) (keys-of-doors n.children)) ∙ whole c b.0 b.1

      at : (y : ModelItem) → is_among ((router place (of_record (choice_key faces))).key y) (keys_of n.children) ≡ true
      at (Rec r) = by-best r (best_branch faces r) refl
      at (Fault y) = own
      at (Stuck p) = own

-- a choice has a child for each key that it sends an item by
pub choices-whole : (g : View) → WellPlaced g → IsWellFormed (boxes_of g.run) (net_of g.run) → ChoicesAreWhole g
choices-whole g placed formed i n x place merge branches faces there f =
    let s : Stands (tree_of g) g.run (map shape_of g.nodes) (shape_of n) = placed.all i (shape_of n) (there-map shape_of g.nodes i n there) in
    let same : s.form ≡ Net-F.Choice place merge branches faces = (let u : Some s.form ≡ Some (Net-F.Choice place merge branches faces) = sym s.is_form ∙ f in cc) in
    let k : kind_of n.state ≡ fork_kind (merge_of merge) (length (shape_of n).doors) =
    subst (λ (z : Net-F Net). HasKind z (length (shape_of n).doors) (kind_of n.state)) same s.has_kind in
    branch-there g placed formed i n there (subst IsFork (sym k) (is-fork (merge_of merge) (length (shape_of n).doors))) x place merge branches faces f
    (subst (λ (z : Net-F Net). HasBranches z (map (λ (d : Door). d.key) (map door_of n.children))) same s.whole)
  where
    is-fork : (m : StreamMerge) (count : ℕ) → IsFork (fork_kind m count)
    is-fork Free count = tt
    is-fork Deterministic count = tt

module _ (g : View) (placed : WellPlaced g) (formed : IsWellFormed (boxes_of g.run) (net_of g.run)) (i : ℕ) (n : Node) (there : slice_get g.nodes i ≡ Some n) (fork : IsFork (kind_of n.state))
    (x : ModelItem) (mk : StreamMerge) (r : Router ModelItem) (child : Key → Network) (is : at_steps (tree_of g) (map step_of n.steps) ≡ Some (Fork mk r child))
    (none : is_among (r.key x) (keys_of n.children) ≡ false) where
  abbrev Grown : Key → Net-F Net → Type 0
  Grown k form = ArePlaced (tree_of g) g.run (map shape_of (changed_at i (adds_child k (length g.nodes)) g.nodes ++ new_nodes (depth_of g.run) (Some form) k i n (length g.nodes)))

  not-past : {X : Type 0} → r.key x ≡ key.Own → X
  not-past h = contradiction (sym (own-there g placed i n there fork) ∙ ap (λ (k : Key). is_among k (keys_of n.children)) (sym h) ∙ none)

  at-child : (k : Key) (t : Network) → child k ≡ t → at_steps (tree_of g) (map step_of n.steps ++ At k ∷ []) ≡ Some t
  at-child k t c = at_steps-append (tree_of g) (map step_of n.steps) (At k ∷ []) (Fork mk r child) is ∙ ap (λ (v : Network). let o : Option Network = Some v in o) c

  none-at : (k : Key) → r.key x ≡ k → is_among k (keys_of n.children) ≡ false
  none-at k h = ap (λ (j : Key). is_among j (keys_of n.children)) (sym h) ∙ none

  by-form : (form : Net-F Net) (count : ℕ) → form_of g n ≡ Some form → HasKind form count (kind_of n.state) → Fork mk r child ≡ fit (setting_of g.run) form n.left → router_of (Some form) n.left ≡ Some r → HasBranches form (map (λ (d : Door). d.key) (map door_of n.children)) → Grown (r.key x) form
  by-form (Net-F.Box place number) count f k eq routes whole = cc
  by-form (Net-F.Filter filter) count f k eq routes whole = cc
  by-form (Net-F.Sync place patterns) count f k eq routes whole = cc
  by-form (Net-F.Serial first second) count f k eq routes whole = absurd k
  by-form (Net-F.Choice place m branches faces) count f k eq routes whole =
      let same : router place (of_record (choice_key faces)) ≡ r = cc in
      contradiction (sym (branch-there g placed formed i n there fork x place m branches faces f whole) ∙ ap (λ (q : Router ModelItem). is_among (q.key x) (keys_of n.children)) same ∙ none)
  by-form (Net-F.Star place m body exit guard) count f k eq routes whole =
      let same : star_router place exit guard n.left ≡ r = cc in
      at (star-key place exit guard n.left x) same
    where
      at : ((star_router place exit guard n.left).key x ≡ key.Own) ⊎ ((l : ℕ) × (n.left ≡ suc l) × ((star_router place exit guard n.left).key x ≡ key.Inside)) → star_router place exit guard n.left ≡ r → Grown (r.key x) (Net-F.Star place m body exit guard)
      at (inl h) same = not-past (ap (λ (q : Router ModelItem). q.key x) (sym same) ∙ h)
      at (inr (l, left, h)) same =
          let t : Network = Series (tree (setting_of g.run) body) (level place m exit guard (tree (setting_of g.run) body) l) in
          let eq' : Fork mk r child ≡ level place m exit guard (tree (setting_of g.run) body) (suc l) = eq ∙ ap (level place m exit guard (tree (setting_of g.run) body)) left in
          let c : child ≡ with_own (star_router place exit guard (suc l)) Passing (inside_child t (passing (star_router place exit guard (suc l)) Passing)) =
          same-children mk (merge_of m) r (star_router place exit guard (suc l)) child (with_own (star_router place exit guard (suc l)) Passing (inside_child t (passing (star_router place exit guard (suc l)) Passing))) eq' in
          let c' : child key.Inside ≡ t = ap (λ (f : Key → Network). f key.Inside) c in
          let k_is : r.key x ≡ key.Inside = ap (λ (q : Router ModelItem). q.key x) (sym same) ∙ h in
          subst (λ (j : Key). Grown j (Net-F.Star place m body exit guard)) (sym k_is)
          (grown g placed i n key.Inside (new_nodes (depth_of g.run) (Some (Net-F.Star place m body exit guard)) key.Inside i n (length g.nodes)) there fork (none-at key.Inside k_is) t (at-child key.Inside t c')
          (star-made g placed i n place m body exit guard l there fork (none-at key.Inside k_is) mk r child is f c' left)
          (λ j y q u. absent g placed i n key.Inside there (none-at key.Inside k_is) j y q u))
  by-form (Net-F.Split place m body id) count f k eq routes whole =
      let same : split_router place id ≡ r = cc in at x refl same
    where
      c : child ≡ with_own (split_router place id) Passing (replica_child (tree (setting_of g.run) body) (passing (split_router place id) Passing))
      c = same-children mk (merge_of m) r (split_router place id) child
          (with_own (split_router place id) Passing (replica_child (tree (setting_of g.run) body) (passing (split_router place id) Passing))) eq

      past : (y : ModelItem) → x ≡ y → split_router place id ≡ r → (split_router place id).key y ≡ key.Own → Grown (r.key x) (Net-F.Split place m body id)
      past y u same h = not-past (ap (λ (q : Router ModelItem). q.key x) (sym same) ∙ ap (split_router place id).key u ∙ h)

      made : (v : ℤ) → r.key x ≡ key.Value v → Grown (r.key x) (Net-F.Split place m body id)
      made v k_is =
          let c' : child (key.Value v) ≡ tree (setting_of g.run) body = ap (λ (f : Key → Network). f (key.Value v)) c in
          subst (λ (j : Key). Grown j (Net-F.Split place m body id)) (sym k_is)
          (grown g placed i n (key.Value v) (new_nodes (depth_of g.run) (Some (Net-F.Split place m body id)) (key.Value v) i n (length g.nodes)) there fork (none-at (key.Value v) k_is) (tree (setting_of g.run) body) (at-child (key.Value v) (tree (setting_of g.run) body) c')
          (split-made g placed i n v place m body id there fork (none-at (key.Value v) k_is) mk r child is f c')
          (λ j y q u. absent g placed i n (key.Value v) there (none-at (key.Value v) k_is) j y q u))

      at : (y : ModelItem) → x ≡ y → split_router place id ≡ r → Grown (r.key x) (Net-F.Split place m body id)
      at (Fault y) u same = past (Fault y) u same refl
      at (Stuck p) u same = past (Stuck p) u same refl
      at (Rec y) u same = elim (split-at (get y (tag id))) [
        | inl h ↦ past (Rec y) u same h
        | inr h ↦ made h.0 (ap (λ (q : Router ModelItem). q.key x) (sym same) ∙ ap (split_router place id).key u ∙ h.1)
      ]

module _ (g : View) (placed : WellPlaced g) (formed : IsWellFormed (boxes_of g.run) (net_of g.run)) (i : ℕ) where
  fork-kind : (st : State) → is_fork st ≡ true → IsFork (kind_of st)
  fork-kind Alone h = never h
  fork-kind (Cell patterns c) h = never h
  fork-kind (InTurn ds) h = tt
  fork-kind (Freely e) h = tt

  not-some : (o : Option ℕ) → not (is_some o) ≡ true → o ≡ None
  not-some None h = refl
  not-some (Some c) h = never h

  makes : (n : Node) → slice_get g.nodes i ≡ Some n → (r : Router ModelItem) → router_of (form_of g n) n.left ≡ Some r → (x : Entry ModelItem) → child_of n.children (key_of r x) ≡ None → is_fork n.state ≡ true
      → WellPlaced (unfolded_by i n (key_of r x) g)
  makes n e r k Mark none fork = contradiction (sym (own-there g placed i n e (fork-kind n.state fork)) ∙ differ key.Own n.children none)
  makes n e r k End none fork = contradiction (sym (own-there g placed i n e (fork-kind n.state fork)) ∙ differ key.Own n.children none)
  makes n e r k (It x) none fork =
      let s : Stands (tree_of g) g.run (map shape_of g.nodes) (shape_of n) = placed.all i (shape_of n) (there-map shape_of g.nodes i n e) in
      let f : ForkAt (fit (setting_of g.run) s.form n.left) s.form n.left (length (shape_of n).doors) (kind_of n.state) =
      fork-at (setting_of g.run) s.form n.left (length (shape_of n).doors) (kind_of n.state) s.has_kind (fork-kind n.state fork) in
      let routes : router_of (Some s.form) n.left ≡ Some r = ap (λ (o : Option (Net-F Net)). router_of o n.left) (sym s.is_form) ∙ k in
      let same : f.sends ≡ r = (let u : Some f.sends ≡ Some r = sym f.routes ∙ routes in cc) in
      let eq : Fork f.merge r f.child ≡ fit (setting_of g.run) s.form n.left = ap (λ (q : Router ModelItem). let t : Network = Fork f.merge q f.child in t) (sym same) ∙ sym f.is in
      let P : Option (Net-F Net) → Type 0 = λ o. ArePlaced (tree_of g) g.run (map shape_of (changed_at i (adds_child (r.key x) (length g.nodes)) g.nodes ++ new_nodes (depth_of g.run) o (r.key x) i n (length g.nodes))) in
      subst P (sym s.is_form)
      (by-form g placed formed i n e (fork-kind n.state fork) x f.merge r f.child (s.fits ∙ ap (λ (t : Network). let o : Option Network = Some t in o) (sym eq)) (differ (r.key x) n.children none)
      s.form (length (shape_of n).doors) s.is_form s.has_kind eq routes s.whole)

  makes-first : (n : Node) → slice_get g.nodes i ≡ Some n → (w : List Waiting) → (o : Option (Router ModelItem)) → router_of (form_of g n) n.left ≡ o
      → may_unfold_then n (both o (plain_entry (first_of w))) ≡ true → WellPlaced (unfolded i n (both o (plain_entry (first_of w))) g)
  makes-first n e [] None k may = never may
  makes-first n e [] (Some r) k may = never may
  makes-first n e (Plain x ∷ ws) None k may = never may
  makes-first n e (InFlight call given ∷ ws) None k may = never may
  makes-first n e (InFlight call given ∷ ws) (Some r) k may = never may
  makes-first n e (Finished given ∷ ws) None k may = never may
  makes-first n e (Finished given ∷ ws) (Some r) k may = never may
  makes-first n e (Plain x ∷ ws) (Some r) k may =
      let u : (is_fork n.state ≡ true) × (not (is_some (child_of n.children (key_of r x))) ≡ true) = both-true (is_fork n.state) (not (is_some (child_of n.children (key_of r x)))) may in
      makes n e r k x (not-some (child_of n.children (key_of r x)) u.1) u.0

  pub unfold-placed : IsTrue (enabled g (Unfold i)) → WellPlaced (Next g (Unfold i))
  unfold-placed may = at (slice_get g.nodes i) refl may
    where
      at : (o : Option Node) → slice_get g.nodes i ≡ o → IsTrue (if_node (λ n. may_unfold_then n (routing_of g n)) false o) → WellPlaced (if_node (λ n. unfolded i n (routing_of g n) g) g o)
      at None e may = never may
      at (Some n) e may = makes-first n e n.waiting (router_of (form_of g n) n.left) refl may
