-- Local: a component passes its first entry on.
use Rattle.std.proofs.Common.{◌≡◌, ℕ, List, [], ◌∷◌, map, length, Option, Some, None, refl, sym, ap, ◌∙◌, subst}
use Rattle.std.specs.Prelude.{slice_get}
use Rattle.sn_streams.specs.Machines.{Machine}
use Rattle.sn_streams.specs.Trees.{Component}
use Rattle.sn_record.specs.LabelSet.{Labels}
use Rattle.sn_net.specs.declared.net.Net.{Net}
use Rattle.sn_net.specs.declared.net.Net.TheOpen.{Net-F}
use Rattle.sn_net.specs.Cell.{CellState, Passing, new_cell, cell_next, cell_emits}
use Rattle.sn_net.specs.Item.{ModelItem, Rec, Fault, Stuck}
use Rattle.sn_model.specs.Run.{boxes_of, fuel_of, setting_of}
use Rattle.sn_model.specs.Components.{filter_item, box_item, cell}
use Rattle.sn_view.specs.View.{Entry, It, Mark, End, Waiting, Plain, InFlight, Finished, State, Alone, Cell, InTurn, Freely, Node, View, first_of, rest_of}
use Rattle.sn_view.specs.Next.{gives, keeps, passed, items, Given, local_step, local_of}
use Rattle.sn_live.specs.Entries.{Entry as LiveEntry, It as LiveIt, Mark as LiveMark, items as live_items}
use Rattle.sn_live.specs.Live.{Step as LiveStep, subs, change}
use Rattle.sn_live.specs.Parts.{part}
use Rattle.sn_live.specs.Flat.{at_steps, base}
use Rattle.sn_view.specs.Seen.{step_of, erased, entry_of, cell_of, seen_node, live_of, tree_of}
use Rattle.sn_view.specs.Placed.{Kind, kind_of, shape_of, door_of, fit, HasKind, Stands, DistinctSteps, Follows}
use Rattle.sn_view.proofs.Seeing.{look-here, subs-root}
use Rattle.sn_view.proofs.Giving.{gives-follows, gives-unseen, LiveN}

erased-items : (xs : List ModelItem) → erased (items xs) ≡ live_items xs
erased-items [] = refl
erased-items (x ∷ xs) = ap (λ (w : List (LiveEntry ModelItem)). LiveIt x ∷ w) (erased-items xs)

module _ (g : View) (i : ℕ) (n : Node) (there : slice_get g.nodes i ≡ Some n) (d : DistinctSteps (map shape_of g.nodes))
    (stands : Stands (tree_of g) g.run (map shape_of g.nodes) (shape_of n)) where
  abbrev steps : List LiveStep
  steps = map step_of n.steps

  pub here : subs steps (live_of g) [] ≡ seen_node n
  here = subs-root steps (live_of g) ∙ look-here (base Passing (tree_of g)) g.nodes i n d there

  abbrev then : State → Node → Node
  then state m = keeps state (passed m)

  module _ (m : Machine ModelItem CellState) (s : CellState) (is : at_steps (tree_of g) steps ≡ Some (Component m s))
      (state : State) (same : shape_of (then state n) ≡ shape_of n) (o : List (Entry ModelItem)) where
    eaten : (e : LiveEntry ModelItem) → erased (map entry_of n.waiting) ≡ e ∷ erased (map entry_of (rest_of n.waiting))
        → ((part (Component m s)).moves (subs steps (live_of g)) (erased o) (change [] (λ l. seen_node (then state n)) (subs steps (live_of g))))
        → Follows g (gives i (then state) n.goes o g)
    eaten e first move = gives-follows g i n (then state) there same (Component m s) d is stands.sends o move

    pub of_item : (x : ModelItem) → erased (map entry_of n.waiting) ≡ LiveIt x ∷ erased (map entry_of (rest_of n.waiting))
        → cell_of state ≡ m.next (cell_of n.state) x → erased o ≡ live_items (m.emits (cell_of n.state) x)
        → Follows g (gives i (then state) n.goes o g)
    of_item x first next emits =
        eaten (LiveIt x) first (
          LiveIt x,
          ap (λ (l : LiveN). l.waiting) here ∙ first,
          next ∙ ap (λ (l : LiveN). m.next l.state x) (sym here),
          emits ∙ ap (λ (l : LiveN). live_items (m.emits l.state x)) (sym here),
        )

    pub of_mark : erased (map entry_of n.waiting) ≡ LiveMark ∷ erased (map entry_of (rest_of n.waiting))
        → cell_of state ≡ cell_of n.state → erased o ≡ LiveMark ∷ [] → Follows g (gives i (then state) n.goes o g)
    of_mark first next emits =
        eaten LiveMark first (LiveMark, ap (λ (l : LiveN). l.waiting) here ∙ first, next ∙ ap (λ (l : LiveN). l.state) (sym here), emits)

  pub of_end : (state : State) (o : List (Entry ModelItem)) → state ≡ n.state → erased (map entry_of n.waiting) ≡ erased (map entry_of (rest_of n.waiting)) → erased o ≡ []
      → Follows g (gives i (then state) n.goes o g)
  of_end state o same first none =
      let P : State → Type 0 = λ st. Follows g (gives i (then st) n.goes o g) in
      subst P (sym same)
      (gives-unseen g i n (then n.state) there refl o ((part (tree_of g)).target steps) stands.sends
      (ap (λ (w : List (LiveEntry ModelItem)). record (seen_node n) { waiting = w }) (sym first)) none)

  -- the state's kind is kept
  kept : (state : State) → kind_of state ≡ kind_of n.state → shape_of (then state n) ≡ shape_of n
  kept state same = ap (λ (k : Kind). record (shape_of n) { kind = k }) same

  impossible : {X : Type 0} (x : X) → None ≡ Some x → ⊥
  impossible x e = cc

  module _ (given : Given) where
    abbrev After : Type 0
    After = Follows g (gives i (then given.state) n.goes given.entries g)

    given_is : (state : State) (o : List (Entry ModelItem)) → Some (record { state = state; entries = o }) ≡ Some given
        → Follows g (gives i (then state) n.goes o g) → After
    given_is state o e h =
        let u : record { state = state; entries = o } ≡ given = cc in
        subst (λ (x : Given). Follows g (gives i (then x.state) n.goes x.entries g)) u h

    of_box : (place number : ℕ) → at_steps (tree_of g) steps ≡ Some (fit (setting_of g.run) (Net-F.Box place number) n.left) → n.state ≡ Alone
        → (ws : List Waiting) → n.waiting ≡ ws
        → local_step g.run (Some (Net-F.Box place number)) Alone (first_of ws) ≡ Some given → After
    of_box place number is st [] w e = absurd (impossible given e)
    of_box place number is st (Plain (It (Rec r)) ∷ ws) w e = absurd (impossible given e)
    of_box place number is st (InFlight call r ∷ ws) w e = absurd (impossible given e)
    of_box place number is st (Finished r ∷ ws) w e =
        given_is Alone (items (box_item (boxes_of g.run) (fuel_of g.run) place number (Rec r))) e
        (of_item (record { next = λ q x. q; emits = λ q x. box_item (boxes_of g.run) (fuel_of g.run) place number x }) Passing is Alone (kept Alone (sym (ap kind_of st))) (items (box_item (boxes_of g.run) (fuel_of g.run) place number (Rec r)))
        (Rec r)
        (ap (λ (v : List Waiting). erased (map entry_of v)) w ∙ ap (λ (v : List Waiting). LiveIt (Rec r) ∷ erased (map entry_of (rest_of v))) (sym w))
        (sym (ap cell_of st)) (erased-items (box_item (boxes_of g.run) (fuel_of g.run) place number (Rec r))))
    of_box place number is st (Plain (It (Fault fault)) ∷ ws) w e =
        given_is Alone (It (Fault fault) ∷ []) e
        (of_item (record { next = λ q x. q; emits = λ q x. box_item (boxes_of g.run) (fuel_of g.run) place number x }) Passing is Alone (kept Alone (sym (ap kind_of st))) (It (Fault fault) ∷ [])
        (Fault fault)
        (ap (λ (v : List Waiting). erased (map entry_of v)) w ∙ ap (λ (v : List Waiting). LiveIt (Fault fault) ∷ erased (map entry_of (rest_of v))) (sym w))
        (sym (ap cell_of st)) refl)
    of_box place number is st (Plain (It (Stuck at)) ∷ ws) w e =
        given_is Alone (It (Stuck at) ∷ []) e
        (of_item (record { next = λ q x. q; emits = λ q x. box_item (boxes_of g.run) (fuel_of g.run) place number x }) Passing is Alone (kept Alone (sym (ap kind_of st))) (It (Stuck at) ∷ [])
        (Stuck at)
        (ap (λ (v : List Waiting). erased (map entry_of v)) w ∙ ap (λ (v : List Waiting). LiveIt (Stuck at) ∷ erased (map entry_of (rest_of v))) (sym w))
        (sym (ap cell_of st)) refl)
    of_box place number is st (Plain Mark ∷ ws) w e =
        given_is Alone (Mark ∷ []) e
        (of_mark (record { next = λ q x. q; emits = λ q x. box_item (boxes_of g.run) (fuel_of g.run) place number x }) Passing is Alone (kept Alone (sym (ap kind_of st))) (Mark ∷ [])
        (ap (λ (v : List Waiting). erased (map entry_of v)) w ∙ ap (λ (v : List Waiting). LiveMark ∷ erased (map entry_of (rest_of v))) (sym w))
        (sym (ap cell_of st)) refl)
    of_box place number is st (Plain End ∷ ws) w e =
        given_is Alone (End ∷ []) e
        (of_end Alone (End ∷ []) (sym st) (ap (λ (v : List Waiting). erased (map entry_of v)) w ∙ ap (λ (v : List Waiting). erased (map entry_of (rest_of v))) (sym w)) refl)

    of_filter : (filter : _) → at_steps (tree_of g) steps ≡ Some (fit (setting_of g.run) (Net-F.Filter filter) n.left) → n.state ≡ Alone
        → (ws : List Waiting) → n.waiting ≡ ws → local_step g.run (Some (Net-F.Filter filter)) Alone (first_of ws) ≡ Some given → After
    of_filter filter is st [] w e = absurd (impossible given e)
    of_filter filter is st (InFlight call r ∷ ws) w e = absurd (impossible given e)
    of_filter filter is st (Finished r ∷ ws) w e = absurd (impossible given e)
    of_filter filter is st (Plain (It x) ∷ ws) w e =
        given_is Alone (items (filter_item filter x)) e
        (of_item (record { next = λ q y. q; emits = λ q y. filter_item filter y }) Passing is Alone (kept Alone (sym (ap kind_of st))) (items (filter_item filter x)) x
        (ap (λ (v : List Waiting). erased (map entry_of v)) w ∙ ap (λ (v : List Waiting). LiveIt x ∷ erased (map entry_of (rest_of v))) (sym w))
        (sym (ap cell_of st)) (erased-items (filter_item filter x)))
    of_filter filter is st (Plain Mark ∷ ws) w e =
        given_is Alone (Mark ∷ []) e
        (of_mark (record { next = λ q y. q; emits = λ q y. filter_item filter y }) Passing is Alone (kept Alone (sym (ap kind_of st))) (Mark ∷ [])
        (ap (λ (v : List Waiting). erased (map entry_of v)) w ∙ ap (λ (v : List Waiting). LiveMark ∷ erased (map entry_of (rest_of v))) (sym w))
        (sym (ap cell_of st)) refl)
    of_filter filter is st (Plain End ∷ ws) w e =
        given_is Alone (End ∷ []) e
        (of_end Alone (End ∷ []) (sym st) (ap (λ (v : List Waiting). erased (map entry_of v)) w ∙ ap (λ (v : List Waiting). erased (map entry_of (rest_of v))) (sym w)) refl)

    of_cell : (place : ℕ) (own patterns : List Labels) (c : CellState) → at_steps (tree_of g) steps ≡ Some (fit (setting_of g.run) (Net-F.Sync place own) n.left)
        → n.state ≡ Cell patterns c → patterns ≡ own
        → (ws : List Waiting) → n.waiting ≡ ws → local_step g.run (Some (Net-F.Sync place own)) (Cell patterns c) (first_of ws) ≡ Some given → After
    of_cell place own patterns c is st eq [] w e = absurd (impossible given e)
    of_cell place own patterns c is st eq (InFlight call r ∷ ws) w e = absurd (impossible given e)
    of_cell place own patterns c is st eq (Finished r ∷ ws) w e = absurd (impossible given e)
    of_cell place own patterns c is st eq (Plain (It x) ∷ ws) w e =
        given_is (Cell patterns (cell_next patterns c x)) (items (cell_emits place patterns c x)) e
        (of_item (cell place own) (new_cell own) is (Cell patterns (cell_next patterns c x)) (kept (Cell patterns (cell_next patterns c x)) (sym (ap kind_of st)))
        (items (cell_emits place patterns c x)) x
        (ap (λ (v : List Waiting). erased (map entry_of v)) w ∙ ap (λ (v : List Waiting). LiveIt x ∷ erased (map entry_of (rest_of v))) (sym w))
        (ap (λ (p : List Labels). cell_next p c x) eq ∙ ap (λ (s : State). cell_next own (cell_of s) x) (sym st))
        (erased-items (cell_emits place patterns c x) ∙ ap (λ (p : List Labels). live_items (cell_emits place p c x)) eq ∙ ap (λ (s : State). live_items (cell_emits place own (cell_of s) x)) (sym st)))
    of_cell place own patterns c is st eq (Plain Mark ∷ ws) w e =
        given_is (Cell patterns c) (Mark ∷ []) e
        (of_mark (cell place own) (new_cell own) is (Cell patterns c) (kept (Cell patterns c) (sym (ap kind_of st))) (Mark ∷ [])
        (ap (λ (v : List Waiting). erased (map entry_of v)) w ∙ ap (λ (v : List Waiting). LiveMark ∷ erased (map entry_of (rest_of v))) (sym w))
        (sym (ap cell_of st)) refl)
    of_cell place own patterns c is st eq (Plain End ∷ ws) w e =
        given_is (Cell patterns c) (End ∷ []) e
        (of_end (Cell patterns c) (End ∷ []) (sym st) (ap (λ (v : List Waiting). erased (map entry_of v)) w ∙ ap (λ (v : List Waiting). erased (map entry_of (rest_of v))) (sym w)) refl)

    -- by the node's form
    at : (form : Net-F Net) → at_steps (tree_of g) steps ≡ Some (fit (setting_of g.run) form n.left) → (st : State) → n.state ≡ st → HasKind form (length (map door_of n.children)) (kind_of st)
        → local_step g.run (Some form) st (first_of n.waiting) ≡ Some given → After
    at (Net-F.Box place number) is Alone s k e = of_box place number is s n.waiting refl e
    at (Net-F.Filter filter) is Alone s k e = of_filter filter is s n.waiting refl e
    at (Net-F.Sync place own) is (Cell patterns c) s k e = of_cell place own patterns c is s (let u : patterns ≡ own = cc in u) n.waiting refl e
    at (Net-F.Box place number) is (Cell patterns c) s k e = absurd (impossible given e)
    at (Net-F.Box place number) is (InTurn ds) s k e = absurd (impossible given e)
    at (Net-F.Box place number) is (Freely ep) s k e = absurd (impossible given e)
    at (Net-F.Filter filter) is (Cell patterns c) s k e = absurd (impossible given e)
    at (Net-F.Filter filter) is (InTurn ds) s k e = absurd (impossible given e)
    at (Net-F.Filter filter) is (Freely ep) s k e = absurd (impossible given e)
    at (Net-F.Sync place own) is Alone s k e = absurd (impossible given e)
    at (Net-F.Sync place own) is (InTurn ds) s k e = absurd (impossible given e)
    at (Net-F.Sync place own) is (Freely ep) s k e = absurd (impossible given e)
    at (Net-F.Serial l r) is st s k e = absurd k
    at (Net-F.Choice place merge branches faces) is st s k e = absurd (none st n.waiting e)
      where
        none : (st : State) (ws : List Waiting) → local_step g.run (Some (Net-F.Choice place merge branches faces)) st (first_of ws) ≡ Some given → ⊥
        none st ws e = cc
    at (Net-F.Star place merge body exit guard) is st s k e = absurd (none st n.waiting e)
      where
        none : (st : State) (ws : List Waiting) → local_step g.run (Some (Net-F.Star place merge body exit guard)) st (first_of ws) ≡ Some given → ⊥
        none st ws e = cc
    at (Net-F.Split place merge body id) is st s k e = absurd (none st n.waiting e)
      where
        none : (st : State) (ws : List Waiting) → local_step g.run (Some (Net-F.Split place merge body id)) st (first_of ws) ≡ Some given → ⊥
        none st ws e = cc

    pub local-follows : local_of g n ≡ Some given → After
    local-follows e =
        at stands.form stands.fits n.state refl stands.has_kind
        (ap (λ (f : Option (Net-F Net)). local_step g.run f n.state (first_of n.waiting)) (sym stands.is_form) ∙ e)
