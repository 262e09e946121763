-- What is known of the items in a tree is kept by each move.
use Rattle.std.proofs.Common.{◌≡◌, Bool, true, false, cond, List, [], ◌∷◌, ◌++◌, Some, refl, sym, subst, inl, inr}
use Rattle.std.specs.List.{AllByRecursion as Each}
use Rattle.sn_streams.specs.Forks.{Router, Merge, Free, Deterministic}
use Rattle.sn_streams.specs.Keys.{Key, Own, key_eq}
use Rattle.sn_streams.specs.Machines.{Machine}
use Rattle.sn_streams.specs.Trees.{Tree, Component, Series, Fork, passing}
use Rattle.sn_streams.proofs.Keys.{same_key}
use Rattle.sn_sound.specs.Conveyed.{Conveys}
use Rattle.sn_sound.proofs.Carried.{each_append, each_more}
use Rattle.sn_live.specs.Entries.{Entry, It, Mark, items}
use Rattle.sn_live.specs.Live.{Step, Left, Right, At, Live, sub, subs}
use Rattle.sn_live.specs.Flat.{at_steps}
use Rattle.sn_live.specs.Known.{EachEntry, IsKnown, KnownThere, RunKnown}
use Rattle.sn_live.specs.Parts.{Part, pushed, component_part, state_after, emits_for, series_part, FreshFork, turn_part, free_part, fork_part, Several, One, Then, several, part, group_for, share_for, TurnMove, Routes, Inner, Gives, Closes, Marks, Unfolds, FreeMove, Routed, Epoch, Within, Takes, Passes, Closing, Makes}
use Rattle.sn_live.specs.Runs.{Running, Starts, Move, Take, Moves, Emit}
use Rattle.sn_live.proofs.Streams.{by_key}

module _ {A : Type 0} (P : A → Type 0) where
  pub each_entry_append : (v w : List (Entry A)) → EachEntry P v → EachEntry P w → EachEntry P (v ++ w)
  each_entry_append [] w first second = second
  each_entry_append (It x ∷ v) w first second = (first.0, each_entry_append v w first.1 second)
  each_entry_append (Mark ∷ v) w first second = each_entry_append v w first second

  pub each_item_entry : (xs : List A) → Each P xs → EachEntry P (items xs)
  each_item_entry [] each = tt
  each_item_entry (x ∷ xs) each = (each.0, each_item_entry xs each.1)

  -- behind the first entry
  behind : (e : Entry A) (w : List (Entry A)) → EachEntry P (e ∷ w) → EachEntry P w
  behind (It x) w each = each.1
  behind Mark w each = each

  -- the same list by another name
  known_as : (v w : List (Entry A)) → v ≡ w → EachEntry P v → EachEntry P w
  known_as v w same each = subst (EachEntry P) same each

-- What a part keeps of its states, where items of P come in and items of Q go out.
pub record Keeps {A S : Type 0} (p : Part A S) (P Q : A → Type 0) (H : Live A S → Type 0) : Type 0 where
  pub fresh : (f : Live A S) → p.fresh f → H f
  pub put : (o : List (Entry A)) (f : Live A S) → EachEntry P o → H f → H (pushed p o f)
  pub move : (f : Live A S) (o : List (Entry A)) (f' : Live A S) → p.moves f o f' → H f → H f' × EachEntry Q o

module _ {A S : Type 0} (m : Machine A S) (z : S) (P Q : A → Type 0) (J : S → Type 0) (start : J z) (goes : (s : S) (x : A) → J s → P x → J (m.next s x) × Each Q (m.emits s x)) where
  abbrev Held : Live A S → Type 0
  Held f = EachEntry P ((f []).waiting) × J ((f []).state)

  eaten : (s : S) (e : Entry A) (w : List (Entry A)) → J s → EachEntry P (e ∷ w) → J (state_after m s e) × EachEntry Q (emits_for m s e)
  eaten s (It x) w kept each = let step = goes s x kept each.0 in (step.0, each_item_entry Q (m.emits s x) step.1)
  eaten s Mark w kept each = (kept, tt)

  pub component-Keeps : Keeps (component_part m z) P Q Held
  component-Keeps = record {
    fresh = λ f new. (subst (EachEntry P) (sym new.0) tt, subst J (sym new.1) start);
    put = λ o f each held. (each_entry_append P ((f []).waiting) o held.0 each, held.1);
    move = λ f o f' moved held.
        let (e, waits, state, gave) = moved in
        let first : EachEntry P (e ∷ (f' []).waiting) = subst (EachEntry P) waits held.0 in
        let step = eaten (f []).state e ((f' []).waiting) held.1 first in
        ((behind P e ((f' []).waiting) first, subst J (sym state) step.0), subst (EachEntry Q) (sym gave) step.1);
  }

pub series-Keeps : {A S : Type 0} (a b : Part A S) (P R Q : A → Type 0) (H K : Live A S → Type 0) → Keeps a P R H → Keeps b R Q K
    → Keeps (series_part a b) P Q (λ f. H (sub f Left) × K (sub f Right))
series-Keeps {A} a b P R Q H K x y = record {
  fresh = λ f new. (x.fresh (sub f Left) new.0, y.fresh (sub f Right) new.1);
  put = λ o f each held. (x.put o (sub f Left) each held.0, held.1);
  move = λ f o f' moved held. elim moved [
    | inl l ↦
        (let step = x.move (sub f Left) l.0 (sub f' Left) l.1 held.0 in
        ((step.0, subst K (sym l.2) (y.put l.0 (sub f Right) step.1 held.1)), subst (EachEntry Q) (sym l.3) tt))
    | inr g ↦
        (let step = y.move (sub f Right) o (sub f' Right) g.0 held.1 in
        ((subst H (sym g.1) held.0, step.0), step.1))
  ];
}

-- Forks: what is sent to a child is known of what it gets.
module _ {A S : Type 0} (r : Router A) (c : Key → Part A S) (P Q : A → Type 0) (sent : Key → A → Type 0) (goes : (x : A) → P x → sent (r.key x) x)
    (H : Key → Live A S → Type 0) (each : (k : Key) → Keeps (c k) (sent k) Q (H k)) where
  abbrev pub ForkHeld : Live A S → Type 0
  ForkHeld f = EachEntry P ((f []).waiting) × ((k : Key) → EachEntry Q ((f []).kept k)) × ((k : Key) → H k (sub f (At k)))

  sent_group : (k : Key) (e : Entry A) (w : List (Entry A)) → EachEntry P (e ∷ w) → EachEntry (sent k) (group_for r k e)
  sent_group k Mark w known = tt
  sent_group k (It x) w known = at (key_eq k (r.key x)) refl
    where
      at : (b : Bool) → key_eq k (r.key x) ≡ b → EachEntry (sent k) (cond b (It x ∷ Mark ∷ []) [])
      at true is = (subst (λ (j : Key). sent j x) (sym (same_key k (r.key x) is)) (goes x known.0), tt)
      at false is = tt

  sent_share : (k : Key) (x : A) → P x → EachEntry (sent k) (share_for r k (It x))
  sent_share k x known = at (key_eq k (r.key x)) refl
    where
      at : (b : Bool) → key_eq k (r.key x) ≡ b → EachEntry (sent k) (cond b (It x ∷ []) [])
      at true is = (subst (λ (j : Key). sent j x) (sym (same_key k (r.key x) is)) (goes x known), tt)
      at false is = tt

  fork_fresh : (f : Live A S) → FreshFork c f → ForkHeld f
  fork_fresh f new = (
    subst (EachEntry P) (sym new.waits) tt,
    (λ k. subst (EachEntry Q) (sym (new.keeps k)) tt),
    (λ k. (each k).fresh (sub f (At k)) (new.kids_fresh k)),
  )

  same_waits : (f f' : Live A S) → (f' []).waiting ≡ (f []).waiting → EachEntry P ((f []).waiting) → EachEntry P ((f' []).waiting)
  same_waits f f' same known = subst (EachEntry P) (sym same) known

  same_kept : (f f' : Live A S) → (f' []).kept ≡ (f []).kept → ((k : Key) → EachEntry Q ((f []).kept k)) → (k : Key) → EachEntry Q ((f' []).kept k)
  same_kept f f' same known k = subst (λ (q : Key → List (Entry A)). EachEntry Q (q k)) (sym same) (known k)

  same_kids_held : (f f' : Live A S) → ((j : Key) → sub f' (At j) ≡ sub f (At j)) → ((k : Key) → H k (sub f (At k))) → (k : Key) → H k (sub f' (At k))
  same_kids_held f f' same known k = subst (H k) (sym (same k)) (known k)

  -- what waits of the output of one child differs
  one_kept : (f f' : Live A S) (k : Key) → EachEntry Q ((f' []).kept k) → ((j : Key) → key_eq j k ≡ false → (f' []).kept j ≡ (f []).kept j) → ((j : Key) → EachEntry Q ((f []).kept j))
      → (j : Key) → EachEntry Q ((f' []).kept j)
  one_kept f f' k here others known = by_key (λ j. EachEntry Q ((f' []).kept j)) k here (λ j t. subst (EachEntry Q) (sym (others j t)) (known j))

  one_kid : (f f' : Live A S) (k : Key) → H k (sub f' (At k)) → ((j : Key) → key_eq j k ≡ false → sub f' (At j) ≡ sub f (At j)) → ((j : Key) → H j (sub f (At j)))
      → (j : Key) → H j (sub f' (At j))
  one_kid f f' k here others known = by_key (λ j. H j (sub f' (At j))) k here (λ j t. subst (H j) (sym (others j t)) (known j))

  -- a child moves, and what it gives waits behind what is kept of it
  child_moves : (f f' : Live A S) (k : Key) (p : List (Entry A)) → (c k).moves (sub f (At k)) p (sub f' (At k)) → ((j : Key) → key_eq j k ≡ false → sub f' (At j) ≡ sub f (At j))
      → (f' []).waiting ≡ (f []).waiting → (f' []).kept k ≡ (f []).kept k ++ p → ((j : Key) → key_eq j k ≡ false → (f' []).kept j ≡ (f []).kept j) → ForkHeld f → ForkHeld f'
  child_moves f f' k p moved others waits keeps kept_others held =
      let step = (each k).move (sub f (At k)) p (sub f' (At k)) moved (held.2 k) in (
        same_waits f f' waits held.0,
        one_kept f f' k (subst (EachEntry Q) (sym keeps) (each_entry_append Q ((f []).kept k) p (held.1 k) step.1)) kept_others held.1,
        one_kid f f' k step.0 others held.2,
      )

  turn_move : (f : Live A S) (o : List (Entry A)) (f' : Live A S) → TurnMove r c f f' o → ForkHeld f → ForkHeld f' × EachEntry Q o
  turn_move f o f' (Routes e waits decides keeps gets) held =
      let first : EachEntry P (e ∷ (f' []).waiting) = subst (EachEntry P) waits held.0 in (
        (
          behind P e ((f' []).waiting) first,
          same_kept f f' keeps held.1,
          (λ k. subst (H k) (sym (gets k)) ((each k).put (group_for r k e) (sub f (At k)) (sent_group k e ((f' []).waiting) first) (held.2 k))),
        ),
        tt,
      )
  turn_move f o f' (Inner k p moved others waits decides keeps kept_others) held = (child_moves f f' k p moved others waits keeps kept_others held, tt)
  turn_move f o f' (Gives k y ds decides decides' keeps kept_others waits same) held =
      let first : EachEntry Q (It y ∷ (f' []).kept k) = subst (EachEntry Q) keeps (held.1 k) in
      ((same_waits f f' waits held.0, one_kept f f' k first.1 kept_others held.1, same_kids_held f f' same held.2), (first.0, tt))
  turn_move f o f' (Closes k decides keeps kept_others waits same) held =
      let first : EachEntry Q (Mark ∷ (f' []).kept k) = subst (EachEntry Q) keeps (held.1 k) in
      ((same_waits f f' waits held.0, one_kept f f' k first kept_others held.1, same_kids_held f f' same held.2), tt)
  turn_move f o f' (Marks decides keeps waits same) held = ((same_waits f f' waits held.0, same_kept f f' keeps held.1, same_kids_held f f' same held.2), tt)
  turn_move f o f' (Unfolds k e w needs new new' others waits decides keeps) held =
      ((same_waits f f' waits held.0, same_kept f f' keeps held.1, one_kid f f' k ((each k).fresh (sub f' (At k)) new') others held.2), tt)

  free_move : (f : Live A S) (o : List (Entry A)) (f' : Live A S) → FreeMove r c f f' o → ForkHeld f → ForkHeld f' × EachEntry Q o
  free_move f o f' (Routed x there waits place keeps stand gets) held =
      let first : EachEntry P (It x ∷ (f' []).waiting) = subst (EachEntry P) waits held.0 in (
        (
          first.1,
          same_kept f f' keeps held.1,
          (λ k. subst (H k) (sym (gets k)) ((each k).put (share_for r k (It x)) (sub f (At k)) (sent_share k x first.0) (held.2 k))),
        ),
        tt,
      )
  free_move f o f' (Epoch waits made ahead keeps told) held =
      let first : EachEntry P (Mark ∷ (f' []).waiting) = subst (EachEntry P) waits held.0 in (
        (
          first,
          same_kept f f' keeps held.1,
          (λ k. elim (told k) [
            | inl t ↦ subst (H k) (sym t.kid_is) ((each k).put (Mark ∷ []) (sub f (At k)) tt (held.2 k))
            | inr n ↦ subst (H k) (sym n.after) (held.2 k)
          ]),
        ),
        tt,
      )
  free_move f o f' (Within k p moved others place waits stand keeps kept_others) held = (child_moves f f' k p moved others waits keeps kept_others held, tt)
  free_move f o f' (Takes k y here keeps kept_others place waits stand same) held =
      let first : EachEntry Q (It y ∷ (f' []).kept k) = subst (EachEntry Q) keeps (held.1 k) in
      ((same_waits f f' waits held.0, one_kept f f' k first.1 kept_others held.1, same_kids_held f f' same held.2), (first.0, tt))
  free_move f o f' (Passes k here keeps kept_others place waits stand others same) held =
      let first : EachEntry Q (Mark ∷ (f' []).kept k) = subst (EachEntry Q) keeps (held.1 k) in
      ((same_waits f f' waits held.0, one_kept f f' k first kept_others held.1, same_kids_held f f' same held.2), tt)
  free_move f o f' (Closing past made ahead keeps waits same) held = ((same_waits f f' waits held.0, same_kept f f' keeps held.1, same_kids_held f f' same held.2), tt)
  free_move f o f' (Makes k e w needs new new' others made ahead keeps waits stand) held =
      ((same_waits f f' waits held.0, same_kept f f' keeps held.1, one_kid f f' k ((each k).fresh (sub f' (At k)) new') others held.2), tt)

  put_fork : (o : List (Entry A)) (f : Live A S) → EachEntry P o → ForkHeld f → EachEntry P ((f []).waiting ++ o)
  put_fork o f known held = each_entry_append P ((f []).waiting) o held.0 known

  turn-Keeps : Keeps (turn_part r c) P Q ForkHeld
  turn-Keeps = record { fresh = fork_fresh; put = λ o f known held. (put_fork o f known held, held.1, held.2); move = turn_move }

  free-Keeps : Keeps (free_part r c) P Q ForkHeld
  free-Keeps = record { fresh = fork_fresh; put = λ o f known held. (put_fork o f known held, held.1, held.2); move = free_move }

  pub fork-Keeps : (merge : Merge) → Keeps (fork_part merge r c) P Q ForkHeld
  fork-Keeps Free = free-Keeps
  fork-Keeps Deterministic = turn-Keeps

-- several moves
module _ {A S : Type 0} (p : Part A S) (P Q : A → Type 0) (H : Live A S → Type 0) (keeps : Keeps p P Q H) where
  several_move : (f : Live A S) (o : List (Entry A)) (f' : Live A S) → Several p.moves f o f' → H f → H f' × EachEntry Q o
  several_move f o f' (One o' f'' moved) held = keeps.move f o' f'' moved held
  several_move f o f' (Then o' q mid f'' first moved) held =
      let one = several_move f o' mid first held in
      let two = keeps.move mid q f'' moved one.0 in
      (two.0, each_entry_append Q o' q one.1 two.1)

  pub several-Keeps : Keeps (several p) P Q H
  several-Keeps = record { fresh = keeps.fresh; put = keeps.put; move = several_move }

pub part-Keeps : {A S : Type 0} (sort : A → Type 0) (t : Tree A S) (P Q : A → Type 0) (conveys : Conveys sort t P Q) → Keeps (part t) P Q (IsKnown sort t P Q conveys)
part-Keeps sort (Component m s) P Q (keeps, here, in_sort, out_sort, goes) = component-Keeps m s P Q keeps here goes
part-Keeps sort (Series a b) P Q (between, first, second) =
    series-Keeps (part a) (part b) P between Q (IsKnown sort a P between first) (IsKnown sort b between Q second) (part-Keeps sort a P between first) (part-Keeps sort b between Q second)
part-Keeps sort (Fork merge r child) P Q (sent, in_sort, out_sort, goes, each) =
    let held = λ (k : Key). IsKnown sort (child k) (sent k) Q (each k) in
    several-Keeps (fork_part merge r (λ k. part (child k))) P Q (ForkHeld r (λ k. part (child k)) P Q sent goes held (λ k. part-Keeps sort (child k) (sent k) Q (each k)))
    (fork-Keeps r (λ k. part (child k)) P Q sent goes held (λ k. part-Keeps sort (child k) (sent k) Q (each k)) merge)

-- a run of a tree
module _ {A S : Type 0} (sort : A → Type 0) (t : Tree A S) (P Q : A → Type 0) (conveys : Conveys sort t P Q) where
  keeping : Keeps (part t) P Q (IsKnown sort t P Q conveys)
  keeping = part-Keeps sort t P Q conveys

  pub starts_known : (xs : List A) (g : Running A S) → Each P xs → Starts (part t) xs g → RunKnown sort t P Q conveys g
  starts_known xs g each starts = record {
    todo = subst (Each P) (sym starts.all_todo) each;
    live = keeping.fresh g.live starts.is_fresh;
    ready = subst (EachEntry Q) (sym starts.none_ready) tt;
    out = subst (Each Q) (sym starts.none_out) tt;
  }

  pub stays_known : (g g' : Running A S) → Move (part t) g g' → RunKnown sort t P Q conveys g → RunKnown sort t P Q conveys g'
  stays_known g g' (Take x todo live ready out) known =
      let first : Each P (x ∷ g'.todo) = subst (Each P) todo known.todo in
      record {
        todo = first.1;
        live = subst (IsKnown sort t P Q conveys) (sym live) (keeping.put (It x ∷ []) g.live (first.0, tt) known.live);
        ready = subst (EachEntry Q) (sym ready) known.ready;
        out = subst (Each Q) (sym out) known.out;
      }
  stays_known g g' (Moves o todo moved ready out) known =
      let step = keeping.move g.live o g'.live moved known.live in
      record {
        todo = subst (Each P) (sym todo) known.todo;
        live = step.0;
        ready = subst (EachEntry Q) (sym ready) (each_entry_append Q g.ready o known.ready step.1);
        out = subst (Each Q) (sym out) known.out;
      }
  stays_known g g' (Emit y todo live ready out) known =
      let first : EachEntry Q (It y ∷ g'.ready) = subst (EachEntry Q) ready known.ready in
      record {
        todo = subst (Each P) (sym todo) known.todo;
        live = subst (IsKnown sort t P Q conveys) (sym live) known.live;
        ready = first.1;
        out = subst (Each Q) (sym out) (each_append Q g.out (y ∷ []) known.out (first.0, tt));
      }

-- what is known at the steps of a part
pub known-at : {A S : Type 0} (sort : A → Type 0) (t : Tree A S) (P Q : A → Type 0) (conveys : Conveys sort t P Q) (f : Live A S) (q : List Step) (u : Tree A S)
    → at_steps t q ≡ Some u → IsKnown sort t P Q conveys f → KnownThere sort u (subs q f)
known-at sort t P Q conveys f [] u is known =
    let same : t ≡ u = cc in
    subst (λ v. KnownThere sort v f) same (record { P = P; Q = Q; conveys = conveys; known = known })
known-at sort (Series a b) P Q conveys f (Left ∷ q) u is known = known-at sort a P conveys.0 conveys.1 (sub f Left) q u is known.0
known-at sort (Series a b) P Q conveys f (Right ∷ q) u is known = known-at sort b conveys.0 Q conveys.2 (sub f Right) q u is known.1
known-at sort (Fork merge r child) P Q conveys f (At k ∷ q) u is known = known-at sort (child k) (conveys.0 k) Q (conveys.4 k) (sub f (At k)) q u is (known.2 k)
known-at sort (Component m s) P Q conveys f (x ∷ q) u is known = cc
known-at sort (Series a b) P Q conveys f (At k ∷ q) u is known = cc
known-at sort (Fork merge r child) P Q conveys f (Left ∷ q) u is known = cc
known-at sort (Fork merge r child) P Q conveys f (Right ∷ q) u is known = cc

module _ {A : Type 0} (P Q : A → Type 0) (more : (x : A) → P x → Q x) where
  pub each_entry_more : (w : List (Entry A)) → EachEntry P w → EachEntry Q w
  each_entry_more [] each = tt
  each_entry_more (It x ∷ w) each = (more x each.0, each_entry_more w each.1)
  each_entry_more (Mark ∷ w) each = each_entry_more w each

-- all that waits at a component, all that it gives next, and all that waits at a fork and that is kept there, is of the sort
module _ {A S : Type 0} (sort : A → Type 0) (f : Live A S) where
  pub component-sort : (m : Machine A S) (s : S) → KnownThere sort (Component m s) f
      → EachEntry sort ((f []).waiting) × ((x : A) (w : List (Entry A)) → (f []).waiting ≡ It x ∷ w → Each sort (m.emits (f []).state x))
  component-sort m s there =
      let (keeps, here, in_sort, out_sort, goes) = there.conveys in (
        each_entry_more there.P sort in_sort ((f []).waiting) there.known.0,
        (λ x w waits.
            let first : EachEntry there.P (It x ∷ w) = subst (EachEntry there.P) waits there.known.0 in
            each_more there.Q sort out_sort (m.emits (f []).state x) (goes (f []).state x there.known.1 first.0).1),
      )

  pub fork-sort : (merge : Merge) (r : Router A) (child : Key → Tree A S) → KnownThere sort (Fork merge r child) f
      → EachEntry sort ((f []).waiting) × ((k : Key) → EachEntry sort ((f []).kept k))
  fork-sort merge r child there =
      let (sent, in_sort, out_sort, goes, each) = there.conveys in
      (each_entry_more there.P sort in_sort ((f []).waiting) there.known.0, (λ k. each_entry_more there.Q sort out_sort ((f []).kept k) (there.known.1 k)))

  -- and so is what becomes of the first item, where it passes the children by
  pub own-sort : (merge : Merge) (r : Router A) (child : Key → Tree A S) (idle : S) → child Own ≡ passing r idle → KnownThere sort (Fork merge r child) f
      → (x : A) (w : List (Entry A)) → (f []).waiting ≡ It x ∷ w → r.key x ≡ Own → sort (r.own x)
  own-sort merge r child idle own there x w waits to_own =
      let (sent, in_sort, out_sort, goes, each) = there.conveys in
      let first : EachEntry there.P (It x ∷ w) = subst (EachEntry there.P) waits there.known.0 in
      let (keeps, here, own_in, own_out, passes) = subst (λ t. Conveys sort t (sent Own) there.Q) own (each Own) in
      out_sort (r.own x) (passes idle x here (subst (λ (k : Key). sent k x) to_own (goes x first.0))).1.0
