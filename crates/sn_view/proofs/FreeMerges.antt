-- Merge at a free dispatcher.
use Rattle.std.proofs.Common.{◌≡◌, ℕ, zero, suc, ◌+◌, ◌-◌, ◌<◌, Bool, true, false, cond, if◌then◌else◌, ◌&&◌, ◌==◌, nat_lt, List, [], ◌∷◌, map, length, Option, Some, None, refl, sym, ap, ap₂, ◌∙◌, subst, arith}
use Rattle.std.specs.Prelude.{slice_get, is_some, unwrap_or}
use Rattle.std.specs.List.{list_all}
use Rattle.std.specs.Option.{option_map}
use Rattle.sn_streams.specs.Forks.{Router, Free}
use Rattle.sn_streams.specs.Keys.{Key, key_eq, AreDistinct, is_among}
use Rattle.sn_streams.specs.Keys as key
use Rattle.sn_streams.specs.Trees.{Fork, passing}
use Rattle.sn_streams.proofs.Keys.{key_eq-refl}
use Rattle.sn_net.specs.Cell.{CellState, Passing}
use Rattle.sn_net.specs.Dispatchers.{Network}
use Rattle.sn_net.specs.Item.{ModelItem}
use Rattle.sn_view.specs.Epochs.{Epochs, marked, stands_at_output, moved_on, counted_at}
use Rattle.sn_view.specs.View.{Entry, It, Mark, End, Freely, Child, Node, View, at_node, first_of, rest_of}
use Rattle.sn_view.specs.Next.{gives, keeps, takes_kept, kept_of, may_merge, may_merge_by, mark_passes, free_merges}
use Rattle.sn_live.specs.Entries.{Entry as LiveEntry, It as LiveIt, Mark as LiveMark}
use Rattle.sn_live.specs.Live.{Step as LiveStep, Live, subs, change, stands as stands_in}
use Rattle.sn_live.specs.Parts.{part, FreeMove, Takes, Passes, Several, One}
use Rattle.sn_live.specs.Flat.{at_steps}
use Rattle.sn_live.proofs.Routing.{free_closes}
use Rattle.sn_view.specs.Seen.{step_of, erased, epoch_by_key, seen_node, live_of, tree_of}
use Rattle.sn_view.specs.Placed.{IsFreely, shape_of, Stands, DistinctSteps, Follows}
use Rattle.sn_view.proofs.Children.{keys_of, keys-of-doors, key-among, epoch-counted, epoch-here, epochs-changed}
use Rattle.sn_view.proofs.Giving.{gives-follows, gives-unseen, stays-follows, LiveN}
use Rattle.sn_view.proofs.Keeping.{taking, kept-is, takes-shape, takes-made, takes-lead, kept-now, kept-then, kept-others, takes-same}
use Rattle.sn_view.proofs.Local.{here}

-- all epochs are past the output's
pub past-all : (cs : List Child) (ns : List ℕ) (output : ℕ) (k : Key) → length ns ≡ length cs → list_all (λ epoch. nat_lt output epoch) ns ≡ true → is_among k (keys_of cs) ≡ true
    → output < epoch_by_key cs ns k
past-all [] ns output k l all e = cc
past-all (c ∷ cs) [] output k l all e = cc
past-all (c ∷ cs) (n ∷ ns) output k l all e = at (key_eq k c.key) (nat_lt output n) refl all e (λ a b. past-all cs ns output k (omega (arith, l)) a b)
  where
    at : (b v : Bool) → nat_lt output n ≡ v → (v && list_all (λ epoch. nat_lt output epoch) ns) ≡ true → cond b true (is_among k (keys_of cs)) ≡ true
        → (list_all (λ epoch. nat_lt output epoch) ns ≡ true → is_among k (keys_of cs) ≡ true → output < epoch_by_key cs ns k)
        → output < cond b n (epoch_by_key cs ns k)
    at b false t all e later = cc
    at true true t all e later = grind (arith, t)
    at false true t all e later = later all e

pub length-counted : (c : ℕ) (ns : List ℕ) → length (counted_at c ns) ≡ length ns
length-counted c [] = refl
length-counted zero (n ∷ ns) = refl
length-counted (suc c) (n ∷ ns) = ap suc (length-counted c ns)

minus-suc : (a b : ℕ) → b < a → a - b ≡ suc (a - (b + 1))
minus-suc a b h = omega (arith, h)

both-true : (a b : Bool) → (a && b) ≡ true → (a ≡ true) × (b ≡ true)
both-true true b e = (refl, e)
both-true false b e = cc

at-output : (e : Epochs) (c : ℕ) → stands_at_output e c ≡ true → (n : ℕ) × (slice_get e.children c ≡ Some n) × (n ≡ e.output)
at-output e c h = at (slice_get e.children c) refl h
  where
    at : (o : Option ℕ) → slice_get e.children c ≡ o → unwrap_or (option_map (λ epoch. epoch == e.output) o) false ≡ true → (n : ℕ) × (slice_get e.children c ≡ Some n) × (n ≡ e.output)
    at None i t = cc
    at (Some n) i t = (n, i, grind (arith, t))

module _ (g : View) (i : ℕ) (n0 : Node) (e : Epochs) (there : slice_get g.nodes i ≡ Some (record n0 { state = Freely e }))
    (d : DistinctSteps (map shape_of g.nodes)) (stands : Stands (tree_of g) g.run (map shape_of g.nodes) (shape_of (record n0 { state = Freely e })))
    (r : Router ModelItem) (child : Key → Network) (is : at_steps (tree_of g) (map step_of n0.steps) ≡ Some (Fork Free r child)) (own : child key.Own ≡ passing r Passing)
    (fits : length e.children ≡ length n0.children) where
  abbrev n : Node
  n = record n0 { state = Freely e }

  abbrev steps : List LiveStep
  steps = map step_of n0.steps

  abbrev F : Live ModelItem CellState
  F = subs steps (live_of g)

  at_root : F [] ≡ seen_node n
  at_root = here g i n there d stands

  distinct : AreDistinct (keys_of n.children)
  distinct = subst AreDistinct (keys-of-doors n.children) stands.keys

  abbrev Moves : List (LiveEntry ModelItem) → Node → Type 0
  Moves o m = Several (λ f p f'. FreeMove r (λ k. part (child k)) f f' p) F o (change [] (λ l. seen_node m) F)

  gives_by : (f : Node → Node) (o : List (Entry ModelItem)) → shape_of (f n) ≡ shape_of n → Moves (erased o) (f n) → Follows g (gives i f n.goes o g)
  gives_by f o same m = gives-follows g i n f there same (Fork Free r child) d is stands.sends o m

  stays_by : (f : Node → Node) → shape_of (f n) ≡ shape_of n → Moves [] (f n) → Follows g (at_node i f g)
  stays_by f same m = stays-follows g i n f there same (Fork Free r child) d is stands.sends m

  module _ (c : ℕ) (x : Child) (is_child : slice_get n.children c ≡ Some x) (may : stands_at_output e c ≡ true) where
    abbrev epoch : ℕ
    epoch = (at-output e c may).0

    epoch_at : slice_get e.children c ≡ Some epoch
    epoch_at = (at-output e c may).1

    epoch_is : epoch ≡ e.output
    epoch_is = (at-output e c may).2

    among : is_among x.key (keys_of n.children) ≡ true
    among = key-among n.children c x is_child

    lead-now : epoch_by_key n.children e.children x.key ≡ e.output
    lead-now = epoch-here n.children c x e.children epoch is_child epoch_at distinct ∙ epoch_is

    level : stands_in (F []) x.key ≡ 0
    level =
        ap (λ (l : LiveN). stands_in l x.key) at_root
        ∙ (let G : Bool → ℕ = λ b. cond b (epoch_by_key n.children e.children x.key - e.output) (e.input - e.output) in ap G among)
        ∙ zero-left
      where
        zero-left : epoch_by_key n.children e.children x.key - e.output ≡ 0
        zero-left = omega (arith, lead-now)

    same-stands : (j : Key) → stands_in (seen_node (takes_kept c n)) j ≡ stands_in (F []) j
    same-stands j =
        ap₂ (λ (m : List Key) (l : Key → ℕ). cond (is_among j m) (l j) (e.input - e.output)) (takes-made n c x is_child distinct) (takes-lead n c x is_child distinct)
        ∙ ap (λ (l : LiveN). stands_in l j) (sym at_root)

    item : (y : ModelItem) (w : List (Entry ModelItem)) → x.kept ≡ It y ∷ w → Follows g (gives i (takes_kept c) n.goes (It y ∷ []) g)
    item y w h =
        gives_by (takes_kept c) (It y ∷ []) (takes-shape n c x is_child distinct)
        (One (LiveIt y ∷ []) (change [] (λ l. seen_node (takes_kept c n)) F)
        (Takes x.key y level
        (ap (λ (l : LiveN). l.kept x.key) at_root ∙ kept-now n c x is_child distinct tt ∙ ap erased h
        ∙ ap (λ (q : List (Entry ModelItem)). LiveIt y ∷ erased (rest_of q)) (sym h) ∙ ap (λ (q : List (LiveEntry ModelItem)). LiveIt y ∷ q) (sym (kept-then n c x is_child distinct tt)))
        (λ j t. kept-others n c x is_child distinct tt j t ∙ ap (λ (l : LiveN). l.kept j) (sym at_root))
        (takes-made n c x is_child distinct ∙ ap (λ (l : LiveN). l.made) (sym at_root), ap (λ (l : LiveN). l.ahead) (sym at_root))
        (ap (λ (l : LiveN). l.waiting) (sym at_root)) same-stands (λ j. refl)))

    end : (w : List (Entry ModelItem)) → x.kept ≡ End ∷ w → Follows g (gives i (takes_kept c) n.goes (End ∷ []) g)
    end w h =
        gives-unseen g i n (takes_kept c) there (takes-shape n c x is_child distinct) (End ∷ []) ((part (tree_of g)).target steps) stands.sends
        (takes-same n c x is_child distinct tt (ap (λ (q : List (Entry ModelItem)). erased (rest_of q)) h ∙ sym (ap erased h))) refl

    -- a mark
    module _ (w : List (Entry ModelItem)) (h : x.kept ≡ Mark ∷ w) where
      after : Epochs → Node
      after q = keeps (Freely q) (takes_kept c n)

      shape-then : (q : Epochs) → length q.children ≡ length e.children → nat_lt q.input q.output ≡ nat_lt e.input e.output
          → shape_of (keeps (Freely q) (takes_kept c n)) ≡ shape_of n
      shape-then q l o =
          ap₂ (λ (m : ℕ) (b : Bool). record (shape_of (takes_kept c n)) { kind = IsFreely m b }) l o ∙ takes-shape n c x is_child distinct

      over : (a b : ℕ) → nat_lt b a ≡ true → nat_lt a (b + 1) ≡ nat_lt a b
      over a b h = grind (arith, h)

      -- what is kept does not see the epochs
      kept-first : (q : Epochs) → (F []).kept x.key ≡ LiveMark ∷ (seen_node (keeps (Freely q) (takes_kept c n))).kept x.key
      kept-first q =
          ap (λ (l : LiveN). l.kept x.key) at_root ∙ kept-now n c x is_child distinct tt ∙ ap erased h
          ∙ ap (λ (p : List (Entry ModelItem)). LiveMark ∷ erased (rest_of p)) (sym h) ∙ ap (λ (p : List (LiveEntry ModelItem)). LiveMark ∷ p) (sym (kept-then n c x is_child distinct tt))

      kept-same : (q : Epochs) (j : Key) → key_eq j x.key ≡ false → (seen_node (keeps (Freely q) (takes_kept c n))).kept j ≡ (F []).kept j
      kept-same q j t = kept-others n c x is_child distinct tt j t ∙ ap (λ (l : LiveN). l.kept j) (sym at_root)

      -- where a child stands, after the mark
      lead-counted : (j : Key) → epoch_by_key (takes_kept c n).children (counted_at c e.children) j ≡ cond (key_eq j x.key) (epoch + 1) (epoch_by_key n.children e.children j)
      lead-counted j =
          epochs-changed taking (λ y. refl) n.children c (counted_at c e.children) j
          ∙ epoch-counted n.children c x e.children epoch is_child epoch_at distinct j

      lead-counted-here : epoch_by_key (takes_kept c n).children (counted_at c e.children) x.key ≡ epoch + 1
      lead-counted-here = lead-counted x.key ∙ (let G : Bool → ℕ = λ b. cond b (epoch + 1) (epoch_by_key n.children e.children x.key) in ap G (key_eq-refl x.key))

      lead-counted-other : (j : Key) → key_eq j x.key ≡ false → epoch_by_key (takes_kept c n).children (counted_at c e.children) j ≡ epoch_by_key n.children e.children j
      lead-counted-other j t = lead-counted j ∙ (let G : Bool → ℕ = λ b. cond b (epoch + 1) (epoch_by_key n.children e.children j) in ap G t)

      stands-now : (j : Key) → stands_in (F []) j ≡ cond (is_among j (keys_of n.children)) (epoch_by_key n.children e.children j - e.output) (e.input - e.output)
      stands-now j = ap (λ (l : LiveN). stands_in l j) at_root

      stands-after : (q : Epochs) (j : Key) → stands_in (seen_node (keeps (Freely q) (takes_kept c n))) j
          ≡ cond (is_among j (keys_of n.children)) (epoch_by_key (takes_kept c n).children q.children j - q.output) (q.input - q.output)
      stands-after q j =
          ap (λ (m : List Key). cond (is_among j m) (epoch_by_key (takes_kept c n).children q.children j - q.output) (q.input - q.output)) (takes-made n c x is_child distinct)

      passes : Follows g (at_node i (λ m. keeps (Freely (marked c e)) (takes_kept c m)) g)
      passes =
          stays_by (λ m. keeps (Freely (marked c e)) (takes_kept c m)) (shape-then (marked c e) (length-counted c e.children) refl)
          (One [] (change [] (λ l. seen_node (keeps (Freely (marked c e)) (takes_kept c n))) F)
          (Passes x.key level (kept-first (marked c e)) (λ j t. kept-same (marked c e) j t)
          (takes-made n c x is_child distinct ∙ ap (λ (l : LiveN). l.made) (sym at_root), ap (λ (l : LiveN). l.ahead) (sym at_root))
          (ap (λ (l : LiveN). l.waiting) (sym at_root))
          (stands-after (marked c e) x.key
          ∙ (let G : Bool → ℕ = λ b. cond b (epoch_by_key (takes_kept c n).children (counted_at c e.children) x.key - e.output) (e.input - e.output) in ap G among)
          ∙ one ∙ ap suc (sym level))
          (λ j t. stands-after (marked c e) j
          ∙ ap (λ (m : ℕ). cond (is_among j (keys_of n.children)) (m - e.output) (e.input - e.output)) (lead-counted-other j t) ∙ sym (stands-now j))
          (λ j. refl)))
        where
          one : epoch_by_key (takes_kept c n).children (counted_at c e.children) x.key - e.output ≡ 1
          one = let a : epoch_by_key (takes_kept c n).children (counted_at c e.children) x.key ≡ epoch + 1 = lead-counted-here in
              let b : epoch ≡ e.output = epoch_is in omega (arith, a, b)

      -- the child was the last to pass the output's epoch
      closes : nat_lt e.output e.input ≡ true → list_all (λ q. nat_lt e.output q) (counted_at c e.children) ≡ true
          → Follows g (gives i (λ m. keeps (Freely (moved_on (marked c e))) (takes_kept c m)) n.goes (Mark ∷ []) g)
      closes before all =
          gives_by (λ m. keeps (Freely (moved_on (marked c e))) (takes_kept c m)) (Mark ∷ []) (shape-then (moved_on (marked c e)) (length-counted c e.children) (over e.input e.output before))
          (free_closes r child Passing own F (change [] (λ l. seen_node (keeps (Freely (moved_on (marked c e))) (takes_kept c n))) F) x.key level
          (kept-first (moved_on (marked c e))) (λ j t. kept-same (moved_on (marked c e)) j t)
          (takes-made n c x is_child distinct ∙ ap (λ (l : LiveN). l.made) (sym at_root))
          (ap (λ (l : LiveN). l.ahead) at_root ∙ minus-suc e.input e.output less)
          (ap (λ (l : LiveN). l.waiting) (sym at_root)) (λ j. refl)
          (ap (λ (l : LiveN). is_among x.key l.made) at_root ∙ among)
          (stands-after (moved_on (marked c e)) x.key
          ∙ (let G : Bool → ℕ = λ b. cond b (epoch_by_key (takes_kept c n).children (counted_at c e.children) x.key - (e.output + 1)) (e.input - (e.output + 1)) in ap G among)
          ∙ none-left)
          (λ j t. stands-now j ∙ at j t (is_among j (keys_of n.children)) refl ∙ ap suc (sym (stands-after (moved_on (marked c e)) j))))
        where
          less : e.output < e.input
          less = grind (arith, before)

          none-left : epoch_by_key (takes_kept c n).children (counted_at c e.children) x.key - (e.output + 1) ≡ 0
          none-left = let a : epoch_by_key (takes_kept c n).children (counted_at c e.children) x.key ≡ epoch + 1 = lead-counted-here in
              let b : epoch ≡ e.output = epoch_is in omega (arith, a, b)

          at : (j : Key) → key_eq j x.key ≡ false → (b : Bool) → is_among j (keys_of n.children) ≡ b
              → cond b (epoch_by_key n.children e.children j - e.output) (e.input - e.output)
              ≡ suc (cond b (epoch_by_key (takes_kept c n).children (counted_at c e.children) j - (e.output + 1)) (e.input - (e.output + 1)))
          at j t false m = minus-suc e.input e.output less
          at j t true m =
              let a : epoch_by_key (takes_kept c n).children (counted_at c e.children) j ≡ epoch_by_key n.children e.children j = lead-counted-other j t in
              let p : e.output < epoch_by_key n.children (counted_at c e.children) j =
              past-all n.children (counted_at c e.children) e.output j (length-counted c e.children ∙ fits) all m in
              let q : epoch_by_key n.children (counted_at c e.children) j ≡ epoch_by_key n.children e.children j =
              epoch-counted n.children c x e.children epoch is_child epoch_at distinct j
              ∙ (let G : Bool → ℕ = λ b. cond b (epoch + 1) (epoch_by_key n.children e.children j) in ap G t) in
              omega (arith, a, p, q)

      mark : Follows g (mark_passes i n c (marked c e) g)
      mark = at (nat_lt e.output e.input) (list_all (λ q. nat_lt e.output q) (counted_at c e.children)) refl refl
        where
          at : (a b : Bool) → nat_lt e.output e.input ≡ a → list_all (λ q. nat_lt e.output q) (counted_at c e.children) ≡ b
              → Follows g (if (a && b) then gives i (λ m. keeps (Freely (moved_on (marked c e))) (takes_kept c m)) n.goes (Mark ∷ []) g
              else at_node i (λ m. keeps (Freely (marked c e)) (takes_kept c m)) g)
          at true true u v = closes u v
          at true false u v = passes
          at false b u v = passes

    by_kept : (w : List (Entry ModelItem)) → x.kept ≡ w → is_some (first_of w) ≡ true → Follows g (free_merges i n c e (first_of w) g)
    by_kept [] h some = cc
    by_kept (It y ∷ w) h some = item y w h
    by_kept (Mark ∷ w) h some = mark w h
    by_kept (End ∷ w) h some = end w h

  by_child : (c : ℕ) (x : Option Child) → slice_get n.children c ≡ x → may_merge n c ≡ true → Follows g (free_merges i n c e (first_of (kept_of n.children c)) g)
  by_child c None h may = no (ap (λ (x : Option Child). may_merge_by (Freely e) c x) (sym h) ∙ may)
    where
      no : {X : Type 0} → false ≡ true → X
      no u = cc
  by_child c (Some x) h may =
      let u : (stands_at_output e c ≡ true) × (is_some (first_of x.kept) ≡ true) =
      both-true (stands_at_output e c) (is_some (first_of x.kept)) (ap (λ (y : Option Child). may_merge_by (Freely e) c y) (sym h) ∙ may) in
      subst (λ (w : List (Entry ModelItem)). Follows g (free_merges i n c e (first_of w) g)) (sym (kept-is n.children c x h)) (by_kept c x h u.0 x.kept refl u.1)

  pub free-merge-follows : (c : ℕ) → may_merge n c ≡ true → Follows g (free_merges i n c e (first_of (kept_of n.children c)) g)
  free-merge-follows c may = by_child c (slice_get n.children c) refl may
