-- Components with a state: what they still give, and what one move may do.
use Rattle.std.specs.Prelude.{◌≡◌, ◌+◌, ℕ, suc, List, [], ◌∷◌, ◌++◌, map, true, false, if◌then◌else◌, ◌⊎◌}
use Rattle.sn_streams.specs.Forks.{Relation, InSeries, Router, items_of, by_segment, Merge, Free, Deterministic}
use Rattle.sn_streams.specs.Keys.{Key, key_eq, is_among}
use Rattle.sn_streams.specs.Machines.{Machine, transduced}
use Rattle.sn_streams.specs.Segments.{Segments, joined, first_segment, other_segments}
use Rattle.sn_streams.specs.Shuffles.{SegmentShuffles}
use Rattle.sn_streams.specs.Trees.{Tree, Component, Series, Fork}
use Rattle.sn_live.specs.Entries.{Entry, It, Mark, carry, items, apart, pad, count}
use Rattle.sn_live.specs.Live.{Step, Left, Right, At, Node, Live, sub, stands, change, Target, Out, ToNode, ToKept, waits_more}

pub record Part (A S : Type 0) : Type 1 where
  -- nothing came in yet
  pub fresh : Live A S → Type 0
  -- the residue: what is still given, for what is still to come
  pub res : Live A S → Relation A
  -- the node where what comes in waits
  pub entry : List Step
  -- one move changes the state and emits these entries
  pub moves : Live A S → List (Entry A) → Live A S → Type 0
  -- where what the component at these steps emits goes
  pub target : List Step → Target
  -- how many marks are in it, and what every state that is reached keeps
  pub marks : Live A S → ℕ
  pub sane : Live A S → Type 0
  -- nothing waits in it that could move
  pub quiet : Live A S → Type 0

-- the state with entries put at the input
abbrev pub pushed : {A S : Type 0} → Part A S → List (Entry A) → Live A S → Live A S
pushed p o f = change p.entry (waits_more o) f

abbrev pub Happens : Type 0 → Type 0 → Type 1
Happens A S = Live A S → List (Entry A) → Live A S → Type 0

abbrev pub feeds : Target → Step → Target → Target
feeds next s Out = next
feeds next s (ToNode q) = ToNode (s ∷ q)
feeds next s (ToKept q k) = ToKept (s ∷ q) k

-- components: machines

module _ {A S : Type 0} (m : Machine A S) where
  abbrev pub state_after : S → Entry A → S
  state_after s (It x) = m.next s x
  state_after s Mark = s

  abbrev pub emits_for : S → Entry A → List (Entry A)
  emits_for s (It x) = items (m.emits s x)
  emits_for s Mark = Mark ∷ []

  -- the machine takes the first entry that waits
  abbrev pub eats : Happens A S
  eats f o f' =
      (e : Entry A) × ((f []).waiting ≡ e ∷ (f' []).waiting) × ((f' []).state ≡ state_after (f []).state e) × (o ≡ emits_for (f []).state e)

  abbrev pub component_part : S → Part A S
  component_part s = record {
    fresh = λ f. ((f []).waiting ≡ []) × ((f []).state ≡ s);
    res = λ f xss yss. yss ≡ transduced m (f []).state (carry ((f []).waiting) xss);
    entry = [];
    moves = eats;
    target = λ q. Out;
    marks = λ f. count ((f []).waiting);
    sane = λ f. Unit {0};
    quiet = λ f. (f []).waiting ≡ [];
  }

-- series

abbrev pub flows : {A S : Type 0} → Part A S → Part A S → Happens A S
flows {A} a b f o f' =
    ((p : List (Entry A)) × a.moves (sub f Left) p (sub f' Left) × (sub f' Right ≡ pushed b p (sub f Right)) × (o ≡ []))
    ⊎ (b.moves (sub f Right) o (sub f' Right) × (sub f' Left ≡ sub f Left))

abbrev pub series_target : Target → (List Step → Target) → (List Step → Target) → List Step → Target
series_target next a b [] = Out
series_target next a b (Left ∷ q) = feeds next Left (a q)
series_target next a b (Right ∷ q) = feeds Out Right (b q)
series_target next a b (At k ∷ q) = Out

abbrev pub series_part : {A S : Type 0} → Part A S → Part A S → Part A S
series_part a b = record {
  fresh = λ f. a.fresh (sub f Left) × b.fresh (sub f Right);
  res = λ f. InSeries (a.res (sub f Left)) (b.res (sub f Right));
  entry = Left ∷ a.entry;
  moves = flows a b;
  target = series_target (ToNode (Right ∷ b.entry)) a.target b.target;
  marks = λ f. a.marks (sub f Left) + b.marks (sub f Right);
  sane = λ f. a.sane (sub f Left) × b.sane (sub f Right);
  quiet = λ f. a.quiet (sub f Left) × b.quiet (sub f Right);
}

-- forks

abbrev pub kids_target : (Key → List Step → Target) → List Step → Target
kids_target c [] = Out
kids_target c (At k ∷ q) = feeds (ToKept [] k) (At k) (c k q)
kids_target c (Left ∷ q) = Out
kids_target c (Right ∷ q) = Out

abbrev pub kids : {A S : Type 0} → Live A S → Key → Live A S
kids f k = sub f (At k)

-- no child but that of k differs
abbrev pub only_kid : {A S : Type 0} → Key → Live A S → Live A S → Type 0
only_kid k f f' = (j : Key) → key_eq j k ≡ false → sub f' (At j) ≡ sub f (At j)

abbrev pub same_kids : {A S : Type 0} → Live A S → Live A S → Type 0
same_kids f f' = (j : Key) → sub f' (At j) ≡ sub f (At j)

-- only what waits of the output of k differs
abbrev pub only_kept : {A S : Type 0} → Key → Node A S → Node A S → Type 0
only_kept k n n' = (j : Key) → key_eq j k ≡ false → n'.kept j ≡ n.kept j

-- nothing came in at the fork, and nothing at its children
pub record FreshFork {A S : Type 0} (c : Key → Part A S) (f : Live A S) : Type 0 where
  pub waits : (f []).waiting ≡ []
  pub decides : (f []).decisions ≡ []
  pub level : (f []).ahead ≡ 0
  pub leads : (k : Key) → (f []).lead k ≡ 0
  pub keeps : (k : Key) → (f []).kept k ≡ []
  pub kids_fresh : (k : Key) → (c k).fresh (sub f (At k))

-- deterministic forks

-- the keys of items
abbrev pub keys : {A : Type 0} → Router A → Segments A → List (List Key)
keys r xss = map (λ xs. map r.key xs) xss

-- For each key in order the next segment of the answer of its child: what is passed on, and what is left.
abbrev pub taken : {A : Type 0} → (Key → Segments A) → Key → Key → Segments A
taken zss k j = if key_eq j k then other_segments (zss j) else zss j

abbrev pub served : {A : Type 0} → (Key → Segments A) → List Key → List A
served zss [] = []
served zss (k ∷ ks) = first_segment (zss k) ++ served (taken zss k) ks

abbrev pub unserved : {A : Type 0} → (Key → Segments A) → List Key → Key → Segments A
unserved zss [] = zss
unserved zss (k ∷ ks) = unserved (taken zss k) ks

abbrev pub by_keys : {A : Type 0} → (Key → Segments A) → List (List Key) → Segments A
by_keys zss [] = []
by_keys zss (ks ∷ kss) = served zss ks ∷ by_keys (unserved zss ks) kss

abbrev pub kept_before : {A : Type 0} → (Key → List (Entry A)) → (Key → Segments A) → Key → Segments A
kept_before kept zss k = carry (kept k) (zss k)

-- the residue of a deterministic fork: what waits, what was decided, what waits of the children's outputs, and the children
abbrev pub turns_of : {A S : Type 0} → Router A → (Key → Part A S) → List (Entry A) → List (Entry Key) → (Key → List (Entry A)) → (Key → Live A S) → Relation A
turns_of {A} r c w ds kept kid xss yss =
    (zss : Key → Segments A)
    × ((k : Key) → (c k).res (kid k) (apart (items_of r k (joined (carry w xss)))) (zss k))
    × (yss ≡ by_keys (kept_before kept zss) (carry ds (keys r (carry w xss))))

abbrev pub key_of : {A : Type 0} → Router A → Entry A → Entry Key
key_of r (It x) = It (r.key x)
key_of r Mark = Mark

-- what a child gets of an entry: an item with a mark behind it
abbrev pub group_for : {A : Type 0} → Router A → Key → Entry A → List (Entry A)
group_for r k (It x) = if key_eq k (r.key x) then It x ∷ Mark ∷ [] else []
group_for r k Mark = []

pub data TurnMove {A S : Type 0} (r : Router A) (c : Key → Part A S) (f : Live A S) (f' : Live A S) : List (Entry A) → Type 0 where
  -- the first entry is decided on, and goes to its child with a mark behind it
  Routes : (e : Entry A)
      → (f []).waiting ≡ e ∷ (f' []).waiting
      → (f' []).decisions ≡ (f []).decisions ++ key_of r e ∷ []
      → (f' []).kept ≡ (f []).kept
      → ((k : Key) → sub f' (At k) ≡ pushed (c k) (group_for r k e) (sub f (At k)))
      → TurnMove r c f f' []
  -- a child moves
  Inner : (k : Key) (p : List (Entry A))
      → (c k).moves (sub f (At k)) p (sub f' (At k))
      → only_kid k f f'
      → (f' []).waiting ≡ (f []).waiting
      → (f' []).decisions ≡ (f []).decisions
      → (f' []).kept k ≡ (f []).kept k ++ p
      → only_kept k (f []) (f' [])
      → TurnMove r c f f' []
  -- an item of the group that is served comes out
  Gives : (k : Key) (y : A) (ds : List (Entry Key))
      → (f []).decisions ≡ It k ∷ ds
      → (f' []).decisions ≡ It k ∷ ds
      → (f []).kept k ≡ It y ∷ (f' []).kept k
      → only_kept k (f []) (f' [])
      → (f' []).waiting ≡ (f []).waiting
      → same_kids f f'
      → TurnMove r c f f' (It y ∷ [])
  -- the group is over
  Closes : (k : Key)
      → (f []).decisions ≡ It k ∷ (f' []).decisions
      → (f []).kept k ≡ Mark ∷ (f' []).kept k
      → only_kept k (f []) (f' [])
      → (f' []).waiting ≡ (f []).waiting
      → same_kids f f'
      → TurnMove r c f f' []
  -- a mark comes out
  Marks : (f []).decisions ≡ Mark ∷ (f' []).decisions
      → (f' []).kept ≡ (f []).kept
      → (f' []).waiting ≡ (f []).waiting
      → same_kids f f'
      → TurnMove r c f f' (Mark ∷ [])
  -- the child that what waits needs is made
  Unfolds : (k : Key) (e : Entry A) (w : List (Entry A))
      → (f []).waiting ≡ e ∷ w
      → (c k).fresh (sub f (At k))
      → (c k).fresh (sub f' (At k))
      → only_kid k f f'
      → (f' []).waiting ≡ (f []).waiting
      → (f' []).decisions ≡ (f []).decisions
      → (f' []).kept ≡ (f []).kept
      → TurnMove r c f f' []

-- how many decisions are for k
abbrev pub decided : Key → List (Entry Key) → ℕ
decided k [] = 0
decided k (It j ∷ ds) = if key_eq k j then suc (decided k ds) else decided k ds
decided k (Mark ∷ ds) = decided k ds

-- each decision for a child has its group, what is left of it first
pub record TurnSane {A S : Type 0} (c : Key → Part A S) (f : Live A S) : Type 0 where
  pub kids_sane : (k : Key) → (c k).sane (sub f (At k))
  pub groups : (k : Key) → decided k ((f []).decisions) ≡ count ((f []).kept k) + (c k).marks (sub f (At k))

-- nothing waits, and the first decision has to wait for its child
pub record TurnQuiet {A S : Type 0} (c : Key → Part A S) (f : Live A S) : Type 0 where
  pub none_waits : (f []).waiting ≡ []
  pub kids_quiet : (k : Key) → (c k).quiet (sub f (At k))
  pub first_waits : (k : Key) (ds : List (Entry Key)) → (f []).decisions ≡ It k ∷ ds → (f []).kept k ≡ []
  pub no_mark : (ds : List (Entry Key)) → (f []).decisions ≡ Mark ∷ ds → ⊥

abbrev pub turn_part : {A S : Type 0} → Router A → (Key → Part A S) → Part A S
turn_part r c = record {
  fresh = FreshFork c;
  res = λ f. turns_of r c ((f []).waiting) ((f []).decisions) ((f []).kept) (kids f);
  entry = [];
  moves = λ f o f'. TurnMove r c f f' o;
  target = kids_target (λ k. (c k).target);
  marks = λ f. count ((f []).waiting) + count ((f []).decisions);
  sane = TurnSane c;
  quiet = TurnQuiet c;
}

-- free forks

-- each child's segments from its own epoch on, those before it empty
abbrev pub padded : {A : Type 0} → (Key → ℕ) → (Key → List (Entry A)) → (Key → Segments A) → Key → Segments A
padded epoch kept zss k = pad (epoch k) (carry (kept k) (zss k))

-- the residue of a free fork: what waits, the children's epochs, what waits of their outputs, and the children
abbrev pub freely_of : {A S : Type 0} → Router A → (Key → Part A S) → List (Entry A) → (Key → ℕ) → (Key → List (Entry A)) → (Key → Live A S) → Relation A
freely_of {A} r c w epoch kept kid xss yss =
    (zss : Key → Segments A)
    × ((k : Key) → (c k).res (kid k) (by_segment r k (carry w xss)) (zss k))
    × SegmentShuffles yss (padded epoch kept zss)

-- what a child gets of an entry
abbrev pub share_for : {A : Type 0} → Router A → Key → Entry A → List (Entry A)
share_for r k (It x) = if key_eq k (r.key x) then It x ∷ [] else []
share_for r k Mark = Mark ∷ []

abbrev pub same_stands : {A S : Type 0} → Live A S → Live A S → Type 0
same_stands f f' = (k : Key) → stands (f' []) k ≡ stands (f []) k

abbrev pub other_stands : {A S : Type 0} → Key → Live A S → Live A S → Type 0
other_stands k f f' = (j : Key) → key_eq j k ≡ false → stands (f' []) j ≡ stands (f []) j

-- a mark comes in at a child that was made
pub record Told {A S : Type 0} (p : Part A S) (kid kid' : Live A S) (epoch epoch' : ℕ) : Type 0 where
  pub kid_is : kid' ≡ pushed p (Mark ∷ []) kid
  pub epoch_is : epoch' ≡ epoch

-- or at the fork while the child isn't there yet: it will begin an epoch later
pub record NotYet {A S : Type 0} (p : Part A S) (kid kid' : Live A S) (kept : List (Entry A)) (epoch epoch' : ℕ) : Type 0 where
  pub before : p.fresh kid
  pub after : kid' ≡ kid
  pub nothing : kept ≡ []
  pub epoch_is : epoch' ≡ suc epoch

abbrev pub same_place : {A S : Type 0} → Live A S → Live A S → Type 0
same_place f f' = ((f' []).made ≡ (f []).made) × ((f' []).ahead ≡ (f []).ahead)

pub data FreeMove {A S : Type 0} (r : Router A) (c : Key → Part A S) (f : Live A S) (f' : Live A S) : List (Entry A) → Type 0 where
  -- an item goes to its child, which is there
  Routed : (x : A)
      → is_among (r.key x) ((f []).made) ≡ true
      → (f []).waiting ≡ It x ∷ (f' []).waiting
      → same_place f f'
      → (f' []).kept ≡ (f []).kept
      → same_stands f f'
      → ((k : Key) → sub f' (At k) ≡ pushed (c k) (share_for r k (It x)) (sub f (At k)))
      → FreeMove r c f f' []
  -- a mark comes in
  Epoch : (f []).waiting ≡ Mark ∷ (f' []).waiting
      → (f' []).made ≡ (f []).made
      → (f' []).ahead ≡ suc ((f []).ahead)
      → (f' []).kept ≡ (f []).kept
      → ((k : Key) → Told (c k) (sub f (At k)) (sub f' (At k)) (stands (f []) k) (stands (f' []) k)
      ⊎ NotYet (c k) (sub f (At k)) (sub f' (At k)) ((f []).kept k) (stands (f []) k) (stands (f' []) k))
      → FreeMove r c f f' []
  -- a child moves
  Within : (k : Key) (p : List (Entry A))
      → (c k).moves (sub f (At k)) p (sub f' (At k))
      → only_kid k f f'
      → same_place f f'
      → (f' []).waiting ≡ (f []).waiting
      → same_stands f f'
      → (f' []).kept k ≡ (f []).kept k ++ p
      → only_kept k (f []) (f' [])
      → FreeMove r c f f' []
  -- an item of a child in the epoch of the output comes out
  Takes : (k : Key) (y : A)
      → stands (f []) k ≡ 0
      → (f []).kept k ≡ It y ∷ (f' []).kept k
      → only_kept k (f []) (f' [])
      → same_place f f'
      → (f' []).waiting ≡ (f []).waiting
      → same_stands f f'
      → same_kids f f'
      → FreeMove r c f f' (It y ∷ [])
  -- a child's mark puts it an epoch on
  Passes : (k : Key)
      → stands (f []) k ≡ 0
      → (f []).kept k ≡ Mark ∷ (f' []).kept k
      → only_kept k (f []) (f' [])
      → same_place f f'
      → (f' []).waiting ≡ (f []).waiting
      → stands (f' []) k ≡ suc (stands (f []) k)
      → other_stands k f f'
      → same_kids f f'
      → FreeMove r c f f' []
  -- all are an epoch ahead of the output
  Closing : ((k : Key) → stands (f []) k ≡ suc (stands (f' []) k))
      → (f' []).made ≡ (f []).made
      → (f []).ahead ≡ suc ((f' []).ahead)
      → (f' []).kept ≡ (f []).kept
      → (f' []).waiting ≡ (f []).waiting
      → same_kids f f'
      → FreeMove r c f f' (Mark ∷ [])
  -- the child that what waits needs is made, where the input stands
  Makes : (k : Key) (e : Entry A) (w : List (Entry A))
      → (f []).waiting ≡ e ∷ w
      → (c k).fresh (sub f (At k))
      → (c k).fresh (sub f' (At k))
      → only_kid k f f'
      → ((j : Key) → is_among j ((f' []).made) ≡ is_among j (k ∷ (f []).made))
      → (f' []).ahead ≡ (f []).ahead
      → (f' []).kept ≡ (f []).kept
      → (f' []).waiting ≡ (f []).waiting
      → same_stands f f'
      → FreeMove r c f f' []

pub record FreeSane {A S : Type 0} (c : Key → Part A S) (f : Live A S) : Type 0 where
  pub kids_sane : (k : Key) → (c k).sane (sub f (At k))
  -- what isn't made is fresh
  pub absent : (k : Key) → is_among k ((f []).made) ≡ false → (c k).fresh (sub f (At k)) × ((f []).kept k ≡ [])
  -- where a child stands, and the marks that are on the way in it, make the input's epoch
  pub aligned : (k : Key) → stands (f []) k + (count ((f []).kept k) + (c k).marks (sub f (At k))) ≡ (f []).ahead

-- nothing waits, the children in the output's epoch gave nothing, and not all are past it
pub record FreeQuiet {A S : Type 0} (c : Key → Part A S) (f : Live A S) : Type 0 where
  pub none_waits : (f []).waiting ≡ []
  pub kids_quiet : (k : Key) → (c k).quiet (sub f (At k))
  pub none_there : (k : Key) → stands (f []) k ≡ 0 → (f []).kept k ≡ []
  pub not_past : ((k : Key) → (n : ℕ) × (stands (f []) k ≡ suc n)) → ⊥

abbrev pub free_part : {A S : Type 0} → Router A → (Key → Part A S) → Part A S
free_part r c = record {
  fresh = FreshFork c;
  res = λ f. freely_of r c ((f []).waiting) (stands (f [])) ((f []).kept) (kids f);
  entry = [];
  moves = λ f o f'. FreeMove r c f f' o;
  target = kids_target (λ k. (c k).target);
  marks = λ f. count ((f []).waiting) + (f []).ahead;
  sane = FreeSane c;
  quiet = FreeQuiet c;
}

abbrev pub fork_part : {A S : Type 0} → Merge → Router A → (Key → Part A S) → Part A S
fork_part Free r c = free_part r c
fork_part Deterministic r c = turn_part r c

-- a move, or several one behind the other
pub data Several {A S : Type 0} (moves : Happens A S) (f : Live A S) : List (Entry A) → Live A S → Type 0 where
  One : (o : List (Entry A)) (f' : Live A S) → moves f o f' → Several moves f o f'
  Then : (o p : List (Entry A)) (mid f' : Live A S) → Several moves f o mid → moves mid p f' → Several moves f (o ++ p) f'

abbrev pub several : {A S : Type 0} → Part A S → Part A S
several p = record p { moves = Several p.moves }

-- the part of each tree
abbrev pub part : {A S : Type 0} → Tree A S → Part A S
part (Component m s) = component_part m s
part (Series a b) = series_part (part a) (part b)
part (Fork merge r child) = several (fork_part merge r (λ k. part (child k)))
