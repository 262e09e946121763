-- What flows is in order at new nodes, and stays so where a node changes.
use Rattle.std.proofs.Common.{◌≡◌, ℕ, zero, suc, ◌+◌, ◌≤◌, ◌<◌, nat_lt, Bool, true, false, ◌&&◌, List, [], ◌∷◌, ◌++◌, map, Option, Some, None, refl, sym, ap, ◌∙◌, subst, arith, inl, inr}
use Rattle.std.specs.Prelude.{slice_get}
use Rattle.std.specs.List.{list_all}
use Rattle.sn_streams.specs.Keys.{Key, key_eq}
use Rattle.sn_streams.specs.Keys as key
use Rattle.sn_net.specs.declared.net.Merge.{Merge as MergeKind}
use Rattle.sn_net.specs.declared.net.Merge.TheVariants as kind
use Rattle.sn_net.specs.declared.net.Net.{Net}
use Rattle.sn_net.specs.declared.net.Net.TheOpen.{Net-F}
use Rattle.sn_net.specs.declared.net.Net.TheFolds.{fold-roll-Net, ind-Net, map-Net}
use Rattle.sn_net.specs.declared.net.Net.TheViews.{roll-Net}
use Rattle.sn_net.specs.Cell.{new_cell}
use Rattle.sn_net.specs.Item.{ModelItem}
use Rattle.sn_view.specs.Epochs.{Epochs, marked, is_passed, moved_on, closed, counted_at}
use Rattle.sn_model.specs.declared.step.Step.{Step}
use Rattle.sn_view.specs.View.{Entry, It, Mark, End, Waiting, Plain, InFlight, Finished, Turn, To, Own, State, Alone, Cell, InTurn, Freely, Child, Target, Out, ToNode, ToChild, Node, View, changed_at, rest_of, waits_more, child_gives}
use Rattle.sn_view.specs.Next.{send, plain, passed, keeps, takes_kept, to_all, to_entry, with_epoch, new_nodes}
use Rattle.sn_view.specs.Parts.{Plan, alone, new_node, own_child, new_fork, dispatcher, unfolding_fork, branch_nodes, plan, plan_step}
use Rattle.sn_view.specs.Placed.{AllPlain, NoneToOwn, AreBetween, IsOrderlyState, IsOrderlyNode}
use Rattle.sn_view.proofs.Events.{both-true}
use Rattle.sn_view.proofs.Shaping.{split-there}

-- all elements of a list
abbrev pub Each : {X : Type 0} → (X → Type 0) → List X → Type 0
Each {X} P xs = (i : ℕ) (x : X) → slice_get xs i ≡ Some x → P x

module _ {X : Type 0} (P : X → Type 0) where
  -- the element is known
  pub each-changed-at : (f : X → X) (xs : List X) (i : ℕ) → Each P xs → ((x : X) → slice_get xs i ≡ Some x → P x → P (f x)) → Each P (changed_at i f xs)
  each-changed-at f [] i h s j x e = cc
  each-changed-at f (y ∷ xs) zero h s zero x e = let u : f y ≡ x = cc in subst P u (s y refl (h 0 y refl))
  each-changed-at f (y ∷ xs) zero h s (suc j) x e = h (suc j) x e
  each-changed-at f (y ∷ xs) (suc i) h s zero x e = h zero x e
  each-changed-at f (y ∷ xs) (suc i) h s (suc j) x e = each-changed-at f xs i (λ k z u. h (suc k) z u) s j x e

  pub each-changed : (f : X → X) (xs : List X) (i : ℕ) → Each P xs → ((x : X) → P x → P (f x)) → Each P (changed_at i f xs)
  each-changed f xs i h s = each-changed-at f xs i h (λ x u p. s x p)

  pub each-mapped : (f : X → X) (xs : List X) → Each P xs → ((x : X) → P x → P (f x)) → Each P (map f xs)
  each-mapped f [] h s j x e = cc
  each-mapped f (y ∷ xs) h s zero x e = let u : f y ≡ x = cc in subst P u (s y (h 0 y refl))
  each-mapped f (y ∷ xs) h s (suc j) x e = each-mapped f xs (λ k z u. h (suc k) z u) s j x e

  pub each-append : (xs ys : List X) → Each P xs → Each P ys → Each P (xs ++ ys)
  each-append xs ys h k j x e = elim (split-there xs ys j x e) [ inl u ↦ h j x u | inr u ↦ k u.0 x u.1 ]

  pub each-cons : (y : X) (ys : List X) → P y → Each P ys → Each P (y ∷ ys)
  each-cons y ys h k zero x e = let u : y ≡ x = cc in subst P u h
  each-cons y ys h k (suc j) x e = k j x e

  pub each-none : Each P []
  each-none j x e = cc

-- what waits
pub plain-plain : (o : List (Entry ModelItem)) → AllPlain (plain o)
plain-plain [] = tt
plain-plain (e ∷ o) = plain-plain o

pub plain-append : (ws vs : List Waiting) → AllPlain ws → AllPlain vs → AllPlain (ws ++ vs)
plain-append [] vs h k = k
plain-append (Plain e ∷ ws) vs h k = plain-append ws vs h k
plain-append (InFlight call given ∷ ws) vs h k = absurd h
plain-append (Finished given ∷ ws) vs h k = absurd h

pub plain-rest : (ws : List Waiting) → AllPlain ws → AllPlain (rest_of ws)
plain-rest [] h = tt
plain-rest (Plain e ∷ ws) h = h
plain-rest (InFlight call given ∷ ws) h = absurd h
plain-rest (Finished given ∷ ws) h = absurd h

-- decisions
pub to-own-append : (ds : List (Entry Turn)) (d : Entry Turn) → NoneToOwn ds → NoneToOwn (d ∷ []) → NoneToOwn (ds ++ d ∷ [])
to-own-append [] d h k = k
to-own-append (It (To j) ∷ ds) d (a, h) k = (a, to-own-append ds d h k)
to-own-append (It (Own y) ∷ ds) d h k = to-own-append ds d h k
to-own-append (Mark ∷ ds) d h k = to-own-append ds d h k
to-own-append (End ∷ ds) d h k = to-own-append ds d h k

pub to-own-rest : (ds : List (Entry Turn)) → NoneToOwn ds → NoneToOwn (rest_of ds)
to-own-rest [] h = tt
to-own-rest (It (To j) ∷ ds) (a, h) = h
to-own-rest (It (Own y) ∷ ds) h = h
to-own-rest (Mark ∷ ds) h = h
to-own-rest (End ∷ ds) h = h

-- epochs
up : (m high : ℕ) → m ≤ high → m ≤ high + 1
up m high h = omega (arith, h)

higher : (low high : ℕ) (ms : List ℕ) → AreBetween low high ms → AreBetween low (high + 1) ms
higher low high [] h = tt
higher low high (m ∷ ms) (a, b, h) = (a, up m high b, higher low high ms h)

pub closed-orderly : (e : Epochs) → IsOrderlyState (Freely e) → IsOrderlyState (Freely (closed e))
closed-orderly e (b, n) = (higher e.output e.input e.children b, n)

between-append : (low high : ℕ) (ms : List ℕ) (m : ℕ) → AreBetween low high ms → low ≤ m → m ≤ high → AreBetween low high (ms ++ m ∷ [])
between-append low high [] m h a b = (a, b, tt)
between-append low high (x ∷ ms) m (c, d, h) a b = (c, d, between-append low high ms m h a b)

all-append : (p : ℕ → Bool) (ms : List ℕ) (m : ℕ) → list_all p ms ≡ false → list_all p (ms ++ m ∷ []) ≡ false
all-append p [] m h = cc
all-append p (x ∷ ms) m h = at (p x) h (all-append p ms m)
  where
    at : (b : Bool) → (b && list_all p ms) ≡ false → (list_all p ms ≡ false → list_all p (ms ++ m ∷ []) ≡ false) → (b && list_all p (ms ++ m ∷ [])) ≡ false
    at false u later = refl
    at true u later = later u

below : (p : ℕ → Bool) (low high : ℕ) (ms : List ℕ) → AreBetween low high ms → list_all p ms ≡ false → low ≤ high
below p low high [] h n = cc
below p low high (m ∷ ms) (a, b, h) n = omega (arith, a, b)

same : (m : ℕ) → m ≤ m
same m = omega arith

pub epoch-orderly : (st : State) → IsOrderlyState st → IsOrderlyState (with_epoch st)
epoch-orderly Alone h = tt
epoch-orderly (Cell patterns cell) h = tt
epoch-orderly (InTurn ds) h = h
epoch-orderly (Freely e) (b, n) = (
  between-append e.output e.input e.children e.input b (below (λ epoch. nat_lt e.output epoch) e.output e.input e.children b n) (same e.input),
  all-append (λ epoch. nat_lt e.output epoch) e.children e.input n,
)

-- a child's mark
counted-there : (c : ℕ) (ms : List ℕ) (m : ℕ) → slice_get ms c ≡ Some m → slice_get (counted_at c ms) c ≡ Some (m + 1)
counted-there c [] m e = cc
counted-there zero (x ∷ ms) m e = let u : x ≡ m = cc in ap (λ (y : ℕ). Some (y + 1)) u
counted-there (suc c) (x ∷ ms) m e = counted-there c ms m e

one-on : (low high m : ℕ) → m ≡ low → low < high → (low ≤ m + 1) × (m + 1 ≤ high)
one-on low high m e h = (omega (arith, e), omega (arith, e, h))

between-counted : (low high c : ℕ) (ms : List ℕ) (m : ℕ) → AreBetween low high ms → slice_get ms c ≡ Some m → m ≡ low → low < high → AreBetween low high (counted_at c ms)
between-counted low high c [] m h e l u = tt
between-counted low high zero (x ∷ ms) m (a, b, h) e l u =
    let s : x ≡ m = cc in
    let v : (low ≤ x + 1) × (x + 1 ≤ high) = one-on low high x (s ∙ l) u in
    (v.0, v.1, h)
between-counted low high (suc c) (x ∷ ms) m (a, b, h) e l u = (a, b, between-counted low high c ms m h e l u)

not-all : (p : ℕ → Bool) (ms : List ℕ) (c m : ℕ) → slice_get ms c ≡ Some m → p m ≡ false → list_all p ms ≡ false
not-all p [] c m e h = cc
not-all p (x ∷ ms) zero m e h = let u : x ≡ m = cc in ap (λ (b : Bool). b && list_all p ms) (ap p u ∙ h)
not-all p (x ∷ ms) (suc c) m e h = at (p x) (not-all p ms c m e h)
  where
    at : (b : Bool) → list_all p ms ≡ false → (b && list_all p ms) ≡ false
    at false u = refl
    at true u = u

past-low : (low m : ℕ) → nat_lt low m ≡ true → low + 1 ≤ m
past-low low m h = grind (arith, h)

moved : (low high : ℕ) (ms : List ℕ) → AreBetween low high ms → list_all (λ epoch. nat_lt low epoch) ms ≡ true → AreBetween (low + 1) high ms
moved low high [] h a = tt
moved low high (m ∷ ms) (l, u, h) a =
    let v : (nat_lt low m ≡ true) × (list_all (λ epoch. nat_lt low epoch) ms ≡ true) = both-true (nat_lt low m) (list_all (λ epoch. nat_lt low epoch) ms) a in
    (past-low low m v.0, u, moved low high ms h v.1)

module _ (e : Epochs) (c m : ℕ) (there : slice_get e.children c ≡ Some m) (at-output : m ≡ e.output) (over : e.output < e.input) (h : IsOrderlyState (Freely e)) where
  abbrev now : List ℕ
  now = counted_at c e.children

  between : AreBetween e.output e.input now
  between = between-counted e.output e.input c e.children m h.0 there at-output over

  is-open : nat_lt e.output e.input ≡ true
  is-open = grind (arith, over)

  pub marked-orderly : is_passed (marked c e) ≡ false → IsOrderlyState (Freely (marked c e))
  marked-orderly n = (between, sym (ap (λ (b : Bool). b && list_all (λ epoch. nat_lt e.output epoch) now) is-open) ∙ n)

  not-past : nat_lt (e.output + 1) (m + 1) ≡ false
  not-past = grind (arith, at-output)

  pub moved-orderly : is_passed (marked c e) ≡ true → IsOrderlyState (Freely (moved_on (marked c e)))
  moved-orderly p = (
    moved e.output e.input now between (both-true (nat_lt e.output e.input) (list_all (λ epoch. nat_lt e.output epoch) now) p).1,
    not-all (λ epoch. nat_lt (e.output + 1) epoch) now c (m + 1) (counted-there c e.children m there) not-past,
  )

-- new nodes
pub record IsNew (n : Node) : Type 0 where
  pub waits : n.waiting ≡ []
  pub state : IsOrderlyState n.state

pub new-orderly : (net : Net) (n : Node) → IsNew n → IsOrderlyNode net n
new-orderly net n h = record { calls = λ b. subst AllPlain (sym h.waits) tt; state = h.state }

all-zero : (cs : List Child) → AreBetween 0 0 (map (λ (c : Child). 0) cs)
all-zero [] = tt
all-zero (c ∷ cs) = (same 0, same 0, all-zero cs)

fork-orderly : (m : MergeKind) (c : Child) (cs : List Child) → IsOrderlyState (new_fork m (c ∷ cs))
fork-orderly kind.Free c cs = (all-zero (c ∷ cs), refl)
fork-orderly kind.Det c cs = tt

pub dispatcher-new : (m : MergeKind) (left : ℕ) (c : Child) (cs : List Child) (steps : List Step) (path : List ℕ) (goes : Target) → IsNew (dispatcher m left (c ∷ cs) steps path goes)
dispatcher-new m left c cs steps path goes = record { waits = refl; state = fork-orderly m c cs }

abbrev pub MakesNew : Plan → Type 0
MakesNew p = (steps : List Step) (path : List ℕ) (goes : Target) (base : ℕ) → Each IsNew (p.nodes steps path goes base)

alone-new : (st : State) → IsOrderlyState st → MakesNew (alone st)
alone-new st h steps path goes base = each-cons IsNew (new_node st steps path goes) [] (record { waits = refl; state = h }) (each-none IsNew)

unfolding-new : (m : MergeKind) (left : ℕ) → MakesNew (unfolding_fork m left)
unfolding-new m left steps path goes base = each-cons IsNew (dispatcher m left (own_child base ∷ []) steps path goes) [] (dispatcher-new m left (own_child base) [] steps path goes) (each-none IsNew)

module _ (depth : ℕ) where
  abbrev P : Net → Type 0
  P net = MakesNew (plan depth net)

  by-form : (z : Net-F Net) → MakesNew (plan_step depth (map-Net _ _ (plan depth) z)) → P (roll-Net z)
  by-form z h = subst MakesNew (sym (fold-roll-Net Plan (plan_step depth) z)) h

  branches-new : (node i base : ℕ) (steps : List Step) (path : List ℕ) (es : List ((net : Net) × P net)) → Each IsNew (branch_nodes node i base steps path (map (plan depth) (map (λ e. e.0) es)))
  branches-new node i base steps path [] = each-none IsNew
  branches-new node i base steps path (e ∷ es) =
      each-append IsNew _ _ (e.1 _ _ _ _) (branches-new node (i + 1) _ steps path es)

  pub all-new : (net : Net) → P net
  all-new = ind-Net P (λ x y is. subst (λ z. P (roll-Net z)) is
      (elim y as (λ z. P (roll-Net (map-Net _ _ (λ e. e.0) z))) [
        | Net-F.Box place number ↦ by-form (Net-F.Box place number) (alone-new Alone tt)
        | Net-F.Filter filter ↦ by-form (Net-F.Filter filter) (alone-new Alone tt)
        | Net-F.Sync place patterns ↦ by-form (Net-F.Sync place patterns) (alone-new (Cell patterns (new_cell patterns)) tt)
        | Net-F.Serial left right ↦ by-form (Net-F.Serial left.0 right.0) (λ steps path goes base. each-append IsNew _ _ (left.1 _ _ _ _) (right.1 _ _ _ _))
        | Net-F.Choice place merge branches faces ↦ by-form (Net-F.Choice place merge (map (λ e. e.0) branches) faces)
            (λ steps path goes base. each-cons IsNew _ _ (dispatcher-new merge 0 (own_child base) _ steps path goes) (branches-new base 0 (base + 1) steps path branches))
        | Net-F.Star place merge body exit guard ↦ by-form (Net-F.Star place merge body.0 exit guard) (unfolding-new merge depth)
        | Net-F.Split place merge body id ↦ by-form (Net-F.Split place merge body.0 id) (unfolding-new merge 0)
      ]))

  pub made-new : (form : Option (Net-F Net)) (k : Key) (i : ℕ) (n : Node) (base : ℕ) → Each IsNew (new_nodes depth form k i n base)
  made-new None k i n base = each-none IsNew
  made-new (Some (Net-F.Box place number)) k i n base = each-none IsNew
  made-new (Some (Net-F.Filter filter)) k i n base = each-none IsNew
  made-new (Some (Net-F.Sync place patterns)) k i n base = each-none IsNew
  made-new (Some (Net-F.Serial left right)) k i n base = each-none IsNew
  made-new (Some (Net-F.Choice place merge branches faces)) k i n base = each-none IsNew
  made-new (Some (Net-F.Star place merge body exit guard)) k i n base =
      each-append IsNew _ _ (all-new body _ _ _ _) (each-cons IsNew _ [] (dispatcher-new merge _ _ [] _ _ _) (each-none IsNew))
  made-new (Some (Net-F.Split place merge body id)) key.Own i n base = each-none IsNew
  made-new (Some (Net-F.Split place merge body id)) (key.Branch j) i n base = each-none IsNew
  made-new (Some (Net-F.Split place merge body id)) key.Inside i n base = each-none IsNew
  made-new (Some (Net-F.Split place merge body id)) (key.Value v) i n base = all-new body _ _ _ _

-- entries that are sent
module _ (net : Net) where
  abbrev pub Ord : Node → Type 0
  Ord = IsOrderlyNode net

  pub waits-orderly : (o : List (Entry ModelItem)) (n : Node) → Ord n → Ord (waits_more (plain o) n)
  waits-orderly o n h = record { calls = λ b. plain-append n.waiting (plain o) (h.calls b) (plain-plain o); state = h.state }

  pub child-orderly : (c : ℕ) (o : List (Entry ModelItem)) (n : Node) → Ord n → Ord (child_gives c o n)
  child-orderly c o n h = record { calls = h.calls; state = h.state }

  pub takes-orderly : (c : ℕ) (n : Node) → Ord n → Ord (takes_kept c n)
  takes-orderly c n h = record { calls = h.calls; state = h.state }

  pub passed-orderly : (n : Node) → Ord n → Ord (passed n)
  passed-orderly n h = record { calls = λ b. plain-rest n.waiting (h.calls b); state = h.state }

  pub keeps-orderly : (st : State) → IsOrderlyState st → (n : Node) → Ord n → Ord (keeps st n)
  keeps-orderly st s n h = record { calls = h.calls; state = s }

  pub send-orderly : (goes : Target) (o : List (Entry ModelItem)) (g : View) → Each Ord g.nodes → Each Ord (send goes o g).nodes
  send-orderly Out o g h = h
  send-orderly (ToNode j) o g h = each-changed Ord (waits_more (plain o)) g.nodes j h (waits-orderly o)
  send-orderly (ToChild j c) o g h = each-changed Ord (child_gives c o) g.nodes j h (child-orderly c o)

  pub all-orderly : (cs : List Child) (o : List (Entry ModelItem)) (g : View) → Each Ord g.nodes → Each Ord (to_all cs o g).nodes
  all-orderly [] o g h = h
  all-orderly (c ∷ cs) o g h = all-orderly cs o (send (ToNode c.entry) o g) (send-orderly (ToNode c.entry) o g h)

  pub entry-orderly : (c : ℕ) (o : List (Entry ModelItem)) (child : Option Child) (g : View) → Each Ord g.nodes → Each Ord (to_entry c o child g).nodes
  entry-orderly zero o child g h = h
  entry-orderly (suc c) o (Some child) g h = send-orderly (ToNode child.entry) o g h
  entry-orderly (suc c) o None g h = h
