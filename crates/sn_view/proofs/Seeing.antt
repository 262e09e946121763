-- The state that is seen, after changes of the nodes.
use Rattle.std.proofs.Common.{◌≡◌, ℕ, zero, suc, Bool, true, false, cond, List, [], ◌∷◌, ◌++◌, map, Some, refl, sym, ap, ◌∙◌, subst}
use Rattle.std.proofs.lemmas.List.{map-append}
use Rattle.std.specs.Prelude.{slice_get}
use Rattle.sn_net.specs.Cell.{CellState}
use Rattle.sn_net.specs.Item.{ModelItem}
use Rattle.sn_view.specs.View.{Entry, It, Mark, End, Node, changed_at, waits_more}
use Rattle.sn_view.specs.Next.{plain}
use Rattle.sn_live.specs.Entries.{Entry as LiveEntry, It as LiveIt, Mark as LiveMark}
use Rattle.sn_live.specs.Live.{Step as LiveStep, Node as LiveNode, Live, subs, waits_more as live_waits_more}
use Rattle.sn_live.specs.Flat.{Flat, look, node_at, at_index, NoneAt as FlatNoneAt, Distinct, steps_eq}
use Rattle.sn_live.proofs.Arena.{steps_eq-refl, steps_eq-true}
use Rattle.sn_view.specs.Seen.{step_of, erased, entry_of, seen_node, seen}
use Rattle.sn_view.specs.Placed.{shape_of, NoneAt, DistinctSteps}

pub erased-append : {X : Type 0} (a b : List (Entry X)) → erased (a ++ b) ≡ erased a ++ erased b
erased-append [] b = refl
erased-append {X} (It x ∷ a) b = ap (λ (q : List (LiveEntry X)). LiveIt x ∷ q) (erased-append a b)
erased-append {X} (Mark ∷ a) b = ap (λ (q : List (LiveEntry X)). LiveMark ∷ q) (erased-append a b)
erased-append (End ∷ a) b = erased-append a b

erased-plain : (o : List (Entry ModelItem)) → map entry_of (plain o) ≡ o
erased-plain [] = refl
erased-plain (e ∷ o) = ap (λ (q : List (Entry ModelItem)). e ∷ q) (erased-plain o)

-- entries put behind what waits
pub seen-waits : (o : List (Entry ModelItem)) (n : Node) → seen_node (waits_more (plain o) n) ≡ live_waits_more (erased o) (seen_node n)
seen-waits o n =
    ap (λ (w : List (LiveEntry ModelItem)). record (seen_node n) { waiting = w })
    (ap erased (map-append entry_of n.waiting (plain o) ∙ ap (λ (q : List (Entry ModelItem)). map entry_of n.waiting ++ q) (erased-plain o)) ∙ erased-append (map entry_of n.waiting) o)

-- distinct steps
none-at : (s : List LiveStep) (ns : List Node) → NoneAt s (map shape_of ns) → FlatNoneAt s (map seen ns)
none-at s [] d = tt
none-at s (n ∷ ns) (d, ds) = (d, none-at s ns ds)

pub are-distinct : (ns : List Node) → DistinctSteps (map shape_of ns) → Distinct (map seen ns)
are-distinct [] d = tt
are-distinct (n ∷ ns) (d, ds) = (none-at (map step_of n.steps) ns d, are-distinct ns ds)

pub node-there : (ns : List Node) (i : ℕ) (n : Node) → slice_get ns i ≡ Some n → node_at (map seen ns) i ≡ Some (seen n)
node-there [] i n e = cc
node-there (m ∷ ns) zero n e = let u : m ≡ n = cc in ap (λ (k : Node). Some (seen k)) u
node-there (m ∷ ns) (suc i) n e = node-there ns i n e

-- a change of one node, as it is seen
pub seen-changed : (g : Node → Node) (h : LiveNode ModelItem CellState → LiveNode ModelItem CellState) (ns : List Node) (i : ℕ)
    → ((n : Node) → slice_get ns i ≡ Some n → seen (g n) ≡ record { steps = map step_of n.steps; node = h (seen_node n) })
    → map seen (changed_at i g ns) ≡ at_index i h (map seen ns)
seen-changed g h [] i same = refl
seen-changed g h (n ∷ ns) zero same = ap (λ (m : Flat ModelItem CellState). m ∷ map seen ns) (same n refl)
seen-changed g h (n ∷ ns) (suc i) same = ap (λ (ms : List (Flat ModelItem CellState)). seen n ∷ ms) (seen-changed g h ns i same)

-- the node at its steps
pub look-here : (b : Live ModelItem CellState) (ns : List Node) (i : ℕ) (n : Node) → DistinctSteps (map shape_of ns) → slice_get ns i ≡ Some n
    → look b (map seen ns) (map step_of n.steps) ≡ seen_node n
look-here b [] i n d e = cc
look-here b (m ∷ ns) zero n d e =
    let u : m ≡ n = cc in
    let F : Bool → LiveNode ModelItem CellState = λ v. cond v (seen_node m) (look b (map seen ns) (map step_of n.steps)) in
    ap F (ap (λ (k : Node). steps_eq (map step_of n.steps) (map step_of k.steps)) u ∙ steps_eq-refl (map step_of n.steps)) ∙ ap seen_node u
look-here b (m ∷ ns) (suc i) n (d, ds) e =
    let F : Bool → LiveNode ModelItem CellState = λ v. cond v (seen_node m) (look b (map seen ns) (map step_of n.steps)) in
    ap F (differs ns i d e) ∙ look-here b ns i n ds e
  where
    turned : (p q : List LiveStep) → steps_eq p q ≡ false → steps_eq q p ≡ false
    turned p q h = at (steps_eq q p) refl
      where
        at : (v : Bool) → steps_eq q p ≡ v → v ≡ false
        at false t = refl
        at true t = sym (steps_eq-refl p) ∙ subst (λ (r : List LiveStep). steps_eq p r ≡ false) (steps_eq-true q p t) h

    differs : (ns : List Node) (i : ℕ) → NoneAt (map step_of m.steps) (map shape_of ns) → slice_get ns i ≡ Some n → steps_eq (map step_of n.steps) (map step_of m.steps) ≡ false
    differs [] i d e = cc
    differs (k ∷ ns) zero (d, ds) e =
        let u : k ≡ n = cc in
        turned (map step_of m.steps) (map step_of n.steps) (ap (λ (j : Node). steps_eq (map step_of m.steps) (map step_of j.steps)) (sym u) ∙ d)
    differs (k ∷ ns) (suc i) (d, ds) e = differs ns i ds e

pub subs-root : {A S : Type 0} (q : List LiveStep) (f : Live A S) → subs q f [] ≡ f q
subs-root [] f = refl
subs-root (s ∷ q) f = subs-root q (λ u. f (s ∷ u))
