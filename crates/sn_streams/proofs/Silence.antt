-- A segment without items is answered by one without items.
use Rattle.std.proofs.Common.{◌≡◌, ℕ, zero, suc, List, [], ◌∷◌, ◌++◌, get_or, map, length, pred, refl, sym, ap, ap₂, ◌∙◌}
use Rattle.std.proofs.Math.ListN.{length-map}
use Rattle.sn_streams.specs.Forks.{Relation, Router, items_of, by_segment, in_turn, Merge, Free, Deterministic, Forked}
use Rattle.sn_streams.specs.Keys.{Key}
use Rattle.sn_streams.specs.Segments.{Segments, joined}
use Rattle.sn_streams.specs.Trees.{Tree, Component, Series, Fork, Allows}
use Rattle.sn_streams.proofs.Forks.{items_of-append}
use Rattle.sn_streams.proofs.Machines.{silent_machine}
use Rattle.sn_streams.proofs.Shuffles.{nothing_shuffled_at}
use Rattle.sn_streams.proofs.Trees.{tree_keeps}

-- as many segments, without an item
abbrev pub emptied : {A : Type 0} → Segments A → Segments A
emptied xss = map (λ xs. []) xss

silent_child : {A : Type 0} (r : Router A) (k : Key) (i : ℕ) (xss : Segments A) → get_or xss i [] ≡ [] → get_or (by_segment r k xss) i [] ≡ []
silent_child r k i [] none = refl
silent_child r k zero (xs ∷ xss) none = ap (items_of r k) none
silent_child r k (suc i) (xs ∷ xss) none = silent_child r k i xss none

silent_fork : {A : Type 0} (merge : Merge) (r : Router A) (child : Key → Relation A) (i : ℕ)
    → ((k : Key) (xss yss : Segments A) → child k xss yss → get_or xss i [] ≡ [] → get_or yss i [] ≡ [])
    → (xss yss : Segments A) → Forked merge r child xss yss → get_or xss i [] ≡ [] → get_or yss i [] ≡ []
silent_fork Free r child i silent xss yss h none =
    nothing_shuffled_at i yss h.answers (λ k. silent k (by_segment r k xss) (h.answers k) (h.answered k) (silent_child r k i xss none)) h.shuffled
silent_fork {A} Deterministic r child i silent xss yss h none =
    ap (λ (zss : Segments A). get_or zss i []) h.in_order ∙ silent_machine (in_turn r) i h.answers xss none

pub silent_tree : {A S : Type 0} (t : Tree A S) (i : ℕ) (xss yss : Segments A) → Allows t xss yss → get_or xss i [] ≡ [] → get_or yss i [] ≡ []
silent_tree {A} (Component m s) i xss yss h none = ap (λ (zss : Segments A). get_or zss i []) h ∙ silent_machine m i s xss none
silent_tree (Series a b) i xss yss h none =
    silent_tree b i h.between yss h.from_second (silent_tree a i xss h.between h.from_first none)
silent_tree (Fork merge r child) i xss yss h none =
    silent_fork merge r (λ k. Allows (child k)) i (λ k. silent_tree (child k) i) xss yss h none

all_silent : {A : Type 0} (yss xss : Segments A) → length yss ≡ length xss → ((i : ℕ) → get_or yss i [] ≡ []) → yss ≡ emptied xss
all_silent [] [] e none = refl
all_silent [] (xs ∷ xss) e none = cc
all_silent (ys ∷ yss) [] e none = cc
all_silent (ys ∷ yss) (xs ∷ xss) e none = ap₂ (λ zs zss. zs ∷ zss) (none 0) (all_silent yss xss (ap pred e) (λ i. none (suc i)))

both_empty : {A : Type 0} (xs ys : List A) → xs ++ ys ≡ [] → (xs ≡ []) × (ys ≡ [])
both_empty [] ys e = (refl, e)
both_empty (x ∷ xs) ys e = cc

-- A child that no item goes to gets no item at any place.
pub without_items : {A : Type 0} (r : Router A) (k : Key) (xss : Segments A) → items_of r k (joined xss) ≡ [] → (i : ℕ) → get_or (by_segment r k xss) i [] ≡ []
without_items r k [] none i = refl
without_items r k (xs ∷ xss) none zero =
    (both_empty (items_of r k xs) (items_of r k (joined xss)) (sym (items_of-append r k xs (joined xss)) ∙ none)).0
without_items r k (xs ∷ xss) none (suc i) =
    without_items r k xss (both_empty (items_of r k xs) (items_of r k (joined xss)) (sym (items_of-append r k xs (joined xss)) ∙ none)).1 i

pub nothing_answered : {A S : Type 0} (t : Tree A S) (r : Router A) (k : Key) (xss yss : Segments A) → items_of r k (joined xss) ≡ []
    → Allows t (by_segment r k xss) yss → yss ≡ emptied xss
nothing_answered t r k xss yss none h =
    all_silent yss xss (tree_keeps t (by_segment r k xss) yss h ∙ length-map xss (items_of r k))
    (λ i. silent_tree t i (by_segment r k xss) yss h (without_items r k xss none i))

pub no_segment_answered : {A S : Type 0} (t : Tree A S) (yss : Segments A) → Allows t [] yss → yss ≡ []
no_segment_answered t yss h = all_silent yss [] (tree_keeps t [] yss h) (λ i. silent_tree t i [] yss h refl)
