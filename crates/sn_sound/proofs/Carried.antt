-- What machines, trees in series and forks carry.
use Rattle.std.proofs.Common.{◌≡◌, Bool, true, false, cond, List, [], ◌∷◌, ◌++◌, refl, sym, subst}
use Rattle.std.specs.List.{AllByRecursion as Each}
use Rattle.sn_streams.specs.Forks.{Relation, exactly, InSeries, Router, items_of, by_segment, by_item, in_turn, Merge, Free, Deterministic, Forked}
use Rattle.sn_streams.specs.Keys.{Key, key_eq, replaced_at}
use Rattle.sn_streams.specs.Machines.{Machine, emitted, after, transduced}
use Rattle.sn_streams.specs.Segments.{Segments, joined, singles, first_segment, other_segments}
use Rattle.sn_streams.specs.Shuffles.{ShuffleByKey, SegmentShuffles}
use Rattle.sn_streams.proofs.Keys.{same_key}
use Rattle.sn_streams.specs.Trees.{Tree, Component, Series, Fork, Allows}
use Rattle.sn_sound.specs.Carried.{EachItem, Carries, IsKept, Passes}
use Rattle.sn_sound.specs.Conveyed.{Conveys}

pub each_more : {A : Type 0} (P Q : A → Type 0) → ((x : A) → P x → Q x) → (xs : List A) → Each P xs → Each Q xs
each_more P Q more [] each = tt
each_more P Q more (x ∷ xs) each = (more x each.0, each_more P Q more xs each.1)

module _ {A : Type 0} (P : A → Type 0) where
  pub each_append : (xs ys : List A) → Each P xs → Each P ys → Each P (xs ++ ys)
  each_append [] ys first second = second
  each_append (x ∷ xs) ys first second = (first.0, each_append xs ys first.1 second)

  pub each_joined : (xss : Segments A) → EachItem P xss → Each P (joined xss)
  each_joined [] each = tt
  each_joined (xs ∷ xss) each = each_append xs (joined xss) each.0 (each_joined xss each.1)

  each_single : (xs : List A) → Each P xs → EachItem P (singles xs)
  each_single [] each = tt
  each_single (x ∷ xs) each = ((each.0, tt), each_single xs each.1)

  each_first : (xss : Segments A) → EachItem P xss → Each P (first_segment xss)
  each_first [] each = tt
  each_first (xs ∷ xss) each = each.0

  each_other : (xss : Segments A) → EachItem P xss → EachItem P (other_segments xss)
  each_other [] each = tt
  each_other (xs ∷ xss) each = each.1

  -- a shuffle has the items of its lists
  each_shuffled : (ys : List A) (lists : Key → List A) → ((k : Key) → Each P (lists k)) → ShuffleByKey ys lists → Each P ys
  each_shuffled [] lists each shuffle = tt
  each_shuffled (y ∷ ys) lists each (k, tail, is, shuffle) =
      let here : Each P (y ∷ tail) = subst (Each P) is (each k) in
      (here.0, each_shuffled ys (replaced_at lists k tail) (λ j. at (key_eq j k) (lists j) tail (each j) here.1) shuffle)
    where
      at : (b : Bool) (list other : List A) → Each P list → Each P other → Each P (cond b other list)
      at true list other first second = second
      at false list other first second = first

  each_shuffles : (yss : Segments A) (streams : Key → Segments A) → ((k : Key) → EachItem P (streams k)) → SegmentShuffles yss streams → EachItem P yss
  each_shuffles [] streams each shuffles = tt
  each_shuffles (ys ∷ yss) streams each (firsts, others, are, shuffle, shuffles) = (
    each_shuffled ys firsts (λ k. (parts k).0) shuffle,
    each_shuffles yss others (λ k. (parts k).1) shuffles,
  )
    where
      parts : (k : Key) → EachItem P (firsts k ∷ others k)
      parts k = subst (EachItem P) (are k) (each k)

-- A machine whose states keep I, and that answers items of Q to an item of P.
module _ {A S : Type 0} (m : Machine A S) (I : S → Type 0) (P Q : A → Type 0) (keeps : (s : S) (x : A) → I s → P x → I (m.next s x) × Each Q (m.emits s x)) where
  emitted_each : (s : S) (xs : List A) → I s → Each P xs → I (after m s xs) × Each Q (emitted m s xs)
  emitted_each s [] is each = (is, tt)
  emitted_each s (x ∷ xs) is each =
      let step = keeps s x is each.0 in
      let rest = emitted_each (m.next s x) xs step.0 each.1 in
      (rest.0, each_append Q (m.emits s x) (emitted m (m.next s x) xs) step.1 rest.1)

  transduced_each : (s : S) (xss : Segments A) → I s → EachItem P xss → EachItem Q (transduced m s xss)
  transduced_each s [] is each = tt
  transduced_each s (xs ∷ xss) is each =
      let here = emitted_each s xs is each.0 in
      (here.1, transduced_each (after m s xs) xss here.0 each.1)

  pub machine_carries : (s : S) → I s → Carries (exactly (transduced m s)) P Q
  machine_carries s is xss yss each are = subst (EachItem Q) (sym are) (transduced_each s xss is each)

pub series_carries : {A : Type 0} (a b : Relation A) (P Q R : A → Type 0) → Carries a P Q → Carries b Q R → Carries (InSeries a b) P R
series_carries a b P Q R first second xss yss each h = second h.between yss (first xss h.between each h.from_first) h.from_second

-- A fork whose children answer items of Q to the items of P that have their key.
module _ {A : Type 0} (r : Router A) (child : Key → Relation A) (P Q : A → Type 0) (P' : Key → A → Type 0)
    (sent : (x : A) → P x → P' (r.key x) x) (carries : (k : Key) → Carries (child k) (P' k) Q) where
  sent_each : (k : Key) (xs : List A) → Each P xs → Each (P' k) (items_of r k xs)
  sent_each k [] each = tt
  sent_each k (x ∷ xs) each = at (key_eq k (r.key x)) refl (sent_each k xs each.1)
    where
      at : (b : Bool) → key_eq k (r.key x) ≡ b → Each (P' k) (items_of r k xs) → Each (P' k) (cond b (x ∷ items_of r k xs) (items_of r k xs))
      at true is rest = (subst (λ (j : Key). P' j x) (sym (same_key k (r.key x) is)) (sent x each.0), rest)
      at false is rest = rest

  sent_segments : (k : Key) (xss : Segments A) → EachItem P xss → EachItem (P' k) (by_segment r k xss)
  sent_segments k [] each = tt
  sent_segments k (xs ∷ xss) each = (sent_each k xs each.0, sent_segments k xss each.1)

  taken : (answers : Key → Segments A) (x : A) → ((k : Key) → EachItem Q (answers k)) → (k : Key) → EachItem Q ((in_turn r).next answers x k)
  taken answers x each k = at (key_eq k (r.key x))
    where
      at : (b : Bool) → EachItem Q (cond b (other_segments (answers k)) (answers k))
      at true = each_other Q (answers k) (each k)
      at false = each k

  pub fork_carries : (merge : Merge) → Carries (Forked merge r child) P Q
  fork_carries Free xss yss each h =
      each_shuffles Q yss h.answers (λ k. carries k (by_segment r k xss) (h.answers k) (sent_segments k xss each) (h.answered k)) h.shuffled
  fork_carries Deterministic xss yss each h =
      machine_carries (in_turn r) (λ answers. (k : Key) → EachItem Q (answers k)) P Q
      (λ answers x is here. (taken answers x is, each_first Q (answers (r.key x)) (is (r.key x))))
      h.answers
      (λ k. carries k (by_item r k xss) (h.answers k) (each_single (P' k) (items_of r k (joined xss)) (sent_each k (joined xss) (each_joined P xss each))) (h.answered k))
      xss yss each h.in_order

-- a tree all of whose components keep a test
pub kept_is_carried : {A S : Type 0} (test : A → Bool) (t : Tree A S) → IsKept test t → Carries (Allows t) (Passes test) (Passes test)
kept_is_carried test (Component m s) keeps = machine_carries m (λ _. Unit {0}) (Passes test) (Passes test) (λ state x here has. (tt, keeps state x has)) s tt
kept_is_carried test (Series a b) keeps = series_carries (Allows a) (Allows b) (Passes test) (Passes test) (Passes test) (kept_is_carried test a keeps.0) (kept_is_carried test b keeps.1)
kept_is_carried test (Fork merge r child) keeps =
    fork_carries r (λ k. Allows (child k)) (Passes test) (Passes test) (λ k. Passes test) (λ x has. has) (λ k. kept_is_carried test (child k) (keeps k)) merge

-- what a tree conveys it carries, whatever the schedule
pub conveys_carries : {A S : Type 0} (sort : A → Type 0) (t : Tree A S) (P Q : A → Type 0) → Conveys sort t P Q → Carries (Allows t) P Q
conveys_carries sort (Component m s) P Q (keeps, here, in_sort, out_sort, goes) = machine_carries m keeps P Q goes s here
conveys_carries sort (Series a b) P Q (between, first, second) =
    series_carries (Allows a) (Allows b) P between Q (conveys_carries sort a P between first) (conveys_carries sort b between Q second)
conveys_carries sort (Fork merge r child) P Q (sent, in_sort, out_sort, goes, each) =
    fork_carries r (λ k. Allows (child k)) P Q sent goes (λ k. conveys_carries sort (child k) (sent k) Q (each k)) merge

-- and where more is known of what comes in
pub conveys_from : {A S : Type 0} (sort : A → Type 0) (t : Tree A S) (P more Q : A → Type 0) → ((x : A) → more x → P x) → Conveys sort t P Q → Conveys sort t more Q
conveys_from sort (Component m s) P more Q less (keeps, here, in_sort, out_sort, goes) = (keeps, here, (λ x is. in_sort x (less x is)), out_sort, (λ state x kept is. goes state x kept (less x is)))
conveys_from sort (Series a b) P more Q less (between, first, second) = (between, conveys_from sort a P more between less first, second)
conveys_from sort (Fork merge r child) P more Q less (sent, in_sort, out_sort, goes, each) = (sent, (λ x is. in_sort x (less x is)), out_sort, (λ x is. goes x (less x is)), each)
