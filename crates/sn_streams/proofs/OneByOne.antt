-- The one-thread meaning is that of one machine, which takes an item at a time.
use Rattle.std.proofs.Common.{◌≡◌, Bool, true, false, cond, List, [], ◌∷◌, ◌++◌, refl, sym, ap, ap₂, ◌∙◌, append-nil}
use Rattle.std.proofs.Math.Path.{fun_ext}
use Rattle.sn_streams.specs.Forks.{Router, items_of, by_item, in_turn}
use Rattle.sn_streams.specs.Keys.{Key, key_eq}
use Rattle.sn_streams.specs.Machines.{Machine, emitted, after, transduced}
use Rattle.sn_streams.specs.OneByOne.{in_series, side_by_side, State, start, one_by_one}
use Rattle.sn_streams.specs.Segments.{Segments, joined, singles, first_segment, other_segments}
use Rattle.sn_streams.specs.Trees.{Tree, Component, Series, Fork, one}
use Rattle.sn_streams.proofs.Forks.{items_of-append}
use Rattle.sn_streams.proofs.Keys.{key_eq-refl}
use Rattle.sn_streams.proofs.Machines.{emitted-append, after-append}

module _ {A S T : Type 0} (m : Machine A S) (n : Machine A T) where
  abbrev pair : S → T → S × T
  pair s t = (s, t)

  emitted-in_series : (s : S) (t : T) (xs : List A) → emitted n t (emitted m s xs) ≡ emitted (in_series m n) (s, t) xs
  emitted-in_series s t [] = refl
  emitted-in_series s t (x ∷ xs) =
      emitted-append n t (m.emits s x) (emitted m (m.next s x) xs)
      ∙ ap (λ zs. emitted n t (m.emits s x) ++ zs) (emitted-in_series (m.next s x) (after n t (m.emits s x)) xs)

  after-in_series : (s : S) (t : T) (xs : List A) → after (in_series m n) (s, t) xs ≡ (after m s xs, after n t (emitted m s xs))
  after-in_series s t [] = refl
  after-in_series s t (x ∷ xs) =
      after-in_series (m.next s x) (after n t (m.emits s x)) xs
      ∙ ap (λ (u : T). pair (after m (m.next s x) xs) u) (sym (after-append n t (m.emits s x) (emitted m (m.next s x) xs)))

  transduced-in_series : (s : S) (t : T) (xss : Segments A) → transduced n t (transduced m s xss) ≡ transduced (in_series m n) (s, t) xss
  transduced-in_series s t [] = refl
  transduced-in_series s t (xs ∷ xss) =
      ap₂ (λ ys yss. ys ∷ yss) (emitted-in_series s t xs)
      (transduced-in_series (after m s xs) (after n t (emitted m s xs)) xss
      ∙ ap (λ (q : S × T). transduced (in_series m n) q xss) (sym (after-in_series s t xs)))

module _ {A : Type 0} (r : Router A) (S : Key → Type 0) (m : (k : Key) → Machine A (S k)) where
  abbrev beside : Machine A ((k : Key) → S k)
  beside = side_by_side r S m

  -- what each answers to its items of xs, and then to those of later
  abbrev answers : ((k : Key) → S k) → List A → (Key → List A) → Key → Segments A
  answers states xs later k = transduced (m k) (states k) (singles (items_of r k xs ++ later k))

  answers_left : (states : (k : Key) → S k) (x : A) (xs : List A) (later : Key → List A)
      → (in_turn r).next (answers states (x ∷ xs) later) x ≡ answers (beside.next states x) xs later
  answers_left states x xs later = fun_ext (λ k. at k (key_eq k (r.key x)) (items_of r k xs))
    where
      at : (k : Key) (b : Bool) (us : List A) →
          cond b (other_segments (transduced (m k) (states k) (singles (cond b (x ∷ us) us ++ later k)))) (transduced (m k) (states k) (singles (cond b (x ∷ us) us ++ later k)))
          ≡ transduced (m k) (cond b ((m k).next (states k) x) (states k)) (singles (us ++ later k))
      at k true us = refl
      at k false us = refl

  first_answer : (states : (k : Key) → S k) (x : A) (xs : List A) (later : Key → List A)
      → (in_turn r).emits (answers states (x ∷ xs) later) x ≡ beside.emits states x
  first_answer states x xs later =
      ap (λ b. first_segment (transduced (m k) (states k) (singles (cond b (x ∷ items_of r k xs) (items_of r k xs) ++ later k)))) (key_eq-refl k)
      ∙ append-nil ((m k).emits (states k) x)
    where
      k : Key
      k = r.key x

  emitted-beside : (states : (k : Key) → S k) (xs : List A) (later : Key → List A) → emitted (in_turn r) (answers states xs later) xs ≡ emitted beside states xs
  emitted-beside states [] later = refl
  emitted-beside states (x ∷ xs) later =
      ap₂ (λ us vs. us ++ vs) (first_answer states x xs later)
      (ap (λ (left : Key → Segments A). emitted (in_turn r) left xs) (answers_left states x xs later) ∙ emitted-beside (beside.next states x) xs later)

  after-beside : (states : (k : Key) → S k) (xs : List A) (later : Key → List A) → after (in_turn r) (answers states xs later) xs ≡ answers (after beside states xs) [] later
  after-beside states [] later = refl
  after-beside states (x ∷ xs) later =
      ap (λ (left : Key → Segments A). after (in_turn r) left xs) (answers_left states x xs later) ∙ after-beside (beside.next states x) xs later

  transduced-beside : (states : (k : Key) → S k) (xss : Segments A)
      → transduced (in_turn r) (λ k. transduced (m k) (states k) (by_item r k xss)) xss ≡ transduced beside states xss
  transduced-beside states [] = refl
  transduced-beside states (xs ∷ xss) =
      ap (λ (left : Key → Segments A). transduced (in_turn r) left (xs ∷ xss))
      (fun_ext (λ k. ap (λ us. transduced (m k) (states k) (singles us)) (items_of-append r k xs (joined xss))))
      ∙ ap₂ (λ ys yss. ys ∷ yss) (emitted-beside states xs (λ k. items_of r k (joined xss)))
      (ap (λ (left : Key → Segments A). transduced (in_turn r) left xss) (after-beside states xs (λ k. items_of r k (joined xss)))
      ∙ transduced-beside (after beside states xs) xss)

pub one_is_a_machine : {A S : Type 0} (t : Tree A S) (xss : Segments A) → one t xss ≡ transduced (one_by_one t) (start t) xss
one_is_a_machine (Component m s) xss = refl
one_is_a_machine (Series a b) xss =
    ap (one b) (one_is_a_machine a xss) ∙ one_is_a_machine b (transduced (one_by_one a) (start a) xss)
    ∙ transduced-in_series (one_by_one a) (one_by_one b) (start a) (start b) xss
one_is_a_machine {A} (Fork merge r child) xss =
    ap (λ (left : Key → Segments A). transduced (in_turn r) left xss) (fun_ext (λ k. one_is_a_machine (child k) (by_item r k xss)))
    ∙ transduced-beside r (λ k. State (child k)) (λ k. one_by_one (child k)) (λ k. start (child k)) xss
