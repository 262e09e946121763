-- What is known at each place of a tree, of what comes in there, of what leaves it, and of what a fork decides.
use Rattle.std.proofs.Common.{◌≡◌, Bool, true, false, cond, List, [], ◌∷◌, map, refl, sym, subst}
use Rattle.std.specs.Prelude.{Option, None, Some}
use Rattle.std.specs.List.{AllByRecursion as Each}
use Rattle.std.specs.Option.{option_and_then}
use Rattle.std.proofs.lemmas.Option.{none-some, same_Some}
use Rattle.sn_streams.specs.Forks.{Router, Merge, items_of, by_item}
use Rattle.sn_streams.specs.Keys.{Key, Own, key_eq}
use Rattle.sn_streams.proofs.Keys.{same_key}
use Rattle.sn_streams.specs.Segments.{Segments, joined, singles}
use Rattle.sn_streams.specs.Trees.{Tree, Component, Series, Fork, one, passing}
use Rattle.sn_streams.proofs.Trees.{tree_is_lawful}
use Rattle.sn_histories.specs.Entries.{Entry, Item, To, Mark, End, closed, framed, entries}
use Rattle.sn_histories.specs.Histories.{decision, PassesOwn}
use Rattle.sn_histories.specs.Sites.{Site, Step, Left, Right, Into, stepped, reached}
use Rattle.sn_sound.specs.Carried.{EachItem}
use Rattle.sn_sound.specs.Conveyed.{Conveys}
use Rattle.sn_sound.proofs.Carried.{conveys_carries, each_append, each_joined}

-- the item of an entry has P
abbrev pub OfItem : {A : Type 0} → (A → Type 0) → Entry A → Type 0
OfItem P (Item x) = P x
OfItem P (To k) = Unit {0}
OfItem P Mark = Unit {0}
OfItem P End = Unit {0}

-- what an entry is made of, of each item that has P, is an entry of Q
module _ {A : Type 0} (f : A → Entry A) (P Q : A → Type 0) (makes : (x : A) → P x → OfItem Q (f x)) where
  each_mapped : (xs : List A) → Each P xs → Each (OfItem Q) (map f xs)
  each_mapped [] each = tt
  each_mapped (x ∷ xs) each = (makes x each.0, each_mapped xs each.1)

  each_closed : (marked : Bool) (es : List (Entry A)) → Each (OfItem Q) es → Each (OfItem Q) (closed marked es)
  each_closed true es each = (tt, each)
  each_closed false es each = each

  pub each_framed : (marked : Bool) (xss : Segments A) → EachItem P xss → Each (OfItem Q) (framed marked (map (map f) xss))
  each_framed marked [] each = (tt, tt)
  each_framed marked (xs ∷ xss) each =
      each_append (OfItem Q) (map f xs) (closed marked (framed marked (map (map f) xss))) (each_mapped xs each.0)
      (each_closed marked (framed marked (map (map f) xss)) (each_framed marked xss each.1))

pub each_entry : {A : Type 0} (P : A → Type 0) (marked : Bool) (xss : Segments A) → EachItem P xss → Each (OfItem P) (entries marked xss)
each_entry P = each_framed Item P P (λ x is. is)

-- the child of a key gets items of which that is known which is known of the items of its key
module _ {A : Type 0} (r : Router A) (P : A → Type 0) (Sent : Key → A → Type 0) (sent : (x : A) → P x → Sent (r.key x) x) where
  sent_each : (k : Key) (xs : List A) → Each P xs → Each (Sent k) (items_of r k xs)
  sent_each k [] each = tt
  sent_each k (x ∷ xs) each = at (key_eq k (r.key x)) refl (sent_each k xs each.1)
    where
      at : (b : Bool) → key_eq k (r.key x) ≡ b → Each (Sent k) (items_of r k xs) → Each (Sent k) (cond b (x ∷ items_of r k xs) (items_of r k xs))
      at true is rest = (subst (λ (j : Key). Sent j x) (sym (same_key k (r.key x) is)) (sent x each.0), rest)
      at false is rest = rest

  each_single : (k : Key) (xs : List A) → Each (Sent k) xs → EachItem (Sent k) (singles xs)
  each_single k [] each = tt
  each_single k (x ∷ xs) each = ((each.0, tt), each_single k xs each.1)

  pub sent_to : (k : Key) (xss : Segments A) → EachItem P xss → EachItem (Sent k) (by_item r k xss)
  sent_to k xss each = each_single k (items_of r k (joined xss)) (sent_each k (joined xss) (each_joined P xss each))

module _ {A S : Type 0} (sort : A → Type 0) where
  pub comes_sorted : (t : Tree A S) (P Q : A → Type 0) → Conveys sort t P Q → (x : A) → P x → sort x
  comes_sorted (Component m s) P Q (keeps, here, in_sort, out_sort, goes) = in_sort
  comes_sorted (Series a b) P Q (between, first, second) = comes_sorted a P between first
  comes_sorted (Fork merge r child) P Q (sent, in_sort, out_sort, goes, each) = in_sort

  pub leaves_sorted : (t : Tree A S) (P Q : A → Type 0) → Conveys sort t P Q → (x : A) → Q x → sort x
  leaves_sorted (Component m s) P Q (keeps, here, in_sort, out_sort, goes) = out_sort
  leaves_sorted (Series a b) P Q (between, first, second) = leaves_sorted b between Q second
  leaves_sorted (Fork merge r child) P Q (sent, in_sort, out_sort, goes, each) = out_sort

  pub gives_each : (t : Tree A S) (P Q : A → Type 0) → Conveys sort t P Q → (xss : Segments A) → EachItem P xss → EachItem Q (one t xss)
  gives_each t P Q conveys xss each = conveys_carries sort t P Q conveys xss (one t xss) each ((tree_is_lawful t).allows xss)

  -- what passes the children of a fork by is sorted too
  own_sorted : (r : Router A) (s : S) (t : Tree A S) (P Q : A → Type 0) → t ≡ passing r s → Conveys sort t P Q → (x : A) → P x → sort (r.own x)
  own_sorted r s t P Q is conveys x here = at (subst (λ (u : Tree A S). Conveys sort u P Q) is conveys)
    where
      at : Conveys sort (passing r s) P Q → sort (r.own x)
      at (keeps, first, in_sort, out_sort, goes) = out_sort (r.own x) (goes s x first here).1.0

  pub decided_sorted : (merge : Merge) (r : Router A) (child : Key → Tree A S) (P Q : A → Type 0) → PassesOwn (Fork merge r child) → Conveys sort (Fork merge r child) P Q
      → (x : A) → P x → OfItem sort (decision r x)
  decided_sorted merge r child P Q own (sent, in_sort, out_sort, goes, each) x here = at (key_eq (r.key x) Own) refl
    where
      at : (b : Bool) → key_eq (r.key x) Own ≡ b → OfItem sort (cond b (Item (r.own x)) (To (r.key x)))
      at true is =
          own_sorted r own.0.0 (child Own) (sent Own) Q own.0.1 (each Own) x (subst (λ (k : Key). sent k x) (same_key (r.key x) Own is) (goes x here))
      at false is = tt

  -- What is known of what comes in at a site, and so of all that happens there.
  pub record KnownAt (site : Site A S) : Type 1 where
    pub before : A → Type 0
    pub behind : A → Type 0
    pub conveys : Conveys sort site.part before behind
    pub comes : EachItem before site.seg
    pub own : PassesOwn site.part

  known_next : (t : Tree A S) (xss : Segments A) (step : Step) (next : Site A S) → KnownAt (record { part = t; seg = xss }) → stepped t xss step ≡ Some next → KnownAt next
  known_next (Series a b) xss Left next known e = subst KnownAt (same_Some _ next e) (at known.conveys)
    where
      at : Conveys sort (Series a b) known.before known.behind → KnownAt (record { part = a; seg = xss })
      at (between, first, second) = record { before = known.before; behind = between; conveys = first; comes = known.comes; own = known.own.0 }
  known_next (Series a b) xss Right next known e = subst KnownAt (same_Some _ next e) (at known.conveys)
    where
      at : Conveys sort (Series a b) known.before known.behind → KnownAt (record { part = b; seg = one a xss })
      at (between, first, second) =
          record { before = between; behind = known.behind; conveys = second; comes = gives_each a known.before between first xss known.comes; own = known.own.1 }
  known_next (Fork merge r child) xss (Into k) next known e = subst KnownAt (same_Some _ next e) (at known.conveys)
    where
      at : Conveys sort (Fork merge r child) known.before known.behind → KnownAt (record { part = child k; seg = by_item r k xss })
      at (sent, in_sort, out_sort, goes, each) =
          record { before = sent k; behind = known.behind; conveys = each k; comes = sent_to r known.before sent goes k xss known.comes; own = known.own.1 k }
  known_next _ xss _ next known e = absurd (none-some next e)

  pub known_reached : (steps : List Step) (from to : Site A S) → KnownAt from → reached from steps ≡ Some to → KnownAt to
  known_reached [] from to known e = subst KnownAt (same_Some from to e) known
  known_reached (step ∷ steps) from to known e = at (λ next here f. known_reached steps next to here f) (stepped from.part from.seg step) refl e
    where
      at : ((next : Site A S) → KnownAt next → reached next steps ≡ Some to → KnownAt to) → (o : Option (Site A S)) → stepped from.part from.seg step ≡ o
          → option_and_then (λ next. reached next steps) o ≡ Some to → KnownAt to
      at goes_on None is f = absurd (none-some to f)
      at goes_on (Some next) is f = goes_on next (known_next from.part from.seg step next known is) f
