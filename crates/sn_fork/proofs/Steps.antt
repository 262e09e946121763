-- What each step of a fork's node leaves, by the facts over its view.
use Rattle.std.proofs.Common.{◌≡◌, ℕ, zero, suc, Bool, true, false, cond, List, [], ◌∷◌, ◌++◌, take, drop, set, Some, refl, sym, ap, ap₂, ◌∙◌, subst}
use Rattle.std.specs.Prelude.{slice_get}
use Rattle.std.proofs.lemmas.Bool.{false≢true}
use Rattle.std.proofs.lemmas.Option.{none-some, same_Some}
use Rattle.sn_streams.specs.Keys.{AreDistinct, is_among, key_eq}
use Rattle.sn_streams.proofs.Keys.{key_eq-refl, same_key}
use Rattle.sn_net.specs.Dispatchers.{passed_by, stream_key}
use Rattle.sn_net.specs.Item.{ModelItem, modelled}
use Rattle.sn_net.specs.declared.net.Net.{Net}
use Rattle.sn_net.specs.declared.net.Net.TheViews.{out-Net}
use Rattle.sn_net.specs.declared.routing.Key.{Key as NetKey}
use Rattle.sn_record.specs.declared.item.Item.{Item}
use Rattle.sn_streams.specs.Forks.{Router}
use Rattle.sn_stream.specs.declared.item.StreamItem.{StreamItem}
use Rattle.sn_stream.specs.declared.item.StreamItem.TheVariants as stream_item
use Rattle.sn_fork.specs.Facts.{Forks, Wants, key_in, place_in, steps_to}
use Rattle.sn_fork.specs.Seen.{ChildSeen, Forking, asks_child, decision_entry, keys_of, serves_now}
use Rattle.sn_component.specs.Seen.{given_by}
use Rattle.sn_fork.proofs.Forks.{after_own, each_at, sent_begins}
use Rattle.sn_fork.specs.declared.fork.Child.{Child}
use Rattle.sn_fork.specs.Fork.{child_seen}
use Rattle.sn_facts.specs.Forking.{to_child}
use Rattle.sn_component.specs.Facts.{history_for}
use mathlib.Core.List.{IsPrefix, map-append}
use Rattle.std.proofs.Common.{◌<◌, length, get_or, map}
use Rattle.std.proofs.lemmas.List.{length-map}
use Rattle.std.proofs.lemmas.Option.{slice_get_read}
use Rattle.sn_fork.specs.Facts.{Each, IsChildAt}
use Rattle.sn_fork.proofs.Taking.{is_there, takes_mark, takes_own}
use Rattle.sn_dispatch.specs.declared.det_fork.Decision.{Decision}
use Rattle.sn_dispatch.specs.declared.det_fork.Decision.TheVariants as decision
use Rattle.sn_net.specs.declared.routing.Key.TheVariants as key
use Rattle.sn_record.specs.declared.item.Fault.{Fault}
use Rattle.sn_record.specs.declared.item.Item.TheVariants as an_item
use Rattle.sn_streams.specs.Keys.{Own}

-- a list around one of its elements, which is replaced
module _ {A : Type 0} where
  pub around : (xs : List A) (c : ℕ) (x : A) → slice_get xs c ≡ Some x → xs ≡ take c xs ++ x ∷ drop (suc c) xs
  around [] c x is = absurd (none-some x is)
  around (y ∷ xs) zero x is = ap (λ z. z ∷ xs) (same_Some y x is)
  around (y ∷ xs) (suc c) x is = ap (λ l. y ∷ l) (around xs c x is)

  pub around_other : (xs : List A) (c : ℕ) (x y : A) → slice_get xs c ≡ Some x → set xs c y ≡ take c xs ++ y ∷ drop (suc c) xs
  around_other [] c x y is = absurd (none-some x is)
  around_other (z ∷ xs) zero x y is = refl
  around_other (z ∷ xs) (suc c) x y is = ap (λ l. z ∷ l) (around_other xs c x y is)

-- the child of a key alone has that key
pub apart_front : (front back : List ChildSeen) (c : ChildSeen) → AreDistinct (keys_of (front ++ c ∷ back)) → is_among c.key (keys_of front) ≡ false
apart_front [] back c all = refl
apart_front (d ∷ front) back c all = at (key_eq c.key d.key) refl (apart_front front back c all.1)
  where
    at : (b : Bool) → key_eq c.key d.key ≡ b → is_among c.key (keys_of front) ≡ false → cond b true (is_among c.key (keys_of front)) ≡ false
    at true e rest =
        absurd (false≢true (sym all.0 ∙ is_there front back c d.key (ap (λ k. key_eq k c.key) (sym (same_key c.key d.key e)) ∙ key_eq-refl c.key)))
    at false e rest = rest

pub apart_back : (front back : List ChildSeen) (c : ChildSeen) → AreDistinct (keys_of (front ++ c ∷ back)) → is_among c.key (keys_of back) ≡ false
apart_back [] back c all = all.0
apart_back (d ∷ front) back c all = apart_back front back c all.1

item_or : Item → List StreamItem → Item
item_or other [] = other
item_or other (stream_item.Item item ∷ xs) = item
item_or other (stream_item.Mark ∷ xs) = other
item_or other (stream_item.End ∷ xs) = other

same_first : (a b : Item) → stream_item.Item a ∷ [] ≡ stream_item.Item b ∷ [] → a ≡ b
unfolding item_or
same_first a b is = ap (item_or a) is

-- where the item that waits goes
pub record Routed (r : Router ModelItem) (place : ℕ) (key : NetKey) (item : Item) : Type 0 where
  pub goes : r.key (modelled item) ≡ stream_key key
  pub becomes : r.own (modelled item) ≡ passed_by place key (modelled item)

pub routed : (f : Forking) (h : Forks f) (key : NetKey) (item : Item) → Wants f key → f.waiting ≡ stream_item.Item item ∷ []
    → Routed h.stands.router (place_in (out-Net h.stands.net)) key item
routed f h key item (net, waits_item, there, waits, is) now =
    let x : ModelItem = modelled item in
    let same_net : net ≡ h.stands.net = same_Some net h.stands.net (sym there ∙ h.stands.there) in
    let same_item : waits_item ≡ item = same_first waits_item item (sym waits ∙ now) in
    let key_is : key_in f.left (out-Net h.stands.net) x ≡ key =
    ap₂ (λ (n : Net) (i : Item). key_in f.left (out-Net n) (modelled i)) (sym same_net) (sym same_item) ∙ is in record {
      goes = ap (λ (r : Router ModelItem). r.key x) h.stands.routes ∙ ap stream_key key_is;
      becomes = ap (λ (r : Router ModelItem). r.own x) h.stands.routes ∙ ap (λ k. passed_by (place_in (out-Net h.stands.net)) k x) key_is;
    }

-- the three decisions that ask for no child
pub after_mark : (f : Forking) → Forks f → (ds : List Decision) → f.waiting ≡ stream_item.Mark ∷ [] → ds ≡ f.decisions ++ decision.Mark ∷ []
    → Forks (record f { waiting = []; decisions = ds })
after_mark f h ds waits noted = subst (λ l. Forks (record f { waiting = []; decisions = l })) (sym noted) (takes_mark f h waits)

pub after_bypass : (f : Forking) → Forks f → (item : Item) (ds : List Decision) → Wants f key.Bypass → f.waiting ≡ stream_item.Item item ∷ []
    → ds ≡ f.decisions ++ decision.Own item ∷ [] → Forks (record f { waiting = []; decisions = ds })
after_bypass f h item ds wants waits noted =
    let r = routed f h key.Bypass item wants waits in
    subst (λ l. Forks (record f { waiting = []; decisions = l })) (sym noted) (takes_own f h item item waits (ap (λ k. key_eq k Own) r.goes) (sym r.becomes))

pub after_fault : (f : Forking) → Forks f → (fault : Fault) (ds : List Decision) → Wants f (key.Broken fault)
    → ds ≡ f.decisions ++ decision.Own (an_item.Fault fault) ∷ [] → Forks (record f { waiting = []; decisions = ds })
after_fault f h fault ds (net, item, there, waits, is) noted =
    let r = routed f h (key.Broken fault) item (net, item, there, waits, is) waits in
    subst (λ l. Forks (record f { waiting = []; decisions = l })) (sym noted)
    (takes_own f h item (an_item.Fault fault) waits (ap (λ k. key_eq k Own) r.goes) (sym r.becomes))

own_first : (holds : Bool) (d : Decision) (ds : List Decision) → serves_now holds (d ∷ ds) ≡ true → asks_child d ≡ false
own_first holds (decision.To k) ds is = absurd (false≢true is)
own_first holds (decision.Own item) ds is = refl
own_first holds decision.Mark ds is = refl
own_first holds decision.End ds is = refl

-- a decision that asks for no child is served
pub after_serving : (f : Forking) → Forks f → (holds : Bool) (d : Decision) (ds : List Decision) (held : List StreamItem) → serves_now holds f.decisions ≡ true → f.decisions ≡ d ∷ ds
    → given_by f.output held ≡ given_by f.output f.held ++ decision_entry d ∷ [] → Forks (record f { decisions = ds; held = held })
after_serving f h holds d ds held own decided gives =
    after_own f h ds d held decided (own_first holds d ds (sym (ap (serves_now holds) decided) ∙ own)) gives

-- a child of a node, and the children when its way is another
pub seen_around : (xs : List Child) (c : ℕ) (x : Child) → slice_get xs c ≡ Some x
    → map child_seen xs ≡ map child_seen (take c xs) ++ child_seen x ∷ map child_seen (drop (suc c) xs)
seen_around xs c x is = ap (map child_seen) (around xs c x is) ∙ map-append child_seen (take c xs) (x ∷ drop (suc c) xs)

pub seen_other : (xs : List Child) (c : ℕ) (x y : Child) → slice_get xs c ≡ Some x
    → map child_seen (set xs c y) ≡ map child_seen (take c xs) ++ child_seen y ∷ map child_seen (drop (suc c) xs)
seen_other xs c x y is = ap (map child_seen) (around_other xs c x y is) ∙ map-append child_seen (take c xs) (y ∷ drop (suc c) xs)

-- what was put at a number is there
pub set_there : {A : Type 0} (xs : List A) (n : ℕ) (x y : A) → slice_get xs n ≡ Some x → slice_get (set xs n y) n ≡ Some y
set_there [] n x y is = absurd (none-some x is)
set_there (z ∷ xs) zero x y is = refl
set_there (z ∷ xs) (suc n) x y is = set_there xs n x y is

-- the child of a number, as it is seen and as it was read
pub seen_at : (xs : List Child) (n : ℕ) (x : Child) → slice_get xs n ≡ Some x → slice_get (map child_seen xs) n ≡ Some (child_seen x)
seen_at [] n x is = absurd (none-some x is)
seen_at (y ∷ xs) zero x is = ap (λ z. Some (child_seen z)) (same_Some y x is)
seen_at (y ∷ xs) (suc n) x is = seen_at xs n x is

pub child_read : (f : Forking) (xs : List Child) (c : ℕ) (x : Child) → map child_seen xs ≡ f.children → c < length f.children → x ≡ get_or xs c x → slice_get xs c ≡ Some x
child_read f xs c x are within is = slice_get_read xs (length xs) c x refl (subst (λ n. c < n) (sym (ap length are) ∙ length-map xs child_seen) within) is

pub may_send : (f : Forking) (h : Forks f) (front back : List ChildSeen) (c : ChildSeen) → f.children ≡ front ++ c ∷ back → IsPrefix (given_by c.to c.held) (history_for c.to.made)
may_send f h front back c are =
    sent_begins f h c (each_at (IsChildAt f.run (steps_to f)) front back c (subst (Each (IsChildAt f.run (steps_to f))) are h.stands.children))
    (each_at (λ (d : ChildSeen). given_by d.to d.held ≡ to_child h.stands.router d.key h.received) front back c
    (subst (Each (λ (d : ChildSeen). given_by d.to d.held ≡ to_child h.stands.router d.key h.received)) are h.sends))
