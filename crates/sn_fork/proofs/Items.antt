-- What an item that goes to a child leaves.
use Rattle.std.proofs.Common.{◌≡◌, ℕ, suc, List, [], ◌∷◌, ◌++◌, map, take, drop, set, Some, false, get_or, sym, ap, ◌∙◌, subst}
use Rattle.std.specs.Prelude.{slice_get, length, ◌<◌}
use Rattle.std.proofs.lemmas.Option.{same_Some, slice_get_within}
use mathlib.Core.List.{head-eq_of_cons-eq, map-append}
use Rattle.sn_streams.specs.Keys.{AreDistinct, Own, is_among, key_eq}
use Rattle.sn_histories.specs.Entries.{Mark, To, End as TheEnd}
use Rattle.sn_net.specs.Dispatchers.{stream_key}
use Rattle.sn_net.specs.declared.routing.Key.{Key}
use Rattle.sn_dispatch.specs.declared.det_fork.Decision.{Decision}
use Rattle.sn_dispatch.specs.declared.det_fork.Decision.TheVariants as decision
use Rattle.sn_stream.specs.Ends.{End, entry_of}
use Rattle.sn_stream.specs.declared.item.StreamItem.{StreamItem}
use Rattle.sn_component.specs.Seen.{given_by}
use Rattle.sn_component.specs.declared.outbox.Outbox.{Outbox}
use Rattle.sn_fork.specs.declared.fork.Child.{Child}
use Rattle.sn_fork.specs.Facts.{Forks, IsChildAt, Wants, steps_to}
use Rattle.sn_fork.specs.Fork.{child_seen}
use Rattle.sn_fork.specs.Seen.{AllHold, ChildSeen, Forking, IsNew, keys_of}
use Rattle.sn_fork.specs.Turns.{Lacks}
use Rattle.sn_fork.proofs.Steps.{apart_back, apart_front, child_read, routed, seen_around, seen_at, seen_other}
use Rattle.sn_fork.proofs.Taking.{after_growing, takes_end, takes_item}
use Rattle.sn_fork.proofs.OneChild.{none_of_key}
use Rattle.std.specs.List.{All}
use Rattle.sn_stream.specs.declared.item.StreamItem.TheVariants as stream_item

-- the child of the item that waits, as it was read
pub item_child : (f g : Forking) (xs : List Child) (n : ℕ) (x : Child) (k : Key) → f ≡ g → map child_seen xs ≡ f.children
    → (child : ChildSeen) × (slice_get g.children n ≡ Some child) × (child.key ≡ stream_key k) → x ≡ get_or xs n x → slice_get xs n ≡ Some x
item_child f g xs n x k same are (child, there, goes) is =
    child_read f xs n x are (subst (λ (l : List ChildSeen). n < length l) (ap (λ (f : Forking). f.children) (sym same)) (slice_get_within g.children n child there)) is

-- an item that waits was noted for its child, and is held for it with a mark behind it
pub after_noting : (f : Forking) → Forks f → (xs : List Child) (n : ℕ) (x : Child) (to : Outbox) (k : Key) (e : StreamItem) (ds : List Decision)
    → map child_seen xs ≡ f.children → slice_get xs n ≡ Some x → (child : ChildSeen) × (slice_get f.children n ≡ Some child) × (child.key ≡ stream_key k)
    → Wants f k → f.waiting ≡ e ∷ [] → ds ≡ f.decisions ++ decision.To k ∷ [] → to.put ≡ x.to.put
    → given_by to.put to.held.items ≡ given_by x.to.put x.to.held.items ++ entry_of e ∷ Mark ∷ []
    → Forks (record f { waiting = []; decisions = ds; children = map child_seen (set xs n (record x { to = to })) })
after_noting f h xs n x to k e ds are at (child, there, same) (net, item, here, waits, goes) now noted put gives =
    let front : List ChildSeen = map child_seen (take n xs) in
    let back : List ChildSeen = map child_seen (drop (suc n) xs) in
    let around : f.children ≡ front ++ child_seen x ∷ back = sym are ∙ seen_around xs n x at in
    let apart : AreDistinct (keys_of (front ++ child_seen x ∷ back)) = subst (λ l. AreDistinct (keys_of l)) around h.stands.apart in
    let its_key : stream_key x.key ≡ stream_key k =
    ap (λ (c : ChildSeen). c.key) (sym (same_Some child (child_seen x) (sym there ∙ ap (λ l. slice_get l n) (sym are) ∙ seen_at xs n x at))) ∙ same in
    let r = routed f h k item (net, item, here, waits, goes) waits in
    subst (λ (u : List Decision × List ChildSeen). Forks (record f { waiting = []; decisions = u.0; children = u.1 }))
    (λ i. (sym noted i, sym (seen_other xs n x (record x { to = to }) at ∙ ap (λ (e : End). front ++ record (child_seen x) { to = e; held = to.held.items } ∷ back) put) i))
    (takes_item f h front back (child_seen x) item (decision.To k) to.held.items around (apart_front front back (child_seen x) apart) (apart_back front back (child_seen x) apart) waits
    (r.goes ∙ sym its_key) (ap To (sym its_key))
    (sym (ap (λ (e : End). given_by e to.held.items) put) ∙ gives
    ∙ ap (λ (e : StreamItem). given_by x.to.put x.to.held.items ++ entry_of e ∷ Mark ∷ []) (head-eq_of_cons-eq (sym now ∙ waits))))

-- the end was noted, and is held for each child
pub after_ending : (f : Forking) → Forks f → (was now : List ChildSeen) (ds : List Decision) → was ≡ f.children → f.waiting ≡ stream_item.End ∷ [] → AllHold TheEnd was now
    → ds ≡ f.decisions ++ decision.End ∷ [] → Forks (record f { waiting = []; decisions = ds; children = now })
after_ending f h was now ds same waits hold noted =
    subst (λ (l : List Decision). Forks (record f { waiting = []; decisions = l; children = now })) (sym noted)
    (takes_end f h now waits (subst (λ (l : List ChildSeen). AllHold TheEnd l now) same hold))

-- no child has the key of the item that waits
pub lacking : (f g : Forking) (xs ys : List Child) (k : Key) → f ≡ g → map child_seen xs ≡ f.children → ys ≡ xs → key_eq (stream_key k) Own ≡ false
    → All (λ (child : Child). child.key ≡ k → ⊥) ys → is_among (stream_key k) (keys_of g.children) ≡ false
lacking f g xs ys k same are read apart none =
    subst (λ (l : List ChildSeen). is_among (stream_key k) (keys_of l) ≡ false) (are ∙ ap (λ (f : Forking). f.children) same)
    (none_of_key xs k apart (subst (All (λ (child : Child). child.key ≡ k → ⊥)) read none))

-- a child was made for the item that waits
pub after_adding : (f g : Forking) → Forks f → (xs now : List Child) (child : Child) → f ≡ g → map child_seen xs ≡ f.children → now ≡ xs ++ child ∷ [] → Lacks g child.key
    → IsChildAt g.run (steps_to g) (child_seen child) → IsNew (child_seen child) → Forks (record f { children = map child_seen now })
after_adding f g h xs now child same are more ((net, item, here, waits, goes), apart, none) there new =
    subst (λ (l : List ChildSeen). Forks (record f { children = l }))
    (sym (ap (map child_seen) more ∙ map-append child_seen xs (child ∷ []) ∙ ap (λ (l : List ChildSeen). l ++ child_seen child ∷ []) are))
    (after_growing f h (child_seen child) (stream_item.Item item) (ap (λ (f : Forking). f.waiting) same ∙ waits)
    (subst (λ (f : Forking). IsChildAt f.run (steps_to f) (child_seen child)) (sym same) there)
    (ap (λ (f : Forking). is_among (stream_key child.key) (keys_of f.children)) same ∙ none) new)
