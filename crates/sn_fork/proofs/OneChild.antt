-- A list of children of which one is changed.
use Rattle.std.proofs.Common.{◌≡◌, ◌≤◌, ℕ, zero, suc, false, Bool, true, cond, List, [], ◌∷◌, ◌++◌, length, map, take, drop, set, Some, arith, refl, sym, ap, ap₂, ◌∙◌}
use Rattle.std.specs.Prelude.{slice_get, ℤ}
use Rattle.std.specs.List.{All}
use Rattle.std.proofs.lemmas.Bool.{false≢true}
use Rattle.std.proofs.lemmas.List.Elements.{All-head, All-tail}
use Rattle.std.proofs.lemmas.Option.{none-some, same_Some}
use mathlib.Core.List.{cons≢nil, head-eq_of_cons-eq, tail-eq_of_cons-eq}
use Rattle.sn_streams.specs.Keys as stream
use Rattle.sn_streams.specs.Keys.{Own, is_among, key_eq}
use Rattle.sn_streams.proofs.Keys.{same_key}
use Rattle.sn_histories.specs.Entries.{End as TheEnd}
use Rattle.sn_net.specs.Dispatchers.{stream_key}
use Rattle.sn_net.specs.declared.routing.Key.{Key}
use Rattle.sn_net.specs.declared.routing.Key.TheVariants as key
use Rattle.sn_stream.specs.Ends.{End}
use Rattle.sn_stream.specs.declared.item.StreamItem.{StreamItem}
use Rattle.sn_component.specs.Seen.{given_by}
use Rattle.sn_component.specs.declared.outbox.Outbox.{Outbox}
use Rattle.sn_fork.specs.declared.fork.Child.{Child}
use Rattle.sn_fork.specs.Fork.{child_seen}
use Rattle.sn_fork.specs.Seen.{AllHold, ChildSeen, keys_of}
use Rattle.sn_fork.specs.Turns.{without_held}
use Rattle.sn_fork.proofs.Steps.{seen_around, seen_at, seen_other}

-- nothing is seen of it
pub unchanged_child : (xs : List Child) (n : ℕ) (x : Child) (to : Outbox) → slice_get xs n ≡ Some x → to.put ≡ x.to.put → to.held.items ≡ x.to.held.items
    → map child_seen (set xs n (record x { to = to })) ≡ map child_seen xs
unchanged_child xs n x to at put held =
    seen_other xs n x (record x { to = to }) at
    ∙ ap₂ (λ (e : End) (h : List StreamItem). map child_seen (take n xs) ++ record (child_seen x) { to = e; held = h } ∷ map child_seen (drop (suc n) xs)) put held
    ∙ sym (seen_around xs n x at)

-- only what is held for it changes
pub held_alone : (xs : List Child) (n : ℕ) (x : Child) (to : Outbox) → slice_get xs n ≡ Some x → to.put ≡ x.to.put
    → map without_held (map child_seen (set xs n (record x { to = to }))) ≡ map without_held (map child_seen xs)
held_alone [] n x to at put = absurd (none-some x at)
held_alone (y ∷ xs) zero x to at put =
    ap (λ (e : End). record (without_held (child_seen x)) { to = e } ∷ map without_held (map child_seen xs)) put
    ∙ ap (λ (z : Child). without_held (child_seen z) ∷ map without_held (map child_seen xs)) (sym (same_Some y x at))
held_alone (y ∷ xs) (suc n) x to at put = ap (λ l. without_held (child_seen y) ∷ l) (held_alone xs n x to at put)

-- the first so many hold the end, and the others are as before
abbrev pub FirstHold : ℕ → (before now : List ChildSeen) → Type 0
FirstHold zero before now = now ≡ before
FirstHold (suc n) [] [] = Unit {0}
FirstHold (suc n) (c ∷ before) (d ∷ now) =
    ((held : List StreamItem) × (d ≡ record c { held = held }) × (given_by c.to held ≡ given_by c.to c.held ++ TheEnd ∷ [])) × FirstHold n before now
FirstHold (suc n) before now = ⊥

pub one_more_holds : (n : ℕ) (before : List ChildSeen) (xs : List Child) (x : Child) (to : Outbox) → FirstHold n before (map child_seen xs) → slice_get xs n ≡ Some x
    → to.put ≡ x.to.put → given_by to.put to.held.items ≡ given_by x.to.put x.to.held.items ++ TheEnd ∷ []
    → FirstHold (suc n) before (map child_seen (set xs n (record x { to = to })))
one_more_holds zero before [] x to are at put gives = absurd (none-some x at)
one_more_holds zero [] (y ∷ xs) x to are at put gives = absurd (cons≢nil are)
one_more_holds zero (c ∷ before) (y ∷ xs) x to are at put gives = (
  (
    to.held.items,
    ap (λ (e : End). record (child_seen x) { to = e; held = to.held.items }) put ∙ ap (λ (d : ChildSeen). record d { held = to.held.items }) (sym was),
    ap (λ (d : ChildSeen). given_by d.to to.held.items) was ∙ sym (ap (λ (e : End). given_by e to.held.items) put) ∙ gives
        ∙ ap (λ (d : ChildSeen). given_by d.to d.held ++ TheEnd ∷ []) (sym was),
  ),
  tail-eq_of_cons-eq are,
)
  where
    was : c ≡ child_seen x
    was = sym (head-eq_of_cons-eq are) ∙ ap child_seen (same_Some y x at)
one_more_holds (suc n) [] [] x to are at put gives = absurd (none-some x at)
one_more_holds (suc n) [] (y ∷ xs) x to are at put gives = absurd are
one_more_holds (suc n) (c ∷ before) [] x to are at put gives = absurd are
one_more_holds (suc n) (c ∷ before) (y ∷ xs) x to are at put gives = (are.0, one_more_holds n before xs x to are.1 at put gives)

pub all_hold : (n : ℕ) (before now : List ChildSeen) → length before ≤ n → FirstHold n before now → AllHold TheEnd before now
all_hold zero [] [] few are = tt
all_hold zero [] (d ∷ now) few are = absurd (cons≢nil are)
all_hold zero (c ∷ before) now few are = absurd (omega (arith, few))
all_hold (suc n) [] [] few are = tt
all_hold (suc n) [] (d ∷ now) few are = absurd are
all_hold (suc n) (c ∷ before) [] few are = absurd are
all_hold (suc n) (c ∷ before) (d ∷ now) few are = (are.0, all_hold n before now (omega (arith, few)) are.1)

pub held_by_all : (before now : List ChildSeen) → AllHold TheEnd before now → map without_held now ≡ map without_held before
held_by_all [] [] all = refl
held_by_all [] (d ∷ now) all = absurd all
held_by_all (c ∷ before) [] all = absurd all
held_by_all (c ∷ before) (d ∷ now) ((held, is, gives), all) = ap₂ (λ (e : ChildSeen) l. without_held e ∷ l) is (held_by_all before now all)

-- the key of a child, by the key of its stream
key_back : stream.Key → Key
key_back Own = key.Stuck
key_back (stream.Branch i) = key.Branch i
key_back stream.Inside = key.Inside
key_back (stream.Value n) = key.Value n

back_again : (k : Key) → key_eq (stream_key k) Own ≡ false → key_back (stream_key k) ≡ k
unfolding key_back
back_again key.Bypass apart = absurd (false≢true (sym apart))
back_again (key.Branch i) apart = refl
back_again key.Inside apart = refl
back_again (key.Value n) apart = refl
back_again (key.Broken fault) apart = absurd (false≢true (sym apart))
back_again key.Stuck apart = absurd (false≢true (sym apart))

pub value_key : (k : Key) (n : ℤ) → stream_key k ≡ stream.Value n → k ≡ key.Value n
unfolding key_back
value_key k n is = sym (back_again k (ap (λ j. key_eq j Own) is)) ∙ ap key_back is

pub inside_key : (k : Key) → stream_key k ≡ stream.Inside → k ≡ key.Inside
unfolding key_back
inside_key k is = sym (back_again k (ap (λ j. key_eq j Own) is)) ∙ ap key_back is

-- no child has the key, so none has that of its stream
pub none_of_key : (xs : List Child) (k : Key) → key_eq (stream_key k) Own ≡ false → All (λ (child : Child). child.key ≡ k → ⊥) xs
    → is_among (stream_key k) (keys_of (map child_seen xs)) ≡ false
none_of_key [] k apart none = refl
none_of_key (x ∷ xs) k apart none =
    at (key_eq (stream_key k) (stream_key x.key)) refl (none_of_key xs k apart (All-tail (λ (child : Child). child.key ≡ k → ⊥) x xs none))
  where
    at : (b : Bool) → key_eq (stream_key k) (stream_key x.key) ≡ b → is_among (stream_key k) (keys_of (map child_seen xs)) ≡ false
        → cond b true (is_among (stream_key k) (keys_of (map child_seen xs))) ≡ false
    at true is rest =
        let same : stream_key k ≡ stream_key x.key = same_key (stream_key k) (stream_key x.key) is in
        absurd (All-head (λ (child : Child). child.key ≡ k → ⊥) x xs none
        (sym (back_again x.key (ap (λ j. key_eq j Own) (sym same) ∙ apart)) ∙ ap key_back (sym same) ∙ back_again k apart))
    at false is rest = rest

-- the child of a key was found
pub found_child : (xs : List Child) (children : List ChildSeen) (k : Key) (n : ℕ) → map child_seen xs ≡ children
    → (x : Child) × (slice_get xs n ≡ Some x) × (x.key ≡ k) → (child : ChildSeen) × (slice_get children n ≡ Some child) × (child.key ≡ stream_key k)
found_child xs children k n are (x, at, same) = (child_seen x, sym (ap (λ l. slice_get l n) are) ∙ seen_at xs n x at, ap stream_key same)
