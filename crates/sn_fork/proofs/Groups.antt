-- What the next entry of a group leaves, by the children as a node keeps them.
use Rattle.std.proofs.Common.{◌≡◌, ℕ, suc, false, List, [], ◌∷◌, ◌++◌, map, take, drop, set, Some, refl, sym, ap, ◌∙◌, subst}
use Rattle.std.specs.Prelude.{slice_get, IfSome, Option, None, length, ◌<◌}
use Rattle.std.proofs.lemmas.Option.{none-some, same_Some, slice_get_within}
use mathlib.Core.List.{IsPrefix, head-eq_of_cons-eq, map-append}
use Rattle.sn_streams.specs.Keys.{AreDistinct, is_among}
use Rattle.sn_histories.specs.Entries.{To}
use Rattle.sn_histories.specs.Entries as entry
use Rattle.sn_net.specs.Item.{modelled}
use Rattle.sn_net.specs.Dispatchers.{stream_key}
use Rattle.sn_net.specs.declared.routing.Key.{Key}
use Rattle.sn_dispatch.specs.declared.det_fork.Decision.TheVariants as decision
use Rattle.sn_record.specs.declared.item.Item.{Item}
use Rattle.sn_dispatch.specs.declared.det_fork.Decision.{Decision}
use Rattle.sn_stream.specs.Ends.{End, entry_of, history_of, moves, passed}
use Rattle.sn_stream.specs.declared.item.StreamItem.{StreamItem}
use Rattle.sn_stream.specs.declared.item.StreamItem.TheVariants as stream_item
use Rattle.sn_component.specs.Seen.{given_by}
use Rattle.sn_fork.specs.declared.fork.Child.{Child}
use Rattle.sn_fork.specs.Facts.{Forks}
use Rattle.sn_fork.specs.Fork.{child_seen}
use Rattle.sn_fork.specs.Seen.{AsksFor, ChildSeen, Forking, decision_entry, keys_of}
use Rattle.sn_fork.proofs.Forks.{after_group, after_item, no_end_comes}
use Rattle.sn_fork.proofs.Steps.{apart_front, seen_around, seen_at, seen_other}

module _ (f : Forking) (h : Forks f) (xs : List Child) (n : ℕ) (x : Child) (are : map child_seen xs ≡ f.children) (at : slice_get xs n ≡ Some x) (from : End) where
  around : f.children ≡ map child_seen (take n xs) ++ child_seen x ∷ map child_seen (drop (suc n) xs)
  around = sym are ∙ seen_around xs n x at

  first : is_among (child_seen x).key (keys_of (map child_seen (take n xs))) ≡ false
  first = apart_front (map child_seen (take n xs)) (map child_seen (drop (suc n) xs)) (child_seen x) (subst (λ l. AreDistinct (keys_of l)) around h.stands.apart)

  more : (e : StreamItem) → from ≡ moves x.from e → passed from.moved ≡ passed x.from.moved ++ entry_of e ∷ []
  more e got = ap (λ (e : End). passed e.moved) got ∙ map-append entry_of x.from.moved (e ∷ [])

  same : (child : ChildSeen) → slice_get f.children n ≡ Some child → child ≡ child_seen x
  same child is = same_Some child (child_seen x) (sym is ∙ ap (λ l. slice_get l n) (sym are) ∙ seen_at xs n x at)

  pub group_item : (item : Item) (held : List StreamItem) → AsksFor f n → from ≡ moves x.from (stream_item.Item item) → IsPrefix (passed from.moved) (history_of from)
      → given_by f.output held ≡ given_by f.output f.held ++ entry.Item (modelled item) ∷ []
      → Forks (record f { children = map child_seen (set xs n (record x { from = from })); held = held })
  group_item item held (child, d, ds, is, decided, asks) got begins gives =
      subst (λ l. Forks (record f { children = l; held = held })) (sym (seen_other xs n x (record x { from = from }) at))
      (after_item f h (map child_seen (take n xs)) (map child_seen (drop (suc n) xs)) (child_seen x) from (modelled item) ds d held around first (ap (λ (e : End). e.made) got) begins
      (more (stream_item.Item item) got) decided (asks ∙ ap (λ (c : ChildSeen). To c.key) (same child is)) gives)

  pub group_mark : (rest : List Decision) (d : Decision) → AsksFor f n → f.decisions ≡ d ∷ rest → from ≡ moves x.from stream_item.Mark → IsPrefix (passed from.moved) (history_of from)
      → Forks (record f { children = map child_seen (set xs n (record x { from = from })); decisions = rest })
  group_mark rest d (child, e, ds, is, decided, asks) now got begins =
      subst (λ l. Forks (record f { children = l; decisions = rest })) (sym (seen_other xs n x (record x { from = from }) at))
      (after_group f h (map child_seen (take n xs)) (map child_seen (drop (suc n) xs)) (child_seen x) from rest d around first (ap (λ (e : End). e.made) got) begins
      (more stream_item.Mark got) now (ap decision_entry (head-eq_of_cons-eq (sym now ∙ decided)) ∙ asks ∙ ap (λ (c : ChildSeen). To c.key) (same child is)))

  pub group_end : AsksFor f n → from ≡ moves x.from stream_item.End → IsPrefix (passed from.moved) (history_of from) → ⊥
  group_end (child, d, ds, is, decided, asks) got begins =
      no_end_comes f h (map child_seen (take n xs)) (map child_seen (drop (suc n) xs)) (child_seen x) from ds d around first (ap (λ (e : End). e.made) got) begins
      (more stream_item.End got) decided (asks ∙ ap (λ (c : ChildSeen). To c.key) (same child is))

pub asks_within : (f : Forking) (n : ℕ) → AsksFor f n → n < length f.children
asks_within f n (child, d, ds, is, decided, asks) = slice_get_within f.children n child is

-- the first decision was dropped: there was one, since it asks for a child
pub dropped : (f : Forking) (n : ℕ) (now : List Decision) → AsksFor f n → ((d : Decision) (ds : List Decision) → f.decisions ≡ d ∷ ds → now ≡ ds) → (d : Decision) × (f.decisions ≡ d ∷ now)
dropped f n now (child, d, ds, is, decided, asks) drop = (d, decided ∙ ap (λ l. d ∷ l) (sym (drop d ds decided)))

-- the first decision asks for the child of a number, where it is for the key of that child
pub asks_for : (f : Forking) (xs : List Child) (k : Key) (number : Option ℕ) → f.children ≡ map child_seen xs → slice_get f.decisions 0 ≡ Some (decision.To k)
    → IfSome number (λ n. (x : Child) × (slice_get xs n ≡ Some x) × (x.key ≡ k)) → IfSome number (AsksFor f)
asks_for f xs k None are one found = tt
asks_for f xs k (Some n) are one (x, at, same) = by f.decisions refl one
  where
    by : (ds : List Decision) → f.decisions ≡ ds → slice_get ds 0 ≡ Some (decision.To k) → AsksFor f n
    by [] is none = absurd (none-some (decision.To k) none)
    by (d ∷ ds) is one = (
      child_seen x,
      d,
      ds,
      ap (λ l. slice_get l n) are ∙ seen_at xs n x at,
      is,
      ap decision_entry (same_Some d (decision.To k) one) ∙ ap (λ j. To (stream_key j)) (sym same),
    )
