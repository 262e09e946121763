-- The next entry of items and then the end.
use Rattle.std.proofs.Common.{◌≡◌, ◌∙◌, ◌<◌, ◌≤◌, ◌+◌, ℕ, zero, suc, List, [], ◌∷◌, ◌++◌, length, get_or, take, drop, refl, sym, ap, add-one, not-suc-le-zero, le_of_suc-le-suc}
use mathlib.Core.List.{IsPrefix, map-append}
use Rattle.sn_record.specs.declared.item.Item.{Item}
use Rattle.sn_net.specs.Item.{ModelItem, modelled}
use Rattle.sn_histories.specs.Entries as entry
use Rattle.sn_histories.specs.Entries.{Entry}
use Rattle.sn_stream.specs.declared.item.StreamItem.{StreamItem}
use Rattle.sn_stream.specs.declared.item.StreamItem.TheVariants as stream_item
use Rattle.sn_stream.specs.Ends.{entry_of, passed}
use Rattle.sn_stream.specs.Ended.{ended, numbered}

pub numbered_item : (xs : List Item) (n : ℕ) (x : Item) → n < length xs → x ≡ get_or xs n x → numbered xs n ≡ stream_item.Item x
numbered_item [] n x h is = absurd (not-suc-le-zero h)
numbered_item (y ∷ xs) zero x h is = ap stream_item.Item (sym is)
numbered_item (y ∷ xs) (suc n) x h is = numbered_item xs n x (le_of_suc-le-suc h) is

pub numbered_end : (xs : List Item) (n : ℕ) → length xs ≤ n → numbered xs n ≡ stream_item.End
numbered_end [] n h = refl
numbered_end (y ∷ xs) zero h = absurd (not-suc-le-zero h)
numbered_end (y ∷ xs) (suc n) h = numbered_end xs n (le_of_suc-le-suc h)

one_more : (xs : List Item) (n : ℕ) → n ≤ length xs → take n (ended xs) ++ entry_of (numbered xs n) ∷ [] ≡ take (suc n) (ended xs)
one_more [] zero h = refl
one_more [] (suc n) h = absurd (not-suc-le-zero h)
one_more (x ∷ xs) zero h = refl
one_more (x ∷ xs) (suc n) h = ap (λ l. entry.Item (modelled x) ∷ l) (one_more xs n (le_of_suc-le-suc h))

-- what was put with the next entry
pub sent_more : (moved : List StreamItem) (xs : List Item) (n : ℕ) (x : StreamItem) → n ≤ length xs → passed moved ≡ take n (ended xs) → x ≡ numbered xs n
    → passed (moved ++ x ∷ []) ≡ take (n + 1) (ended xs)
sent_more moved xs n x h sent is =
    rw (add-one, is) (map-append entry_of moved (numbered xs n ∷ []) ∙ ap (λ l. l ++ entry_of (numbered xs n) ∷ []) sent ∙ one_more xs n h)

take_drop : {A : Type 0} (n : ℕ) (xs : List A) → take n xs ++ drop n xs ≡ xs
take_drop zero xs = refl
take_drop (suc n) [] = refl
take_drop (suc n) (x ∷ xs) = ap (λ l. x ∷ l) (take_drop n xs)

-- is a beginning of the history
pub may_send : (moved : List StreamItem) (xs : List Item) (n : ℕ) (x : StreamItem) (history : List (Entry ModelItem)) → n ≤ length xs → history ≡ ended xs
    → passed moved ≡ take n (ended xs) → x ≡ numbered xs n → IsPrefix (passed (moved ++ x ∷ [])) history
may_send moved xs n x history h whole sent is =
    (drop (n + 1) (ended xs), ap (λ l. l ++ drop (n + 1) (ended xs)) (sent_more moved xs n x h sent is) ∙ take_drop (n + 1) (ended xs) ∙ sym whole)
