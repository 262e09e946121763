-- Entries of a history, and how they stand on a stream.
use Rattle.std.proofs.Common.{◌≡◌, ◌∙◌, List, [], ◌∷◌, ◌++◌, map, refl, sym, ap, ap₂, is_some, true≢false}
use Rattle.std.specs.Prelude.{Some, unwrap_or}
use mathlib.Core.List.{IsPrefix, cons≢nil, head-eq_of_cons-eq, tail-eq_of_cons-eq, map-append}
use Rattle.sn_record.specs.declared.item.Item.TheVariants as item
use Rattle.sn_net.specs.Item.{ModelItem, Rec, Fault, Stuck}
use Rattle.sn_histories.specs.Entries as entry
use Rattle.sn_histories.specs.Entries.{Entry}
use Rattle.sn_stream.specs.declared.item.StreamItem.{StreamItem}
use Rattle.sn_stream.specs.declared.item.StreamItem.TheVariants.{Item, Mark, End}
use Rattle.sn_stream.specs.Ends.{entry_of, streamed, passed}

-- an entry of a stream stands on it as it is
streams : (x : StreamItem) → streamed (entry_of x) ≡ Some x
streams (Item (item.Rec r)) = refl
streams (Item (item.Fault fault)) = refl
streams Mark = refl
streams End = refl

all_stream : (xs : List StreamItem) → map streamed (passed xs) ≡ map Some xs
all_stream [] = refl
all_stream (x ∷ xs) = ap₂ ◌∷◌ (streams x) (all_stream xs)

-- and what stands on it is that entry alone
is_entry : (e : Entry ModelItem) (x : StreamItem) → streamed e ≡ Some x → entry_of x ≡ e
is_entry (entry.Item (Rec r)) x is = sym (ap (λ o. entry_of (unwrap_or o Mark)) is)
is_entry (entry.Item (Fault fault)) x is = sym (ap (λ o. entry_of (unwrap_or o Mark)) is)
is_entry (entry.Item (Stuck place)) x is = absurd (true≢false (sym (ap is_some is)))
is_entry (entry.To k) x is = absurd (true≢false (sym (ap is_some is)))
is_entry entry.Mark x is = sym (ap (λ o. entry_of (unwrap_or o Mark)) is)
is_entry entry.End x is = sym (ap (λ o. entry_of (unwrap_or o Mark)) is)

-- a beginning of a history is one of the list that is stated for it, and the other way round
pub as_stated : (xs : List StreamItem) (es : List (Entry ModelItem)) → IsPrefix (passed xs) es → IsPrefix (map Some xs) (map streamed es)
as_stated xs es begins =
    (map streamed begins.0, ap (λ l. l ++ map streamed begins.0) (sym (all_stream xs)) ∙ sym (map-append streamed (passed xs) begins.0) ∙ ap (map streamed) begins.1)

pub as_history : (xs : List StreamItem) (es : List (Entry ModelItem)) → IsPrefix (map Some xs) (map streamed es) → IsPrefix (passed xs) es
as_history [] es begins = (es, refl)
as_history (x ∷ xs) [] begins = absurd (cons≢nil begins.1)
as_history (x ∷ xs) (e ∷ es) begins =
    let rest = as_history xs es (begins.0, tail-eq_of_cons-eq begins.1) in
    (rest.0, ap₂ ◌∷◌ (is_entry e x (sym (head-eq_of_cons-eq begins.1))) rest.1)
