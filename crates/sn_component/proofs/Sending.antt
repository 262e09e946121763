-- What is given, while entries are held and put.
use Rattle.std.proofs.Common.{◌≡◌, ◌+◌, suc, Bool, true, false, ◌||◌, List, [], ◌∷◌, ◌++◌, length, refl, sym, ap, ◌∙◌, subst, append_assoc, append-nil, length-append}
use mathlib.Core.List.{IsPrefix, map-append}
use Rattle.sn_net.specs.Item.{ModelItem}
use Rattle.sn_histories.specs.Entries.{Entry}
use Rattle.sn_facts.proofs.Working.{held_first}
use Rattle.sn_stream.specs.declared.item.StreamItem.{StreamItem}
use Rattle.sn_stream.specs.Ends.{End, entry_of, moves, passed}
use Rattle.sn_stream.specs.declared.item.StreamItem.TheVariants as stream_item
use Rattle.sn_component.specs.Outbox.{Ends, has_ended, is_the_end}
use Rattle.std.specs.List.{list_any}
use Rattle.std.proofs.lemmas.List.Folds.{list_any-append}

or_false : (b : Bool) → (b || false) ≡ b
or_false true = refl
or_false false = refl

or_true : (b : Bool) → (b || true) ≡ true
or_true true = refl
or_true false = refl

pub first_may_go : (moved held rest : List StreamItem) (x : StreamItem) (history : List (Entry ModelItem)) → held ≡ x ∷ rest
    → IsPrefix (passed (moved ++ held)) history → IsPrefix (passed (moved ++ x ∷ [])) history
first_may_go moved held rest x history is begins =
    subst (λ l. IsPrefix l history) (sym (map-append entry_of moved (x ∷ [])))
    (held_first (passed moved) (passed rest) (passed (moved ++ held)) history (entry_of x)
    (ap (λ l. passed (moved ++ l)) is ∙ map-append entry_of moved (x ∷ rest)) begins)

-- one entry more was put
pub ended_more : (before now : End) (x : StreamItem) → now ≡ moves before x → has_ended before ≡ false → has_ended now ≡ is_the_end x
ended_more before now x is before_it =
    ap has_ended is ∙ list_any-append is_the_end before.moved (x ∷ []) ∙ ap (λ b. b || (is_the_end x || false)) before_it ∙ or_false (is_the_end x)

-- where the end was put last it was put
pub ends_ended : (end : End) → Ends end → has_ended end ≡ true
ends_ended end (before, is) = ap (list_any is_the_end) is ∙ list_any-append is_the_end before (stream_item.End ∷ []) ∙ or_true (list_any is_the_end before)

-- one entry more is held
pub held_more : (moved held now : List StreamItem) (x : StreamItem) → now ≡ held ++ x ∷ [] → passed (moved ++ now) ≡ passed (moved ++ held) ++ entry_of x ∷ []
held_more moved held now x is =
    ap (λ l. passed (moved ++ l)) is ∙ ap passed (sym (append_assoc moved held (x ∷ []))) ∙ map-append entry_of (moved ++ held) (x ∷ [])

as_many : (xs : List StreamItem) → length (passed xs) ≡ length xs
as_many [] = refl
as_many (x ∷ xs) = ap suc (as_many xs)

-- all that was held was put
pub emptied : (moved held now left : List StreamItem) → passed (now ++ left) ≡ passed (moved ++ held) → left ≡ [] → length now ≡ length moved + length held
emptied moved held now left given none =
    sym (as_many (now ++ left) ∙ ap (λ l. length (now ++ l)) none ∙ ap length (append-nil now)) ∙ ap length given ∙ as_many (moved ++ held) ∙ length-append moved held
