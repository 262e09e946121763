-- What the type of an end keeps, through each step.
use Rattle.std.proofs.Common.{◌≡◌, ◌∙◌, Bool, true, false, List, [], ◌∷◌, ◌++◌, map, refl, sym, ap, subst}
use Rattle.std.specs.Prelude.{Option, None, Some, MatchOption}
use mathlib.Core.List.{IsPrefix}
use Rattle.sn_net.specs.Item.{ModelItem}
use Rattle.sn_histories.specs.Entries.{Entry}
use Rattle.sn_stream.specs.declared.item.StreamItem.{StreamItem}
use Rattle.sn_stream.specs.declared.rule.Known.{Known}
use Rattle.sn_stream.specs.Ends.{passed, streamed}
use Rattle.sn_stream.specs.Flow.{Got, Stated, known}
use Rattle.sn_stream.proofs.Entries.{as_history}

-- the pass does this, knows the list that is stated for the history, and what it moved is a beginning of that
abbrev pub Follows : Bool → Bool → List (Entry ModelItem) → Known → Type 0
Follows puts gets es v = (v ≡ known puts gets (map streamed es) v.moved) × IsPrefix (passed v.moved) es

-- one that has moved nothing yet, under any name of the stated list
pub fresh : (puts gets : Bool) (es : List (Entry ModelItem)) (picked : Stated) (v : Known) → v ≡ known puts gets picked [] → picked ≡ map streamed es → Follows puts gets es v
fresh puts gets es picked v is same =
    let none : v.moved ≡ [] = ap (λ (y : Known). y.moved) is in
    (is ∙ (λ i. known puts gets (same i) (sym none i)), subst (λ (l : List StreamItem). IsPrefix (passed l) es) (sym none) (es, refl))

-- one that got the next entry of the stated list
after_got : (es : List (Entry ModelItem)) (v w : Known) (x : StreamItem) → Follows false true es v → Got v x w → Follows false true es w
after_got es v w x follows got =
    let stated : v.stated ≡ map streamed es = ap (λ (y : Known). y.stated) follows.0 in
    let moved : v.moved ++ x ∷ [] ≡ w.moved = sym (ap (λ (y : Known). y.moved) got.0) in
    let begins : IsPrefix (map Some w.moved) (map streamed es) =
    subst (λ (y : List StreamItem × Stated). IsPrefix (map Some y.0) y.1) (λ i. (moved i, stated i)) got.1 in
    (got.0 ∙ (λ i. known false true (stated i) (moved i)), as_history w.moved es begins)

-- one that asked for an entry, be there one or none
pub after_get : (Empty : Type 0) (es : List (Entry ModelItem)) (v w : Known) (answer : Option StreamItem) → Follows false true es v
    → MatchOption answer ((w ≡ v) × Empty) (λ x. Got v x w) → Follows false true es w
after_get Empty es v w None follows told = subst (Follows false true es) (sym told.0) follows
after_get Empty es v w (Some x) follows told = after_got es v w x follows told
