-- The union of the records that are held.
use Rattle.std.proofs.Common.{◌≡◌, ℕ, ◌+◌, ◌<◌, ◌≤◌, ◌∷◌, length, get_or, drop, Option, None, Some, refl, sym, ap, ◌∙◌}
use Rattle.std.specs.Option.{option_or}
use Rattle.std.specs.FinMap as map
use Rattle.std.proofs.lemmas.List.{drop_all}
use Rattle.sn_record.specs.Label.{label_cmp}
use Rattle.sn_record.specs.LabelSet.{Labels}
use Rattle.sn_record.specs.Record.{Entries, overlay, inherit}
use Rattle.sn_record.proofs.Maps.{option_or-none}
use Rattle.sn_record.proofs.Records.{same_record, get-overlay, inherit-overlay}
use Rattle.sn_net.specs.Cell.{Slots, union}
use Rattle.sn_sync.specs.Slotted.{held_records}
use Rattle.sn_sync.proofs.Filling.{cut}

pub overlay-empty_left : (r : Entries) → overlay map.empty r ≡ r
overlay-empty_left r = same_record _ r (λ l. get-overlay map.empty r l ∙ ap (λ x. option_or x (map.get r l)) (map.get-empty label_cmp l))

pub overlay-empty_right : (r : Entries) → overlay r map.empty ≡ r
overlay-empty_right r = same_record _ r (λ l. get-overlay r map.empty l ∙ ap (option_or (map.get r l)) (map.get-empty label_cmp l) ∙ option_or-none (map.get r l))

or_assoc : {A : Type 0} (x y z : Option A) → option_or (option_or x y) z ≡ option_or x (option_or y z)
or_assoc None y z = refl
or_assoc (Some x) y z = refl

pub overlay_assoc : (a b c : Entries) → overlay (overlay a b) c ≡ overlay a (overlay b c)
overlay_assoc a b c =
    same_record _ _
    (λ l. get-overlay (overlay a b) c l ∙ ap (λ x. option_or x (map.get c l)) (get-overlay a b l)
    ∙ or_assoc (map.get a l) (map.get b l) (map.get c l)
    ∙ sym (get-overlay a (overlay b c) l ∙ ap (option_or (map.get a l)) (get-overlay b c l)))

-- the union of the records so far and of those that are held from the place on
abbrev pub with_rest : Entries → Slots → ℕ → Entries
with_rest both slots i = overlay both (union (held_records (drop i slots)))

-- a slot that holds a record
pub with_rest-held : (slots : Slots) (i : ℕ) (slot : Option Entries) (held both next : Entries) (named : Labels)
    → i < length slots → slot ≡ get_or slots i slot → slot ≡ Some held → named ≡ map.empty → next ≡ inherit held named both
    → with_rest next slots (i + 1) ≡ with_rest both slots i
with_rest-held slots i slot held both next named within here is nothing more =
    let rest = union (held_records (drop (i + 1) slots)) in
    ap (λ o. overlay o rest) (more ∙ ap (λ labels. inherit held labels both) nothing ∙ inherit-overlay held both)
    ∙ overlay_assoc both held rest
    ∙ sym (ap (λ ss. overlay both (union (held_records ss))) (cut slots i slot within here ∙ ap (λ x. x ∷ drop (i + 1) slots) is))

-- a slot that is empty
pub with_rest-empty : (slots : Slots) (i : ℕ) (slot : Option Entries) (both : Entries)
    → i < length slots → slot ≡ get_or slots i slot → slot ≡ None → with_rest both slots (i + 1) ≡ with_rest both slots i
with_rest-empty slots i slot both within here is =
    sym (ap (λ ss. overlay both (union (held_records ss))) (cut slots i slot within here ∙ ap (λ x. x ∷ drop (i + 1) slots) is))

-- no slot is left
pub with_rest-past : (slots : Slots) (i : ℕ) (both : Entries) → length slots ≤ i → with_rest both slots i ≡ both
with_rest-past slots i both past = ap (λ ss. overlay both (union (held_records ss))) (drop_all i slots past) ∙ overlay-empty_right both
