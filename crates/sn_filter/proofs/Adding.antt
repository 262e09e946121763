-- Items that were added, one list of outcomes behind another.
use Rattle.std.proofs.Common.{◌≡◌, ◌++◌, ◌∷◌, [], ◌<◌, ◌+◌, ℕ, Bool, true, false, List, length, map, drop, get_or, Ok, Err, is_ok, append-nil, append_assoc, refl, sym, ap, subst, ◌∙◌}
use Rattle.std.proofs.lemmas.List.{drop_more, map-append}
use Rattle.std.specs.List.{list_all}
use Rattle.sn_net.specs.declared.filter.Template.{Template}
use Rattle.sn_net.specs.Item.{ModelItem, Rec}
use Rattle.sn_net.specs.Answer.{up_to_fault}
use Rattle.sn_filter.specs.Outcome.{Outcome, Adds}

pub nothing_added : (place : ℕ) (items : List ModelItem) → Adds place [] items items true
nothing_added place items = record { items = sym (append-nil items); all = refl }

-- the items of some outcomes and of more behind them: all of these where there was no fault, and else none
goes_on : (place : ℕ) (outcomes more : List Outcome) → true ≡ list_all is_ok outcomes
    → up_to_fault place (outcomes ++ more) ≡ up_to_fault place outcomes ++ up_to_fault place more
goes_on place [] more ok = refl
goes_on place (Ok r ∷ outcomes) more ok = ap (λ items. Rec r ∷ items) (goes_on place outcomes more ok)
goes_on place (Err fault ∷ outcomes) more ok = cc

ends : (place : ℕ) (outcomes more : List Outcome) → false ≡ list_all is_ok outcomes
    → up_to_fault place (outcomes ++ more) ≡ up_to_fault place outcomes
ends place [] more faulty = cc
ends place (Ok r ∷ outcomes) more faulty = ap (λ items. Rec r ∷ items) (ends place outcomes more faulty)
ends place (Err fault ∷ outcomes) more faulty = refl

all_of_both : (outcomes more : List Outcome) → true ≡ list_all is_ok outcomes → list_all is_ok (outcomes ++ more) ≡ list_all is_ok more
all_of_both [] more ok = refl
all_of_both (Ok r ∷ outcomes) more ok = all_of_both outcomes more ok
all_of_both (Err fault ∷ outcomes) more ok = cc

not_all : (outcomes more : List Outcome) → false ≡ list_all is_ok outcomes → list_all is_ok (outcomes ++ more) ≡ false
not_all [] more faulty = cc
not_all (Ok r ∷ outcomes) more faulty = not_all outcomes more faulty
not_all (Err fault ∷ outcomes) more faulty = refl

-- behind records alone more is added
pub added_both : (place : ℕ) (outcomes more : List Outcome) (before between after : List ModelItem) (whole : Bool)
    → Adds place outcomes before between true → Adds place more between after whole → Adds place (outcomes ++ more) before after whole
added_both place outcomes more before between after whole first second = record {
  items = second.items ∙ ap (λ items. items ++ up_to_fault place more) first.items
      ∙ append_assoc before (up_to_fault place outcomes) (up_to_fault place more)
      ∙ ap (λ items. before ++ items) (sym (goes_on place outcomes more first.all));
  all = second.all ∙ sym (all_of_both outcomes more first.all);
}

-- behind a fault nothing is
pub added_to_fault : (place : ℕ) (outcomes more : List Outcome) (before after : List ModelItem)
    → Adds place outcomes before after false → Adds place (outcomes ++ more) before after false
added_to_fault place outcomes more before after added = record {
  items = added.items ∙ ap (λ items. before ++ items) (sym (ends place outcomes more added.all));
  all = sym (not_all outcomes more added.all);
}

from_the_next : (templates : List Template) (i : ℕ) (template : Template) → i < length templates → template ≡ get_or templates i template
    → drop i templates ≡ template ∷ drop (i + 1) templates
from_the_next templates i template inside is = drop_more templates i template inside ∙ ap (λ first. first ∷ drop (i + 1) templates) (sym is)

-- the same over templates from the i-th on: it gave a record, and the others go on
pub added_from : (place i : ℕ) (give : Template → Outcome) (templates : List Template) (template : Template) (before between after : List ModelItem) (is_record whole : Bool)
    → i < length templates → template ≡ get_or templates i template → is_record ≡ true → Adds place (give template ∷ []) before between is_record
    → Adds place (map give (drop (i + 1) templates)) between after whole → Adds place (map give (drop i templates)) before after whole
added_from place i give templates template before between after is_record whole inside is records first second =
    let P : List Template → Type 0 = λ left. Adds place (map give left) before after whole in
    subst P (sym (from_the_next templates i template inside is))
    (added_both place (give template ∷ []) _ before between after whole (subst (Adds place (give template ∷ []) before between) records first) second)

-- it gave a fault, and the others do not count
pub added_fault : (place i : ℕ) (give : Template → Outcome) (templates : List Template) (template : Template) (before after : List ModelItem) (is_record : Bool)
    → i < length templates → template ≡ get_or templates i template → is_record ≡ false → Adds place (give template ∷ []) before after is_record
    → Adds place (map give (drop i templates)) before after false
added_fault place i give templates template before after is_record inside is faulty added =
    let P : List Template → Type 0 = λ left. Adds place (map give left) before after false in
    subst P (sym (from_the_next templates i template inside is))
    (added_to_fault place (give template ∷ []) _ before after (subst (Adds place (give template ∷ []) before after) faulty added))

-- all templates but the last gave records, and then the last was added
pub added_last : (place : ℕ) (give : Template → Outcome) (templates earlier : List Template) (last : Template) (before between after : List ModelItem) (are_records whole : Bool)
    → templates ≡ earlier ++ last ∷ [] → are_records ≡ true → Adds place (map give earlier) before between are_records
    → Adds place (give last ∷ []) between after whole → Adds place (map give templates) before after whole
added_last place give templates earlier last before between after are_records whole split records first second =
    let P : List Outcome → Type 0 = λ outcomes. Adds place outcomes before after whole in
    subst P (sym (ap (map give) split ∙ map-append give earlier (last ∷ [])))
    (added_both place (map give earlier) _ before between after whole (subst (Adds place (map give earlier) before between) records first) second)

-- one of them gave a fault, and the last does not count
pub added_but_last : (place : ℕ) (give : Template → Outcome) (templates earlier : List Template) (last : Template) (before after : List ModelItem) (are_records : Bool)
    → templates ≡ earlier ++ last ∷ [] → are_records ≡ false → Adds place (map give earlier) before after are_records → Adds place (map give templates) before after false
added_but_last place give templates earlier last before after are_records split faulty added =
    let P : List Outcome → Type 0 = λ outcomes. Adds place outcomes before after false in
    subst P (sym (ap (map give) split ∙ map-append give earlier (last ∷ [])))
    (added_to_fault place (map give earlier) _ before after (subst (Adds place (map give earlier) before after) faulty added))

pub added_to_none : (place : ℕ) (outcomes : List Outcome) (before after : List ModelItem) (whole : Bool) → before ≡ [] → Adds place outcomes before after whole
    → after ≡ up_to_fault place outcomes
added_to_none place outcomes before after whole none added = added.items ∙ ap (λ items. items ++ up_to_fault place outcomes) none
