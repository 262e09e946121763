-- Templates of one part: its value may be set before the rest is inherited, or after.
use Rattle.std.proofs.Common.{◌≡◌, [], ◌∷◌, Bool, true, false, cond, None, Some, Option, Result, Ok, refl, sym, ap, ◌∙◌}
use Rattle.std.specs.Prelude.{if◌then◌else◌}
use Rattle.std.specs.FinMap.{empty, get, insert, get-empty, get-insert}
use Rattle.std.specs.Option.{option_or}
use Rattle.std.specs.Ordering.{eq_by_cmp}
use Rattle.sn_record.specs.declared.label.Label.{Label}
use Rattle.sn_record.specs.declared.value.Value.{Value}
use Rattle.sn_record.specs.Label.{label_cmp, label_cmp_total}
use Rattle.sn_record.specs.LabelSet.{Labels, contains}
use Rattle.sn_record.specs.Record.{Entries, inherit}
use Rattle.sn_record.proofs.Records.{get-inherit, same_record}
use Rattle.sn_tagexpr.specs.declared.fault.ExprFault.{ExprFault}
use Rattle.sn_net.specs.declared.filter.Part.{Part}
use Rattle.sn_net.specs.Filter.{target}
use Rattle.sn_net.specs.Answer.{and_then, inherited, part_value, template_record, with_parts, with_value}

set_or_found : (tied : Bool) (x : Value) (rest : Option Value) → option_or (cond tied (Some x) None) rest ≡ cond tied (Some x) rest
set_or_found true x rest = refl
set_or_found false x rest = refl

inherit-insert : (r : Entries) (v : Labels) (l : Label) (x : Value) → inherit r v (insert empty l x) ≡ insert (inherit r v empty) l x
inherit-insert r v l x =
    same_record _ _ (λ k.
    let rest : Option Value = if contains v k then None else get r k in
    get-inherit r v (insert empty l x) k
    ∙ ap (λ y. option_or y rest) (get-insert label_cmp_total empty l x k ∙ ap (cond (eq_by_cmp label_cmp k l) (Some x)) (get-empty label_cmp k))
    ∙ set_or_found (eq_by_cmp label_cmp k l) x rest
    ∙ sym (get-insert label_cmp_total (inherit r v empty) l x k
    ∙ ap (cond (eq_by_cmp label_cmp k l) (Some x)) (get-inherit r v empty k ∙ ap (λ y. option_or y rest) (get-empty label_cmp k))))

inherit-with_value : (r : Entries) (v : Labels) (l : Label) (x : Option Value) → inherit r v (with_value empty l x) ≡ with_value (inherit r v empty) l x
inherit-with_value r v l None = refl
inherit-with_value r v l (Some x) = inherit-insert r v l x

-- the record of such a template, and its fault
pub one_part : (r : Entries) (pattern : Labels) (part : Part) (value : Option Value) (whole : Entries) → part_value r part ≡ Ok value
    → whole ≡ with_value (inherit r pattern empty) (target part) value → template_record r pattern (record { parts = part ∷ [] }) ≡ Ok whole
one_part r pattern part value whole is set =
    ap (λ (found : Result (Option Value) ExprFault). inherited r pattern (and_then empty (target part) found (with_parts r []))) is
    ∙ ap (λ (made : Entries). Ok made) (inherit-with_value r pattern (target part) value ∙ sym set)
