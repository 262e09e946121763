-- Which templates a filter uses, an arm at a time, and what its answer is then.
use Rattle.std.proofs.Common.{◌≡◌, ◌<◌, ◌+◌, ℕ, ℤ, List, [], ◌∷◌, length, map, drop, get_or, Ok, Err, sym, ap, ◌∙◌}
use Rattle.std.proofs.lemmas.List.{drop_more}
use Rattle.std.proofs.lemmas.Result.{IfOk-at_ok}
use Rattle.std.specs.List.{All}
use Rattle.sn_record.specs.Record.{Entries}
use Rattle.sn_tagexpr.specs.declared.fault.ExprFault.{ExprFault}
use Rattle.sn_tagexpr.specs.Evaluation.{worth}
use Rattle.sn_net.specs.declared.filter.Arm.{Arm}
use Rattle.sn_net.specs.declared.filter.Filter.{Filter}
use Rattle.sn_net.specs.declared.filter.Template.{Template}
use Rattle.sn_net.specs.Answer.{chosen, chosen_by, fault_at, filter_answer, outcomes, tag_number, template_record, up_to_fault, used}
use Rattle.sn_net.specs.Filter.{IsClosed, IsClosedTemplate}
use Rattle.sn_net.specs.Item.{Fault}
use Rattle.sn_net.proofs.Chosen.{chosen_closed}

pub used_closed : (filter : Filter) (r : Entries) (templates : List Template) → IsClosed filter → used filter r ≡ Ok templates
    → All (IsClosedTemplate filter.pattern) templates
used_closed filter r templates closed is = IfOk-at_ok (All (IsClosedTemplate filter.pattern)) is (chosen_closed (tag_number r) filter closed)

pub answer_of_used : (filter : Filter) (r : Entries) (templates : List Template) → used filter r ≡ Ok templates
    → filter_answer filter r ≡ up_to_fault filter.place (map (template_record r filter.pattern) templates)
answer_of_used filter r templates is = ap (λ x. up_to_fault filter.place (outcomes r filter.pattern x)) is

pub answer_of_fault : (filter : Filter) (r : Entries) (fault : ExprFault) → used filter r ≡ Err fault
    → filter_answer filter r ≡ Fault (fault_at filter.place fault) ∷ []
answer_of_fault filter r fault is = ap (λ x. up_to_fault filter.place (outcomes r filter.pattern x)) is

-- from an arm on, its guard decides
pub from_arm : (tags : ℕ → ℤ) (arms : List Arm) (i : ℕ) (arm : Arm) (last : List Template) → i < length arms → arm ≡ get_or arms i arm
    → chosen tags (drop i arms) last ≡ chosen_by (worth tags arm.guard) arm.templates (chosen tags (drop (i + 1) arms) last)
from_arm tags arms i arm last inside is =
    ap (λ left. chosen tags left last) (drop_more arms i arm inside) ∙ ap (λ first. chosen tags (first ∷ drop (i + 1) arms) last) (sym is)
