use Rattle.std.proofs.Common.{◌∙◌, ap}
use Rattle.std.specs.FinMap.{empty}
use Rattle.sn_record.specs.declared.label.Label.{Label}
use Rattle.sn_record.specs.Record.{Entries, inherit}
use Rattle.sn_net.specs.Answer.{with_value}
use Rattle.sn_filter.proofs.OnePart.{one_part}
use Rattle.sn_filter.proofs.template.part_record.Goals as goal

pub returns : goal.returns
returns c =
    one_part c.args.taken c.args.pattern.now c.args.part.now c.in_ok-value.value c.set_value.new.made c.in_ok-value.ensures.value
    (c.in_ok-set_value.ensures
    ∙ ap (λ (made : Entries). with_value made c.target.result c.in_ok-value.value) (c.in_ok-made.ensures ∙ ap (inherit c.args.taken c.args.pattern.now) c.new.ensures)
    ∙ ap (λ (l : Label). with_value (inherit c.args.taken c.args.pattern.now empty) l c.in_ok-value.value) c.target.ensures)
