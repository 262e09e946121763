use Rattle.std.proofs.Common.{List, length, ap, arith, ◌∙◌}
use Rattle.sn_flow.specs.declared.table.Table.{Table}
use Rattle.sn_flow.specs.Tables.{part_at}
use Rattle.sn_flow.proofs.Padding.{set_elsewhere, set_here}
use Rattle.sn_flow.proofs.table.put_part.Goals as goal

pub returns-clause-part : goal.returns-clause-part
returns-clause-part c =
    ap (λ (ps : List Table). part_at ps c.args.i) c.from_vec.ensures
    ∙ set_here c.into_vec-all.result.items c.args.i c.replace.new.dest (omega (arith, ap length c.into_vec-all.ensures, c.in_ok-all.ensures.long)) ∙ c.replace.ensures.after

pub returns-clause-others : goal.returns-clause-others
returns-clause-others c = λ j other.
    ap (λ (ps : List Table). part_at ps j) c.from_vec.ensures ∙ set_elsewhere c.into_vec-all.result.items c.args.i j c.replace.new.dest other
    ∙ ap (λ (ps : List Table). part_at ps j) c.into_vec-all.ensures ∙ c.in_ok-all.ensures.same j
