use Rattle.std.proofs.Common.{◌≡◌, List, [], sym, ap, ◌∙◌}
use Rattle.std.specs.Prelude.{Option, unwrap_or}
use Rattle.std.specs.Option.{option_copied, option_map}
use Rattle.std.proofs.lemmas.Result.{IfOk-weaker}
use Rattle.sn_record.specs.LabelSet.{Labels}
use Rattle.sn_flow.specs.declared.table.Row.{Row}
use Rattle.sn_flow.specs.Visits.{flow_in}
use Rattle.sn_flow.proofs.Rows.{flow_found}
use Rattle.sn_flow.proofs.table.flow_of.Goals as goal

pub returns-in-Some : goal.returns-in-Some
returns-in-Some c =
    let is : flow_in c.args.rows.now c.args.variant.now ≡ c.in-Some.row.now.flow =
    flow_found c.args.rows.now c.args.variant.now ∙ ap (λ (o : Option Row). unwrap_or (option_map (λ row. row.flow) o) []) (sym c.in_ok-row.ensures ∙ ap option_copied c.in-Some.is) in
    IfOk-weaker c.copy_sets.result _ _ (λ (copies : List Labels) (same : copies ≡ c.as_slice.result.now). same ∙ c.as_slice.ensures ∙ sym is) c.copy_sets.ensures

pub returns-in-None : goal.returns-in-None
returns-in-None c =
    c.new.ensures ∙ sym (flow_found c.args.rows.now c.args.variant.now ∙ ap (λ (o : Option Row). unwrap_or (option_map (λ row. row.flow) o) []) (sym c.in_ok-row.ensures ∙ ap option_copied c.in-None.is))
