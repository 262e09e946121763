use Rattle.std.proofs.Common.{◌≡◌, ◌<◌, ◌+◌, List, [], ◌∷◌, ◌++◌, get_or, length, take, sym, ap, subst, subst₂, ◌∙◌}
use Rattle.std.proofs.lemmas.List.{take_more}
use Rattle.sn_record.specs.LabelSet.{Labels}
use Rattle.sn_load.specs.Flows.{HasFlows}
use Rattle.sn_load.proofs.Flowing.{flows_more}
use Rattle.sn_load.proofs.types.flows_text.Goals as goal

pub loop-variant-preserved : goal.loop-variant-preserved
loop-variant-preserved c =
    let input = c.args.program.now.claim.input in
    let i = c.loop-variant.variant-index in
    let v = c.variant-item.result in
    let here : v ≡ get_or input i v = c.variant-item.is ∙ ap (λ (vs : List Labels). get_or vs i v) c.as_slice-variant-items.ensures in
    let below : i < length input = subst (λ (vs : List Labels). i < length vs) c.as_slice-variant-items.ensures c.loop-variant-test.true in
    let more : take (i + 1) input ≡ take i input ++ v ∷ [] = take_more input i v below ∙ ap (λ (w : Labels). take i input ++ w ∷ []) (sym here) in
    let line = c.in_ok-push_flow.ensures in
    subst₂ (λ vs text. HasFlows c.args.program.now vs text) (sym more) (sym line.2) (flows_more c.args.program.now (take i input) v c.loop-variant.text line.0 c.loop-variant.invariant line.1)
