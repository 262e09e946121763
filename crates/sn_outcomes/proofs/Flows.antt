-- What can come out for each variant of an input is printed in one way.
use Rattle.std.proofs.Common.{ℕ, List, [], ◌∷◌, ◌++◌, ◌≡◌, sym, ◌∙◌, ap, subst, codes}
use Rattle.sn_record.specs.LabelSet.{Labels}
use Rattle.sn_types.specs.RecordType.{minimal}
use Rattle.sn_typing.specs.Outline.{Outline, outline}
use Rattle.sn_net.proofs.SortedSets.{ascending-same, only_ascending}
use Rattle.sn_flow.specs.Verdicts.{IsFlowOf}
use Rattle.sn_output.specs.Types.{IsTypeText, variant_text}
use Rattle.sn_outcomes.proofs.SortedTexts.{same_type_text}
use Rattle.sn_load.specs.Flows.{HasFlows, IsFlowLine}
use Rattle.sn_load.specs.declared.load.Program.{Program}

-- the variants that come out, each once and in order, are one list
same_flow : (net : Outline) (v : Labels) (us ws : List Labels) → IsFlowOf net v us → IsFlowOf net v ws → us ≡ ws
same_flow net v us ws a b =
    only_ascending us ws a.ascending (λ u. ((λ there. (b.same u).1 ((a.same u).0 there)), (λ there. (a.same u).1 ((b.same u).0 there)))) ∙ ascending-same ws b.ascending

same_line : (program : Program) (v : Labels) (line other : List ℕ) → IsFlowLine program v line → IsFlowLine program v other → line ≡ other
same_line program v line other a b =
    let flow = same_flow (outline program.boxes program.claim.net) v b.flow a.flow b.comes a.comes in
    let text = same_type_text program.names (minimal a.flow) a.text b.text a.is_type (subst (λ us. IsTypeText program.names (minimal us) b.text) flow b.is_type) in
    a.line_is ∙ ap (λ t. variant_text program.names v ++ (codes " -> " ++ (t ++ codes "\n"))) text ∙ sym b.line_is

pub same_flows : (program : Program) (variants : List Labels) (text other : List ℕ) → HasFlows program variants text → HasFlows program variants other → text ≡ other
same_flows program [] text other a b = a ∙ sym b
same_flows program (v ∷ variants) text other (line, more, is, rest, text_is) (others, even_more, also, behind, other_is) =
    let lines = same_line program v line others is also in
    let rests = same_flows program variants more even_more rest behind in
    text_is ∙ (λ i. lines i ++ rests i) ∙ sym other_is
