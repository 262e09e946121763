use Rattle.std.proofs.Common.{rules, ◌≡◌, ℕ, List, [], ◌∷◌, ◌++◌, map, sym, ap, ap₂, subst, ◌∙◌}
use Rattle.sn_histories.specs.Histories.{In, Out}
use Rattle.sn_model.specs.declared.step.Step.{Step}
use Rattle.sn_net_histories.specs.Histories.{history}
use Rattle.sn_net_histories.specs.Places.{history_at, tree_step}
use Rattle.sn_component.specs.Facts.{history_for}
use Rattle.sn_stream.specs.Ends.{End}
use Rattle.sn_net.specs.declared.net.Net.{Net}
use Rattle.sn_turn.specs.Nodes.{Grown, parts_of}
use Rattle.sn_turn.specs.declared.node.Node.{Node}
use Rattle.sn_turn.proofs.node.Node.network.Goals as goal

pub grow-requires-clause-ends : goal.grow-requires-clause-ends
grow-requires-clause-ends c = record {
  comes =
      ap (λ (e : End). history_for e.made) c.in_ok-put.ensures.get
      ∙ ap₂ history_at c.in_ok-put.ensures.run c.in_ok-put.ensures.place
      ∙ ap (λ (ss : List Step). history c.args.run.now.value (map tree_step ss) In) (sym c.new.ensures);
  leaves =
      ap₂ history_at c.in_ok-output.ensures.run c.in_ok-output.ensures.place
      ∙ ap (λ (ss : List Step). history c.args.run.now.value (map tree_step ss) Out) (sym c.new.ensures);
  got = ap (λ (e : End). e.moved) c.in_ok-put.ensures.get ∙ ap (λ (e : End). e.moved) c.in_ok-put.ensures.put;
  put = ap (λ (e : End). e.moved) c.in_ok-output.ensures.put;
}

pub returns-clause-nodes : goal.returns-clause-nodes
returns-clause-nodes c = record {
  source = c.in_ok-source_node.field-0;
  first = c.in_ok-source_node.ensures;
  others = subst (λ (u : List Node × (Net × List ℕ)). Grown u.0 c.grow.new.nodes.items (parts_of u.1.0 u.1.1)) (λ i. (nodes i, (net i, path i))) c.in_ok-grow.ensures;
}
  where
    nodes : c.push.new.self.items ≡ c.in_ok-source_node.field-0 ∷ []
    nodes = c.in_ok-push.ensures.items ∙ ap (λ (l : List Node). l ++ c.in_ok-source_node.field-0 ∷ []) c.new-nodes.ensures.items

    net : c.net.result.now ≡ c.args.run.now.value.net
    net = search rules

    path : c.new-2.result ≡ []
    path = c.new-2.ensures
