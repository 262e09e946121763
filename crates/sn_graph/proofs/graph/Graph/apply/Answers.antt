use Rattle.std.proofs.Common.{subst, sym}
use Rattle.std.specs.Prelude.{◌≡◌, IfOk, List, OnErr, OnOk}
use Rattle.sn_net.specs.Item.{ModelItem}
use Rattle.sn_view.specs.Coming.{MayCome}
use Rattle.sn_view.specs.Next.{Next}
use Rattle.sn_view.specs.View.{View}
use Rattle.sn_graph.specs.Event.{ComesOf, happening_of}
use Rattle.sn_graph.specs.Graph.{seen}
use Rattle.sn_graph.proofs.graph.Graph.apply.Goals as goal

pub returns-clause-next : goal.returns-clause-next
returns-clause-next c =
    subst (λ (g : View). OnOk c.apply_given-answer.result (g ≡ Next (seen c.args.self.now) (happening_of c.args.event))) (sym c.settle.ensures.view) c.apply_given-answer.ensures.next

pub returns-clause-comes : goal.returns-clause-comes
returns-clause-comes c =
    subst (λ (g : View). IfOk c.apply_given-answer.result (λ effect. ComesOf c.args.run.now (happening_of c.args.event) effect (seen c.args.self.now) g))
    (sym c.settle.ensures.view) c.apply_given-answer.ensures.comes

pub returns-clause-unchanged : goal.returns-clause-unchanged
returns-clause-unchanged c = subst (λ (g : View). OnErr c.apply_given-answer.result (g ≡ seen c.args.self.now)) (sym c.settle.ensures.view) c.apply_given-answer.ensures.unchanged

pub returns-clause-before : goal.returns-clause-before
returns-clause-before c ys =
    subst (λ (g : View). MayCome g ys → MayCome (seen c.args.self.now) ys) (sym c.settle.ensures.view) (c.apply_given-answer.ensures.before ys)
