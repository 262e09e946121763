use Rattle.std.proofs.Common.{subst, sym}
use Rattle.sn_model.specs.declared.run.Run.{Run}
use Rattle.sn_view.specs.Chains.{Comes}
use Rattle.sn_graph.specs.Arena.{view_of}
use Rattle.sn_graph.proofs.Applying.{may_come_before, nodes_of_own, still_came}
use Rattle.sn_graph.proofs.Known.{applied_known}
use Rattle.sn_graph.proofs.graph.Graph.apply_given.Goals as goal

pub invariant_of-self : goal.invariant_of-self
invariant_of-self c =
    let came : ∥ Comes c.args.run.now (view_of c.args.self.now.arena) ∥₁ = subst (λ (r : Run). ∥ Comes r (view_of c.args.self.now.arena) ∥₁) c.requires.of c.args.self.now.came in
    record {
      came =
          subst (λ (r : Run). ∥ Comes r (view_of c.apply.new.self) ∥₁) (sym c.apply.ensures.of.made)
          (still_came c.args.run.now c.args.event (view_of c.args.self.now.arena) (view_of c.apply.new.self) c.apply.result c.apply.ensures.applies came);
      of = nodes_of_own c.apply.new.self c.args.run.now c.apply.ensures.of;
      tabled = c.apply.ensures.tabled;
      listed = c.apply.ensures.listed;
    }

pub returns-clause-before : goal.returns-clause-before
returns-clause-before c =
    let came : ∥ Comes c.args.run.now (view_of c.args.self.now.arena) ∥₁ = subst (λ (r : Run). ∥ Comes r (view_of c.args.self.now.arena) ∥₁) c.requires.of c.args.self.now.came in
    may_come_before c.args.run.now c.args.event (view_of c.args.self.now.arena) (view_of c.apply.new.self) c.apply.result c.apply.ensures.applies came

pub returns-clause-labels : goal.returns-clause-labels
returns-clause-labels c =
    let came : ∥ Comes c.args.run.now (view_of c.args.self.now.arena) ∥₁ = subst (λ (r : Run). ∥ Comes r (view_of c.args.self.now.arena) ∥₁) c.requires.of c.args.self.now.came in
    applied_known c.args.run.now c.args.event (view_of c.args.self.now.arena) (view_of c.apply.new.self) c.apply.result
    (still_came c.args.run.now c.args.event (view_of c.args.self.now.arena) (view_of c.apply.new.self) c.apply.result c.apply.ensures.applies came) c.apply.ensures.applies
