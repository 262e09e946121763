use Rattle.std.proofs.Common.{sym, subst, ◌∙◌, ap, IsTrue}
use Rattle.sn_view.specs.Epochs.{stands_at_output, marked}
use Rattle.sn_dispatch.proofs.Counting.{some_here, one_less, marked_is}
use Rattle.sn_dispatch.proofs.free_fork.FreeFork.child_marked.Goals as goal

pub overflow_sub-self : goal.overflow_sub-self
overflow_sub-self c =
    some_here c.self.inside.input c.self.inside.output c.self.inside.here c.self.inside.children.items c.args.child c.index_mut.result.now c.self.invariant
    (subst (λ e. IsTrue (stands_at_output e c.args.child)) (sym c.self.view_is) c.requires) c.index_mut.ensures.value

pub invariant_of-self : goal.invariant_of-self
invariant_of-self c =
    one_less c.self.inside.input c.self.inside.output c.self.inside.here c.self.inside.children.items c.args.child c.index_mut.result.now c.self.invariant
    (subst (λ e. IsTrue (stands_at_output e c.args.child)) (sym c.self.view_is) c.requires) c.index_mut.ensures.value

pub returns : goal.returns
returns c =
    marked_is c.self.inside.input c.self.inside.output c.self.inside.here c.self.inside.children.items c.args.child c.index_mut.result.now c.self.invariant
    (subst (λ e. IsTrue (stands_at_output e c.args.child)) (sym c.self.view_is) c.requires) c.index_mut.ensures.value
    ∙ ap (marked c.args.child) c.self.view_is
