use Rattle.std.proofs.Common.{arith, rules, sym, ◌+◌, subst}
use Rattle.sn_dispatch.specs.Kept.{IsKept}
use Rattle.sn_dispatch.proofs.Counting.{standing-le-length, more_here, more_past}
use Rattle.sn_dispatch.proofs.free_fork.FreeFork.add_child.Goals as goal

pub overflow_add-self : goal.overflow_add-self
overflow_add-self c = search (arith, rules, standing-le-length c.self.inside.output c.self.inside.children.items)

pub invariant_of-self-then-self : goal.invariant_of-self-then-self
invariant_of-self-then-self c =
    subst (IsKept c.self.inside.input c.self.inside.output (c.self.inside.here + 1)) (sym c.in_ok-push.ensures.items)
    (more_here c.self.inside.input c.self.inside.output c.self.inside.here c.self.inside.children.items c.self.invariant c.if-self.true)

pub invariant_of-self-else-self : goal.invariant_of-self-else-self
invariant_of-self-else-self c =
    subst (IsKept c.self.inside.input c.self.inside.output c.self.inside.here) (sym c.in_ok-push.ensures.items)
    (more_past c.self.inside.input c.self.inside.output c.self.inside.here c.self.inside.children.items c.self.invariant c.if-self.false)
