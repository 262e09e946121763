use Rattle.std.proofs.Common.{arith, cond, length, map, ap, sym, subst, ◌∙◌}
use Rattle.sn_view.specs.Epochs.{Epochs, moved_on}
use Rattle.sn_node.specs.Child.{child_of}
use Rattle.sn_node.specs.Woken.{AreAwake}
use Rattle.sn_node.proofs.Awake.{awake_marked, length_passed}
use Rattle.sn_node.proofs.freely.Freely.pass_mark.Goals as goal

pub invariant_of-self : goal.invariant_of-self
invariant_of-self c =
    let self = c.args.self.now in
    let same = length_passed c.out_mark-moved.result self.fork c.child_marked.new.self c.out_mark-moved.new.self c.args.c c.child_marked.ensures c.out_mark-moved.ensures.moved in
    record { reached = omega (arith, same, self.reached) }

pub returns-then-moved-clause-woken : goal.returns-then-moved-clause-woken
returns-then-moved-clause-woken c =
    let self = c.args.self.now in
    let same = length_passed c.out_mark-moved.result self.fork c.child_marked.new.self c.out_mark-moved.new.self c.args.c c.child_marked.ensures c.out_mark-moved.ensures.moved in
    (ap (λ (e : Epochs). length e.children) c.wake_all.ensures.fork ∙ same ∙ c.requires.woken.0, c.wake_all.ensures.woken)

pub returns-else-moved-clause-woken : goal.returns-else-moved-clause-woken
returns-else-moved-clause-woken c =
    let self = c.args.self.now in
    let children = map child_of c.args.children.now.list.items in
    let marked = c.child_marked.new.self in
    let same = length_passed c.out_mark-moved.result self.fork marked c.out_mark-moved.new.self c.args.c c.child_marked.ensures c.out_mark-moved.ensures.moved in
    let is = c.out_mark-moved.ensures.moved ∙ ap (λ b. cond b (moved_on marked) marked) c.if-moved.false ∙ c.child_marked.ensures in (
      same ∙ c.requires.woken.0,
      subst (λ e. AreAwake e self.waking.stack.items children) (sym is) (awake_marked self.fork self.waking.stack.items children c.args.c c.requires.stands c.requires.woken.1),
    )
