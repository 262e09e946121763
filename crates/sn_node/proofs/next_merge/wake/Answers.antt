use Rattle.std.proofs.Common.{map}
use Rattle.sn_view.specs.View.{keeps_more}
use Rattle.sn_node.specs.Child.{child_of}
use Rattle.sn_node.proofs.Awake.{woken_changed}
use Rattle.sn_node.proofs.next_merge.wake.Goals as goal

pub returns-in-Freely-clause-woken : goal.returns-in-Freely-clause-woken
returns-in-Freely-clause-woken c = λ old more is woken.
    woken_changed c.args.state.now c.in-Freely.freely c.wake.new.self old (map child_of c.args.children.now.list.items) (keeps_more more) c.args.c c.in-Freely.is is c.wake.ensures woken
