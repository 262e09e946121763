-- Nodes as the view has them.
use Rattle.std.specs.Prelude.{map}
use Rattle.sn_dispatch.specs.declared.det_fork.Decision.{Decision}
use Rattle.sn_dispatch.specs.declared.det_fork.Decision.TheVariants as decision
use Rattle.sn_net.specs.Dispatchers.{stream_key}
use Rattle.sn_net.specs.Item.{modelled}
use Rattle.sn_view.specs.View as view
use Rattle.sn_node.specs.declared.entry.Waiting.{Waiting}
use Rattle.sn_node.specs.declared.entry.Waiting.TheVariants as waiting
use Rattle.sn_node.specs.declared.node.Target.{Target}
use Rattle.sn_node.specs.declared.node.Target.TheVariants as target
use Rattle.sn_node.specs.declared.node.State.{State}
use Rattle.sn_node.specs.declared.node.State.TheVariants as state
use Rattle.sn_node.specs.declared.node.Node.{Node}
use Rattle.sn_node.specs.Child.{child_of}
use Rattle.sn_node.specs.Entry.{entry_of}

abbrev pub waiting_of : Waiting → view.Waiting
waiting_of (waiting.Plain e) = view.Plain (entry_of e)
waiting_of (waiting.InFlight call given) = view.InFlight call given
waiting_of (waiting.Finished given items) = view.Finished given

abbrev pub target_of : Target → view.Target
target_of target.Out = view.Out
target_of (target.Node node) = view.ToNode node
target_of (target.Child node child) = view.ToChild node child

abbrev pub decision_of : Decision → view.Entry view.Turn
decision_of (decision.To key) = view.It (view.To (stream_key key))
decision_of (decision.Own x) = view.It (view.Own (modelled x))
decision_of decision.Mark = view.Mark
decision_of decision.End = view.End

abbrev pub state_of : State → view.State
state_of state.Alone = view.Alone
state_of (state.Cell cell) = view.Cell cell.patterns cell.state
state_of (state.InTurn decisions) = view.InTurn (map decision_of decisions)
state_of (state.Freely freely) = view.Freely freely.fork

abbrev pub node_of : Node → view.Node
node_of node = record {
  steps = node.made.steps;
  path = node.made.path;
  left = node.made.left;
  goes = target_of node.made.goes;
  waiting = map waiting_of node.waiting.entries.items;
  state = state_of node.state;
  children = map child_of node.children.list.items;
}
