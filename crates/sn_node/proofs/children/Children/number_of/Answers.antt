use Rattle.std.proofs.Common.{◌∙◌, ap, map}
use Rattle.sn_streams.specs.Keys.{Value}
use Rattle.sn_net.specs.Dispatchers.{stream_key}
use Rattle.sn_view.specs.Next.{child_of as child_number}
use Rattle.sn_node.specs.Child.{child_of}
use Rattle.sn_node.proofs.Numbers.{number_within}
use Rattle.sn_node.proofs.children.Children.number_of.Goals as goal

pub returns-in-Value-clause-within : goal.returns-in-Value-clause-within
returns-in-Value-clause-within c = number_within c.args.self.now.list.items (Value _) c.number_of_value.result c.number_of_value.ensures

pub returns-in-Bypass : goal.returns-in-Bypass
returns-in-Bypass c =
    let number = c.find_child.ensures ∙ ap (λ list. child_number (map child_of list) (stream_key c.args.key)) c.as_slice.ensures.value in
    record { number = number; within = number_within c.args.self.now.list.items (stream_key c.args.key) c.find_child.result number }
