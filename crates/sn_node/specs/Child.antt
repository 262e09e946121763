-- Children as contracts see them.
use Rattle.std.specs.Prelude.{map}
use Rattle.sn_net.specs.Dispatchers.{stream_key}
use Rattle.sn_view.specs.View as view
use Rattle.sn_node.specs.Entry.{entry_of}
use Rattle.sn_node.specs.declared.children.Child.{Child}

abbrev pub child_of : Child → view.Child
child_of child = record { key = stream_key child.key; entry = child.entry; kept = map entry_of child.kept.items }
