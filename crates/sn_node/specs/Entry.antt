-- Entries as contracts see them.
use Rattle.sn_net.specs.Item.{ModelItem, modelled}
use Rattle.sn_view.specs.View as view
use Rattle.sn_node.specs.declared.entry.Entry.{Entry}
use Rattle.sn_node.specs.declared.entry.Entry.TheVariants as entry

abbrev pub entry_of : Entry → view.Entry ModelItem
entry_of (entry.Item x) = view.It (modelled x)
entry_of entry.Mark = view.Mark
entry_of entry.End = view.End
