-- What waits at a node, as the code keeps it.
use Rattle.std.specs.Prelude.{Bool, true, false}
use Rattle.sn_record.specs.declared.item.Item.TheVariants as item
use Rattle.sn_node.specs.declared.entry.Entry.TheVariants as entry
use Rattle.sn_node.specs.declared.entry.Waiting.{Waiting}
use Rattle.sn_node.specs.declared.entry.Waiting.TheVariants as waiting

-- a record that has no call
abbrev pub is_free : Waiting → Bool
is_free (waiting.Plain (entry.Item (item.Rec r))) = true
is_free other = false
