-- A node without the entry that came in last.
use Rattle.std.specs.Prelude.{◌-◌, length, take}
use Rattle.sn_view.specs.View.{Node}

abbrev pub without_last : Node → Node
without_last n = record n { waiting = take (length n.waiting - 1) n.waiting }
