-- How the source keeps what contracts see of it.
use Rattle.sn_component.specs.declared.source.Source.TheInside.{Inside}
use Rattle.sn_component.specs.Seen.{Sourcing}

abbrev pub sourcing_of : Inside → Sourcing
sourcing_of s = record { run = s.run.value; next = s.next; output = s.output.put; held = s.output.held.items }
