use Rattle.std.proofs.Common.{◌≡◌}
use Rattle.std.specs.List.{All}
use Rattle.sn_input.specs.Steps.{Fits}
use Rattle.serde_json.specs.View.{members_view}
use Rattle.sn_json.specs.Reading.{entries_in}
use Rattle.sn_json.proofs.OneByOne.{behind}
use Rattle.sn_json.proofs.read.read_members.Given as goal

-- what is left comes behind the entries that were read
abbrev pub invariant-loop-key : goal.invariant-loop-key
invariant-loop-key l = (entries_in (members_view l.initial.key-iterator) ≡ behind l.entries (entries_in (members_view l.key-iterator))) × All Fits l.entries
