-- What is printed of a stream.
use Rattle.std.specs.Prelude.{◌≡◌, ℕ, List, map}
use Rattle.sn_record.specs.declared.item.Item.{Item}
use Rattle.sn_net.specs.Item.{modelled}
use Rattle.sn_output.specs.Printed.{ending, printed}
use Rattle.drive.specs.declared.transcript.Transcript.{Transcript}

-- the lines of the items up to the first fault, and that fault
pub record Shows (names : List (List ℕ)) (items : List Item) (shown : Transcript) : Type 0 where
  pub text : shown.text ≡ printed names (map modelled items)
  pub fault : shown.fault ≡ ending (map modelled items)
