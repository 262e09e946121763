-- What is printed of a stream, as code keeps it.
use Rattle.std.specs.Prelude.{◌≡◌, ℕ, List}
use Rattle.sn_net.specs.Item.{ModelItem}
use Rattle.sn_output.specs.Printed.{ending, printed}
use Rattle.sn_plain.specs.declared.transcript.Transcript.{Transcript}

-- the lines of the stream, and the fault that ends it
pub record Shows (names : List (List ℕ)) (stream : List ModelItem) (p : Transcript) : Type 0 where
  pub text : p.text ≡ printed names stream
  pub fault : p.fault ≡ ending stream
