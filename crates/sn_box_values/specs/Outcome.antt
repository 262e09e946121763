-- What comes of a computation: what is wanted, unless memory is.
use Rattle.std.specs.Prelude.{◌≡◌, Result, Ok, Err}
use Rattle.sn_record.specs.declared.item.FaultKind.{FaultKind}
use Rattle.sn_net.specs.BoxValues.{Given}
use Rattle.sn_box_values.specs.declared.datum.Datum.{Datum}
use Rattle.sn_box_values.specs.declared.outcome.Stop.{Stop}
use Rattle.sn_box_values.specs.declared.outcome.Stop.TheVariants as stop
use Rattle.sn_box_values.specs.Datum.{value_of}

-- what is wanted, or its fault; want of memory says nothing
abbrev pub Gives : {X : Type 0} → Result X FaultKind → Result X Stop → Type 0
Gives wanted (Ok x) = wanted ≡ Ok x
Gives wanted (Err (stop.Faulted fault)) = wanted ≡ Err fault
Gives wanted (Err stop.Memory) = Unit {0}

-- the same of a value, which a datum stands for
abbrev pub GivesValue : Given → Result Datum Stop → Type 0
GivesValue wanted (Ok datum) = wanted ≡ Ok (value_of datum)
GivesValue wanted (Err (stop.Faulted fault)) = wanted ≡ Err fault
GivesValue wanted (Err stop.Memory) = Unit {0}
