-- The value that is held, by itself or shared.
use Rattle.sn_record.specs.declared.value.Value.{Value}
use Rattle.sn_record.specs.declared.value.Value.TheVariants as value
use Rattle.sn_box_values.specs.declared.held.Held.{Held}
use Rattle.sn_box_values.specs.declared.held.Held.TheVariants.{Int, Shared}

abbrev pub held_value : Held → Value
held_value (Int n) = value.Int n
held_value (Shared shared) = shared.value
