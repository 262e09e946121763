-- What a datum stands for.
use Rattle.std.specs.Prelude.{List, map}
use Rattle.sn_record.specs.declared.value.Value.{Value}
use Rattle.sn_box_values.specs.declared.datum.Datum.{Datum}
use Rattle.sn_box_values.specs.Held.{held_value}

abbrev pub value_of : Datum → Value
value_of datum = held_value datum.held

abbrev pub values_of : List Datum → List Value
values_of = map value_of
