-- What is lent of a value.
use Rattle.sn_record.specs.declared.value.Value.{Value}
use Rattle.sn_record.specs.declared.value.Value.TheOpen.{Value-F}
use Rattle.sn_record.specs.declared.value.Value.TheVariants as value
use Rattle.sn_box_values.specs.declared.shape.Shape.{Shape}
use Rattle.sn_box_values.specs.declared.shape.Shape.TheVariants.{Int, «Text», «List» as ListOf}

-- its outermost level
abbrev pub form_of : Shape → Value-F Value
form_of (Int n) = Value-F.Int n
form_of («Text» text) = Value-F.Text text.now
form_of (ListOf values) = Value-F.List values.now

-- the value itself
abbrev pub lent_value : Shape → Value
lent_value (Int n) = value.Int n
lent_value («Text» text) = value.«Text» text.now
lent_value (ListOf values) = value.«List» values.now
