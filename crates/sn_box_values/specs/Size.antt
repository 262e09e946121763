-- The size of a value.
use Rattle.std.specs.Prelude.{◌≡◌}
use Rattle.sn_record.specs.declared.value.Value.{Value}
use Rattle.sn_record.specs.Value.{nesting, weight}
use Rattle.sn_box_values.specs.declared.size.Size.{Size}

pub record IsSizeOf (v : Value) (size : Size) : Type 0 where
  pub levels : nesting v ≡ size.levels
  pub weighs : weight v ≡ size.weight
