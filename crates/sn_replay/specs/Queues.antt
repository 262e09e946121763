-- Runs that differ in their queues alone.
use Rattle.std.specs.Prelude.{◌≡◌}
use Rattle.sn_model.specs.declared.run.Run.{Run}
use Rattle.sn_model.specs.Run.{boxes_of, depth_of, fuel_of, input_of, net_of}

-- The runs are the same but for how long their queues are.
pub record AreAlike (run other : Run) : Type 0 where
  pub net : net_of run ≡ net_of other
  pub boxes : boxes_of run ≡ boxes_of other
  pub fuel : fuel_of run ≡ fuel_of other
  pub depth : depth_of run ≡ depth_of other
  pub input : input_of run ≡ input_of other
