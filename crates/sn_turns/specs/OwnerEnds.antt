-- The owner's ends of both queues.
use Rattle.std.specs.Prelude.{◌≡◌}
use Rattle.sn_model.specs.declared.run.Run.{Run}
use Rattle.sn_turns.specs.declared.owner.OwnerEnds.{OwnerEnds}

-- both of its ends are of the run
pub record AreEndsOf (run : Run) (ends : OwnerEnds) : Type 0 where
  pub owner : ends.owner.made.run ≡ run
  pub hand : ends.hand.made.run ≡ run
