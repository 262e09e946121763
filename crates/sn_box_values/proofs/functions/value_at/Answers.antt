use Rattle.std.proofs.Common.{sym, subst}
use Rattle.sn_record.specs.Value.{IsSound}
use Rattle.sn_box_values.proofs.Sound.{sound_element}
use Rattle.sn_box_values.proofs.functions.value_at.Goals as goal

-- src/functions.rt:79:27
pub new-requires : goal.new-requires
new-requires c = subst IsSound (sym c.in_ok-copy-in-Some.ensures) (sound_element c.args.values.now _ c.in-Some.value.now c.requires c.in-Some.ensures)
