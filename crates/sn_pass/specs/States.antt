-- What an engine keeps, as the states of the components of a tree.
use Rattle.std.specs.Prelude.{ℤ, unwrap_or}
use Rattle.std.specs.Option.{option_map}
use Rattle.std.specs.Ordering.{int_cmp}
use Rattle.std.specs.BTreeMap.{BTreeMap, get}
use Rattle.sn_net.specs.Cell.{CellState}
use Rattle.sn_pass.specs.Held.{branches_held, levels_held, replicas_held}
use Rattle.sn_pass.specs.Keeping.{Keeping, Fresh, At, Both}
use Rattle.sn_pass.specs.declared.kept.Kept.{Kept, fold-Kept}
use Rattle.sn_pass.specs.declared.kept.Kept.TheOpen.{Kept-F}

-- one form, with the states of each part in its place
abbrev pub held_step : Kept-F (Keeping CellState) → Keeping CellState
held_step Kept-F.Fresh = Fresh
held_step (Kept-F.Cell holding) = At holding
held_step (Kept-F.Parts parts) = Both parts.value.0 parts.value.1
held_step (Kept-F.Branches branches) = branches_held branches.items
held_step (Kept-F.Levels levels) = levels_held levels.items
held_step (Kept-F.Replicas replicas) = replicas_held (λ n. unwrap_or (get int_cmp replicas n) Fresh)

abbrev pub held : Kept → Keeping CellState
held = fold-Kept (Keeping CellState) held_step

-- what the replica for a value keeps, or nothing where there is none
abbrev pub at_value : BTreeMap ℤ Kept → ℤ → Keeping CellState
at_value replicas n = unwrap_or (option_map held (get int_cmp replicas n)) Fresh
