use Rattle.std.proofs.Common.{◌≡◌, drop}
use Rattle.sn_typing.specs.Outline.{outline}
use Rattle.sn_flow.specs.Spots.{least, row_spots}
use Rattle.sn_flow.proofs.spots.row_spot.Given as goal

abbrev pub invariant-loop-row : goal.invariant-loop-row
invariant-loop-row l = least l.best (row_spots (outline l.boxes l.net) (drop l.row-index l.rows)) ≡ least l.initial.best (row_spots (outline l.boxes l.net) l.rows)
