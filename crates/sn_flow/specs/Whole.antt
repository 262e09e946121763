-- What visits with all variants of an input give.
use Rattle.std.specs.Prelude.{List, [], Result, Ok, Err}
use Rattle.std.specs.List.{Contains}
use Rattle.sn_record.specs.LabelSet.{Labels}
use Rattle.sn_typing.specs.Outline.{Outline}
use Rattle.sn_typing.specs.Accepted.{IsBounded}
use Rattle.sn_flow.specs.declared.stop.Stop.{Stop}
use Rattle.sn_flow.specs.declared.stop.Stop.TheVariants.{TooMany, Memory}
use Rattle.sn_flow.specs.declared.table.Table.{Table}
use Rattle.sn_flow.specs.Tables.{Came, Covers, Holds}

-- the table holds, covers each variant of the input, and has rows of what is reached from these alone
pub record IsWhole (net : Outline) (input : List Labels) (t : Table) : Type 0 where
  pub holds : Holds net t
  pub covers : (v : Labels) → Contains input v → Covers net t v
  pub came : Came net input [] net t

-- such a table, or more variants than the limits
abbrev pub EachVisited : Outline → List Labels → Result Table Stop → Type 0
EachVisited net input (Ok t) = IsWhole net input t
EachVisited net input (Err TooMany) = IsBounded net input → ⊥
EachVisited net input (Err Memory) = Unit {0}
