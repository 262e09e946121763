-- What a visit of a part with a variant makes of its table, and when it stops.
use Rattle.std.specs.Prelude.{◌≡◌, ◌↔◌, ◌⊎◌, ℕ, ◌+◌, Bool, ◌≤◌, List, [], ◌∷◌, ◌++◌, length, take, if◌then◌else◌, Result, Ok, Err}
use Rattle.std.specs.List.{Contains}
use Rattle.sn_record.specs.LabelSet.{Labels}
use Rattle.sn_typing.specs.Outline.{Outline, Component, Star}
use Rattle.sn_typing.specs.Flow.{Comes, Flows, SurelyLeaves}
use Rattle.sn_typing.specs.Reached.{Turn}
use Rattle.sn_typing.specs.Accepted.{AreFew, IsBounded, IsReached, most_variants}
use Rattle.sn_flow.specs.declared.stop.Stop.{Stop}
use Rattle.sn_flow.specs.declared.stop.Stop.TheVariants.{TooMany, Memory}
use Rattle.sn_flow.specs.declared.table.Table.{Table}
use Rattle.sn_types.specs.RecordType.{is_same}
use Rattle.sn_flow.specs.Taken.{with_exit}
use Rattle.sn_flow.specs.declared.table.Row.{Row}
use Rattle.sn_flow.specs.Tables.{AreDistinct, Came, Covers, Holds, Inner, InnerCame, InnerHolds, IsFlow, child, part_at, parts_of, rows_of}

-- the table t after the visit: the variant and all that is reached from it has rows, and what was known before still is
pub record Visits (net : Outline) (v : Labels) (before t : Table) : Type 0 where
  pub holds : Holds net before → Holds net t
  pub covers : Holds net before → Covers net t v
  pub keeps : (u : Labels) → Covers net before u → Covers net t u
  pub came : (root : Outline) (input : List Labels) (way : List Turn) → Holds net before → IsReached root input way net v → Came root input way net before → Came root input way net t

-- it stops where the network that the part stands in is not bounded
abbrev pub Refuted : Outline → Labels → Table → Type 0
Refuted net v before =
    Holds net before → (root : Outline) (input : List Labels) (way : List Turn) → IsReached root input way net v → Came root input way net before → IsBounded root input → ⊥

abbrev pub Visited : Outline → Labels → Table → Result Table Stop → Type 0
Visited net v before (Ok t) = Visits net v before t
Visited net v before (Err TooMany) = Refuted net v before
Visited net v before (Err Memory) = Unit {0}

-- what was changed, beside why no more was done
abbrev pub after : {X : Type 0} → X → Result (Unit {0}) Stop → Result X Stop
after x (Ok done) = Ok x
after x (Err stop) = Err stop

-- what was changed, beside what was answered
abbrev pub beside : {X Y : Type 0} → X → Result Y Stop → Result (X × Y) Stop
beside x (Ok y) = Ok (x, y)
beside x (Err stop) = Err stop

-- the same for each variant of a list
pub record VisitsAll (net : Outline) (vs : List Labels) (before t : Table) : Type 0 where
  pub holds : Holds net before → Holds net t
  pub covers : Holds net before → (v : Labels) → Contains vs v → Covers net t v
  pub keeps : (u : Labels) → Covers net before u → Covers net t u
  pub came : (root : Outline) (input : List Labels) (way : List Turn) → Holds net before → ((v : Labels) → Contains vs v → IsReached root input way net v) → Came root input way net before → Came root input way net t

-- what flows out for one of the variants
abbrev pub FlowsFrom : Outline → List Labels → Labels → Type 0
FlowsFrom net vs u = (v : Labels) × Contains vs v × Flows net v u

-- the set after others were added: each once, and not too many
pub record Adds (before more after : List Labels) : Type 0 where
  pub distinct : AreDistinct before → AreDistinct after
  pub few : length before ≤ most_variants → length after ≤ most_variants
  pub same : (u : Labels) → Contains after u ↔ (Contains before u ⊎ Contains more u)
  pub rest : List Labels
  pub longer : after ≡ before ++ rest

-- no list of few has them all
abbrev pub Overflows : List Labels → List Labels → Type 0
Overflows before more = AreDistinct before → AreFew (λ u. Contains before u ⊎ Contains more u) → ⊥

abbrev pub Added : List Labels → List Labels → List Labels → Result (Unit {0}) Stop → Type 0
Added before more after (Ok done) = Adds before more after
Added before more after (Err TooMany) = Overflows before more
Added before more after (Err Memory) = Unit {0}

-- the same of what was found, if anything was
abbrev pub FoundAdded : List Labels → Result (List Labels) Stop → List Labels → Result (Unit {0}) Stop → Type 0
FoundAdded before (Ok more) after_it done = Added before more after_it done
FoundAdded before (Err stop) after_it (Ok done) = ⊥
FoundAdded before (Err stop) after_it (Err again) = again ≡ stop

-- it stops where the network that the part stands in is not bounded, if each of the variants reaches the part
abbrev pub RefutedAll : Outline → List Labels → Table → Type 0
RefutedAll net vs before =
    Holds net before → (root : Outline) (input : List Labels) (way : List Turn) → ((v : Labels) → Contains vs v → IsReached root input way net v) → Came root input way net before
    → AreFew (FlowsFrom net vs) → IsBounded root input → ⊥

-- the list has what flows out for the variants, and nothing else
pub record AreFlows (net : Outline) (vs flow : List Labels) : Type 0 where
  pub few : length flow ≤ most_variants
  pub same : (u : Labels) → Contains flow u ↔ FlowsFrom net vs u

-- what a closed set of a star has to give: it has all that comes, and the body's table has a row for each of its variants that stays
pub record Closes (exit : Labels) (guarded : Bool) (body : Outline) (v : Labels) (before t : Table) (members : List Labels) : Type 0 where
  pub few : length members ≤ most_variants
  pub holds : Holds body before → Holds body t
  pub same : Holds body before → (u : Labels) → Contains members u ↔ Comes exit guarded (Flows body) v u
  pub covers : Holds body before → (u : Labels) → Contains members u → (SurelyLeaves exit guarded u → ⊥) → Covers body t u
  pub keeps : (u : Labels) → Covers body before u → Covers body t u
  pub came : (root : Outline) (input : List Labels) (way : List Turn) → Holds body before
      → ((u : Labels) → Comes exit guarded (Flows body) v u → (SurelyLeaves exit guarded u → ⊥) → IsReached root input way body u) → Came root input way body before → Came root input way body t

-- A set of a star that is being closed: it has v, and all that comes from its first i members that stay; these have their rows.
pub record Closing (exit : Labels) (guarded : Bool) (body : Outline) (v : Labels) (before t : Table) (members : List Labels) (i : ℕ) : Type 0 where
  pub distinct : AreDistinct members
  pub few : length members ≤ most_variants
  pub start : Contains members v
  pub holds : Holds body before → Holds body t
  pub comes : Holds body before → (u : Labels) → Contains members u → Comes exit guarded (Flows body) v u
  pub done : Holds body before → (u : Labels) → Contains (take i members) u → (SurelyLeaves exit guarded u → ⊥) → Covers body t u × ((w : Labels) → Flows body u w → Contains members w)
  pub keeps : (u : Labels) → Covers body before u → Covers body t u
  pub came : (root : Outline) (input : List Labels) (way : List Turn) → Holds body before
      → ((u : Labels) → Comes exit guarded (Flows body) v u → (SurelyLeaves exit guarded u → ⊥) → IsReached root input way body u) → Came root input way body before → Came root input way body t

-- a row
abbrev pub row_of : Labels → List Labels → Row
row_of v flow = record { variant = v; flow = flow }

-- what a visit that adds a row has to give
pub record AddsRow (net : Outline) (v : Labels) (before t : Table) (flow : List Labels) : Type 0 where
  pub rows : rows_of t ≡ rows_of before ++ row_of v flow ∷ []
  pub is : Holds net before → IsFlow net v flow
  pub inner : Holds net before → Inner net t v
  pub keeps : (u : Labels) → Inner net before u → Inner net t u
  pub holds : Holds net before → InnerHolds net t
  pub came : (root : Outline) (input : List Labels) (way : List Turn) → Holds net before → IsReached root input way net v → Came root input way net before → InnerCame root input way net t

-- what the form of a network makes of the tables of its parts, and what flows out for the variant
abbrev pub FormVisited : Outline → Labels → List Table → Result (List Table × List Labels) Stop → Type 0
FormVisited net v parts (Ok done) = (before t : Table) → parts_of before ≡ parts → parts_of t ≡ done.0 → rows_of t ≡ rows_of before ++ row_of v done.1 ∷ [] → AddsRow net v before t done.1
FormVisited net v parts (Err TooMany) = (before : Table) → parts_of before ≡ parts → Refuted net v before
FormVisited net v parts (Err Memory) = Unit {0}

-- the table after visits with all variants of a list, and what flows out for these
abbrev pub AllVisited : Outline → List Labels → Table → Result (Table × List Labels) Stop → Type 0
AllVisited net vs before (Ok done) = VisitsAll net vs before done.0 × AreDistinct done.1 × (length done.1 ≤ most_variants) × (Holds net before → AreFlows net vs done.1)
AllVisited net vs before (Err TooMany) = RefutedAll net vs before
AllVisited net vs before (Err Memory) = Unit {0}

-- the flow that stands in the first row of the variant
abbrev pub flow_in : List Row → Labels → List Labels
flow_in [] v = []
flow_in (row ∷ rows) v = if is_same row.variant v then row.flow else flow_in rows v

-- the tables of the parts but for the i-th
abbrev pub SameElsewhere : ℕ → List Table → List Table → Type 0
SameElsewhere i before parts = (j : ℕ) → (j ≡ i → ⊥) → part_at parts j ≡ part_at before j

-- the rows with one of the variant behind them
abbrev pub RowAdded : List Row → Labels → List Labels → List Row → Result (Unit {0}) Stop → Type 0
RowAdded before v flow rows (Ok done) = rows ≡ before ++ row_of v flow ∷ []
RowAdded before v flow rows (Err TooMany) = ⊥
RowAdded before v flow rows (Err Memory) = Unit {0}

-- the i-th of the parts was put back after a visit, and its flow for the variant was read
abbrev pub PutBack : List Table → ℕ → Table → Labels → Result (Unit {0}) Stop → List Table → Result (List Labels) Stop → Type 0
PutBack before i part v visited parts (Ok flow) = (visited ≡ Ok tt) × (part_at parts i ≡ part) × SameElsewhere i before parts × (flow ≡ flow_in (rows_of part) v)
PutBack before i part v visited parts (Err TooMany) = visited ≡ Err TooMany
PutBack before i part v visited parts (Err Memory) = Unit {0}

-- a visit of the i-th of some parts with the variant, and what is read of its flow
abbrev pub PartVisited : Outline → ℕ → Labels → List Table → List Table → Result (List Labels) Stop → Type 0
PartVisited net i v before parts (Ok flow) = Visits net v (part_at before i) (part_at parts i) × SameElsewhere i before parts × (flow ≡ flow_in (rows_of (part_at parts i)) v)
PartVisited net i v before parts (Err TooMany) = Refuted net v (part_at before i)
PartVisited net i v before parts (Err Memory) = Unit {0}

-- the same with all variants of a list
abbrev pub PartVisitedAll : Outline → ℕ → List Labels → List Table → List Table → Result (List Labels) Stop → Type 0
PartVisitedAll net i vs before parts (Ok flow) = AllVisited net vs (part_at before i) (Ok (part_at parts i, flow)) × SameElsewhere i before parts
PartVisitedAll net i vs before parts (Err stop) = AllVisited net vs (part_at before i) (Err stop)

-- what a component that takes some variants, names some labels and has some outputs answers to a variant
abbrev pub ComponentFlows : List Labels → Labels → List Labels → Labels → Result (List Labels) Stop → Type 0
ComponentFlows takes named outputs v (Ok flow) = (place : ℕ) → IsFlow (Component place takes named outputs) v flow
ComponentFlows takes named outputs v (Err TooMany) = (place : ℕ) → AreFew (Flows (Component place takes named outputs) v) → ⊥
ComponentFlows takes named outputs v (Err Memory) = Unit {0}

-- the same of any part
abbrev pub FlowGiven : Outline → Labels → Result (List Labels) Stop → Type 0
FlowGiven net v (Ok flow) = IsFlow net v flow
FlowGiven net v (Err TooMany) = AreFew (Flows net v) → ⊥
FlowGiven net v (Err Memory) = Unit {0}

-- the table of a star's body after its set was closed, and that set
abbrev pub Closed : Labels → Bool → Outline → Labels → Table → Result (Table × List Labels) Stop → Type 0
Closed exit guarded body v before (Ok done) = Closes exit guarded body v before done.0 done.1
Closed exit guarded body v before (Err TooMany) = (whole : Table) → child whole 0 ≡ before → Refuted (Star exit guarded body) v whole
Closed exit guarded body v before (Err Memory) = Unit {0}

-- a visit with the i-th member of a star's set that is being closed
abbrev pub Turned : Labels → Bool → Outline → Labels → Table → ℕ → List Table → List Labels → List Table → List Labels → Result (Unit {0}) Stop → Type 0
Turned exit guarded body v before i parts members parts' members' (Ok done) =
    Closing exit guarded body v before (part_at parts 0) members i → Closing exit guarded body v before (part_at parts' 0) members' (i + 1)
Turned exit guarded body v before i parts members parts' members' (Err stop) =
    Closing exit guarded body v before (part_at parts 0) members i → Closed exit guarded body v before (Err stop)

-- the members with the binding tags of the exit, with it, each once
abbrev pub WithExit : List Labels → Labels → Result (List Labels) Stop → Type 0
WithExit members exit (Ok flow) = Adds [] (with_exit members exit) flow
WithExit members exit (Err TooMany) = Overflows [] (with_exit members exit)
WithExit members exit (Err Memory) = Unit {0}

-- The branches of a choice before the i-th were visited with what is sent to them, and what flows out was put together.
pub record Going (branch : ℕ → Outline) (sent : ℕ → List Labels) (before parts : List Table) (flow : List Labels) : Type 0 where
  pub visits : (j : ℕ) → VisitsAll (branch j) (sent j) (part_at before j) (part_at parts j)
  pub distinct : AreDistinct flow
  pub few : length flow ≤ most_variants
  pub flows : ((j : ℕ) → Holds (branch j) (part_at before j)) → (u : Labels) → Contains flow u ↔ ((j : ℕ) × FlowsFrom (branch j) (sent j) u)
