-- What comes of the owner's turns, for the graph and for the sink.
use Rattle.std.specs.Prelude.{◌≡◌, ◌⊎◌, ◌≤◌, ℕ, List, [], ◌∷◌, ◌++◌, Option, map}
use Rattle.sn_record.specs.Record.{Entries}
use Rattle.sn_record.specs.declared.item.Fault.{Fault as FaultAt}
use Rattle.sn_net.specs.Item.{ModelItem, Rec, Fault}
use Rattle.sn_io.specs.Causes.{Rose}
use Rattle.sn_io.specs.Told.{AppendsPrefix, appended}
use Rattle.sn_output.specs.Printed.{printed}
use Rattle.sn_view.specs.Coming.{MayCome}
use Rattle.sn_view.specs.Placed.{AtRest}
use Rattle.sn_view.specs.View.{View}
use Rattle.sn_turns.specs.Over.{IsOver}
use Rattle.sn_turns.specs.declared.turn.Turn.{Turn}
use Rattle.sn_turns.specs.declared.turn.Turn.TheVariants.{Went, Idle, Ended}
use Rattle.sn_model.specs.declared.outcome.Outcome.{Outcome}
use Rattle.sn_model.specs.declared.outcome.Outcome.TheVariants.{Whole, Faulted, WriteFault, Memory}

-- a graph, what a sink holds, and the sink's count of faults
pub record Shown : Type 0 where
  pub graph : View
  pub held : Option (List ℕ)
  pub faults : ℕ

abbrev pub shows : View → Option (List ℕ) → ℕ → Shown
shows graph held faults = record { graph = graph; held = held; faults = faults }

-- these items came out, and what can still come could come before
pub record Emits (items : List ModelItem) (old new : View) : Type 0 where
  pub out : new.out ≡ old.out ++ items
  pub before : (ys : List ModelItem) → MayCome new ys → MayCome old ys

module _ (names : List (List ℕ)) (old new : Shown) where
  -- records came out, and the line of each was written
  pub record Writes : Type 0 where
    pub records : List Entries
    pub out : new.graph.out ≡ old.graph.out ++ map Rec records
    pub held : new.held ≡ appended old.held (printed names (map Rec records))

  -- behind them this fault came out
  pub record WritesUpTo (fault : FaultAt) : Type 0 where
    pub records : List Entries
    pub out : new.graph.out ≡ old.graph.out ++ (map Rec records ++ Fault fault ∷ [])
    pub held : new.held ≡ appended old.held (printed names (map Rec records))

  -- records came out, of whose lines some first bytes were written
  pub record WritesPart : Type 0 where
    pub records : List Entries
    pub out : new.graph.out ≡ old.graph.out ++ map Rec records
    pub held : AppendsPrefix old.held new.held (printed names (map Rec records))

  -- the line of the last record that came out was not begun
  pub record LacksLast : Type 0 where
    pub records : List Entries
    pub last : Entries
    pub out : new.graph.out ≡ old.graph.out ++ map Rec (records ++ last ∷ [])
    pub held : new.held ≡ appended old.held (printed names (map Rec records))

  -- the graph is not at rest yet, or not all that came out was written
  abbrev pub IsEarly : Type 0
  IsEarly = (AtRest new.graph → ⊥) ⊎ LacksLast

  abbrev pub EndsAs : Outcome → Type 0
  EndsAs Whole = IsOver new.graph × Writes
  EndsAs (Faulted fault) = WritesUpTo fault
  EndsAs WriteFault = Rose old.faults new.faults × WritesPart
  EndsAs Memory = IsEarly × WritesPart

  abbrev pub TurnsAs : Turn → Type 0
  TurnsAs Went = Writes
  TurnsAs Idle = Writes
  TurnsAs (Ended outcome) = EndsAs outcome

  -- What comes of turns: what can still come could come before, and what came out was written as far as the last of them tells.
  pub record Goes (turn : Turn) : Type 0 where
    pub before : (ys : List ModelItem) → MayCome new.graph ys → MayCome old.graph ys
    pub later : old.faults ≤ new.faults
    pub turns : TurnsAs turn
