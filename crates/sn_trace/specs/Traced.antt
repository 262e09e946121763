-- What turns wrote of themselves.
use Rattle.std.specs.Prelude.{◌≡◌, ◌≤◌, ℕ, List, [], ◌∷◌, ◌++◌, Option, map}
use Rattle.sn_record.specs.Record.{Entries}
use Rattle.sn_record.specs.declared.item.Fault.{Fault as FaultAt}
use Rattle.sn_net.specs.Item.{ModelItem, Rec, Fault}
use Rattle.sn_io.specs.Causes.{Rose}
use Rattle.sn_io.specs.Told.{appended}
use Rattle.sn_view.specs.View.{View}
use Rattle.sn_trace_lines.specs.Lines.{AreLines, texts_of}
use Rattle.sn_trace_lines.specs.declared.line.Line.{Line}
use Rattle.sn_event_lines.specs.Naming.{Leads}
use Rattle.sn_turns.specs.Over.{IsOver}
use Rattle.sn_turns.specs.declared.turn.Turn.{Turn}
use Rattle.sn_turns.specs.declared.turn.Turn.TheVariants.{Went, Idle, Ended}
use Rattle.sn_model.specs.declared.outcome.Outcome.{Outcome}
use Rattle.sn_model.specs.declared.outcome.Outcome.TheVariants.{Whole, Faulted, WriteFault, Memory}

-- nothing but records came out
abbrev pub AreRecords : List ModelItem → Type 0
AreRecords items = (records : List Entries) × (items ≡ map Rec records)

-- what a sink holds, the lines that are kept for it, and its count of faults
pub record Held : Type 0 where
  pub bytes : Option (List ℕ)
  pub kept : List ℕ
  pub faults : ℕ

-- Of what was kept and then of a text a first piece went to the sink, the next is kept, and the rest is neither written nor kept.
pub record Carries (before now : Held) (text rest : List ℕ) : Type 0 where
  pub piece : List ℕ
  pub held : now.bytes ≡ appended before.bytes piece
  pub whole : piece ++ (now.kept ++ rest) ≡ before.kept ++ text

module _ (old : View) (before : Held) (new : View) (now : Held) where
  -- lines lead there, and each was written or is kept
  pub record Writes : Type 0 where
    pub lines : List Line
    pub are_lines : AreLines lines
    pub leads : Leads old lines new
    pub records : AreRecords new.out
    pub carries : Carries before now (texts_of lines) []

  -- by the last of them this fault came out
  pub record WritesUpTo (fault : FaultAt) : Type 0 where
    pub lines : List Line
    pub are_lines : AreLines lines
    pub leads : Leads old lines new
    pub records : List Entries
    pub out : new.out ≡ map Rec records ++ Fault fault ∷ []
    pub carries : Carries before now (texts_of lines) []

  -- of them some first bytes were written or are kept
  pub record WritesPart : Type 0 where
    pub lines : List Line
    pub are_lines : AreLines lines
    pub leads : Leads old lines new
    pub rest : List ℕ
    pub carries : Carries before now (texts_of lines) rest

  abbrev pub EndsAs : Outcome → Type 0
  EndsAs Whole = IsOver new × Writes
  EndsAs (Faulted fault) = WritesUpTo fault
  EndsAs WriteFault = Rose before.faults now.faults × WritesPart
  EndsAs Memory = WritesPart

  abbrev pub TurnsAs : Turn → Type 0
  TurnsAs Went = Writes
  TurnsAs Idle = Writes
  TurnsAs (Ended outcome) = EndsAs outcome

  -- what comes of turns, where no fault had come out before
  pub record Goes (turn : Turn) : Type 0 where
    pub later : before.faults ≤ now.faults
    pub turns : AreRecords old.out → TurnsAs turn
