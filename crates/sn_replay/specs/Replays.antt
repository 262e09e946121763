-- Texts that are traces of a run, and why others are not.
use Rattle.std.specs.Prelude.{◌≡◌, ◌≢◌, ◌⊎◌, ℕ, ◌+◌, true, false, List, [], length}
use Rattle.sn_net.specs.Item.{ModelItem}
use Rattle.sn_model.specs.declared.run.Run.{Run}
use Rattle.sn_view.specs.View.{View, Happening}
use Rattle.sn_view.specs.Next.{IsEnabled, start_view}
use Rattle.sn_view.specs.Placed.{AtRest}
use Rattle.sn_trace_lines.specs.Lines.{BeginsWith, BeginsWithAll, BeginsWithNone}
use Rattle.sn_trace_lines.specs.declared.line.Line.{Line}
use Rattle.sn_event_lines.specs.Naming.{Leads, Names, has_fault}

module _ (run : Run) (text : List ℕ) where
  -- these lines are in front of the text, and lead from the start of the run to a graph; this follows them
  pub record Accepts (lines : List Line) (rest : List ℕ) (last : View) : Type 0 where
    pub front : BeginsWithAll lines rest text
    pub leads : Leads (start_view run) lines last

  -- THE TEXT IS A TRACE OF THE RUN, BY WHICH THESE ITEMS COME OUT: its lines lead from the start of the run to rest, or to the first fault.
  pub record Replays (ys : List ModelItem) : Type 0 where
    pub lines : List Line
    pub last : View
    pub accepts : Accepts lines [] last
    pub ends : AtRest last ⊎ (has_fault last ≡ true)
    pub out : ys ≡ last.out

  -- The first line that is refused has this number, counted from 1. It is no line of a trace, or stands behind the fault.
  pub record HasBadLine (n : ℕ) : Type 0 where
    pub lines : List Line
    pub last : View
    pub rest : List ℕ
    pub accepts : Accepts lines rest last
    pub number : n ≡ length lines + 1
    pub more : rest ≢ []
    pub bad : (has_fault last ≡ true) ⊎ BeginsWithNone rest

  -- The first line that is refused has this number. It is a line of a trace, and names no event that may happen.
  pub record HasIdleLine (n : ℕ) : Type 0 where
    pub lines : List Line
    pub last : View
    pub rest : List ℕ
    pub accepts : Accepts lines rest last
    pub number : n ≡ length lines + 1
    pub line : Line
    pub after : List ℕ
    pub is : BeginsWith line after rest
    pub sound : has_fault last ≡ false
    pub idle : (e : Happening) → Names line e → IsEnabled last e → ⊥

  -- No line is refused, no fault came out, and the graph is not at rest.
  pub record IsUnfinished : Type 0 where
    pub lines : List Line
    pub last : View
    pub accepts : Accepts lines [] last
    pub sound : has_fault last ≡ false
    pub busy : AtRest last → ⊥

-- what may be said of a text
pub data Verdict : Type 0 where
  Replayed : List ModelItem → Verdict
  BadLine : ℕ → Verdict
  NotEnabled : ℕ → Verdict
  Unfinished : Verdict

abbrev pub IsVerdict : Run → List ℕ → Verdict → Type 0
IsVerdict run text (Replayed ys) = Replays run text ys
IsVerdict run text (BadLine n) = HasBadLine run text n
IsVerdict run text (NotEnabled n) = HasIdleLine run text n
IsVerdict run text Unfinished = IsUnfinished run text
