-- What a run with workers writes of itself, and what comes of a text that is read as its trace.
use Rattle.std.specs.Prelude.{◌≡◌, ◌≤◌, ℕ, List, length, map, None, Option, IfSome}
use Rattle.sn_record.specs.Record.{Entries}
use Rattle.sn_net.specs.declared.net.Net.{Net}
use Rattle.sn_net.specs.Item.{ModelItem, Rec}
use Rattle.sn_model.specs.Meaning.{Setting}
use Rattle.sn_model.specs.Run.{boxes_of, depth_of, fuel_of, input_of, net_of}
use Rattle.sn_model.specs.declared.run.Run.{Run}
use Rattle.sn_view.specs.Next.{start_view}
use Rattle.sn_view.specs.View.{View}
use Rattle.sn_trace_lines.specs.Lines.{AreLines, texts_of}
use Rattle.sn_trace_lines.specs.declared.line.Line.{Line}
use Rattle.sn_event_lines.specs.Naming.{Leads}
use Rattle.sn_replay.specs.Replays.{IsVerdict, Replays, Verdict, BadLine, NotEnabled, Unfinished}
use Rattle.sn_output.specs.Printed.{ending}
use Rattle.sn_stop.specs.declared.refusal.TraceRefusal.{TraceRefusal}
use Rattle.sn_stop.specs.declared.refusal.TraceRefusal.TheVariants as refusal
use Rattle.sn_plain.specs.Runs.{IsOfStream, Manner, Printout}
use Rattle.sn_plain.specs.declared.replaying.TheConstants.{TRACE_LIMIT}

-- a run of a network over records; no event looks at how many entries a queue of it holds
pub record IsRunOver (s : Setting) (net : Net) (records : List Entries) (run : Run) : Type 0 where
  pub boxes_are : boxes_of run ≡ s.boxes
  pub fuel_is : fuel_of run ≡ s.fuel
  pub depth_is : depth_of run ≡ s.depth
  pub net_is : net_of run ≡ net
  pub input_is : input_of run ≡ map Rec records

-- of some such run this holds
abbrev pub OfRun : Setting → Net → List Entries → (Run → Type 0) → Type 0
OfRun s net records P = (run : Run) × IsRunOver s net records run × P run

-- The text is a trace of the run, which ends as the items do that come out by it.
pub record IsTrace (p : Printout) (run : Run) : Type 0 where
  pub items : List ModelItem
  pub replays : Replays run p.bytes items
  pub ending_is : p.ending ≡ ending items
  pub unrefused : p.refused ≡ None

-- the text is that of the lines of events that may happen one after another from the start
pub record IsTraceBegun (p : Printout) (run : Run) : Type 0 where
  pub lines : List Line
  pub are_lines : AreLines lines
  pub last : View
  pub leads : Leads (start_view run) lines last
  pub bytes_are : p.bytes ≡ texts_of lines

-- what a run that is traced prints: the text of a trace of it, and no name is in it
abbrev pub Traced : Manner
Traced s net records names p = OfRun s net records (IsTrace p)

-- and what it prints where it is cut off begins such a text
abbrev pub BegunTrace : Manner
BegunTrace s net records names p = OfRun s net records (IsTraceBegun p)

-- by the text items come out, and these are printed
pub record IsPlayed (text : List ℕ) (names : List (List ℕ)) (p : Printout) (run : Run) : Type 0 where
  pub items : List ModelItem
  pub replays : Replays run text items
  pub shown : IsOfStream names items p

abbrev pub Played : List ℕ → Manner
Played text s net records names p = OfRun s net records (IsPlayed text names p)

-- why a text is no trace
abbrev pub verdict_of : TraceRefusal → Verdict
verdict_of (refusal.BadLine n) = BadLine n
verdict_of (refusal.NotEnabled n) = NotEnabled n
verdict_of refusal.Unfinished = Unfinished

abbrev pub IsNoTrace : TraceRefusal → List ℕ → Setting → Net → List Entries → Type 0
IsNoTrace fault text s net records = OfRun s net records (λ run. IsVerdict run text (verdict_of fault))

-- the same of a text that is within the limit, where it is told
abbrev pub PlayedFrom : Option (List ℕ) → Manner
PlayedFrom trace s net records names p = IfSome trace (λ text. (length text ≤ TRACE_LIMIT) × Played text s net records names p)

abbrev pub IsRefusedTrace : TraceRefusal → Option (List ℕ) → Setting → Net → List Entries → Type 0
IsRefusedTrace fault trace s net records = IfSome trace (λ text. (length text ≤ TRACE_LIMIT) × IsNoTrace fault text s net records)
