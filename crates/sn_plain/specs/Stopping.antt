-- Why the replay of a trace stops.
use Rattle.std.specs.Prelude.{◌≡◌, ℕ, List}
use Rattle.sn_record.specs.Record.{Entries}
use Rattle.sn_net.specs.declared.net.Net.{Net}
use Rattle.sn_model.specs.Meaning.{Setting}
use Rattle.sn_replay.specs.declared.playing.TraceFault.{TraceFault}
use Rattle.sn_replay.specs.declared.playing.TraceFault.TheVariants as fault
use Rattle.sn_stop.specs.declared.refusal.Refusal.{Refusal}
use Rattle.sn_stop.specs.declared.refusal.Refusal.TheVariants.{Trace as TraceAt}
use Rattle.sn_stop.specs.declared.refusal.TraceRefusal.TheVariants as refusal
use Rattle.sn_stop.specs.declared.stop.Stop.{Stop}
use Rattle.sn_stop.specs.declared.stop.Stop.TheVariants as stop
use Rattle.sn_plain.specs.Runs.{GotPart, HasFailed}
use Rattle.sn_plain.specs.Seen.{Sink}
use Rattle.sn_plain.specs.Traces.{IsNoTrace, Played}

abbrev pub trace_stop : TraceFault → Stop
trace_stop (fault.BadLine n) = stop.Refused (TraceAt (refusal.BadLine n))
trace_stop (fault.NotEnabled n) = stop.Refused (TraceAt (refusal.NotEnabled n))
trace_stop fault.Unfinished = stop.Refused (TraceAt refusal.Unfinished)
trace_stop fault.Memory = stop.Memory

-- a replay refuses nothing but the text
abbrev pub IsRefusedBy : (text : List ℕ) (s : Setting) (net : Net) (records : List Entries) → Refusal → Type 0
IsRefusedBy text s net records (TraceAt wrong) = IsNoTrace wrong text s net records
IsRefusedBy text s net records other = ⊥

abbrev pub WhyUnplayable : List ℕ → Setting → Net → List Entries → List (List ℕ) → Sink → Stop → Type 0
WhyUnplayable text s net records names out (stop.Refused why) = IsRefusedBy text s net records why × (out.now ≡ out.before)
WhyUnplayable text s net records names out (stop.Faulted end) = ⊥
WhyUnplayable text s net records names out (stop.Unread which) = ⊥
WhyUnplayable text s net records names out stop.Memory = GotPart (Played text s net records names) out
WhyUnplayable text s net records names out stop.Write = HasFailed (Played text s net records names) out
