-- What a run that was traced printed.
use Rattle.std.proofs.Common.{ℕ, List, refl, sym}
use Rattle.std.specs.Prelude.{Option, None}
use Rattle.sn_record.specs.Record.{Entries}
use Rattle.sn_record.specs.declared.item.Fault.{Fault}
use Rattle.sn_net.specs.declared.net.Net.{Net}
use Rattle.sn_model.specs.Meaning.{Setting}
use Rattle.sn_model.specs.declared.run.Run.{Run}
use Rattle.sn_trace_lines.specs.Lines.{texts_of}
use Rattle.sn_trace.specs.Written.{HasTrace, HasTracePart}
use Rattle.sn_plain.specs.Runs.{HasBegun, HasPrinted, ended}
use Rattle.sn_plain.specs.Seen.{Sink}
use Rattle.sn_plain.specs.Traces.{BegunTrace, IsRunOver, Traced}

module _ (s : Setting) (net : Net) (records : List Entries) (names : List (List ℕ)) (out : Sink) (run : Run) (over : IsRunOver s net records run) where
  pub trace_printed : (end : Option Fault) → HasTrace run out.before out.now end → HasPrinted (Traced s net records names) out end
  trace_printed end has = (has.text, (run, over, record { items = has.items; replays = has.replays; ending_is = sym has.ends; unrefused = refl }), has.all)

  pub trace_begun : HasTracePart run out.before out.now → HasBegun (BegunTrace s net records names) out
  trace_begun has =
      ∣ (
        ended (texts_of has.lines) None,
        (run, over, record { lines = has.lines; are_lines = has.are_lines; last = has.last; leads = has.leads; bytes_are = refl }),
        has.part,
      ) ∣₁
