-- What comes of turns for who prints the records that come out.
use Rattle.std.proofs.Common.{◌≡◌, ℕ, List, refl, ◌∙◌}
use Rattle.std.specs.Prelude.{Option}
use Rattle.sn_view.specs.Placed.{AtRest}
use Rattle.sn_view.specs.View.{View}
use Rattle.sn_turns.specs.Over.{IsOver}
use Rattle.sn_turns.specs.declared.turn.Turn.{Turn}
use Rattle.sn_turns.specs.declared.turn.Turn.TheVariants.{Went, Idle, Ended}
use Rattle.sn_model.specs.declared.outcome.Outcome.TheVariants.{Whole, Memory}
use Rattle.sn_printing.specs.Turns.{Goes, Shown, shows}
use Rattle.sn_printing.specs.Turning as turning
use Rattle.sn_printing.specs.declared.printer.Printer.{Printer}

module _ {S : Type 0} (held : S → Option (List ℕ)) (faults : S → ℕ) where
  -- a graph, and what the printer's sink holds
  abbrev pub beside : View → Printer S → Shown
  beside g w = shows g (held w.lines.sink.now) (faults w.lines.sink.now)

  pub record Watched (g : View) (w : Printer S) (h : View) (v : Printer S) (turn : Turn) : Type 0 where
    pub turns : Goes w.lines.names.now (beside g w) (beside h v) turn
    pub names : v.lines.names.now ≡ w.lines.names.now
    pub same_sink : v.lines.sink.ghost_name ≡ w.lines.sink.ghost_name

  pub stays : (g : View) (w : Printer S) → Watched g w g w Went
  stays g w = record { turns = turning.stays w.lines.names.now g _ _; names = refl; same_sink = refl }

  pub waits : (g : View) (w : Printer S) → Watched g w g w Idle
  waits g w = record { turns = turning.waits w.lines.names.now g _ _; names = refl; same_sink = refl }

  pub gives_up : (g : View) (w : Printer S) → (AtRest g → ⊥) → Watched g w g w (Ended Memory)
  gives_up g w unrested = record { turns = turning.gives_up w.lines.names.now g _ _ unrested; names = refl; same_sink = refl }

  pub rests : (g : View) (w : Printer S) → IsOver g → Watched g w g w (Ended Whole)
  rests g w over = record { turns = turning.rests w.lines.names.now g _ _ over; names = refl; same_sink = refl }

  pub idled : (g h : View) (w v : Printer S) → Watched g w h v Idle → Watched g w h v Went
  idled g h w v idle = record { turns = turning.idled w.lines.names.now (beside g w) (beside h v) idle.turns; names = idle.names; same_sink = idle.same_sink }

  pub then : (g h i : View) (w v u : Printer S) (turn : Turn) → Watched g w h v Went → Watched h v i u turn → Watched g w i u turn
  then g h i w v u turn first second = record {
    turns = turning.goes_on w.lines.names.now v.lines.names.now (beside g w) (beside h v) (beside i u) turn first.names first.turns second.turns;
    names = second.names ∙ first.names;
    same_sink = second.same_sink ∙ first.same_sink;
  }
