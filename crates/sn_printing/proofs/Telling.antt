-- What comes of an event that the printer is told of.
use Rattle.std.proofs.Common.{◌≡◌, ◌++◌, ap, ◌∙◌}
use Rattle.sn_view.specs.View.{View}
use Rattle.sn_graph.specs.declared.event.Effect.{Effect}
use Rattle.sn_trace_lines.specs.declared.line.Line.{Line}
use Rattle.sn_event_lines.specs.Told.{Came, came_out}
use Rattle.sn_printing.specs.Turns.{Emits}

module _ (line : Line) (old new : View) where
  -- these items came out by the event
  pub emitted : (x y : Effect) → x ≡ y → Came line (came_out x) old new → Emits (came_out y) old new
  emitted x y is came = record { out = came.out ∙ ap (λ z. old.out ++ came_out z) is; before = came.before }
