use Rattle.std.proofs.Common.{◌≡◌, sym, ◌∙◌}
use Rattle.std.proofs.lemmas.Result.{IfOk-weaker}
use Rattle.sn_net.specs.Cell.{CellState, new_cell}
use Rattle.sn_pass.specs.Keeping.{state_or}
use Rattle.sn_pass.specs.States.{held}
use Rattle.sn_pass.proofs.States.{no_cell}
use Rattle.sn_pass.proofs.kept.into_holding.Goals as goal

pub returns-in_default : goal.returns-in_default
returns-in_default c =
    IfOk-weaker c.new.result (λ (holding : CellState). holding ≡ new_cell c.args.patterns.now) (λ (holding : CellState). holding ≡ state_or (new_cell c.args.patterns.now) (held c.args.kept))
    (λ holding is. is ∙ sym (no_cell (new_cell c.args.patterns.now) c.args.kept c.in_default.not-Cell)) c.new.ensures
