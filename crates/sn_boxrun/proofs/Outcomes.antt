-- What follows on outcomes, and what a machine's frames and units come to.
use Rattle.std.proofs.Common.{◌≡◌, ℕ, zero, suc, ◌-◌, List, arith, refl}
use Rattle.sn_record.specs.declared.value.Value.{Value}
use Rattle.sn_record.specs.Record.{Entries}
use Rattle.sn_net.specs.declared.expr.BoxProgram.{BoxProgram}
use Rattle.sn_net.specs.declared.expr.Expr.{Expr}
use Rattle.sn_net.specs.declared.expr.Expr.TheViews.{out-Expr}
use Rattle.sn_net.specs.BoxEvaluation.{evaluated, node}
use Rattle.sn_net.proofs.Evaluation.{evaluated-node}

-- with a unit of fuel, a node is evaluated with what is left
pub begun : (program : BoxProgram) (e : Expr) (variables : List Value) (emitted : List Entries) (fuel : ℕ) → (fuel ≡ 0 → ⊥)
    → evaluated program e variables (record { fuel = fuel; emitted = emitted })
    ≡ node program (evaluated program) (out-Expr e) variables (record { fuel = fuel - 1; emitted = emitted })
begun program e variables emitted zero some = absurd (some refl)
begun program e variables emitted (suc fuel) some =
    let less : suc fuel - 1 ≡ fuel = omega arith in rw less (evaluated-node program e variables (suc fuel) emitted)
