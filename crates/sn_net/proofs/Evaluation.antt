-- Each node takes a unit of fuel before its parts, so as many levels as there is fuel are enough, and an evaluation is that of
-- one node over the evaluations of its parts.
use Rattle.std.proofs.Common.{◌≡◌, ℕ, zero, suc, ◌≤◌, Bool, true, false, not, if◌then◌else◌, List, [], ◌∷◌, ◌++◌, slice_get, Option, Some, None, Result, Ok, Err, arith, refl, sym, ap, ◌∙◌}
use Rattle.sn_record.specs.declared.item.FaultKind.{FaultKind}
use Rattle.sn_record.specs.declared.value.Value.{Value}
use Rattle.sn_record.specs.Record.{Entries}
use Rattle.sn_net.specs.declared.expr.BoxProgram.{BoxProgram}
use Rattle.sn_net.specs.declared.expr.Fun.{Fun}
use Rattle.sn_net.specs.declared.expr.Expr.{Expr}
use Rattle.sn_net.specs.declared.expr.Expr.TheOpen.{Expr-F}
use Rattle.sn_net.specs.declared.expr.Expr.TheViews.{out-Expr}
use Rattle.sn_net.specs.BoxValues.{condition, combined, truth_of, negative, opposite}
use Rattle.sn_net.specs.BoxEvaluation.{Progress, Outcome, Outcome.{Gives, Faults}, Evaluator, followed, ended, all_values, last_value, unless_decided, called, with_emitted, node, with_unit, evaluation, evaluated}

-- no more fuel than so much is left
abbrev Within : {A : Type 0} → ℕ → Outcome A → Type 0
Within most (Gives x progress) = progress.fuel ≤ most
Within most (Faults fault emitted) = Unit {0}

-- an evaluator takes fuel and gives none
abbrev Spends : Evaluator → Type 0
Spends evaluate = (e : Expr) (variables : List Value) (progress : Progress) → Within progress.fuel (evaluate e variables progress)

-- two evaluators agree where there is no more fuel than so much
abbrev Agrees : ℕ → Evaluator → Evaluator → Type 0
Agrees most evaluate other = (e : Expr) (variables : List Value) (progress : Progress) → progress.fuel ≤ most → evaluate e variables progress ≡ other e variables progress

within_more : {A : Type 0} (outcome : Outcome A) (fuel most : ℕ) → fuel ≤ most → Within fuel outcome → Within most outcome
within_more (Gives x progress) fuel most le within = omega arith
within_more (Faults fault emitted) fuel most le within = tt

-- what follows takes fuel too
followed_within : {A B : Type 0} (outcome : Outcome A) (next : A → Progress → Outcome B) (most : ℕ) → Within most outcome
    → ((x : A) (progress : Progress) → Within progress.fuel (next x progress)) → Within most (followed outcome next)
followed_within (Gives x progress) next most within more = within_more (next x progress) progress.fuel most within (more x progress)
followed_within (Faults fault emitted) next most within more = tt

ended_within : {A : Type 0} (given : Result A FaultKind) (progress : Progress) → Within progress.fuel (ended given progress)
ended_within (Ok x) progress = omega arith
ended_within (Err fault) progress = tt

-- what follows is the same where it agrees
followed_agrees : {A B : Type 0} (outcome : Outcome A) (next other : A → Progress → Outcome B) (most : ℕ) → Within most outcome
    → ((x : A) (progress : Progress) → progress.fuel ≤ most → next x progress ≡ other x progress) → followed outcome next ≡ followed outcome other
followed_agrees (Gives x progress) next other most within same = same x progress within
followed_agrees (Faults fault emitted) next other most within same = refl

module _ (evaluate : Evaluator) (spends : Spends evaluate) where
  all_values_within : (parts : List Expr) (variables values : List Value) (progress : Progress) → Within progress.fuel (all_values evaluate parts variables values progress)
  all_values_within [] variables values progress = omega arith
  all_values_within (part ∷ parts) variables values progress =
      followed_within (evaluate part variables progress) _ progress.fuel (spends part variables progress) (λ v. all_values_within parts variables (values ++ v ∷ []))

  last_value_within : (parts : List Expr) (variables : List Value) (value : Value) (progress : Progress) → Within progress.fuel (last_value evaluate parts variables value progress)
  last_value_within [] variables value progress = omega arith
  last_value_within (part ∷ parts) variables value progress =
      followed_within (evaluate part variables progress) _ progress.fuel (spends part variables progress) (last_value_within parts variables)

  -- one part, and then what takes no fuel
  one_within : (e : Expr) (variables : List Value) (next : Value → Result Value FaultKind) (progress : Progress)
      → Within progress.fuel (followed (evaluate e variables progress) (λ v. ended (next v)))
  one_within e variables next progress = followed_within (evaluate e variables progress) _ progress.fuel (spends e variables progress) (λ v. ended_within (next v))

  unless_decided_within : (decided : Bool) (part : Expr) (variables : List Value) (value : Bool) (progress : Progress)
      → Within progress.fuel (unless_decided evaluate decided part variables value progress)
  unless_decided_within true part variables value progress = omega arith
  unless_decided_within false part variables value progress = one_within part variables truth_of progress

  called_within : (function : Option Fun) (arguments : List Value) (progress : Progress) → Within progress.fuel (called evaluate function arguments progress)
  called_within None arguments progress = tt
  called_within (Some function) arguments progress = spends function.body arguments progress

  emitted_within : (made : Result Entries FaultKind) (progress : Progress) → Within progress.fuel (with_emitted made progress)
  emitted_within (Ok made) progress = omega arith
  emitted_within (Err fault) progress = tt

  -- the parts, and then what follows on their values
  parts_within : (parts : List Expr) (variables : List Value) (next : List Value → Progress → Outcome Value) → ((values : List Value) (progress : Progress) → Within progress.fuel (next values progress))
      → (progress : Progress) → Within progress.fuel (followed (all_values evaluate parts variables [] progress) next)
  parts_within parts variables next within progress = followed_within (all_values evaluate parts variables [] progress) next progress.fuel (all_values_within parts variables [] progress) within

  -- one node takes no more than its parts
  node_within : (program : BoxProgram) (x : Expr-F Expr) (variables : List Value) (progress : Progress) → Within progress.fuel (node program evaluate x variables progress)
  node_within program (Expr-F.Int n) variables progress = omega arith
  node_within program (Expr-F.TextLit text) variables progress = ended_within _ progress
  node_within program (Expr-F.Var i) variables progress = ended_within _ progress
  node_within program (Expr-F.Neg e) variables progress = one_within e variables negative progress
  node_within program (Expr-F.Not e) variables progress = one_within e variables opposite progress
  node_within program (Expr-F.Op op e f) variables progress =
      followed_within (evaluate e variables progress) _ progress.fuel (spends e variables progress) (λ left. one_within f variables (combined op left))
  node_within program (Expr-F.And e f) variables progress =
      followed_within (evaluate e variables progress) _ progress.fuel (spends e variables progress)
      (λ left now. followed_within (ended (condition left) now) _ now.fuel (ended_within (condition left) now) (λ holds. unless_decided_within (not holds) f variables false))
  node_within program (Expr-F.Or e f) variables progress =
      followed_within (evaluate e variables progress) _ progress.fuel (spends e variables progress)
      (λ left now. followed_within (ended (condition left) now) _ now.fuel (ended_within (condition left) now) (λ holds. unless_decided_within holds f variables true))
  node_within program (Expr-F.If c e f) variables progress =
      followed_within (evaluate c variables progress) _ progress.fuel (spends c variables progress)
      (λ test now. followed_within (ended (condition test) now) _ now.fuel (ended_within (condition test) now) (λ holds. spends (if holds then e else f) variables))
  node_within program (Expr-F.Let bound rest) variables progress =
      followed_within (evaluate bound variables progress) _ progress.fuel (spends bound variables progress) (λ v. spends rest (variables ++ v ∷ []))
  node_within program (Expr-F.Seq parts) variables progress = last_value_within parts variables _ progress
  node_within program (Expr-F.ListLit parts) variables progress = parts_within parts variables _ (λ values. ended_within _) progress
  node_within program (Expr-F.Call number parts) variables progress = parts_within parts variables _ (called_within (slice_get program.funs number)) progress
  node_within program (Expr-F.Builtin function parts) variables progress = parts_within parts variables _ (λ values. ended_within _) progress
  node_within program (Expr-F.Emit number parts) variables progress = parts_within parts variables _ (λ values. emitted_within _) progress

  module _ (other : Evaluator) (most : ℕ) (agrees : Agrees most other evaluate) where
    -- one part on which they agree, and then what agrees
    then_agrees : {B : Type 0} (e : Expr) (variables : List Value) (next further : Value → Progress → Outcome B)
        → ((v : Value) (progress : Progress) → progress.fuel ≤ most → next v progress ≡ further v progress)
        → (progress : Progress) → progress.fuel ≤ most → followed (other e variables progress) next ≡ followed (evaluate e variables progress) further
    then_agrees e variables next further same progress le =
        ap (λ outcome. followed outcome next) (agrees e variables progress le)
        ∙ followed_agrees (evaluate e variables progress) next further most (within_more (evaluate e variables progress) progress.fuel most le (spends e variables progress)) same

    all_values_agrees : (parts : List Expr) (variables values : List Value) (progress : Progress) → progress.fuel ≤ most
        → all_values other parts variables values progress ≡ all_values evaluate parts variables values progress
    all_values_agrees [] variables values progress le = refl
    all_values_agrees (part ∷ parts) variables values progress le = then_agrees part variables _ _ (λ v. all_values_agrees parts variables (values ++ v ∷ [])) progress le

    last_value_agrees : (parts : List Expr) (variables : List Value) (value : Value) (progress : Progress) → progress.fuel ≤ most
        → last_value other parts variables value progress ≡ last_value evaluate parts variables value progress
    last_value_agrees [] variables value progress le = refl
    last_value_agrees (part ∷ parts) variables value progress le = then_agrees part variables _ _ (last_value_agrees parts variables) progress le

    one_agrees : (e : Expr) (variables : List Value) (next : Value → Progress → Outcome Value) (progress : Progress) → progress.fuel ≤ most
        → followed (other e variables progress) next ≡ followed (evaluate e variables progress) next
    one_agrees e variables next progress le = ap (λ outcome. followed outcome next) (agrees e variables progress le)

    unless_decided_agrees : (decided : Bool) (part : Expr) (variables : List Value) (value : Bool) (progress : Progress) → progress.fuel ≤ most
        → unless_decided other decided part variables value progress ≡ unless_decided evaluate decided part variables value progress
    unless_decided_agrees true part variables value progress le = refl
    unless_decided_agrees false part variables value progress le = one_agrees part variables _ progress le

    -- what follows on a condition
    test_agrees : (test : Value) (next further : Bool → Progress → Outcome Value) → ((holds : Bool) (progress : Progress) → progress.fuel ≤ most → next holds progress ≡ further holds progress)
        → (progress : Progress) → progress.fuel ≤ most → followed (ended (condition test) progress) next ≡ followed (ended (condition test) progress) further
    test_agrees test next further same progress le =
        followed_agrees (ended (condition test) progress) next further most (within_more (ended (condition test) progress) progress.fuel most le (ended_within (condition test) progress)) same

    called_agrees : (function : Option Fun) (arguments : List Value) (progress : Progress) → progress.fuel ≤ most
        → called other function arguments progress ≡ called evaluate function arguments progress
    called_agrees None arguments progress le = refl
    called_agrees (Some function) arguments progress le = agrees function.body arguments progress le

    parts_agrees : (parts : List Expr) (variables : List Value) (next further : List Value → Progress → Outcome Value)
        → ((values : List Value) (progress : Progress) → progress.fuel ≤ most → next values progress ≡ further values progress)
        → (progress : Progress) → progress.fuel ≤ most
        → followed (all_values other parts variables [] progress) next ≡ followed (all_values evaluate parts variables [] progress) further
    parts_agrees parts variables next further same progress le =
        ap (λ outcome. followed outcome next) (all_values_agrees parts variables [] progress le)
        ∙ followed_agrees (all_values evaluate parts variables [] progress) next further most
        (within_more (all_values evaluate parts variables [] progress) progress.fuel most le (all_values_within parts variables [] progress)) same

    -- one node is the same where its parts are
    node_agrees : (program : BoxProgram) (x : Expr-F Expr) (variables : List Value) (progress : Progress) → progress.fuel ≤ most
        → node program other x variables progress ≡ node program evaluate x variables progress
    node_agrees program (Expr-F.Int n) variables progress le = refl
    node_agrees program (Expr-F.TextLit text) variables progress le = refl
    node_agrees program (Expr-F.Var i) variables progress le = refl
    node_agrees program (Expr-F.Neg e) variables progress le = one_agrees e variables _ progress le
    node_agrees program (Expr-F.Not e) variables progress le = one_agrees e variables _ progress le
    node_agrees program (Expr-F.Op op e f) variables progress le = then_agrees e variables _ _ (λ left now. one_agrees f variables _ now) progress le
    node_agrees program (Expr-F.And e f) variables progress le =
        then_agrees e variables _ _ (λ left. test_agrees left _ _ (λ holds. unless_decided_agrees (not holds) f variables false)) progress le
    node_agrees program (Expr-F.Or e f) variables progress le =
        then_agrees e variables _ _ (λ left. test_agrees left _ _ (λ holds. unless_decided_agrees holds f variables true)) progress le
    node_agrees program (Expr-F.If c e f) variables progress le =
        then_agrees c variables _ _ (λ test. test_agrees test _ _ (λ holds. agrees (if holds then e else f) variables)) progress le
    node_agrees program (Expr-F.Let bound rest) variables progress le = then_agrees bound variables _ _ (λ v. agrees rest (variables ++ v ∷ [])) progress le
    node_agrees program (Expr-F.Seq parts) variables progress le = last_value_agrees parts variables _ progress le
    node_agrees program (Expr-F.ListLit parts) variables progress le = parts_agrees parts variables _ _ (λ values now less. refl) progress le
    node_agrees program (Expr-F.Call number parts) variables progress le = parts_agrees parts variables _ _ (called_agrees (slice_get program.funs number)) progress le
    node_agrees program (Expr-F.Builtin function parts) variables progress le = parts_agrees parts variables _ _ (λ values now less. refl) progress le
    node_agrees program (Expr-F.Emit number parts) variables progress le = parts_agrees parts variables _ _ (λ values now less. refl) progress le

-- a unit is taken
unit_within : (fuel : ℕ) (emitted : List Entries) (next : Progress → Outcome Value) → ((progress : Progress) → Within progress.fuel (next progress)) → Within fuel (with_unit fuel emitted next)
unit_within zero emitted next within = tt
unit_within (suc fuel) emitted next within = within_more (next (record { fuel = fuel; emitted = emitted })) fuel (suc fuel) (omega arith) (within (record { fuel = fuel; emitted = emitted }))

-- an evaluation takes fuel and gives none
evaluation_spends : (program : BoxProgram) (levels : ℕ) → Spends (evaluation program levels)
evaluation_spends program zero e variables progress = tt
evaluation_spends program (suc levels) e variables progress =
    unit_within progress.fuel progress.emitted _ (node_within (evaluation program levels) (evaluation_spends program levels) program (out-Expr e) variables)

evaluated_spends : (program : BoxProgram) → Spends (evaluated program)
evaluated_spends program e variables progress = evaluation_spends program progress.fuel e variables progress

-- a unit is taken on both sides
unit_agrees : (fuel most : ℕ) (emitted : List Entries) (next other : Progress → Outcome Value) → fuel ≤ suc most
    → ((progress : Progress) → progress.fuel ≤ most → next progress ≡ other progress) → with_unit fuel emitted next ≡ with_unit fuel emitted other
unit_agrees zero most emitted next other le same = refl
unit_agrees (suc fuel) most emitted next other le same = same (record { fuel = fuel; emitted = emitted }) (omega arith)

no_fuel : (fuel : ℕ) (emitted : List Entries) (next : Progress → Outcome Value) → fuel ≤ 0 → with_unit zero emitted next ≡ with_unit fuel emitted next
no_fuel zero emitted next le = refl
no_fuel (suc fuel) emitted next le = absurd (omega arith)

-- more levels than there is fuel change nothing
levels_agree : (program : BoxProgram) (less more : ℕ) → less ≤ more → Agrees less (evaluation program less) (evaluation program more)
levels_agree program zero zero within e variables progress le = refl
levels_agree program zero (suc more) within e variables progress le =
    no_fuel progress.fuel progress.emitted (node program (evaluation program more) (out-Expr e) variables) le
levels_agree program (suc less) zero within e variables progress le = absurd (omega arith)
levels_agree program (suc less) (suc more) within e variables progress le =
    unit_agrees progress.fuel less progress.emitted _ _ le
    (node_agrees (evaluation program more) (evaluation_spends program more) (evaluation program less) less (levels_agree program less more (omega arith)) program (out-Expr e) variables)

-- without fuel there is the fault alone
pub evaluated-none : (program : BoxProgram) (e : Expr) (variables : List Value) (emitted : List Entries)
    → evaluated program e variables (record { fuel = zero; emitted = emitted }) ≡ with_unit zero emitted (node program (evaluated program) (out-Expr e) variables)
evaluated-none program e variables emitted = refl

-- an evaluation is that of its node over the evaluations of its parts, each with the fuel that the part before it left
pub evaluated-node : (program : BoxProgram) (e : Expr) (variables : List Value) (fuel : ℕ) (emitted : List Entries)
    → evaluated program e variables (record { fuel = fuel; emitted = emitted }) ≡ with_unit fuel emitted (node program (evaluated program) (out-Expr e) variables)
evaluated-node program e variables zero emitted = refl
evaluated-node program e variables (suc fuel) emitted =
    node_agrees (evaluated program) (evaluated_spends program) (evaluation program fuel) fuel
    (λ part around now le. sym (levels_agree program now.fuel fuel le part around now (omega arith))) program (out-Expr e) variables (record { fuel = fuel; emitted = emitted }) (omega arith)
