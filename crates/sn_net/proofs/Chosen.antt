-- The templates that a filter uses are those of an arm, or the last.
use Rattle.std.proofs.Common.{ℕ, zero, suc, ℤ, Bool, true, false, List, [], ◌∷◌, ◌++◌, Ok, Err, arith}
use Rattle.std.specs.Prelude.{Result, if◌then◌else◌}
use Rattle.std.specs.List.{All, Contains, flat_map}
use Rattle.std.specs.Result.{IfOk}
use Rattle.std.proofs.lemmas.List.Elements.{All-head, All-tail, Contains-append_left, Contains-append_right}
use Rattle.sn_tagexpr.specs.declared.fault.ExprFault.{ExprFault}
use Rattle.sn_tagexpr.specs.Operators.{is_zero}
use Rattle.sn_tagexpr.specs.Evaluation.{worth}
use Rattle.sn_net.specs.declared.filter.Arm.{Arm}
use Rattle.sn_net.specs.declared.filter.Filter.{Filter}
use Rattle.sn_net.specs.declared.filter.Template.{Template}
use Rattle.sn_net.specs.Answer.{chosen, chosen_by}
use Rattle.sn_net.specs.Filter.{IsClosed, IsClosedTemplate, every_template}

-- what holds of the list of each arm and of the last one holds of the one that is chosen
pub of_chosen : (P : List Template → Type 0) (tags : ℕ → ℤ) (arms : List Arm) (last : List Template) → All (λ arm. P arm.templates) arms → P last
    → IfOk (chosen tags arms last) P
of_chosen P tags [] last each end = end
of_chosen P tags (arm ∷ arms) last each end =
    by (worth tags arm.guard) (All-head (λ (arm : Arm). P arm.templates) arm arms each) (of_chosen P tags arms last (All-tail (λ (arm : Arm). P arm.templates) arm arms each) end)
  where
    by : (x : Result ℤ ExprFault) → P arm.templates → IfOk (chosen tags arms last) P → IfOk (chosen_by x arm.templates (chosen tags arms last)) P
    by (Ok n) own following = at (is_zero n)
      where
        at : (b : Bool) → IfOk (if b then chosen tags arms last else Ok arm.templates) P
        at true = following
        at false = own
    by (Err fault) own following = tt

pub chosen_closed : (tags : ℕ → ℤ) (filter : Filter) → IsClosed filter → IfOk (chosen tags filter.arms filter.templates) (All (IsClosedTemplate filter.pattern))
chosen_closed tags filter closed =
    of_chosen (All (IsClosedTemplate filter.pattern)) tags filter.arms filter.templates (λ k d below. (closed.arms k d below).templates) closed.last

-- they are among the templates of all lists
abbrev Among : List Template → List Template → Type 0
Among all some = (template : Template) → Contains some template → Contains all template

arms_among : (arms : List Arm) (last : List Template) → All (λ arm. Among (flat_map (λ arm. arm.templates) arms ++ last) arm.templates) arms
arms_among arms last k d below template there =
    Contains-append_left (flat_map (λ arm. arm.templates) arms) last template (in_some arms k d below template there)
  where
    in_some : (arms : List Arm) → All (λ arm. Among (flat_map (λ arm. arm.templates) arms) arm.templates) arms
    in_some [] k d below template there = absurd (omega (arith, below))
    in_some (arm ∷ arms) zero d below template there = Contains-append_left arm.templates (flat_map (λ arm. arm.templates) arms) template there
    in_some (arm ∷ arms) (suc k) d below template there =
        Contains-append_right arm.templates (flat_map (λ arm. arm.templates) arms) template (in_some arms k d (omega (arith, below)) template there)

pub chosen_among : (tags : ℕ → ℤ) (filter : Filter)
    → IfOk (chosen tags filter.arms filter.templates) (λ some. (template : Template) → Contains some template → Contains (every_template filter) template)
chosen_among tags filter =
    of_chosen (Among (every_template filter)) tags filter.arms filter.templates (arms_among filter.arms filter.templates)
    (λ template there. Contains-append_right (flat_map (λ arm. arm.templates) filter.arms) filter.templates template there)
