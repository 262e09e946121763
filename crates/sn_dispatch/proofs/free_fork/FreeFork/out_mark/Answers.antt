use Rattle.std.proofs.Common.{◌∙◌, ap, ◌==◌, ◌+◌}
use Rattle.std.specs.Prelude.{count_by}
use Rattle.sn_view.specs.Epochs.{is_passed}
use Rattle.sn_dispatch.proofs.Counting.{not_passed, passed_now, next_kept}
use Rattle.sn_dispatch.proofs.free_fork.FreeFork.out_mark.Goals as goal

pub returns-then-self-gt0-clause-answer : goal.returns-then-self-gt0-clause-answer
returns-then-self-gt0-clause-answer c =
    not_passed c.self.inside.input c.self.inside.output c.self.inside.here c.self.inside.children.items c.self.invariant c.if-self-gt0.true ∙ ap is_passed c.self.view_is

pub invariant_of-self : goal.invariant_of-self
invariant_of-self c =
    next_kept c.self.inside.input c.self.inside.output c.self.inside.here c.self.inside.children.items c.count_standing-self-inside.result c.self.invariant c.if-self.false c.if-self-gt0.false
    (c.count_standing-self-inside.ensures ∙ ap (λ ns. count_by (λ epoch. epoch == c.self.inside.output + 1) ns) c.as_slice.ensures.value)

pub returns-clause-answer : goal.returns-clause-answer
returns-clause-answer c =
    passed_now c.self.inside.input c.self.inside.output c.self.inside.here c.self.inside.children.items c.self.invariant c.if-self.false c.if-self-gt0.false ∙ ap is_passed c.self.view_is
