use Rattle.std.proofs.Common.{[], ◌∷◌, ◌++◌, if◌then◌else◌, sym, ap, ◌∙◌}
use Rattle.sn_scope.specs.Variants.{added}
use Rattle.sn_scope.proofs.Members.{added_is}
use Rattle.sn_scope.proofs.variants.Variants.add.Goals as goal

pub returns-then-branch-clause-ok : goal.returns-then-branch-clause-ok
returns-then-branch-clause-ok c =
    let sets = c.self.inside.sets.items in
    let set = c.args.set in
    let grown = added_is (λ k. k.set) c.self.inside.keys.keys sets set c.in_ok-copy.field-0 c.in_ok-insert.field-0 c.self.invariant c.in_ok-copy.ensures c.in_ok-insert.ensures.added in
    c.push_reserved.ensures.items
    ∙ ap (λ s. s ++ set ∷ []) c.reserve.ensures.items
    ∙ sym (grown ∙ ap (λ fresh. if fresh then sets ++ set ∷ [] else sets) c.if-branch.true)
    ∙ ap (λ s. added s set) c.self.view_is

pub returns-else-branch-clause-ok : goal.returns-else-branch-clause-ok
returns-else-branch-clause-ok c =
    let sets = c.self.inside.sets.items in
    let set = c.args.set in
    let same = added_is (λ k. k.set) c.self.inside.keys.keys sets set c.in_ok-copy.field-0 c.in_ok-insert.field-0 c.self.invariant c.in_ok-copy.ensures c.in_ok-insert.ensures.added in
    c.reserve.ensures.items
    ∙ sym (same ∙ ap (λ fresh. if fresh then sets ++ set ∷ [] else sets) c.if-branch.false)
    ∙ ap (λ s. added s set) c.self.view_is
