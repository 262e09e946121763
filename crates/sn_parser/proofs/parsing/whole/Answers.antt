use Rattle.std.proofs.Common.{◌≡◌, ◌∷◌, [], ◌++◌, ◌∙◌, ap, append_assoc, sym}
use Rattle.std.specs.Vec.Iter.{into_iter_items}
use Rattle.sn_parser.proofs.Exact.{values_more, whole_more}
use Rattle.sn_parser.proofs.parsing.whole.Goals as goal

pub loop-part-preserved : goal.loop-part-preserved
loop-part-preserved c =
    let at = c.loop-part in
    let steps : into_iter_items at.part-iterator ≡ c.in-Some.part ∷ into_iter_items c.next.new.self = c.in-Some.ensures.steps.0 in (
      append_assoc at.yielded (c.in-Some.part ∷ []) _ ∙ rw (← steps) at.invariant.0,
      whole_more at.yielded c.in-Some.part c.in-Some-decl.decl c.in-Some-decl.is at.invariant.1,
      c.in_ok-append.ensures.ok ∙ ap (λ d. at.whole ++ (d ∷ [])) c.into_parts-decl.ensures.value ∙ ap (λ vs. vs ++ (c.in-Some-decl.decl.value ∷ [])) at.invariant.2 ∙ sym (values_more at.yielded c.in-Some.part c.in-Some-decl.decl c.in-Some-decl.is),
    )
