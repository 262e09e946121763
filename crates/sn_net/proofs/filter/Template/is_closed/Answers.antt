use Rattle.std.proofs.Common.{◌≢◌, take, sym, ap, ◌∙◌, subst}
use Rattle.std.specs.List.{All}
use Rattle.std.proofs.lemmas.Bool.{false≢true}
use Rattle.sn_net.specs.Filter.{target, is_from, IsClosedTemplate}
use Rattle.sn_net.proofs.Closed.{with_parts, earlier_apart, closed_more}
use Rattle.sn_net.proofs.filter.Template.is_closed.Goals as goal
use Rattle.sn_net.proofs.filter.Template.is_closed.Goals.{then-not-is_from-via-then-not-is_from, then-not-is_from-via-else-not-is_from+then-not-is_unset}

pub returns-then-not-is_from : goal.returns-then-not-is_from
returns-then-not-is_from c = (
  λ no. absurd (false≢true no),
  λ whole.
      let closed = subst (λ parts. IsClosedTemplate c.args.pattern.now (with_parts parts)) (sym c.as_slice-parts.ensures) whole in
      elim c.then-not-is_from.branch [
        | then-not-is_from-via-then-not-is_from w ↦
            sym w.if-not-is_from.true ∙ c.is_from.ensures
            ∙ ap (is_from c.args.pattern.now) c.index-parts-place.is ∙ closed.named c.loop-place.place c.index-parts-place.result c.loop-place-test.true
        | then-not-is_from-via-else-not-is_from+then-not-is_unset w ↦
            sym w.if-not-is_unset.true
            ∙ w.is_unset.ensures.1 (subst (λ label. All (λ earlier. target earlier ≢ label) (take c.loop-place.place c.as_slice-parts.result.now)) (sym (w.target.ensures ∙ ap target c.index-parts-place.is)) (earlier_apart _ _ c.loop-place.place c.index-parts-place.result closed c.loop-place-test.true))
      ],
)

pub loop-place-preserved : goal.loop-place-preserved
loop-place-preserved c =
    closed_more c.args.pattern.now c.as_slice-parts.result.now c.loop-place.place c.index-parts-place.result c.loop-place.invariant c.loop-place-test.true
    (ap (is_from c.args.pattern.now) (sym c.index-parts-place.is) ∙ sym c.is_from.ensures ∙ c.if-not-is_from.false)
    (subst (λ label. All (λ earlier. target earlier ≢ label) (take c.loop-place.place c.as_slice-parts.result.now)) (c.target.ensures ∙ ap target c.index-parts-place.is) (c.is_unset.ensures.0 c.if-not-is_unset.false))
