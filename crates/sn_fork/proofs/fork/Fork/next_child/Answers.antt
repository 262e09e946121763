use Rattle.std.proofs.Common.{◌≡◌, Some, ap, refl, sym, subst, ◌∙◌}
use Rattle.sn_dispatch.specs.declared.det_fork.Decision.TheVariants as decision
use Rattle.std.specs.Prelude.{IfSome, slice_get}
use Rattle.sn_fork.specs.declared.fork.Child.{Child}
use Rattle.sn_fork.specs.Seen.{AsksFor}
use Rattle.sn_fork.specs.Fork.{forking_of}
use Rattle.sn_fork.proofs.Groups.{asks_for}
use Rattle.sn_fork.proofs.fork.Fork.next_child.Goals as goal

pub returns-in-Some-To : goal.returns-in-Some-To
returns-in-Some-To c =
    subst (λ f. IfSome c.number_of.result (AsksFor f)) c.self.view_is
    (asks_for (forking_of c.self.inside) c.self.inside.children.items c.in-Some-To.key c.number_of.result refl first
    (subst (λ l. IfSome c.number_of.result (λ n. (x : Child) × (slice_get l n ≡ Some x) × (x.key ≡ c.in-Some-To.key))) c.as_slice.ensures.value c.number_of.ensures.some))
  where
    first : slice_get c.self.inside.decisions 0 ≡ Some (decision.To c.in-Some-To.key)
    first = sym c.in-Some-To.ensures ∙ ap Some c.in-Some-To.field-0-is
