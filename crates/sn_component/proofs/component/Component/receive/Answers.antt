use Rattle.std.proofs.Common.{◌∙◌, ap, subst}
use Rattle.sn_stream.specs.Ends.{End, WasEmpty}
use Rattle.sn_component.specs.Seen.{Working}
use Rattle.sn_component.specs.Kept.{working_of}
use Rattle.sn_component.proofs.Working.{after_receiving}
use Rattle.sn_component.proofs.component.Component.receive.Goals as goal

pub invariant_of-self : goal.invariant_of-self
invariant_of-self g c =
    after_receiving (working_of c.self.inside) c.get.new.self c.in-Some.x (ap (λ (w : Working). w.waiting) c.self.view_is ∙ c.requires) c.in-Some.ensures.got c.get.ensures.stated c.self.invariant

pub returns-in-None-clause-none : goal.returns-in-None-clause-none
returns-in-None-clause-none g c =
    λ no. (
      ap (λ (e : End). working_of (record c.self.inside { input = e })) c.in-None.ensures.unchanged ∙ c.self.view_is,
      subst WasEmpty (ap (λ (w : Working). w.input) c.self.view_is) c.in-None.ensures.empty,
    )
