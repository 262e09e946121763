use Rattle.sn_component.specs.Kept.{working_of}
use Rattle.sn_component.proofs.Working.{after_sending, given_begins}
use Rattle.sn_component.proofs.component.Component.send.Goals as goal

pub send-requires : goal.send-requires
send-requires g c = record { may = given_begins (working_of c.self.inside) c.self.invariant }

pub invariant_of-self : goal.invariant_of-self
invariant_of-self g c =
    after_sending (working_of c.self.inside) c.send.new.self.put c.send.new.self.held.items c.send.ensures.given c.send.ensures.made c.self.invariant
