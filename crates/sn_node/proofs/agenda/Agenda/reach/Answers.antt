use Rattle.std.proofs.Common.{Bool, List, length, false, sym, ap, ◌∙◌, subst, arith}
use Rattle.std.proofs.lemmas.List.{length_push}
use Rattle.sn_node.specs.Agenda.{AreMarked, unlisted}
use Rattle.sn_node.proofs.Marks.{AreMarked_reached, unlisted_more}
use Rattle.sn_node.proofs.agenda.Agenda.reach.Goals as goal

pub invariant_of-self-in-loop-number : goal.invariant_of-self-in-loop-number
invariant_of-self-in-loop-number c =
    let self = c.loop-number.self in
    let marks : List Bool = self.listed.items in
    let longer = ap length c.push_reserved.ensures.items ∙ length_push marks false in
    let more = ap unlisted c.push_reserved.ensures.items ∙ unlisted_more marks in
    record {
      marked = subst (λ ms. AreMarked self.stack.items ms) (sym c.push_reserved.ensures.items) (AreMarked_reached self.stack.items marks self.marked);
      few = omega (arith, longer, more, self.few);
      room = omega (arith, longer, c.loop-number.invariant.marks, c.loop-number.invariant.stack);
    }
