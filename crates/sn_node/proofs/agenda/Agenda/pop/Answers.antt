use Rattle.std.proofs.Common.{◌≡◌, ◌≤◌, [], ◌∷◌, ◌++◌, Bool, List, length, false, ap, ◌∙◌, subst, arith}
use Rattle.std.proofs.lemmas.List.{length-set, length_push}
use Rattle.sn_node.specs.Agenda.{AreMarked}
use Rattle.sn_node.proofs.Marks.{AreMarked_popped, AreMarked_popped_past, unlisted_unmarked}
use Rattle.sn_node.proofs.agenda.Agenda.pop.Goals as goal

pub invariant_of-self-then-i-len : goal.invariant_of-self-then-i-len
invariant_of-self-then-i-len c =
    let self = c.args.self.now in
    let marks : List Bool = self.listed.items in
    let i = c.in_ok-i.i in
    let items : self.stack.items ≡ c.pop.new.self.items ++ i ∷ [] = c.in_ok-i.ensures.items in
    let shorter = ap length items ∙ length_push c.pop.new.self.items i in
    record {
      marked = AreMarked_popped c.pop.new.self.items marks i (subst (λ stack. AreMarked stack marks) items self.marked);
      few = omega (arith, unlisted_unmarked marks i, self.few, shorter, length-set marks i false);
      room = omega (arith, self.room, c.pop.ensures.capacity, length-set marks i false);
    }

pub invariant_of-self-else-i-len : goal.invariant_of-self-else-i-len
invariant_of-self-else-i-len c =
    let self = c.args.self.now in
    let marks : List Bool = self.listed.items in
    let i = c.in_ok-i.i in
    let items : self.stack.items ≡ c.pop.new.self.items ++ i ∷ [] = c.in_ok-i.ensures.items in
    let shorter = ap length items ∙ length_push c.pop.new.self.items i in
    let past : length marks ≤ i = omega (arith, c.if-i-len.false, c.len.ensures, self.listed.ok.0) in
    record {
      marked = AreMarked_popped_past c.pop.new.self.items marks i past (subst (λ stack. AreMarked stack marks) items self.marked);
      few = omega (arith, self.few, shorter);
      room = omega (arith, self.room, c.pop.ensures.capacity);
    }
