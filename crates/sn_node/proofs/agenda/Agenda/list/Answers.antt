use Rattle.std.proofs.Common.{◌≡◌, Bool, List, length, get_or, set, true, false, sym, ap, ◌∙◌, subst, refl, arith}
use Rattle.std.proofs.lemmas.List.{get_or_default, length-set, length_push}
use Rattle.std.proofs.lemmas.Option.{slice_get_read}
use Rattle.sn_node.specs.Agenda.{AreMarked}
use Rattle.sn_node.proofs.Marks.{AreMarked_listed, unlisted_marked}
use Rattle.sn_node.proofs.agenda.Agenda.list.Goals as goal

pub push_reserved-requires : goal.push_reserved-requires
push_reserved-requires c =
    let self = c.args.self.now in
    let marks : List Bool = self.listed.items in
    let free : get_or marks c.args.i c.index.result.now ≡ false = sym c.index.ensures ∙ c.if-not-index.true in
    omega (arith, unlisted_marked marks c.args.i c.index.result.now c.requires free, self.few, self.room, self.stack.ok.0)

pub invariant_of-self : goal.invariant_of-self
invariant_of-self c =
    let self = c.args.self.now in
    let marks : List Bool = self.listed.items in
    let free : get_or marks c.args.i c.index.result.now ≡ false = sym c.index.ensures ∙ c.if-not-index.true in
    let longer = ap length c.push_reserved.ensures.items ∙ length_push self.stack.items c.args.i in
    record {
      marked = subst (λ stack. AreMarked stack (set marks c.args.i true)) (sym c.push_reserved.ensures.items) (AreMarked_listed self.stack.items marks c.args.i self.marked);
      few = omega (arith, unlisted_marked marks c.args.i c.index.result.now c.requires free, self.few, longer, length-set marks c.args.i true);
      room = omega (arith, self.room, c.push_reserved.ensures.capacity, length-set marks c.args.i true);
    }

pub returns-else-not-index-clause-listed : goal.returns-else-not-index-clause-listed
returns-else-not-index-clause-listed c =
    let self = c.args.self.now in
    self.marked c.args.i (slice_get_read self.listed.items _ c.args.i true refl c.requires (sym (sym c.index.ensures ∙ c.if-not-index.false) ∙ get_or_default self.listed.items c.args.i c.index.result.now true c.requires))
