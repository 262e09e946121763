use Rattle.std.proofs.Common.{◌≡◌, ap, rules, arith, ◌∙◌}
use Rattle.std.specs.Prelude.{slice_get}
use Rattle.sn_graph.specs.Arena.{view_of}
use Rattle.sn_graph.proofs.Nexts.{none_happens}
use Rattle.sn_graph.proofs.arena.Arena.listed_event.Goals as goal

pub returns-clause-none : goal.returns-clause-none
returns-clause-none c =
    let none : c.loop-k.k ≡ 0 = search (rules, arith) in
    none_happens (view_of c.args.self.now) c.args.self.now.agenda.stack.items c.requires.listed.each
    (λ m i e there. c.loop-k.invariant.none m i e (omega (arith, none)) (ap (λ all. slice_get all m) c.as_slice-listed.ensures ∙ there))
