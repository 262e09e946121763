use Rattle.std.proofs.Common.{List, ap, subst, sym}
use Rattle.sn_stream.specs.Ends.{End}
use Rattle.sn_stream.specs.declared.item.StreamItem.{StreamItem}
use Rattle.sn_crew.specs.Turns.{TurnsAs}
use Rattle.sn_crew.proofs.lead.read_or_serve.Goals as goal

pub returns-in-Some-clause-goes : goal.returns-in-Some-clause-goes
returns-in-Some-clause-goes g c first so_far =
    subst (λ (es : List StreamItem). TurnsAs c.args.out.now.names.now es first (g.S.Sink.held c.write.new.out.sink.now) c.write.result)
    (sym (ap (λ (e : End). e.moved) c.in-Some.ensures.got)) (c.write.ensures.goes c.args.root.now.moved first so_far)

pub returns-in-None-clause-goes : goal.returns-in-None-clause-goes
returns-in-None-clause-goes g c first so_far =
    subst (λ (e : End). TurnsAs c.args.out.now.names.now e.moved first (g.S.Sink.held c.args.out.now.sink.now) c.serve.result)
    (sym c.in-None.ensures.unchanged) (c.serve.ensures.turns c.args.out.now.names.now c.args.root.now.moved first _ so_far)

pub returns-in-None-clause-rose : goal.returns-in-None-clause-rose
returns-in-None-clause-rose g c is = absurd (c.serve.ensures.unwritten is)
