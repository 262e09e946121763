use Rattle.sn_graph.proofs.Agendas.{listed_applied, only_listed, only_tabled}
use Rattle.sn_graph.proofs.arena.Arena.apply.Goals as goal

pub happen-requires-clause-tabled : goal.happen-requires-clause-tabled
happen-requires-clause-tabled c = only_tabled c.args.self.now c.note.new.self c.note.ensures.only c.requires.tabled

pub returns-clause-listed : goal.returns-clause-listed
returns-clause-listed c =
    listed_applied c.args.run.now c.args.event c.note.new.self c.happen.new.self c.happen.result
    (only_listed c.args.self.now c.note.new.self c.note.ensures.only c.requires.listed) c.note.ensures.noted c.happen.ensures.applies c.happen.ensures.agenda
