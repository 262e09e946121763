use Rattle.std.proofs.Common.{true≢false, refl, sym, ◌∙◌}
use Rattle.sn_graph.specs.Graph.{seen}
use Rattle.sn_turns.proofs.owner.end_at_refusal.Goals as goal

pub returns-then-at_rest : goal.returns-then-at_rest
returns-then-at_rest g c = g.met.W.Watcher.rests (seen c.args.graph.now) c.args.watcher.now (record { rest = c.if-at_rest.ensures.rest.0 refl; only = c.if-at_rest.ensures.only refl })

pub returns : goal.returns
returns g c = g.met.W.Watcher.gives_up (seen c.args.graph.now) c.args.watcher.now (λ rest. absurd (true≢false (sym (c.at_rest.ensures.rest.1 rest) ∙ c.if-at_rest.false)))
