use Rattle.std.proofs.Common.{◌≡◌, ℕ, ◌<◌, ◌≤◌, length, subst, sym, rules, arith}
use Rattle.sn_graph.proofs.Agendas.{all_listed}
use Rattle.sn_graph.proofs.arena.Arena.start.Goals as goal

pub returns-clause-listed : goal.returns-clause-listed
returns-clause-listed c =
    let long : c.len.result ≡ length c.grow-2.new.grown.nodes.items = search (rules, arith) in
    all_listed _ (λ i within. c.in_ok-agenda.ensures.listed i (subst (λ (n : ℕ). i < n) (sym long) within))
    (subst (λ (n : ℕ). n ≤ length c.in_ok-agenda.agenda.listed.items) long c.in_ok-agenda.ensures.room)
