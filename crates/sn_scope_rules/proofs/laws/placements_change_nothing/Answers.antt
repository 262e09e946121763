use Rattle.std.proofs.Common.{ap, refl}
use Rattle.sn_scope.specs.Networks.{network_step, required_step}
use Rattle.sn_scope.specs.Numbering.{Entry, network_step as entry_step}
use Rattle.sn_scope_rules.proofs.Placements.{same_without}
use Rattle.sn_scope_rules.proofs.laws.placements_change_nothing.Goals as goal

pub returns-clause-labels : goal.returns-clause-labels
returns-clause-labels c = λ names network.
    ap (λ (entry : Entry). entry names) (same_without entry_step (λ n. n.form) (λ place det spread body tag. refl) (λ place node body. refl) network)

pub returns-clause-network : goal.returns-clause-network
returns-clause-network c = λ names scopes network.
    same_without (network_step names scopes) (λ n. n.form n.at) (λ place det spread body tag. refl) (λ place node body. refl) network

pub returns-clause-refused : goal.returns-clause-refused
returns-clause-refused c = λ names scopes network.
    same_without (required_step names scopes) (λ n. n.form n.at) (λ place det spread body tag. refl) (λ place node body. refl) network
