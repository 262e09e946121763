use Rattle.std.proofs.Common.{◌≡◌, rules, sym, ap, subst, ◌∙◌}
use Rattle.std.specs.Prelude.{FitsSigned, IfSome, None, Some, slice_get}
use Rattle.std.specs.Int.{w64}
use Rattle.std.specs.List.{All}
use Rattle.std.proofs.lemmas.Int.{to_z-of_z}
use Rattle.std.specs.Ordering.{int_eq}
use Rattle.indexmap.specs.IndexMap.{get}
use Rattle.sn_net.specs.declared.routing.Key.{Key}
use Rattle.sn_fork.specs.declared.fork.Child.{Child}
use Rattle.sn_fork.proofs.Table.{replica_found, replica_none}
use Rattle.sn_fork.proofs.children.number_of.Goals as goal

pub returns-in-Value-clause-some : goal.returns-in-Value-clause-some
returns-in-Value-clause-some c =
    let fits : FitsSigned w64 c.in-Value.n = search rules in
    subst (λ (k : Key). IfSome c.replica_of.result (λ n. (child : Child) × (slice_get c.args.children.now n ≡ Some child) × (child.key ≡ k))) (sym c.in-Value.is)
    (replica_found c.args.children.now c.args.replicas.now c.in-Value.n c.replica_of.result c.requires (c.replica_of.ensures ∙ ap (get int_eq c.args.replicas.now) (to_z-of_z w64 c.in-Value.n fits)))

pub returns-in-Value-clause-none : goal.returns-in-Value-clause-none
returns-in-Value-clause-none c =
    let fits : FitsSigned w64 c.in-Value.n = search rules in
    subst (λ (k : Key). c.replica_of.result ≡ None → All (λ (child : Child). child.key ≡ k → ⊥) c.args.children.now) (sym c.in-Value.is)
    (replica_none c.args.children.now c.args.replicas.now c.in-Value.n c.replica_of.result c.requires (c.replica_of.ensures ∙ ap (get int_eq c.args.replicas.now) (to_z-of_z w64 c.in-Value.n fits)))

pub returns-in-Branch-clause-some : goal.returns-in-Branch-clause-some
returns-in-Branch-clause-some c =
    subst (λ (k : Key). IfSome c.find.result (λ n. (child : Child) × (slice_get c.args.children.now n ≡ Some child) × (child.key ≡ k))) (sym c.in-Branch.is) c.find.ensures.some
