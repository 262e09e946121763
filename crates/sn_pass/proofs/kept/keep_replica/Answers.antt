use Rattle.std.proofs.Common.{◌≡◌, FitsSigned, false, rules, sym, ap, subst, ◌∙◌}
use Rattle.std.proofs.lemmas.Int.{to_z-of_z}
use Rattle.std.specs.Int.{w64}
use Rattle.std.specs.Ordering.{int_eq}
use Rattle.sn_streams.specs.Keys.{Value}
use Rattle.sn_pass.specs.Keeping.{Fresh, child_of}
use Rattle.sn_pass.specs.States.{at_value, held}
use Rattle.sn_pass.specs.declared.kept.Kept.{Kept}
use Rattle.sn_pass.proofs.States.{replica_held}
use Rattle.sn_pass.proofs.kept.keep_replica.Goals as goal

pub put_replica-requires : goal.put_replica-requires
put_replica-requires c =
    let fits : FitsSigned w64 c.args.n = search rules in
    subst (λ z. at_value c.args.replicas z ≡ Fresh) (sym (to_z-of_z w64 c.args.n fits)) c.requires

pub returns-clause-put : goal.returns-clause-put
returns-clause-put c =
    let fits : FitsSigned w64 c.args.n = search rules in
    let same = to_z-of_z w64 c.args.n fits in
    ap (λ (k : Kept). child_of (held k) (Value c.args.n)) c.keep.ensures ∙ replica_held c.put_replica.new.replicas c.args.n
    ∙ subst (λ z. at_value c.put_replica.new.replicas z ≡ held c.into_inner.result) same c.in_ok-put_replica.ensures.put ∙ ap held c.into_inner.ensures

pub returns-clause-others : goal.returns-clause-others
returns-clause-others c = λ k other.
    let fits : FitsSigned w64 c.args.n = search rules in
    let same = to_z-of_z w64 c.args.n fits in
    ap (λ (q : Kept). child_of (held q) (Value k)) c.keep.ensures ∙ replica_held c.put_replica.new.replicas k
    ∙ subst (λ z. int_eq k z ≡ false → at_value c.put_replica.new.replicas k ≡ at_value c.args.replicas k) same (c.in_ok-put_replica.ensures.others k) other
