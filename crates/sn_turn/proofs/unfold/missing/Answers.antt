use Rattle.std.proofs.Common.{rules, [], ◌∷◌, ◌++◌, ap, sym, subst, ◌∙◌}
use Rattle.std.specs.Prelude.{FitsSigned, Some}
use Rattle.std.specs.Int.{w64}
use Rattle.std.proofs.lemmas.Int.{to_z-of_z}
use Rattle.sn_net.specs.declared.routing.Key.TheVariants as some_key
use Rattle.sn_net.specs.declared.net.Net.{Net}
use Rattle.sn_net.specs.declared.net.Net.TheVariants as form
use Rattle.sn_fork.specs.Seen.{Forking}
use Rattle.sn_turn.specs.Nodes.{Grown, parts_of}
use Rattle.sn_turn.proofs.Onward.{grows_alone, grows_star, made_level, made_replica}
use Rattle.sn_turn.proofs.Parts.{three_ok}
use Rattle.sn_turn.proofs.unfold.missing.Goals as goal

pub level-requires-clause-part : goal.level-requires-clause-part
level-requires-clause-part c = (
  c.in-Star.place,
  c.in-Star.merge,
  c.in-Star.exit,
  c.in-Star.guard,
  c.requires.part ∙ ap Some (c.in-Star.is ∙ ap (λ (n : Net). form.Star c.in-Star.place c.in-Star.merge n c.in-Star.exit c.in-Star.guard) (sym c.get.ensures)),
)

pub level-requires-clause-left : goal.level-requires-clause-left
level-requires-clause-left c =
    let grows =
    grows_star c.args.fork.now c.steps-steps.ensures.stands c.args.run.now.value c.args.part.now c.args.key c.in-Star.place c.in-Star.merge c.in-Star.body c.in-Star.exit c.in-Star.guard
    c.requires.run c.requires.part c.in-Star.is c.requires.lacks in
    (grows.1, grows.2)

pub unreachable-requires-in_default : goal.unreachable-requires-in_default
unreachable-requires-in_default c =
    grows_alone c.args.fork.now c.steps-steps.ensures.stands c.args.run.now.value c.args.part.now c.args.key c.requires.run c.requires.part c.in_default.not-Star c.in_default.not-Split c.requires.lacks

pub returns-in-Star : goal.returns-in-Star
returns-in-Star c =
    let f : Forking = c.args.fork.now in
    let grows =
    grows_star f c.steps-steps.ensures.stands c.args.run.now.value c.args.part.now c.args.key c.in-Star.place c.in-Star.merge c.in-Star.body c.in-Star.exit c.in-Star.guard
    c.requires.run c.requires.part c.in-Star.is c.requires.lacks in
    three_ok c.level.result
    (λ made named there nodes.
    made_level f c.args.run.now.value c.args.part.now c.in-Star.place c.in-Star.merge c.in-Star.body c.in-Star.exit c.in-Star.guard c.args.key made.child made.nodes.items
    c.requires.run c.in-Star.is grows.0 named there (subst (λ (n : Net). Grown [] made.nodes.items (parts_of n (f.path ++ 0 ∷ []) ++ f.path ∷ [])) c.get.ensures nodes))
    c.level.ensures.key c.level.ensures.child c.level.ensures.nodes

pub returns-in-Value : goal.returns-in-Value
returns-in-Value c =
    let f : Forking = c.args.fork.now in
    let fits : FitsSigned w64 c.in-Value.n = search rules in
    three_ok c.replica_for.result
    (λ made named there nodes.
    made_replica f c.args.run.now.value c.args.part.now c.in-Split.place c.in-Split.merge c.in-Split.body c.in-Split.tag _ c.args.key made.child made.nodes.items
    c.requires.run c.in-Split.is (c.in-Value.is ∙ ap some_key.Value (sym (to_z-of_z w64 c.in-Value.n fits))) named there (subst (λ (n : Net). Grown [] made.nodes.items (parts_of n (f.path ++ 0 ∷ []))) c.get-in-Value.ensures nodes))
    c.replica_for.ensures.key c.replica_for.ensures.child c.replica_for.ensures.nodes
