use Rattle.std.proofs.Common.{IsTrue, IfSome, sym, ap, ◌∙◌, subst}
use Rattle.std.proofs.lemmas.Bool.{false≢true}
use Rattle.sn_net.specs.Filter.{is_over}
use Rattle.sn_net.specs.Route.{exit_key}
use Rattle.sn_net.proofs.MatchedTags.{tags_there}
use Rattle.sn_net.proofs.Routed.{matched_asks, unmatched_stays}
use Rattle.sn_net.proofs.routing.tap_key.Goals as goal

pub returns-then-not-matches : goal.returns-then-not-matches
returns-then-not-matches c =
    unmatched_stays c.args.place c.args.exit.now c.args.guard.now c.args.r.now (λ matches. false≢true (sym c.if-not-matches.true ∙ c.matches.ensures.1 matches))

pub guard_key-requires : goal.guard_key-requires
guard_key-requires c =
    tags_there c.args.exit.now c.args.r.now c.in-Some.guard (c.matches.ensures.0 c.if-not-matches.false) (subst (λ guard. IfSome guard (λ test. IsTrue (is_over c.args.exit.now test))) c.in-Some.is c.requires)

pub returns-in-Some : goal.returns-in-Some
returns-in-Some c =
    c.guard_key.ensures
    ∙ ap (λ guard. exit_key c.args.place guard c.args.r.now) (sym c.in-Some.is)
    ∙ matched_asks c.args.place c.args.exit.now c.args.guard.now c.args.r.now (c.matches.ensures.0 c.if-not-matches.false)

pub returns-in-None : goal.returns-in-None
returns-in-None c =
    ap (λ guard. exit_key c.args.place guard c.args.r.now) (sym c.in-None.is)
    ∙ matched_asks c.args.place c.args.exit.now c.args.guard.now c.args.r.now (c.matches.ensures.0 c.if-not-matches.false)
