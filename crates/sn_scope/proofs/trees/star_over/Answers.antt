use Rattle.std.proofs.Common.{◌≡◌, ap, ◌∙◌, subst, sym}
use Rattle.std.proofs.lemmas.Result.{IfOk-at_ok}
use Rattle.sn_net.specs.Faced.{IsFaced}
use Rattle.sn_net.specs.declared.net.Net.TheVariants as net
use Rattle.sn_scope.specs.Built.{IsBuilt, IsMade}
use Rattle.sn_scope.proofs.Building.{star_built, star_unbuilt}
use Rattle.sn_scope.proofs.trees.star_over.Goals as goal

pub returns-in_ok-on_heap-in-Some : goal.returns-in_ok-on_heap-in-Some
returns-in_ok-on_heap-in-Some c boxes defined old new built =
    let faced = c.in_ok-on_heap-in-Some.field-0 in
    let body = c.into_inner.result in
    let exit = c.in_ok-exit-in-Some.exit in
    let guard = c.in_ok-guard-in-Some.guard in
    let star = net.Star c.args.place c.args.merge body.net in
    let made : IsMade boxes defined old new body = subst (IsMade boxes defined old new) (sym c.into_inner.ensures) (subst (IsBuilt boxes defined old new) c.in-Some.is built) in
    let is : faced.net ≡ star exit guard = IfOk-at_ok (λ f. f.net ≡ star exit guard) c.in_ok-on_heap-in-Some.ensures c.star-faced.ensures.net in
    let beside : IsFaced boxes faced = IfOk-at_ok (IsFaced boxes) c.in_ok-on_heap-in-Some.ensures (c.star-faced.ensures.face boxes made.beside) in
    star_built boxes c.args.place c.args.merge c.args.exit.now c.args.guard.now defined old new body faced made
    (is ∙ ap (λ exit. star exit guard) c.in_ok-exit-in-Some.ensures ∙ ap (star c.args.exit.now) c.in_ok-guard-in-Some.ensures) beside

pub returns-in-None : goal.returns-in-None
returns-in-None c boxes defined old new built = star_unbuilt boxes c.args.place c.args.merge c.args.exit.now c.args.guard.now defined old new (subst (IsBuilt boxes defined old new) c.in-None.is built)
