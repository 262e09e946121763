use Rattle.std.proofs.Common.{◌≡◌, subst, sym}
use Rattle.std.proofs.lemmas.Result.{IfOk-at_ok}
use Rattle.sn_net.specs.Faced.{IsFaced}
use Rattle.sn_net.specs.declared.net.Net.TheVariants as net
use Rattle.sn_scope.specs.Built.{IsBuilt, IsMade}
use Rattle.sn_scope.proofs.Building.{split_built, split_unbuilt}
use Rattle.sn_scope.proofs.trees.split_over.Goals as goal

pub returns-in_ok-on_heap-in-Some : goal.returns-in_ok-on_heap-in-Some
returns-in_ok-on_heap-in-Some c boxes defined old new built =
    let faced = c.in_ok-on_heap-in-Some.field-0 in
    let body = c.into_inner.result in
    let split = net.Split c.args.place c.args.merge body.net c.args.tag in
    let made : IsMade boxes defined old new body = subst (IsMade boxes defined old new) (sym c.into_inner.ensures) (subst (IsBuilt boxes defined old new) c.in-Some.is built) in
    let is : faced.net ≡ split = IfOk-at_ok (λ f. f.net ≡ split) c.in_ok-on_heap-in-Some.ensures c.split-faced.ensures.net in
    let beside : IsFaced boxes faced = IfOk-at_ok (IsFaced boxes) c.in_ok-on_heap-in-Some.ensures (c.split-faced.ensures.face boxes made.beside) in
    split_built boxes c.args.place c.args.merge c.args.tag defined old new body faced made is beside

pub returns-in-None : goal.returns-in-None
returns-in-None c boxes defined old new built = split_unbuilt boxes c.args.place c.args.merge c.args.tag defined old new (subst (IsBuilt boxes defined old new) c.in-None.is built)
