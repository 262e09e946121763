use Rattle.std.proofs.Common.{◌≡◌, map, subst}
use Rattle.std.proofs.lemmas.Result.{IfOk-at_ok}
use Rattle.sn_net.specs.Faced.{IsFaced, face_of, net_of}
use Rattle.sn_net.specs.declared.net.Net.TheVariants as net
use Rattle.sn_scope.specs.Built.{AreBuilt, AreMade}
use Rattle.sn_scope.proofs.Building.{choice_built, choice_unbuilt}
use Rattle.sn_scope.proofs.trees.choice_over.Goals as goal

pub returns-in_ok-on_heap-in-Some : goal.returns-in_ok-on_heap-in-Some
returns-in_ok-on_heap-in-Some c boxes defined old new built =
    let branches = c.in-Some.branches in
    let faced = c.in_ok-on_heap-in-Some.field-0 in
    let made : AreMade boxes defined old new branches = subst (AreBuilt boxes defined old new) c.in-Some.is built in
    let choice = net.Choice c.args.place c.args.merge (map net_of branches) (map face_of branches) in
    let is : faced.net ≡ choice = IfOk-at_ok (λ f. f.net ≡ choice) c.in_ok-on_heap-in-Some.ensures c.choice-faced.ensures.net in
    let beside : IsFaced boxes faced = IfOk-at_ok (IsFaced boxes) c.in_ok-on_heap-in-Some.ensures (c.choice-faced.ensures.face boxes made.beside) in
    choice_built boxes c.args.place c.args.merge defined old new branches faced made is beside

pub returns-in-None : goal.returns-in-None
returns-in-None c boxes defined old new built = choice_unbuilt boxes c.args.place c.args.merge defined old new (subst (AreBuilt boxes defined old new) c.in-None.is built)
