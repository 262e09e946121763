use Rattle.std.proofs.Common.{◌≡◌, [], ◌∷◌, ◌++◌, length, subst, arith}
use Rattle.sn_node.specs.Children.{AreKeyed}
use Rattle.sn_node.proofs.Numbers.{keyed_less}
use Rattle.sn_node.proofs.children.Children.drop_last.Goals as goal

pub invariant_of-self-2 : goal.invariant_of-self-2
invariant_of-self-2 c =
    let self = c.args.self.now in
    let list = c.pop.new.self.items in
    let last : c.len.result ≡ length list = omega (arith, c.len.ensures, c.pop.new.self.ok.0) in
    let items : self.list.items ≡ list ++ c.in-Some.child ∷ [] = c.in-Some.ensures.items in
    record { keyed = keyed_less list c.in-Some.child self.values c.leave.new.values c.len.result last c.leave.ensures (subst (λ list. AreKeyed list self.values) items self.keyed) }
