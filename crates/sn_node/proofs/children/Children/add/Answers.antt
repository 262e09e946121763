use Rattle.std.proofs.Common.{◌≡◌, [], ◌∷◌, ◌++◌, length, sym, ap, ◌∙◌, subst, refl, arith}
use Rattle.sn_net.specs.Dispatchers.{stream_key}
use Rattle.sn_node.specs.Children.{AreKeyed}
use Rattle.sn_node.proofs.Numbers.{keyed_more}
use Rattle.sn_node.proofs.children.Children.add.Goals as goal

pub invariant_of-self-2 : goal.invariant_of-self-2
invariant_of-self-2 c =
    let self = c.args.self.now in
    let old = self.list.items in
    let last : c.len.result ≡ length old = omega (arith, c.len.ensures, c.reserve.ensures.len, self.list.ok.0) in
    let more = keyed_more old (record { key = c.args.key; entry = c.args.entry; kept = c.new.result }) self.values c.enter.new.values (stream_key c.args.key) c.len.result refl last c.requires c.in_ok-enter.ensures.ok self.keyed in
    record { keyed = subst (λ list. AreKeyed list c.enter.new.values) (sym (c.push_reserved.ensures.items ∙ ap (λ list. list ++ record { key = c.args.key; entry = c.args.entry; kept = c.new.result } ∷ []) c.reserve.ensures.items)) more }
