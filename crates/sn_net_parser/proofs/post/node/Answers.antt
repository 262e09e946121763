use Rattle.std.proofs.Common.{rules, ◌≡◌, false, pos}
use Rattle.std.specs.Prelude.{int_lt, unsigned_abs}
use Rattle.sn_net_parser.proofs.Steps.{no_node, node_here}
use Rattle.sn_net_parser.proofs.post.node.Goals as goal

pub returns-in_default : goal.returns-in_default
returns-in_default c = λ w t. no_node _ (λ node at. c.in_default.not-Number _ _)

pub returns : goal.returns
returns c =
    let node : c.unsigned_abs.result ≡ unsigned_abs c.in-Number.value = search rules in
    let signless : int_lt c.in-Number.value (pos 0) ≡ false = search rules in
    λ w t. rw (c.in-Number.is, c.on-part.ensures) (node_here _ _ node signless)
