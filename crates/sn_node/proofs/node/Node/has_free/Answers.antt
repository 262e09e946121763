use Rattle.std.proofs.Common.{◌∙◌}
use Rattle.sn_node.proofs.Free.{found_free}
use Rattle.sn_node.proofs.node.Node.has_free.Goals as goal

pub returns : goal.returns
returns c =
    let found = c.first_free.ensures in
    c.is_some.ensures ∙ found_free c.args.self.now.waiting.entries.items c.first_free.result found.within found.free found.none
