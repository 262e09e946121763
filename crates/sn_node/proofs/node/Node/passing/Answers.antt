use Rattle.std.proofs.Common.{sym, ap, ◌∙◌}
use Rattle.sn_model.specs.Run.{boxes_of}
use Rattle.sn_view.specs.Parts.{part_at}
use Rattle.sn_node.proofs.Sound.{filter_at}
use Rattle.sn_node.proofs.node.Node.passing.Goals as goal

pub filter_passing-requires-clause-closed : goal.filter_passing-requires-clause-closed
filter_passing-requires-clause-closed c =
    let path = c.args.self.now.made.path in
    filter_at (boxes_of c.args.run.now) c.net.result.now path c.in-Some.part.now c.in-Filter.filter c.net.ensures.formed
    (sym (c.in-Some.ensures ∙ ap (part_at c.net.result.now) c.as_slice.ensures)) c.in-Filter.is
