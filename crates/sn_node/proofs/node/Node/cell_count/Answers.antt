use Rattle.std.proofs.Common.{sym, ◌∙◌}
use Rattle.sn_node.specs.Entry.{entry_of}
use Rattle.sn_node.specs.Seen.{node_of}
use Rattle.sn_node.proofs.Cells.{cell_counts}
use Rattle.sn_node.proofs.node.Node.cell_count.Goals as goal

pub returns-in-Some : goal.returns-in-Some
returns-in-Some c = λ place own.
    cell_counts c.args.self.now.made.run.value place own (node_of c.args.self.now) (entry_of c.in-Some.field-0.now) (sym c.is_cell.ensures ∙ c.if-not-is_cell.false) (sym c.in-Some.ensures)
