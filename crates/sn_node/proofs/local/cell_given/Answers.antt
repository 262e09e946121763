use Rattle.std.proofs.Common.{IsTrue, subst}
use Rattle.std.specs.List.{list_all}
use Rattle.sn_net.specs.Cell.{cell_emits}
use Rattle.sn_net.specs.Item.{modelled}
use Rattle.sn_view.specs.View.{It}
use Rattle.sn_view.specs.Next.{answering_entry}
use Rattle.sn_view.specs.Routed.{is_going}
use Rattle.sn_node.specs.Entry.{entry_of}
use Rattle.sn_node.proofs.Cells.{routed_accepts}
use Rattle.sn_node.proofs.local.cell_given.Goals as goal

pub record_given-requires : goal.record_given-requires
record_given-requires c =
    routed_accepts c.args.cell.now c.in-Rec.r
    (subst (λ x. IsTrue (list_all is_going (answering_entry (cell_emits 0 c.args.cell.now.patterns c.args.cell.now.state) (It (modelled x))))) c.in-Rec.is
    (subst (λ e. IsTrue (list_all is_going (answering_entry (cell_emits 0 c.args.cell.now.patterns c.args.cell.now.state) (entry_of e)))) c.in-Item.is (c.requires 0)))
