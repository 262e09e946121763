use Rattle.std.proofs.Common.{IsTrue, subst, ap}
use Rattle.std.specs.Prelude.{IfSome}
use Rattle.std.specs.List.{list_all}
use Rattle.sn_view.specs.Routed.{is_going}
use Rattle.sn_node.specs.Local.{cell_step}
use Rattle.sn_node.specs.Entry.{entry_of}
use Rattle.sn_node.specs.Seen.{state_of}
use Rattle.sn_node.proofs.Cells.{cell_steps}
use Rattle.sn_node.proofs.local.cell_gives.Goals as goal

pub cell_given-requires : goal.cell_given-requires
cell_given-requires c = λ place.
    subst (λ s. IfSome (cell_step place (state_of s) (entry_of c.args.entry)) (λ step. IsTrue (list_all is_going step.entries))) c.in-Cell.is (c.requires.routed place)

pub returns-clause-given : goal.returns-clause-given
returns-clause-given c = λ place.
    cell_steps place c.cell_given.result (state_of c.args.state.now) c.in-Cell.cell c.cell_given.new.cell (entry_of c.args.entry)
    (ap state_of c.in-Cell.is) c.cell_given.ensures.patterns c.cell_given.ensures.state (c.cell_given.ensures.given place)
