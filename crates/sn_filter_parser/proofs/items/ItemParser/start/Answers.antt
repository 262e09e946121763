use Rattle.sn_filter_parser.proofs.ItemSteps.{start_from, start_to}
use Rattle.sn_filter_parser.proofs.items.ItemParser.start.Goals as goal

pub returns-clause-from : goal.returns-clause-from
returns-clause-from c = λ w us all h. rw c.no_row.ensures (start_from h)

pub returns-clause-to : goal.returns-clause-to
returns-clause-to c = λ w t. rw c.no_row.ensures start_to
