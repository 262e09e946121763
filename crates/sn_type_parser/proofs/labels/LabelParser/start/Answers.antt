use Rattle.sn_type_parser.proofs.LabelSteps.{start_from, start_to}
use Rattle.sn_type_parser.proofs.labels.LabelParser.start.Goals as goal

pub returns-clause-from : goal.returns-clause-from
returns-clause-from c = λ w us all h. rw c.new.ensures (start_from h)

pub returns-clause-to : goal.returns-clause-to
returns-clause-to c = λ w t. rw c.new.ensures start_to
