use Rattle.sn_type_parser.proofs.TypeSteps.{start_from, start_to}
use Rattle.sn_type_parser.proofs.types.TypeParser.start.Goals as goal

pub returns-clause-from : goal.returns-clause-from
returns-clause-from c = λ w us all h e. rw c.new.ensures (start_from h e)

pub returns-clause-to : goal.returns-clause-to
returns-clause-to c = λ w t. rw c.new.ensures start_to
