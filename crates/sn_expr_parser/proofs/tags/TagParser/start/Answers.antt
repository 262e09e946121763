use Rattle.sn_expr_parser.proofs.TagSteps.{start_from, start_to}
use Rattle.sn_expr_parser.proofs.tags.TagParser.start.Goals as goal

pub returns-clause-from : goal.returns-clause-from
returns-clause-from c = λ w us e x k. rw (c.new.ensures, c.new-2.ensures) (start_from x k)

pub returns-clause-to : goal.returns-clause-to
returns-clause-to c = λ w t. rw (c.new.ensures, c.new-2.ensures) start_to
