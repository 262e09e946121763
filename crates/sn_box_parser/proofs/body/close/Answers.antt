use Rattle.sn_box_parser.proofs.Steps.{close_from, close_to}
use Rattle.sn_box_parser.proofs.body.close.Goals as goal

pub returns : goal.returns
returns c = λ at w t. rw (c.with_body.ensures, c.in_ok-body.ensures) (close_from, close_to)
