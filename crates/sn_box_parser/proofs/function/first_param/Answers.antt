use Rattle.sn_box_parser.proofs.Embedded.{steps_through}
use Rattle.sn_box_parser.proofs.Steps.{first_from, first_to, none_from, none_to}
use Rattle.sn_box_parser.specs.BoxDeclResidual.{NextParam, NextParams}
use Rattle.sn_box_parser.proofs.function.first_param.Goals as goal

pub returns-in-Some : goal.returns-in-Some
returns-in-Some c = λ w t. rw (c.in-Some.ensures, c.new.ensures) (none_from, none_to)

pub returns : goal.returns
returns c =
    steps_through (NextParams c.args.opened c.args.name) (NextParam c.args.opened c.args.name c.new.result) _ _
    (λ w t. rw c.new.ensures (first_from c.in_default.ensures, first_to)) c.param.ensures
