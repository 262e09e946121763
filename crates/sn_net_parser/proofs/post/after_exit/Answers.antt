use Rattle.sn_net_parser.proofs.Steps.{guard_if_from, guard_if_to, unguarded_from, unguarded_to}
use Rattle.sn_net_parser.proofs.Through.{steps_through}
use Rattle.sn_net_parser.specs.declared.machine.Mode.TheVariants as mode
use Rattle.sn_net_parser.proofs.post.after_exit.Goals as goal

pub returns-in-Some : goal.returns-in-Some
returns-in-Some c = λ w t. rw c.in-Some.ensures (guard_if_from, guard_if_to)

pub returns : goal.returns
returns c = steps_through c.args.around (mode.AfterExit c.args.star c.args.exit) (mode.Have c.star-part.result) _ _ (λ w t. rw c.star-part.ensures (unguarded_from c.in_default.ensures, unguarded_to)) c.go_on.ensures
