use Rattle.sn_net_parser.proofs.Embedded.{filter_start}
use Rattle.sn_net_parser.proofs.Steps.{identity_from, identity_to}
use Rattle.sn_net_parser.proofs.Through.{steps_through}
use Rattle.sn_net_parser.specs.declared.machine.Mode.TheVariants as mode
use Rattle.sn_net_parser.proofs.atom.bracket.Goals as goal

pub returns-in-Some : goal.returns-in-Some
returns-in-Some c = λ w t. rw (c.in-Some.ensures, c.identity.ensures) (identity_from, identity_to)

pub returns : goal.returns
returns c = steps_through c.args.around (mode.Bracket c.args.at) (mode.InFilter c.start.result) _ _ (filter_start _ _ _ _ _ c.start.ensures.from c.start.ensures.to c.in_default.ensures) c.in_filter.ensures
