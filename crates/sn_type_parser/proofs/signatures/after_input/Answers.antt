use Rattle.sn_type_parser.proofs.SigSteps.{arrow_step}
use Rattle.sn_type_parser.proofs.signatures.after_input.Goals as goal

pub returns-in-Arrow : goal.returns-in-Arrow
returns-in-Arrow c = arrow_step c.args.input c.start.result c.args.symbol c.args.at c.in-Arrow.is c.start.ensures.from c.start.ensures.to

pub after_name-requires : goal.after_name-requires
after_name-requires c = c.in_default.not-Arrow
