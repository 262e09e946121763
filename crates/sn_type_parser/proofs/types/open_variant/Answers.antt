use Rattle.sn_type_parser.proofs.TypeSteps.{open_step, no_opening}
use Rattle.sn_type_parser.proofs.types.open_variant.Goals as goal

pub returns-in-OpenBrace : goal.returns-in-OpenBrace
returns-in-OpenBrace c = open_step c.args.parts c.args.symbol c.args.at c.start.result c.in-OpenBrace.is c.start.ensures.from c.start.ensures.to

pub returns-in_default : goal.returns-in_default
returns-in_default c = no_opening c.args.parts c.args.symbol c.args.at c.in_default.not-OpenBrace
