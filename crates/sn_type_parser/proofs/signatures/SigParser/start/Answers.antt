use Rattle.sn_type_parser.proofs.SigSteps.{start_from, start_to}
use Rattle.sn_type_parser.proofs.signatures.SigParser.start.Goals as goal

pub returns-clause-from : goal.returns-clause-from
returns-clause-from c = start_from c.start.result c.start.ensures.from

pub returns-clause-to : goal.returns-clause-to
returns-clause-to c = start_to c.start.result c.start.ensures.to
