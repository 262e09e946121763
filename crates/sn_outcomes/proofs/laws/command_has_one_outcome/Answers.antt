use Rattle.sn_plain.specs.Runs.{OnOneThread, WithWorkers}
use Rattle.sn_outcomes.proofs.Commands.{command_once, status_once}
use Rattle.sn_outcomes.proofs.SourceAlone.{source_alone}
use Rattle.sn_outcomes.proofs.laws.command_has_one_outcome.Goals as goal

pub returns-clause-one_outcome : goal.returns-clause-one_outcome
returns-clause-one_outcome c = command_once

pub returns-clause-one_status : goal.returns-clause-one_status
returns-clause-one_status c = status_once

pub returns-clause-source_alone : goal.returns-clause-source_alone
returns-clause-source_alone c = source_alone OnOneThread

pub returns-clause-source_alone_with_workers : goal.returns-clause-source_alone_with_workers
returns-clause-source_alone_with_workers c = source_alone WithWorkers
