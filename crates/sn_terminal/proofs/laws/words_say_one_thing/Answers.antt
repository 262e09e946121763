use Rattle.sn_terminal.proofs.Bytes.{each_says}
use Rattle.sn_terminal.proofs.Saying.{says_once}
use Rattle.sn_terminal.proofs.laws.words_say_one_thing.Goals as goal

pub returns-clause-once : goal.returns-clause-once
returns-clause-once c = says_once

pub returns-clause-something : goal.returns-clause-something
returns-clause-something c = each_says
