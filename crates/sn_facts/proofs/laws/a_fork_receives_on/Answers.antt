use Rattle.sn_facts.proofs.Forking.{decides-begin, decides-on, serves-on, sends-on}
use Rattle.sn_facts.proofs.laws.a_fork_receives_on.Goals as goal

pub returns-clause-begins : goal.returns-clause-begins
returns-clause-begins g c = decides-begin

pub returns-clause-decides : goal.returns-clause-decides
returns-clause-decides g c = decides-on

pub returns-clause-serves : goal.returns-clause-serves
returns-clause-serves g c = serves-on

pub returns-clause-sends : goal.returns-clause-sends
returns-clause-sends g c = sends-on
