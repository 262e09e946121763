use Rattle.sn_labels.proofs.Came.{came_known, came_labels, came_waiting_known}
use Rattle.sn_labels.proofs.laws.records_have_labels_of_the_run.Goals as goal

pub returns-clause-everywhere : goal.returns-clause-everywhere
returns-clause-everywhere c = λ run g came. came_labels run g came

pub returns-clause-called : goal.returns-clause-called
returns-clause-called c = λ run g i p call given came flies. came_known run g came i p call given flies

pub returns-clause-waiting : goal.returns-clause-waiting
returns-clause-waiting c = λ run g i p n r came there waits. came_waiting_known run g came i p n r there waits
