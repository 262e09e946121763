-- A job and its answer may go to other threads.
use denote.Param.Send.{IsSend}
use Rattle.sn_model.proofs.Crossing.{parts, run_send, run_sync}
use Rattle.sn_boxrun.specs.contracts.job.Done as done
use Rattle.sn_boxrun.specs.contracts.job.Job as job

pub job_send : IsSend job.the_row
job_send = search parts depth 60 fits 100000

pub done_send : IsSend done.the_row
done_send = search (run_send, run_sync, parts) depth 60 fits 100000
