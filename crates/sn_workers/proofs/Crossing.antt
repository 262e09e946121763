-- What the threads of a run share may be shared.
use denote.RattleType.{RattleType}
use denote.Ref.{NamedLft}
use denote.Param.Send.{IsSync, sendable}
use Rattle.std.proofs.Crossing.{crosses}
use Rattle.sn_model.proofs.Crossing.{run_send, run_sync}
use Rattle.sn_workers.specs.contracts.shared.Shared as shared

pub shared_sync : (κ : NamedLft) (G : RattleType) → IsSync G → IsSync (shared.the_row κ G)
shared_sync κ G gate = search (sendable, crosses, run_send, run_sync) depth 60 fits 100000
