-- Who listens may be shared between threads, and may go from one to another.
use denote.Param.Send.{IsSend, IsSync, sendable}
use Rattle.std.proofs.sync.OnceLock.TheSendSync as once
use Rattle.std.proofs.Crossing.{crosses}
use Rattle.sn_wakeup.specs.contracts.listener.Listener as listener

pub listener_send : IsSend listener.the_row
listener_send = search (sendable, crosses, once.the_send, once.the_sync) depth 60 fits 100000

pub listener_sync : IsSync listener.the_row
listener_sync = search (sendable, crosses, once.the_send, once.the_sync) depth 60 fits 100000
