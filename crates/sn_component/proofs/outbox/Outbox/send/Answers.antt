use Rattle.std.proofs.Common.{List, sym, subst}
use mathlib.Core.List.{IsPrefix}
use Rattle.sn_net.specs.Item.{ModelItem}
use Rattle.sn_histories.specs.Entries.{Entry}
use Rattle.sn_net_histories.specs.Places.{history_at}
use Rattle.sn_stream.specs.Ends.{Made}
use Rattle.sn_component.proofs.Sending.{first_may_go}
use Rattle.sn_component.proofs.outbox.Outbox.send.Goals as goal

pub put_one-requires-clause-may : goal.put_one-requires-clause-may
put_one-requires-clause-may g c =
    first_may_go _ _ _ c.in-Some.x _ c.in-Some.ensures.items
    (subst (λ (u : List (Entry ModelItem) × Made). IsPrefix u.0 (history_at u.1.run u.1.place)) (λ i. (sym c.loop-x.invariant.given i, sym c.loop-x.invariant.made i)) c.requires.may)
