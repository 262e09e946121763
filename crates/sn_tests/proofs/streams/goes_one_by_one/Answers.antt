use Rattle.std.proofs.Common.{◌∙◌, ap}
use Rattle.sn_net_histories.specs.Places.{history_at}
use Rattle.sn_tests.proofs.streams.goes_one_by_one.Goals as goal

pub send-requires-3-clause-history : goal.send-requires-3-clause-history
send-requires-3-clause-history g c =
    ap (λ made. history_at made.run made.place) (c.send-2.ensures.made ∙ c.send.ensures.made) ∙ c.requires.history
