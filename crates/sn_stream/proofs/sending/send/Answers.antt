use Rattle.std.proofs.Common.{◌∙◌, ap}
use Rattle.sn_stream.specs.Ends.{passed}
use Rattle.sn_stream.proofs.Numbered.{may_send, sent_more}
use Rattle.sn_stream.proofs.sending.send.Goals as goal

pub put-requires : goal.put-requires
put-requires g c = record {
  next = may_send _ c.args.items.now c.args.number _ _ c.requires.within c.requires.history c.requires.sent c.in_ok-next.ensures;
}

pub returns-clause-sent : goal.returns-clause-sent
returns-clause-sent g c =
    ap (λ end. passed end.moved) c.in-Ok.ensures.put ∙ sent_more _ _ _ _ c.requires.within c.requires.sent c.in_ok-next.ensures
