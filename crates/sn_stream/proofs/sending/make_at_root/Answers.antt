use Rattle.sn_stream.proofs.sending.make_at_root.Goals as goal

pub make-requires-clause-leads : goal.make-requires-clause-leads
make-requires-clause-leads c = c.root.ensures.leads _ _
