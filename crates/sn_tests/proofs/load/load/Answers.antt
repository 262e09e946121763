use Rattle.sn_tests.proofs.load.load.Goals as goal

pub new-run-requires-clause-typed : goal.new-run-requires-clause-typed
new-run-requires-clause-typed c =
    c.in_ok-items.ensures.typed c.in_ok-names.field-0.boxes c.in_ok-names.field-0.claim.net (c.in_ok-records.ensures.typed c.in_ok-names.field-0.boxes c.in_ok-names.ensures.loaded.accepted)
