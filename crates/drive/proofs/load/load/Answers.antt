use Rattle.drive.proofs.load.load.Goals as goal

pub new-run-requires-clause-formed : goal.new-run-requires-clause-formed
new-run-requires-clause-formed c = rw (c.into_inner-boxes.ensures, c.into_inner-names.ensures) c.in_ok-program.ensures.loaded.formed

pub new-run-requires-clause-typed : goal.new-run-requires-clause-typed
new-run-requires-clause-typed c =
    rw c.into_inner-boxes.ensures (c.in_ok-items.ensures.typed c.into_inner-names.result.boxes c.into_inner-names.result.claim.net
    (c.in_ok-records.ensures.typed c.into_inner-names.result.boxes (rw c.into_inner-names.ensures c.in_ok-program.ensures.loaded.accepted)))
