use Rattle.std.proofs.Common.{◌≡◌, None, sym, ap, ◌∙◌}
use Rattle.sn_flow.specs.Spots.{bad_spots, least}
use Rattle.sn_flow.proofs.claims.declared.Goals as goal

pub returns-in-Some : goal.returns-in-Some
returns-in-Some c =
    let same : bad_spots c.args.claim.now.place c.as_slice-output.result.now c.args.rows.now c.as_slice.result.now ≡ bad_spots c.args.claim.now.place c.args.claim.now.output c.args.rows.now c.args.claim.now.input
    = λ k. bad_spots c.args.claim.now.place (c.as_slice-output.ensures k) c.args.rows.now (c.as_slice.ensures k) in
    sym (ap (least None) same) ∙ sym c.in_ok-bad_spot.ensures ∙ c.in-Some.is

pub returns-in-None : goal.returns-in-None
returns-in-None c =
    let same : bad_spots c.args.claim.now.place c.as_slice-output.result.now c.args.rows.now c.as_slice.result.now ≡ bad_spots c.args.claim.now.place c.args.claim.now.output c.args.rows.now c.args.claim.now.input
    = λ k. bad_spots c.args.claim.now.place (c.as_slice-output.ensures k) c.args.rows.now (c.as_slice.ensures k) in
    sym (ap (least None) same) ∙ sym c.in_ok-bad_spot.ensures ∙ c.in-None.is
