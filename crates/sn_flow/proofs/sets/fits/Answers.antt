use Rattle.sn_types.proofs.Subtypes.{same_test}
use Rattle.sn_flow.proofs.sets.fits.Goals as goal

pub returns : goal.returns
returns c = same_test c.fits.result c.args.small.now c.args.large.now c.fits.ensures
