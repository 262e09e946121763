use Rattle.sn_flow.proofs.Taking.{same_binding_test}
use Rattle.sn_flow.proofs.sets.bind_alike.Goals as goal

pub returns : goal.returns
returns c = same_binding_test c.binds_alike.result c.args.left.now c.args.right.now c.binds_alike.ensures
