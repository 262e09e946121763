use Rattle.std.proofs.Common.{sym, subst}
use Rattle.sn_streams.specs.Trees.{Allows}
use Rattle.sn_net.specs.Dispatchers.{Network}
use Rattle.sn_model.proofs.Forms.{tree-Serial}
use Rattle.sn_model.proofs.laws.parts_in_series.Goals as goal

pub returns : goal.returns
returns c = λ s left right xss yss.
    let P : Network → Type 0 = λ t. Allows t xss yss in
    (subst P (tree-Serial s left right), subst P (sym (tree-Serial s left right)))
