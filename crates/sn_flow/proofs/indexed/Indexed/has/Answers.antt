use Rattle.std.proofs.Common.{◌∙◌, is_some, ap}
use Rattle.sn_flow.proofs.Indexing.{copied_some, found_any}
use Rattle.sn_flow.proofs.indexed.Indexed.has.Goals as goal

pub returns : goal.returns
returns g c =
    c.is_some.ensures ∙ copied_some c.in_ok-found.found ∙ ap is_some c.in_ok-found.ensures ∙ found_any g.T.OfVariant.variant_of c.args.variant.now c.args.self.now
