use Rattle.std.proofs.Common.{◌++◌, ◌∷◌, [], ◌∙◌, take, sym, ap, arith}
use Rattle.std.proofs.lemmas.List.{take_all, take_more}
use Rattle.std.proofs.lemmas.Option.{get_or_from_slice_get, slice_get_within}
use Rattle.std.specs.FinMap as labels
use Rattle.sn_net.proofs.Orders.{length-keys}
use Rattle.sn_flow.proofs.indexed.key_of.Goals as goal

pub loop-i-preserved : goal.loop-i-preserved
loop-i-preserved c =
    let keys = labels.keys c.args.variant.now in
    c.in_ok-push.ensures.items
    ∙ ap (λ ks. ks ++ c.at.result ∷ []) c.loop-i.invariant
    ∙ sym (take_more keys c.loop-i.i c.at.result (slice_get_within keys c.loop-i.i c.at.result c.at.ensures)
    ∙ ap (λ l. take c.loop-i.i keys ++ l ∷ []) (get_or_from_slice_get keys c.loop-i.i c.at.result c.at.result c.at.ensures))

pub returns : goal.returns
returns c = c.loop-i.invariant ∙ take_all c.loop-i.i (labels.keys c.args.variant.now) (omega (arith, length-keys c.args.variant.now, c.len-i-end.ensures, c.loop-i-test.false))
