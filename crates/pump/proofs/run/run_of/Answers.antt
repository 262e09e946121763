use Rattle.std.proofs.Common.{[], refl, sym, subst}
use Rattle.std.proofs.lemmas.List.Elements.{All-nil}
use Rattle.sn_net.specs.declared.filter.Filter.{Filter}
use Rattle.sn_net.specs.declared.net.Net.TheOpen.{Net-F}
use Rattle.sn_net.specs.declared.net.Net.TheFolds.{every_made-Net}
use Rattle.sn_net.specs.declared.net.Net.TheVariants.{Filter as FilterLeaf, rolls-Filter}
use Rattle.sn_net.specs.Boxes.{IsClosedBox}
use Rattle.sn_net.specs.Filter.{IsClosed}
use Rattle.sn_net.specs.WellFormed.{FitsBoxes, IsSound, IsWellFormed}
use Rattle.pump.proofs.run.run_of.Goals as goal

-- a network of one filter is well formed where the filter is closed
single_fits : (f : Filter) → IsClosed f → FitsBoxes [] (FilterLeaf f)
single_fits f closed =
    ∣ subst (IsWellFormed []) (rolls-Filter f)
    (record { closed = All-nil IsClosedBox; sound = every_made-Net (IsSound []) (Net-F.Filter f) (Net-F.Filter f) refl closed }) ∣₁

pub new-requires-clause-formed : goal.new-requires-clause-formed
new-requires-clause-formed c = subst (λ boxes. FitsBoxes boxes (FilterLeaf c.args.filter)) (sym c.new-boxes.ensures) (single_fits c.args.filter c.requires)

pub new-requires-clause-typed : goal.new-requires-clause-typed
new-requires-clause-typed c = ∣ c.in_ok-items.ensures c.new-boxes.result (FilterLeaf c.args.filter) ∣₁
