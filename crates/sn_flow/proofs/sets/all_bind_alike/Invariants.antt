use Rattle.std.proofs.Common.{◌≡◌, drop}
use Rattle.std.specs.List.{list_all}
use Rattle.sn_record.specs.Fits.{bind_alike}
use Rattle.sn_flow.proofs.sets.all_bind_alike.Given as goal

abbrev pub invariant-loop-variant : goal.invariant-loop-variant
invariant-loop-variant l = list_all (λ w. bind_alike w l.set) (drop l.variant-index l.variants) ≡ list_all (λ w. bind_alike w l.set) l.variants
