use Rattle.std.proofs.Common.{◌≡◌, drop}
use Rattle.std.specs.List.{list_all}
use Rattle.std.specs.FinMap as map
use Rattle.sn_record.proofs.fits.are_within.Given as goal

abbrev pub invariant-loop-entry : goal.invariant-loop-entry
invariant-loop-entry g l =
    list_all (λ e. map.contains_key l.of e.0) (map.entries l.set) ≡ list_all (λ e. map.contains_key l.of e.0) (drop l.entry-index l.entry-items)
