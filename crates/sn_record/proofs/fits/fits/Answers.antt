use Rattle.std.proofs.Common.{◌∙◌, sym, ap}
use Rattle.std.specs.List.{list_all}
use Rattle.sn_record.specs.Fits.{is_bound}
use Rattle.sn_record.proofs.Maps.{is_sorted-same}
use Rattle.sn_record.proofs.Fitting.{entries_fit, first_decides, second_decides}
use Rattle.sn_record.proofs.fits.fits.Goals as goal

-- src/fits.rt:44:28
pub are_bound-requires : goal.are_bound-requires
are_bound-requires g c = is_sorted-same c.args.of.now _ c.as_slice.ensures

-- src/fits.rt:41:1
pub returns-then-are_within : goal.returns-then-are_within
returns-then-are_within g c =
    second_decides _ _ c.are_bound.result _ (entries_fit c.args.set.now c.args.of.now) (sym c.are_within.ensures ∙ c.if-are_within.true)
    (c.are_bound.ensures ∙ ap (list_all (λ e. is_bound c.args.set.now e.0)) c.as_slice.ensures)

-- src/fits.rt:41:1
pub returns-else-are_within : goal.returns-else-are_within
returns-else-are_within g c =
    first_decides _ _ c.are_within.result _ (entries_fit c.args.set.now c.args.of.now) (sym c.are_within.ensures ∙ c.if-are_within.false) c.are_within.ensures
