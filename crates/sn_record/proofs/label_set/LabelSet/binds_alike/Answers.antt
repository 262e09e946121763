use Rattle.std.proofs.Common.{◌∙◌, sym, ap}
use Rattle.std.specs.List.{list_all}
use Rattle.sn_record.specs.Fits.{is_bound}
use Rattle.sn_record.proofs.Maps.{is_sorted-same}
use Rattle.sn_record.proofs.Fitting.{entries_bind_alike, first_decides, second_decides}
use Rattle.sn_record.proofs.label_set.LabelSet.binds_alike.Goals as goal

-- src/label_set.rt:112:9
pub are_bound-requires : goal.are_bound-requires
are_bound-requires c = is_sorted-same c.args.other.now _ c.as_slice.ensures

-- src/label_set.rt:112:46
pub are_bound-requires-then-are_bound : goal.are_bound-requires-then-are_bound
are_bound-requires-then-are_bound c = is_sorted-same c.args.self.now _ c.as_slice-then-are_bound.ensures

-- src/label_set.rt:109:5
pub returns-then-are_bound : goal.returns-then-are_bound
returns-then-are_bound c =
    second_decides _ _ c.are_bound-then-are_bound.result _ (entries_bind_alike c.args.self.now c.args.other.now)
    (sym (c.are_bound.ensures ∙ ap (list_all (λ e. is_bound c.args.self.now e.0)) c.as_slice.ensures) ∙ c.if-are_bound.true)
    (c.are_bound-then-are_bound.ensures ∙ ap (list_all (λ e. is_bound c.args.other.now e.0)) c.as_slice-then-are_bound.ensures)

-- src/label_set.rt:109:5
pub returns-else-are_bound : goal.returns-else-are_bound
returns-else-are_bound c =
    let is = c.are_bound.ensures ∙ ap (list_all (λ e. is_bound c.args.self.now e.0)) c.as_slice.ensures in
    first_decides _ _ c.are_bound.result _ (entries_bind_alike c.args.self.now c.args.other.now) (sym is ∙ c.if-are_bound.false) is
