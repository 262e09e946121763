use Rattle.std.proofs.Common.{arith, ◌<◌, ◌≡◌, ◌∙◌, length, sym, ap, Some}
use Rattle.std.proofs.lemmas.Option.{slice_get-get_or}
use Rattle.std.specs.FinMap as map
use Rattle.sn_record.proofs.Maps.{len-from_sorted, entries-from_sorted}
use Rattle.sn_record.proofs.label_map.LabelMap.at.Goals as goal

pub index-entry-requires : goal.index-entry-requires
index-entry-requires g c =
    let len : map.len c.args.self.now ≡ length c.self.inside.entries.items = rw (← c.self.view_is) (len-from_sorted _ c.self.invariant) in
    omega arith

pub returns : goal.returns
returns g c =
    let len : map.len c.args.self.now ≡ length c.self.inside.entries.items = rw (← c.self.view_is) (len-from_sorted _ c.self.invariant) in
    let within : c.args.i < length c.self.inside.entries.items = omega arith in
    rw (← c.self.view_is, entries-from_sorted _ c.self.invariant) (slice_get-get_or _ _ c.index-entry.result.now within ∙ sym (ap (λ x. Some x) c.index-entry.ensures))
