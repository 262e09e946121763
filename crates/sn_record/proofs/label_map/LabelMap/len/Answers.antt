use Rattle.std.proofs.Common.{◌≡◌, length, arith}
use Rattle.std.specs.FinMap as map
use Rattle.sn_record.proofs.Maps.{len-from_sorted}
use Rattle.sn_record.proofs.label_map.LabelMap.len.Goals as goal

pub returns : goal.returns
returns g c =
    let len : map.len c.args.self.now ≡ length c.self.inside.entries.items = rw (← c.self.view_is) (len-from_sorted _ c.self.invariant) in
    omega arith
