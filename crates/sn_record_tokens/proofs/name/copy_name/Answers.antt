use Rattle.std.proofs.Common.{rules}
use Rattle.std.specs.Str.{IsUtf8}
use Rattle.sn_record_tokens.proofs.Names.{name_fits, name_copied, no_name}
use Rattle.sn_record_tokens.proofs.name.copy_name.Goals as goal

pub returns-in_default : goal.returns-in_default
returns-in_default c = no_name _ c.in_default.ensures

pub slice_bounds-from_slice-count : goal.slice_bounds-from_slice-count
slice_bounds-from_slice-count c =
    let utf8 : IsUtf8 c.in-Some.rest.now = search rules in
    name_fits _ _ _ c.utf8.text utf8 c.in-Some.ensures

pub returns : goal.returns
returns c =
    let utf8 : IsUtf8 c.in-Some.rest.now = search rules in
    name_copied _ _ _ _ c.utf8.text utf8 c.in-Some.ensures (rw c.as_bytes.ensures.value at c.in_ok-bytes.ensures)
