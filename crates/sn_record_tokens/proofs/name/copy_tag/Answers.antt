use Rattle.std.proofs.Common.{rules}
use Rattle.std.specs.Str.{IsUtf8}
use Rattle.sn_record_tokens.proofs.Names.{tag_up_to, tag_fits, tag_copied, no_tag_open, no_tag_name, no_tag_close}
use Rattle.sn_record_tokens.proofs.name.copy_tag.Goals as goal

pub returns-in_default : goal.returns-in_default
returns-in_default c = no_tag_open _ c.in_default.ensures

pub returns-in_default-read_name : goal.returns-in_default-read_name
returns-in_default-read_name c = no_tag_name _ _ _ c.in-Some.ensures c.after_mark.ensures c.in_default-read_name.ensures

pub returns-in_default-after : goal.returns-in_default-after
returns-in_default-after c = no_tag_close _ _ _ c.in-Some.ensures (tag_up_to _ _ _ _ c.after_mark.ensures c.in-Some-read_name.ensures) c.in_default-after.ensures

pub slice_bounds-from_slice-count : goal.slice_bounds-from_slice-count
slice_bounds-from_slice-count c =
    let inside_utf8 : IsUtf8 c.in-Some.inside.now = search rules in
    let behind_utf8 : IsUtf8 c.in-Some-read_name.behind.now = search rules in
    tag_fits _ _ inside_utf8 behind_utf8 (tag_up_to _ _ _ _ c.after_mark.ensures c.in-Some-read_name.ensures)

pub returns : goal.returns
returns c =
    let inside_utf8 : IsUtf8 c.in-Some.inside.now = search rules in
    let behind_utf8 : IsUtf8 c.in-Some-read_name.behind.now = search rules in
    tag_copied _ _ _ _ _ inside_utf8 behind_utf8 c.in-Some.ensures (tag_up_to _ _ _ _ c.after_mark.ensures c.in-Some-read_name.ensures) c.in-Some-after.ensures (rw c.as_bytes.ensures.value at c.in_ok-bytes.ensures)
