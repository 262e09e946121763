use Rattle.std.proofs.Common.{rules}
use Rattle.sn_record_tokens.proofs.Texts.{no_bytes, bytes_more, text_closed, no_text_open, no_text_close}
use Rattle.sn_record_tokens.proofs.text.read_text.Goals as goal

pub returns-in_default : goal.returns-in_default
returns-in_default c = no_text_open _ c.in_default.ensures

pub loop-byte-init : goal.loop-byte-init
loop-byte-init c = (search rules, no_bytes _ _ _ c.in-Some.ensures c.new-bytes.ensures)

pub loop-byte-preserved : goal.loop-byte-preserved
loop-byte-preserved c = (search rules, bytes_more _ _ _ _ _ _ c.loop-byte.invariant.1 c.in-Some-split_content.ensures c.in-Ok.ensures.ok)

pub returns-in-Some-after : goal.returns-in-Some-after
returns-in-Some-after c = text_closed _ _ _ _ c.loop-byte.invariant.1 c.in-Some-after.ensures

pub returns : goal.returns
returns c = no_text_close _ _ _ c.loop-byte.invariant.1 c.in_default-split_content.ensures c.in-None.ensures
