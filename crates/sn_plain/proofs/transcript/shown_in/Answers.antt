use Rattle.std.proofs.Common.{[]}
use Rattle.sn_plain.proofs.transcript.shown_in.Goals as goal

pub returns : goal.returns
returns c = c.in_ok-add_all.ensures [] (record { text = c.in_room-shown.ensures.text; fault = c.in_room-shown.ensures.fault })
