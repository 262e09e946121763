use Rattle.std.proofs.Common.{◌≡◌, take}
use Rattle.sn_record.proofs.same.is_same_record.Given as goal

-- the first entries are the same
abbrev pub invariant-loop-i : goal.invariant-loop-i
invariant-loop-i l = take l.i l.entries ≡ take l.i l.others
