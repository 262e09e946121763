use Rattle.std.proofs.Common.{◌≡◌, take}
use Rattle.sn_record.proofs.same.+is_same_value.Given as goal

-- the first values are the same
abbrev pub invariant-loop-i : goal.invariant-loop-i
invariant-loop-i l = take l.i l.value-items ≡ take l.i l.others
