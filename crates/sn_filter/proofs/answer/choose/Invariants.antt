use Rattle.std.proofs.Common.{◌≡◌, drop}
use Rattle.sn_net.specs.Answer.{chosen, tag_number, used}
use Rattle.sn_filter.proofs.answer.choose.Given as goal

-- the arms that are left decide
abbrev pub invariant-loop-arm : goal.invariant-loop-arm
invariant-loop-arm l = chosen (tag_number l.r) (drop l.arm-index l.arm-items) l.f.templates ≡ used l.f l.r
