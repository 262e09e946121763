use Rattle.std.proofs.Common.{◌≡◌, ◌++◌, take}
use Rattle.sn_explain.specs.Rendered.{margin}
use Rattle.sn_explain.proofs.render.push_margin.Given as goal

abbrev pub invariant-loop-digit : goal.invariant-loop-digit
invariant-loop-digit l = l.out ≡ l.initial.out ++ margin (take l._digit-index l.digits)
