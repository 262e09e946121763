use Rattle.std.proofs.Common.{◌≡◌, take, map}
use Rattle.std.specs.List.{flat_map}
use Rattle.sn_typing.specs.Outline.{template_variant}
use Rattle.sn_flow.proofs.flows.template_sets.Given as goal

abbrev pub invariant-loop-arm : goal.invariant-loop-arm
invariant-loop-arm l = l.sets ≡ map template_variant (flat_map (λ arm. arm.templates) (take l.arm-index l.arm-items))
