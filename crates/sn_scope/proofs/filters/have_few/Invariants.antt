use Rattle.std.proofs.Common.{◌≡◌, drop, length}
use Rattle.std.specs.List.{list_all}
use Rattle.sn_scope.specs.Filters.{is_between}
use Rattle.sn_scope.proofs.filters.have_few.Given as goal

abbrev pub invariant-loop-arm : goal.invariant-loop-arm
invariant-loop-arm l =
    list_all (λ arm. is_between 1 16 (length arm.templates)) (drop l.arm-index l.arms) ≡ list_all (λ arm. is_between 1 16 (length arm.templates)) l.arms
