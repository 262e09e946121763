use Rattle.std.proofs.Common.{◌≡◌, [], take, drop, map}
use Rattle.sn_box_scope.specs.Boxes.{names_apart}
use Rattle.sn_box_scope.specs.Functions.{AreFirst}
use Rattle.sn_box_scope.proofs.scope.BoxScope.new.Given as goal

abbrev pub invariant-loop-place : goal.invariant-loop-place
invariant-loop-place l =
    (names_apart l.names (map (λ fun. fun.name) (drop l.place l.fun-items)) l.refusals ≡ names_apart [] (map (λ fun. fun.name) l.fun-items) l.initial.refusals)
    × AreFirst (map (λ fun. fun.name.text) (take l.place l.fun-items)) l.names l.places
