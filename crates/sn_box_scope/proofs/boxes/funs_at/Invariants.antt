use Rattle.std.proofs.Common.{◌≡◌, take, drop, map, fold}
use Rattle.sn_box_scope.specs.Boxes.{fun_at, fun_required}
use Rattle.sn_box_scope.proofs.boxes.funs_at.Given as goal

abbrev pub invariant-loop-fun : goal.invariant-loop-fun
invariant-loop-fun l =
    (l.made ≡ map (fun_at l.scope) (take l.fun-index l.funs))
    × (fold (fun_required l.scope) l.refusals (drop l.fun-index l.funs) ≡ fold (fun_required l.scope) l.initial.refusals l.funs)
