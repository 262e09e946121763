use Rattle.std.proofs.Common.{◌≡◌, [], drop}
use Rattle.sn_box_scope.specs.Boxes.{names_apart}
use Rattle.sn_box_scope.proofs.boxes.require_params.Given as goal

abbrev pub invariant-loop-param : goal.invariant-loop-param
invariant-loop-param l = names_apart l.seen (drop l.param-index l.params) l.refusals ≡ names_apart [] l.params l.initial.refusals
