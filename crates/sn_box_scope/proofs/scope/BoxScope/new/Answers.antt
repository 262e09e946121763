use Rattle.sn_box_scope.proofs.FirstPlaces.{apart_next, first_next}
use Rattle.sn_box_scope.proofs.scope.BoxScope.new.Goals as goal

pub loop-place-preserved : goal.loop-place-preserved
loop-place-preserved c =
    let seen = c.in_ok-enter_function.ensures in (
      apart_next _ c.loop-place.place c.fun-item.result c.loop-place.names _ c.loop-place.refusals _ _ c.loop-place-test.true c.fun-item.is seen.names seen.refused c.loop-place.invariant.0,
      first_next _ c.loop-place.place c.fun-item.result c.loop-place.names _ c.loop-place.places _ c.loop-place-test.true c.fun-item.is c.loop-place.invariant.1 seen.names seen.places,
    )
