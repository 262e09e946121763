-- The steps of a trail.
use Rattle.std.specs.Prelude.{List, [], ◌∷◌, ◌++◌, Option, None, Some}
use Rattle.std.specs.declared.sync.Arc.{Arc}
use Rattle.sn_model.specs.declared.step.Step.{Step}
use Rattle.sn_model.specs.declared.trail.Link.{Link}
use Rattle.std.specs.Global.{Global}

abbrev pub steps_of : Option (Arc Link Global) → List Step
steps_of None = []
steps_of (Some link) = link.value.above ++ link.value.step ∷ []
