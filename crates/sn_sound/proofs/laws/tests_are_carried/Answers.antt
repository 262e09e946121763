use Rattle.sn_streams.specs.Trees.{Allows}
use Rattle.sn_sound.specs.Carried.{Passes}
use Rattle.sn_sound.proofs.Carried.{fork_carries, kept_is_carried, series_carries}
use Rattle.sn_sound.proofs.laws.tests_are_carried.Goals as goal

pub returns-clause-whole : goal.returns-clause-whole
returns-clause-whole g c = λ t test keeps. kept_is_carried test t keeps

pub returns-clause-series : goal.returns-clause-series
returns-clause-series g c = λ a b before between behind first second. series_carries (Allows a) (Allows b) (Passes before) (Passes between) (Passes behind) first second

pub returns-clause-fork : goal.returns-clause-fork
returns-clause-fork g c = λ merge r child before behind inside sent carries.
    fork_carries r (λ k. Allows (child k)) (Passes before) (Passes behind) (λ k. Passes (inside k)) sent carries merge
