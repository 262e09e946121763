-- A fork's turn until it lacks a child.
use Rattle.std.specs.Prelude.{◌<◌, length, Option, None, Some}
use Rattle.sn_component.specs.declared.moved.Moved.{Moved}
use Rattle.sn_fork.specs.Progress.{WentForking}
use Rattle.sn_fork.specs.Seen.{Forking}

-- a child was made; or it went so
abbrev pub RoundOf : Forking → Forking → Option Moved → Type 0
RoundOf old new None = length old.children < length new.children
RoundOf old new (Some m) = WentForking old new m
