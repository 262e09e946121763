-- A part at the front of some tokens.
use Rattle.std.specs.Prelude.{List}
use Rattle.sn_ast.specs.declared.terminal.Terminal.{Terminal}

-- what was read, and what follows it
pub record Read (A : Type 0) : Type 0 where
  pub part : A
  pub rest : List Terminal

abbrev pub read : {A : Type 0} → A → List Terminal → Read A
read a us = record { part = a; rest = us }
