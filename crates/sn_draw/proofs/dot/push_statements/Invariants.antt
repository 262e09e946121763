use Rattle.std.proofs.Common.{◌≡◌, ◌++◌, take}
use Rattle.std.specs.List.{flat_map}
use Rattle.sn_draw.specs.Dot.{statement_text}
use Rattle.sn_draw.proofs.dot.push_statements.Given as goal

abbrev pub invariant-loop-statement : goal.invariant-loop-statement
invariant-loop-statement l = l.text ≡ l.initial.text ++ flat_map statement_text (take l.statement-index l.statements)
