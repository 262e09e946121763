use Rattle.std.proofs.Common.{◌≡◌, ◌++◌, take}
use Rattle.std.specs.Prelude.{codes}
use Rattle.std.specs.List.{flat_map}
use Rattle.sn_print.specs.Declarations.{decl_text}
use Rattle.sn_print.proofs.program.print.Given as goal

abbrev pub invariant-loop-decl : goal.invariant-loop-decl
invariant-loop-decl l = l.text ≡ flat_map (λ d. decl_text d ++ codes "\n") (take l.decl-index l.decl-items)
