use Rattle.std.proofs.Common.{◌≡◌, ◌++◌, map, take}
use Rattle.std.specs.Prelude.{codes}
use Rattle.sn_print.specs.Declarations.{decl_text}
use Rattle.sn_print.specs.Words.{joined}
use Rattle.sn_print.proofs.program.+decl_text.Given as goal

abbrev pub invariant-push_inner-loop-i : goal.invariant-push_inner-loop-i
invariant-push_inner-loop-i l = l.text ≡ l.initial.text ++ joined (codes " ") (map decl_text (take l.i l.decls))
