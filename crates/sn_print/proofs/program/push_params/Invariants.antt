use Rattle.std.proofs.Common.{◌≡◌, ◌++◌, map, take}
use Rattle.std.specs.Prelude.{codes}
use Rattle.sn_ast.specs.declared.label.Ident.{Ident}
use Rattle.sn_print.specs.Words.{joined}
use Rattle.sn_print.proofs.program.push_params.Given as goal

abbrev pub invariant-loop-i : goal.invariant-loop-i
invariant-loop-i l = l.text ≡ l.initial.text ++ joined (codes ",") (map (λ (param : Ident). param.text) (take l.i l.params))
