-- What becomes of the scopes that are open.
use Rattle.std.specs.Prelude.{ℕ, List, [], ◌∷◌}
use Rattle.sn_ast.specs.Kept.{Kept, kept}
use Rattle.sn_ast.specs.Rows.{append, with_part}
use Rattle.sn_ast.specs.declared.declaration.Decl.{Decl}
use Rattle.sn_parser.specs.declared.machine.Around.{Around}
use Rattle.sn_parser.specs.declared.machine.Mode.TheVariants.{Want}
use Rattle.sn_parser.specs.declared.machine.OpenNet.{OpenNet}
use Rattle.sn_parser.specs.declared.machine.Parser.{Parser}

-- outermost declarations, each with the place of its name
abbrev pub Decls : Type 0
Decls = List (ℕ × Kept Decl)

abbrev pub with_inner : OpenNet → Kept Decl → OpenNet
with_inner net d = record { name = net.name; sig = net.sig; decls = with_part kept net.decls d }

-- A finished declaration joins those of the innermost open net, or else the outermost ones.
abbrev pub done_with : Decls → List OpenNet → ℕ → Kept Decl → Decls
done_with done [] at d = append done (at, d)
done_with done (net ∷ nets) at d = done

abbrev pub nets_with : List OpenNet → Kept Decl → List OpenNet
nets_with [] d = []
nets_with (net ∷ nets) d = with_inner net d ∷ nets

-- where a declaration or the end of the innermost scope comes next
abbrev pub wanting : Decls → List OpenNet → Parser
wanting done nets = record { around = record { done = done; nets = nets }; mode = Want }

abbrev pub after_declaration : Around → ℕ → Kept Decl → Parser
after_declaration a at d = wanting (done_with a.done a.nets at d) (nets_with a.nets d)

abbrev pub with_inner_scope : Around → OpenNet → Parser
with_inner_scope a net = wanting a.done (net ∷ a.nets)
