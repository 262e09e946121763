-- A name, for tokens that show that something can be completed.
use Rattle.std.proofs.Common.{[], ◌∷◌}
use Rattle.sn_ast.specs.declared.label.Ident.{Ident}

-- the name `a`
abbrev pub a_name : Ident
a_name = record { text = 97 ∷ []; at = 0 }
