-- What a name stands for: a declaration that stands before, in the same scope or in one around it.
use Rattle.std.specs.Prelude.{ℕ, Bool, true, false, if◌then◌else◌, List, [], ◌∷◌, Option, Some, None, find, option_map, unwrap_or}
use Rattle.std.specs.List.{list_any}
use Rattle.std.specs.Option.{option_or}
use Rattle.std.specs.Str.{bytes_eq}
use Rattle.sn_ast.specs.declared.declaration.Decl.{Decl}
use Rattle.sn_ast.specs.declared.declaration.Decl.TheOpen.{Decl-F}
use Rattle.sn_ast.specs.declared.declaration.Decl.TheViews.{out-Decl, out-NetDecl}
use Rattle.sn_ast.specs.declared.declaration.NetDecl.{NetDecl}
use Rattle.sn_ast.specs.declared.label.Ident.{Ident}

-- the name that a declaration declares
abbrev pub name_in : Decl-F Decl NetDecl → Ident
name_in (Decl-F.BoxDecl declaration) = declaration.name
name_in (Decl-F.NetDecl net) = (out-NetDecl net).name
name_in (Decl-F.TypeDecl name parts) = name
name_in (Decl-F.SigDecl name sig) = name

abbrev pub name_of : Decl → Ident
name_of decl = name_in (out-Decl decl)

abbrev pub has_name : List ℕ → Decl → Bool
has_name name decl = bytes_eq (name_of decl).text name

-- one of the declarations has the name
abbrev pub is_declared : List Decl → List ℕ → Bool
is_declared decls name = list_any (has_name name) decls

-- the declarations of several scopes, one around the other, the innermost first
abbrev pub Around : Type 0
Around = List (List Decl)

-- the first declaration with the name, in the innermost scope that has one
abbrev pub stands_for : Around → List ℕ → Option Decl
stands_for [] name = None
stands_for (decls ∷ outer) name = option_or (find (has_name name) decls) (stands_for outer name)

-- the name stands for a declaration of the kind
abbrev pub stands_for_a : (Decl-F Decl NetDecl → Bool) → Around → List ℕ → Bool
stands_for_a kind around name = unwrap_or (option_map (λ decl. kind (out-Decl decl)) (stands_for around name)) false

abbrev pub is_type : Decl-F Decl NetDecl → Bool
is_type (Decl-F.BoxDecl declaration) = false
is_type (Decl-F.NetDecl net) = false
is_type (Decl-F.TypeDecl name parts) = true
is_type (Decl-F.SigDecl name sig) = false

abbrev pub is_signature : Decl-F Decl NetDecl → Bool
is_signature (Decl-F.BoxDecl declaration) = false
is_signature (Decl-F.NetDecl net) = false
is_signature (Decl-F.TypeDecl name parts) = false
is_signature (Decl-F.SigDecl name sig) = true

-- a net or a box may stand in a network
abbrev pub is_part : Decl-F Decl NetDecl → Bool
is_part (Decl-F.BoxDecl declaration) = true
is_part (Decl-F.NetDecl net) = true
is_part (Decl-F.TypeDecl name parts) = false
is_part (Decl-F.SigDecl name sig) = false

-- a declaration with those that stand before it, behind one more
abbrev pub further_on : Decl → Decl × List Decl → Decl × List Decl
further_on decl found = (found.0, decl ∷ found.1)

-- and with the scopes around it
abbrev pub within : Around → Decl × List Decl → Decl × Around
within outer found = (found.0, found.1 ∷ outer)

-- the first declaration with the name, and those that stand before it
abbrev pub first_named : List ℕ → List Decl → Option (Decl × List Decl)
first_named name [] = None
first_named name (decl ∷ decls) = if has_name name decl then Some (decl, []) else option_map (further_on decl) (first_named name decls)

-- the declaration that the name stands for, and those that stand before that one, in its scope and in those around it
abbrev pub found_at : Around → List ℕ → Option (Decl × Around)
found_at [] name = None
found_at (decls ∷ outer) name = option_or (option_map (within outer) (first_named name decls)) (found_at outer name)
