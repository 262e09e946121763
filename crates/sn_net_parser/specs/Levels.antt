-- The nodes of a network as they are kept, and what a level becomes.
use Rattle.std.specs.Prelude.{ℕ, Bool, List, None}
use Rattle.sn_ast.specs.Kept.{Kept, kept}
use Rattle.sn_ast.specs.Networks.{branched, chained, choice_at, choice_with, serial_at, serial_of}
use Rattle.sn_ast.specs.declared.label.Ident.{Ident}
use Rattle.sn_ast.specs.declared.network.NetExpr.{NetExpr}
use Rattle.sn_ast.specs.declared.network.NetForm.TheVariants as net_form
use Rattle.sn_net_parser.specs.declared.level.Level.{Level}

abbrev pub name_node : Ident → Kept NetExpr
name_node name = kept.leaf (record { at = name.at; form = net_form.Name name })

abbrev pub identity_node : ℕ → Kept NetExpr
identity_node at = kept.leaf (record { at = at; form = net_form.Identity })

abbrev pub serial_node : ℕ → Kept (List NetExpr) → Kept NetExpr
serial_node at row = kept.raise (kept.each (serial_at at) row)

abbrev pub choice_node : Bool → ℕ → Kept (List NetExpr) → Kept NetExpr
choice_node det at row = kept.raise (kept.each (choice_at det at) row)

-- an empty level
abbrev pub fresh : Level
fresh = record { chain = None; choice = None }

-- the level after dots, and after a bar
abbrev pub after_dots : Level → ℕ → Kept NetExpr → Level
after_dots l at p = record { chain = chained kept l.chain at p; choice = l.choice }

abbrev pub after_bar : Level → Bool → ℕ → Kept NetExpr → Level
after_bar l det at p = record { chain = None; choice = branched kept l.choice det at (serial_of kept l.chain p) }

abbrev pub finished : Level → Kept NetExpr → Kept NetExpr
finished l p = choice_with kept l.choice (serial_of kept l.chain p)
