-- What arguments are given to, and what closes them.
use Rattle.std.specs.Prelude.{Bool, true, false, List}
use Rattle.sn_ast.specs.Kept.{Kept, kept}
use Rattle.sn_ast.specs.declared.box_expr.BExpr.{BExpr}
use Rattle.sn_ast.specs.declared.box_expr.BForm.TheVariants as box_form
use Rattle.sn_ast.specs.declared.terminal.Bracket.{Bracket}
use Rattle.sn_ast.specs.declared.terminal.Bracket.TheVariants.{Paren, Square}
use Rattle.sn_ast.specs.declared.terminal.Symbol.{Symbol}
use Rattle.sn_ast.specs.declared.terminal.Symbol.TheVariants.{CloseParen, CloseBracket}
use Rattle.sn_expr_parser.specs.declared.box_node.Head.{Head}
use Rattle.sn_expr_parser.specs.declared.box_node.Head.TheVariants.{Function, Variant, Elements}

abbrev pub node : Head → List BExpr → BExpr
node (Function name) es = record { at = name.at; form = box_form.Call name es }
node (Variant at number) es = record { at = at; form = box_form.Out number es }
node (Elements at) es = record { at = at; form = box_form.ListLit es }

abbrev pub with_row : Head → Kept (List BExpr) → Kept BExpr
with_row head es = kept.raise (kept.each (node head) es)

abbrev pub bracket_of : Head → Bracket
bracket_of (Function name) = Paren
bracket_of (Variant at number) = Paren
bracket_of (Elements at) = Square

abbrev pub is_close_paren : Symbol → Bool
is_close_paren CloseParen = true
is_close_paren symbol = false

abbrev pub is_close_bracket : Symbol → Bool
is_close_bracket CloseBracket = true
is_close_bracket symbol = false

-- whether the symbol is the bracket that closes the arguments
abbrev pub is_closed_by : Head → Symbol → Bool
is_closed_by (Function name) symbol = is_close_paren symbol
is_closed_by (Variant at number) symbol = is_close_paren symbol
is_closed_by (Elements at) symbol = is_close_bracket symbol
