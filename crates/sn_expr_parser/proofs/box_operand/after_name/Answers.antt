use Rattle.std.proofs.Common.{◌≡◌, true, false}
use Rattle.sn_ast.specs.Kept.{kept}
use Rattle.sn_ast.specs.declared.box_expr.BForm.TheVariants as box_form
use Rattle.sn_expr_parser.specs.BoxResidual.{is_open_paren, Named, Down, plain_name}
use Rattle.sn_expr_parser.proofs.BoxSteps.{called_from, called_to, plain_from, through}
use Rattle.sn_expr_parser.proofs.box_operand.after_name.Goals as goal

pub returns-then-is_open_paren : goal.returns-then-is_open_paren
returns-then-is_open_paren c = let e : is_open_paren c.args.token ≡ true = cc in λ w t. (called_from e, called_to c.args.token e)

pub returns : goal.returns
returns c =
    let a = c.args in
    let e : is_open_paren a.token ≡ false = cc in
    through (Named a.frames a.level a.name) (Down a.frames a.level (kept.leaf (record { at = a.name.at; form = box_form.Name a.name }))) a.token c.go_on.result (λ w t. (plain_from e, λ d. plain_name d)) (rw c.leaf-part.ensures at c.go_on.ensures)
