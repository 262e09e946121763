-- What is made and noted of a box declaration, over a scope that is seen as the declaration.
use Rattle.std.proofs.Common.{◌≡◌, ℕ, List, [], map as each, fold, Option, None, sym, ap, ◌∙◌, subst}
use Rattle.sn_ast.specs.declared.declaration.BoxDecl.{BoxDecl}
use Rattle.sn_net.specs.Boxes.{IsClosedBox}
use Rattle.sn_net.specs.declared.expr.BoxProgram.{BoxProgram}
use Rattle.sn_net.specs.declared.expr.Expr.{Expr}
use Rattle.sn_net.specs.declared.expr.Fun.{Fun}
use Rattle.sn_record.specs.declared.label.Label.{Label}
use Rattle.sn_label_scope.specs.declared.refusal.Refusal.{Refusal}
use Rattle.sn_box_scope.specs.Variables.{label_variable}
use Rattle.sn_box_scope.specs.Expressions.{expr_at, expr_required}
use Rattle.sn_box_scope.specs.Boxes.{box_at, box_required, fun_at, fun_required, names_apart, tuple_at, tuple_required}
use Rattle.sn_box_scope.proofs.ClosedBoxes.{box_tells}

-- the program, from its parts
pub program_made : (names : List (List ℕ)) (declaration scope : BoxDecl) (input : List Label) (outputs : List (List Label)) (funs : List Fun) (body : Expr) → scope ≡ declaration
    → input ≡ tuple_at names declaration.input → outputs ≡ each (tuple_at names) declaration.outputs → funs ≡ each (fun_at scope) declaration.funs
    → body ≡ expr_at scope declaration.body (each label_variable declaration.input.labels)
    → record { input = input; outputs = outputs; funs = funs; body = body } ≡ box_at names declaration
program_made names declaration scope input outputs funs body same first second third fourth =
    ap (λ x. record { input = x; outputs = outputs; funs = funs; body = body }) first
    ∙ ap (λ x. record { input = tuple_at names declaration.input; outputs = x; funs = funs; body = body }) second
    ∙ ap (λ x. record { input = tuple_at names declaration.input; outputs = each (tuple_at names) declaration.outputs; funs = x; body = body }) (third ∙ ap (λ s. each (fun_at s) declaration.funs) same)
    ∙ ap (λ x. record { input = tuple_at names declaration.input; outputs = each (tuple_at names) declaration.outputs; funs = each (fun_at declaration) declaration.funs; body = x })
    (fourth ∙ ap (λ s. expr_at s declaration.body (each label_variable declaration.input.labels)) same)

-- the refusal that is left, from step to step
pub program_noted : (names : List (List ℕ)) (declaration scope : BoxDecl) (before entered emitted named called after : Option Refusal) → scope ≡ declaration
    → entered ≡ tuple_required names before declaration.input → emitted ≡ fold (tuple_required names) entered declaration.outputs
    → named ≡ names_apart [] (each (λ fun. fun.name) declaration.funs) emitted → called ≡ fold (fun_required scope) named declaration.funs
    → after ≡ expr_required scope declaration.body (each label_variable declaration.input.labels) called → after ≡ box_required names declaration before
program_noted names declaration scope before entered emitted named called after same first second third fourth fifth =
    let check : Option Refusal → Option Refusal = expr_required declaration declaration.body (each label_variable declaration.input.labels) in
    let all : Option Refusal → Option Refusal = λ least. fold (fun_required declaration) least declaration.funs in
    let apart : Option Refusal → Option Refusal = names_apart [] (each (λ fun. fun.name) declaration.funs) in
    fifth ∙ ap (λ s. expr_required s declaration.body (each label_variable declaration.input.labels) called) same
    ∙ ap check (fourth ∙ ap (λ s. fold (fun_required s) named declaration.funs) same
    ∙ ap all (third ∙ ap apart (second ∙ ap (λ least. fold (tuple_required names) least declaration.outputs) first)))

-- where nothing was noted, what was made is closed
pub made_closed : (names : List (List ℕ)) (declaration : BoxDecl) (before after : Option Refusal) (program : BoxProgram) → program ≡ box_at names declaration → after ≡ box_required names declaration before → after ≡ None → IsClosedBox program
made_closed names declaration before after program made noted none = subst IsClosedBox (sym made) (box_tells names declaration before (sym noted ∙ none)).1
