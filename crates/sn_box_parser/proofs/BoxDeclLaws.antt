-- What a parser that embeds the parser of boxes needs to know of its states.
use Rattle.std.proofs.Common.{ℕ, pos, List, [], ◌∷◌, Option, refl}
use Rattle.sn_ast.specs.BoxExprs.{BoxExpr, conjunction, disjunction, last_step, no_and, no_compare, no_or, no_product, no_sum, number, plain, product, sequence, sequence_of, sum}
use Rattle.sn_ast.specs.Declarations.{Body, RestOfBox, body, function_of, last_param, last_tuple, no_params, with_body, with_function}
use Rattle.sn_ast.specs.Kept.{Kept, kept}
use Rattle.sn_ast.specs.Labels.{no_labels, tuple}
use Rattle.sn_ast.specs.Rows.{append, no_parts, with_part}
use Rattle.sn_ast.specs.declared.box_expr.BExpr.{BExpr}
use Rattle.sn_ast.specs.declared.box_expr.BForm.TheVariants as box_form
use Rattle.sn_ast.specs.declared.declaration.Decl.{Decl}
use Rattle.sn_ast.specs.declared.declaration.FunDecl.{FunDecl}
use Rattle.sn_ast.specs.declared.label.Ident.{Ident}
use Rattle.sn_ast.specs.declared.label.Tuple.{Tuple}
use Rattle.sn_ast.specs.declared.terminal.Symbol.TheVariants.{OpenParen, CloseParen, OpenBrace, CloseBrace, Semicolon, Assign, Arrow}
use Rattle.sn_ast.specs.declared.terminal.Terminal.{Terminal}
use Rattle.sn_ast.specs.declared.terminal.Terminal.TheVariants.{Name, Number, Symbol}
use Rattle.sn_expr_parser.proofs.BoxLaws.{no_end as no_expr_end, completable as expr_completable}
use Rattle.sn_expr_parser.specs.BoxResidual.{ends, read as read_expr}
use Rattle.sn_expr_parser.specs.declared.boxes.BoxParser.{BoxParser}
use Rattle.sn_type_parser.proofs.LabelLaws.{no_end as no_labels_end, completable as labels_completable}
use Rattle.sn_type_parser.proofs.Witnesses.{a_name}
use Rattle.sn_type_parser.specs.Reads.{read as read_labels}
use Rattle.sn_type_parser.specs.declared.labels.LabelParser.{LabelParser}
use Rattle.sn_box_parser.specs.BoxDeclResidual.{AfterBody, AfterOutput, AfterParam, AfterPart, Completes, CompletesIn, InExpr, InTuple, NextArrow, NextAssign, NextBrace, NextFunction, NextOpening, NextParam, NextParams, NextTuple, Read, Through, WithOutput, after_body, after_output, after_param, after_part, next_arrow, next_assign, next_brace, next_function, next_opening, next_param, next_params, next_tuple, read, through, tuple_at}
use Rattle.sn_box_parser.specs.declared.machine.BoxDeclParser.{BoxDeclParser}
use Rattle.sn_box_parser.specs.declared.machine.InBody.TheVariants as in_body
use Rattle.sn_box_parser.specs.declared.machine.InOutputs.TheVariants as in_outputs
use Rattle.sn_box_parser.specs.declared.machine.Mode.{Mode}
use Rattle.sn_box_parser.specs.declared.machine.Mode.TheVariants as mode
use Rattle.sn_box_parser.specs.declared.parts.Opened.{Opened}
use Rattle.sn_box_parser.proofs.Steps.{opening_to}

-- No box is complete without a further token.
no_end_rest : {name : Ident} {d : Kept Decl} {us : List Terminal} → RestOfBox kept name [] d us → ⊥
no_end_rest r = elim r [ ]

no_end_tuple : {after : Tuple → List Terminal → Read → Type 0} {t : Read} → NextTuple after [] t → ⊥
no_end_tuple (next_tuple u a) = elim u [ ]

no_end_through : {Q : Type 0} {reads : List Terminal → Q → Type 0} {after : Q → Read → Type 0} {t : Read} →
    ((q : Q) → reads [] q → ⊥) → Through reads after [] t → ⊥
no_end_through n (through q c a) = n q c

no_end_arrow : {name : Ident} {input : Tuple} {t : Read} → NextArrow name input [] t → ⊥
no_end_arrow a = elim a [ ]

no_end_output : {name : Ident} {input : Tuple} {so_far : List Tuple} {t : Read} → AfterOutput name input so_far [] t → ⊥
no_end_output (after_output m b) = elim m [ ]

no_end_brace : {name : Ident} {input : Tuple} {outputs : List Tuple} {t : Read} → NextBrace name input outputs [] t → ⊥
no_end_brace b = elim b [ ]

no_end_body : {name : Ident} {input : Tuple} {outputs : List Tuple} {funs : Kept (List FunDecl)} {d : Kept Decl} {us : List Terminal} →
    Body kept name input outputs funs [] d us → ⊥
no_end_body (body s) = elim s [ ]
no_end_body (with_function f r) = elim f [ ]

no_end_function : {b : Opened} {t : Read} → NextFunction b [] t → ⊥
no_end_function f = elim f [ ]

no_end_opening : {b : Opened} {name : Ident} {t : Read} → NextOpening b name [] t → ⊥
no_end_opening o = elim o [ ]

no_end_params : {b : Opened} {name : Ident} {t : Read} → NextParams b name [] t → ⊥
no_end_params (next_params p a) = elim p [ ]

no_end_param : {b : Opened} {name : Ident} {so_far : List Ident} {t : Read} → NextParam b name so_far [] t → ⊥
no_end_param p = elim p [ ]

no_end_after_param : {b : Opened} {name : Ident} {so_far : List Ident} {t : Read} → AfterParam b name so_far [] t → ⊥
no_end_after_param (after_param m a) = elim m [ ]

no_end_assign : {b : Opened} {name : Ident} {all : List Ident} {t : Read} → NextAssign b name all [] t → ⊥
no_end_assign a = elim a [ ]

no_end_in : (m : Mode) (t : Read) → CompletesIn m [] t → ⊥
no_end_in (mode.Opening name) t h = no_end_rest h
no_end_in (mode.Input name) t h = no_end_tuple h
no_end_in (mode.InInput name opening labels) t h = no_end_through (no_labels_end labels) h
no_end_in (mode.Arrow name input) t h = no_end_arrow h
no_end_in (mode.Outputs head in_outputs.Output) t h = no_end_tuple h
no_end_in (mode.Outputs head (in_outputs.InOutput opening labels)) t h = no_end_through (no_labels_end labels) h
no_end_in (mode.Outputs head in_outputs.AfterOutput) t h = no_end_output h
no_end_in (mode.Outputs head in_outputs.Brace) t h = no_end_brace h
no_end_in (mode.Inside b in_body.Body) t h = no_end_body h
no_end_in (mode.Inside b in_body.FunctionName) t h = no_end_function h
no_end_in (mode.Inside b (in_body.FunctionOpening name)) t h = no_end_opening h
no_end_in (mode.Inside b (in_body.FirstParam name)) t h = no_end_params h
no_end_in (mode.Inside b (in_body.Param f)) t h = no_end_param h
no_end_in (mode.Inside b (in_body.AfterParam f)) t h = no_end_after_param h
no_end_in (mode.Inside b (in_body.Assign f)) t h = no_end_assign h
no_end_in (mode.Inside b (in_body.InFunction f part)) t h = no_end_through (no_expr_end part) h
no_end_in (mode.Inside b (in_body.InPart parts part)) t h = no_end_through (no_expr_end part) h

pub no_end : (s : BoxDeclParser) (t : Read) → Completes s [] t → ⊥
no_end s t h = no_end_in s.mode t h

-- Each state can be completed, whatever follows: by the least that is still needed.
abbrev Goes : (List Terminal → Read → Type 0) → List Terminal → List Terminal → Type 0
Goes before w us = (d : Kept Decl) × before w (read d us)

abbrev Completable : (List Terminal → Read → Type 0) → List Terminal → Type 0
Completable before us = (w : List Terminal) × (d : Kept Decl) × before w (read d us)

abbrev zero_at : ℕ → Terminal
zero_at at = Number (pos 0) at

abbrev zero : Kept BExpr
zero = kept.leaf (record { at = 0; form = box_form.Number (pos 0) })

zero_read : (us : List Terminal) → BoxExpr kept (zero_at 0 ∷ us) zero us
zero_read us = plain (disjunction (conjunction (no_compare (sum (product number no_product) no_sum)) no_and) no_or)

abbrev tuple_then : List Terminal → List Terminal
tuple_then us = Symbol OpenParen 0 ∷ Symbol CloseParen 0 ∷ us

abbrev body_then : List Terminal → List Terminal
body_then us = zero_at 0 ∷ Symbol CloseBrace 0 ∷ us

abbrev outputs_then : List Terminal → List Terminal
outputs_then us = Symbol CloseParen 0 ∷ Symbol OpenBrace 0 ∷ body_then us

abbrev arrow_then : List Terminal → List Terminal
arrow_then us = Symbol Arrow 0 ∷ tuple_then (outputs_then us)

abbrev assign_then : List Terminal → List Terminal
assign_then us = Symbol Assign 0 ∷ zero_at 0 ∷ Symbol Semicolon 0 ∷ body_then us

bodied : (name : Ident) (input : Tuple) (outputs : List Tuple) (funs : Kept (List FunDecl)) (us : List Terminal) →
    (d : Kept Decl) × Body kept name input outputs funs (body_then us) d us
bodied name input outputs funs us =
    (with_body kept name input outputs funs zero, body (sequence (zero_read (Symbol CloseBrace 0 ∷ us)) last_step))

braced : (name : Ident) (input : Tuple) (outputs : List Tuple) (us : List Terminal) →
    Goes (NextBrace name input outputs) (Symbol OpenBrace 0 ∷ body_then us) us
braced name input outputs us = let r = bodied name input outputs (no_parts kept) us in (r.0, next_brace r.1)

closed : (name : Ident) (input : Tuple) (outputs : List Tuple) (us : List Terminal) → Goes (AfterOutput name input outputs) (outputs_then us) us
closed name input outputs us = let r = braced name input outputs us in (r.0, after_output last_tuple r.1)

tupled : (after : Tuple → List Terminal → Read → Type 0) (w us : List Terminal) → Goes (after (tuple_at 0 [])) w us → Goes (NextTuple after) (tuple_then w) us
tupled after w us r = (r.0, next_tuple (tuple (no_labels refl)) r.1)

output : (name : Ident) (input : Tuple) (so_far : List Tuple) (us : List Terminal) →
    Goes (NextTuple (WithOutput name input so_far)) (tuple_then (outputs_then us)) us
output name input so_far us =
    tupled (WithOutput name input so_far) (outputs_then us) us (closed name input (append so_far (tuple_at 0 [])) us)

arrowed : (name : Ident) (input : Tuple) (us : List Terminal) → Goes (NextArrow name input) (arrow_then us) us
arrowed name input us = let r = output name input [] us in (r.0, next_arrow r.1)

first_input : (name : Ident) (us : List Terminal) → Goes (NextTuple (NextArrow name)) (tuple_then (arrow_then us)) us
first_input name us = tupled (NextArrow name) (arrow_then us) us (arrowed name (tuple_at 0 []) us)

in_tuple : (after : Tuple → List Terminal → Read → Type 0) (opening : ℕ) (s : LabelParser) (w us : List Terminal) → ((u : Tuple) → Goes (after u) w us) →
    Completable (InTuple after opening s) us
in_tuple after opening s w us h =
    let l = labels_completable s w in
    let r = h (tuple_at opening l.1) in
    (l.0, r.0, through (read_labels l.1 w) l.2 r.1)

in_expr : (after : Kept BExpr → List Terminal → Read → Type 0) (s : BoxParser) (w us : List Terminal) → ends w → ((e : Kept BExpr) → Goes (after e) w us) →
    Completable (InExpr after s) us
in_expr after s w us k h =
    let l = expr_completable s w k in
    let r = h l.1 in
    (l.0, r.0, through (read_expr l.1 w) l.2 r.1)

function_ended : (b : Opened) (name : Ident) (all : List Ident) (us : List Terminal) (e : Kept BExpr) →
    Goes (AfterBody b name all e) (Symbol Semicolon 0 ∷ body_then us) us
function_ended b name all us e =
    let r = bodied b.head.name b.head.input b.head.outputs (with_part kept b.functions (kept.each (function_of name all) e)) us in
    (r.0, after_body r.1)

assigned : (b : Opened) (name : Ident) (all : List Ident) (us : List Terminal) → Goes (NextAssign b name all) (assign_then us) us
assigned b name all us =
    let r = function_ended b name all us zero in (r.0, next_assign (zero_read (Symbol Semicolon 0 ∷ body_then us)) r.1)

params_closed : (b : Opened) (name : Ident) (all : List Ident) (us : List Terminal) →
    Goes (AfterParam b name all) (Symbol CloseParen 0 ∷ assign_then us) us
params_closed b name all us = let r = assigned b name all us in (r.0, after_param last_param r.1)

first_params : (b : Opened) (name : Ident) (us : List Terminal) → Goes (NextParams b name) (Symbol CloseParen 0 ∷ assign_then us) us
first_params b name us = let r = assigned b name [] us in (r.0, next_params no_params r.1)

body_closed : (b : Opened) (at : ℕ) (so_far : Option (Kept (List BExpr))) (us : List Terminal) (e : Kept BExpr) →
    Goes (AfterPart b at so_far e) (Symbol CloseBrace 0 ∷ us) us
body_closed b at so_far us e =
    (with_body kept b.head.name b.head.input b.head.outputs b.functions (sequence_of kept at so_far e), after_part last_step)

completable_in : (m : Mode) (us : List Terminal) → Completable (CompletesIn m) us
completable_in (mode.Opening name) us =
    let r = first_input name us in (Symbol OpenParen 0 ∷ tuple_then (arrow_then us), r.0, opening_to r.1)
completable_in (mode.Input name) us = let r = first_input name us in (tuple_then (arrow_then us), r.0, r.1)
completable_in (mode.InInput name opening labels) us = in_tuple (NextArrow name) opening labels (arrow_then us) us (λ u. arrowed name u us)
completable_in (mode.Arrow name input) us = let r = arrowed name input us in (arrow_then us, r.0, r.1)
completable_in (mode.Outputs h in_outputs.Output) us = let r = output h.name h.input h.outputs us in (tuple_then (outputs_then us), r.0, r.1)
completable_in (mode.Outputs h (in_outputs.InOutput opening labels)) us =
    in_tuple (WithOutput h.name h.input h.outputs) opening labels (outputs_then us) us (λ u. closed h.name h.input (append h.outputs u) us)
completable_in (mode.Outputs h in_outputs.AfterOutput) us = let r = closed h.name h.input h.outputs us in (outputs_then us, r.0, r.1)
completable_in (mode.Outputs h in_outputs.Brace) us = let r = braced h.name h.input h.outputs us in (Symbol OpenBrace 0 ∷ body_then us, r.0, r.1)
completable_in (mode.Inside b in_body.Body) us = let r = bodied b.head.name b.head.input b.head.outputs b.functions us in (body_then us, r.0, r.1)
completable_in (mode.Inside b in_body.FunctionName) us =
    let r = first_params b a_name us in
    (Name a_name ∷ Symbol OpenParen 0 ∷ Symbol CloseParen 0 ∷ assign_then us, r.0, next_function (next_opening r.1))
completable_in (mode.Inside b (in_body.FunctionOpening name)) us =
    let r = first_params b name us in (Symbol OpenParen 0 ∷ Symbol CloseParen 0 ∷ assign_then us, r.0, next_opening r.1)
completable_in (mode.Inside b (in_body.FirstParam name)) us = let r = first_params b name us in (Symbol CloseParen 0 ∷ assign_then us, r.0, r.1)
completable_in (mode.Inside b (in_body.Param f)) us =
    let r = params_closed b f.name (append f.params a_name) us in
    (Name a_name ∷ Symbol CloseParen 0 ∷ assign_then us, r.0, next_param r.1)
completable_in (mode.Inside b (in_body.AfterParam f)) us = let r = params_closed b f.name f.params us in (Symbol CloseParen 0 ∷ assign_then us, r.0, r.1)
completable_in (mode.Inside b (in_body.Assign f)) us = let r = assigned b f.name f.params us in (assign_then us, r.0, r.1)
completable_in (mode.Inside b (in_body.InFunction f part)) us =
    in_expr (AfterBody b f.name f.params) part (Symbol Semicolon 0 ∷ body_then us) us refl (function_ended b f.name f.params us)
completable_in (mode.Inside b (in_body.InPart parts part)) us =
    in_expr (AfterPart b parts.at parts.so_far) part (Symbol CloseBrace 0 ∷ us) us refl (body_closed b parts.at parts.so_far us)

pub completable : (s : BoxDeclParser) (us : List Terminal) → (w : List Terminal) × (d : Kept Decl) × Completes s w (read d us)
completable s us = completable_in s.mode us
