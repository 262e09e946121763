-- One token at a time: what completes the state before it begins with it, and goes on as what completes the state after it.
use Rattle.std.proofs.Common.{ℕ, List, [], ◌∷◌, ◌≡◌, Option, refl, subst}
use Rattle.sn_ast.specs.BoxExprs.{BoxExpr, compare, conjunction, disjunction, last_step, more_steps, no_compare, plain, product, sequence, sequence_of, sum}
use Rattle.sn_ast.specs.Declarations.{Body, RestOfBox, body, function, function_of, last_param, last_tuple, more_params, more_tuples, no_params, params, rest_of_box, with_body, with_function}
use Rattle.sn_ast.specs.Kept.{Kept, kept}
use Rattle.sn_ast.specs.Labels.{tuple}
use Rattle.sn_ast.specs.Rows.{append, no_parts, with_part}
use Rattle.sn_ast.specs.declared.box_expr.BExpr.{BExpr}
use Rattle.sn_ast.specs.declared.declaration.Decl.{Decl}
use Rattle.sn_ast.specs.declared.label.Ident.{Ident}
use Rattle.sn_ast.specs.declared.label.Tuple.{Tuple}
use Rattle.sn_ast.specs.declared.terminal.Keyword.TheVariants.{Fun}
use Rattle.sn_ast.specs.declared.terminal.Symbol.{Symbol as SomeSymbol}
use Rattle.sn_ast.specs.declared.terminal.Symbol.TheVariants.{OpenParen, CloseParen, OpenBrace, CloseBrace, Comma, Semicolon, Assign, Arrow, Bar}
use Rattle.sn_ast.specs.declared.terminal.Terminal.{Terminal}
use Rattle.sn_ast.specs.declared.terminal.Terminal.TheVariants.{Name, Keyword, Symbol}
use Rattle.sn_box_parser.specs.BoxDeclResidual.{AfterBody, AfterOutput, AfterParam, AfterPart, NextArrow, NextAssign, NextBody, NextBrace, NextFunction, NextOpening, NextParam, NextParams, NextTuple, Read, WithOutput, after_body, after_output, after_param, after_part, next_arrow, next_assign, next_brace, next_function, next_opening, next_param, next_params, next_tuple, read}
use Rattle.sn_box_parser.specs.declared.parts.Opened.{Opened}

pub opening_from : {name : Ident} {at : ℕ} {w us : List Terminal} {d : Kept Decl} →
    RestOfBox kept name (Symbol OpenParen at ∷ w) d us → NextTuple (NextArrow name) w (read d us)
opening_from (rest_of_box i o m b) = next_tuple i (next_arrow (next_tuple o (after_output m (next_brace b))))

pub opening_to : {name : Ident} {at : ℕ} {w : List Terminal} {t : Read} →
    NextTuple (NextArrow name) w t → RestOfBox kept name (Symbol OpenParen at ∷ w) t.part t.rest
opening_to (next_tuple i (next_arrow (next_tuple o (after_output m (next_brace b))))) = rest_of_box i o m b

pub arrow_from : {name : Ident} {input : Tuple} {at : ℕ} {w : List Terminal} {t : Read} →
    NextArrow name input (Symbol Arrow at ∷ w) t → NextTuple (WithOutput name input []) w t
arrow_from (next_arrow o) = o

pub arrow_to : {name : Ident} {input : Tuple} {at : ℕ} {w : List Terminal} {t : Read} →
    NextTuple (WithOutput name input []) w t → NextArrow name input (Symbol Arrow at ∷ w) t
arrow_to o = next_arrow o

pub bar_from : {name : Ident} {input : Tuple} {so_far : List Tuple} {at : ℕ} {w : List Terminal} {t : Read} →
    AfterOutput name input so_far (Symbol Bar at ∷ w) t → NextTuple (WithOutput name input so_far) w t
bar_from (after_output (more_tuples o m) b) = next_tuple o (after_output m b)

pub bar_to : {name : Ident} {input : Tuple} {so_far : List Tuple} {at : ℕ} {w : List Terminal} {t : Read} →
    NextTuple (WithOutput name input so_far) w t → AfterOutput name input so_far (Symbol Bar at ∷ w) t
bar_to (next_tuple o (after_output m b)) = after_output (more_tuples o m) b

pub outputs_from : {name : Ident} {input : Tuple} {outputs : List Tuple} {at : ℕ} {w : List Terminal} {t : Read} →
    AfterOutput name input outputs (Symbol CloseParen at ∷ w) t → NextBrace name input outputs w t
outputs_from (after_output last_tuple b) = b

pub outputs_to : {name : Ident} {input : Tuple} {outputs : List Tuple} {at : ℕ} {w : List Terminal} {t : Read} →
    NextBrace name input outputs w t → AfterOutput name input outputs (Symbol CloseParen at ∷ w) t
outputs_to b = after_output last_tuple b

pub brace_from : {name : Ident} {input : Tuple} {outputs : List Tuple} {at : ℕ} {w : List Terminal} {t : Read} →
    NextBrace name input outputs (Symbol OpenBrace at ∷ w) t → Body kept name input outputs (no_parts kept) w t.part t.rest
brace_from (next_brace b) = b

pub brace_to : {name : Ident} {input : Tuple} {outputs : List Tuple} {at : ℕ} {w : List Terminal} {t : Read} →
    Body kept name input outputs (no_parts kept) w t.part t.rest → NextBrace name input outputs (Symbol OpenBrace at ∷ w) t
brace_to b = next_brace b

-- no expression begins with "fun"
no_expr : {at : ℕ} {w us : List Terminal} {e : Kept BExpr} → BoxExpr kept (Keyword Fun at ∷ w) e us → ⊥
no_expr (plain (disjunction (conjunction (no_compare (sum (product o p) q)) r) s)) = elim o [ ]
no_expr (plain (disjunction (conjunction (compare (sum (product o p) q) i e) r) s)) = elim o [ ]

pub fun_from : {b : Opened} {at : ℕ} {w us : List Terminal} {d : Kept Decl} →
    Body kept b.head.name b.head.input b.head.outputs b.functions (Keyword Fun at ∷ w) d us → NextFunction b w (read d us)
fun_from (with_function (function p e) r) = next_function (next_opening (next_params p (next_assign e (after_body r))))
fun_from (body (sequence e s)) = absurd (no_expr e)

pub fun_to : {b : Opened} {at : ℕ} {w : List Terminal} {t : Read} → NextFunction b w t → NextBody b (Keyword Fun at ∷ w) t
fun_to (next_function (next_opening (next_params p (next_assign e (after_body r))))) = with_function (function p e) r

pub function_from : {b : Opened} {name : Ident} {w : List Terminal} {t : Read} → NextFunction b (Name name ∷ w) t → NextOpening b name w t
function_from (next_function o) = o

pub function_to : {b : Opened} {name : Ident} {w : List Terminal} {t : Read} → NextOpening b name w t → NextFunction b (Name name ∷ w) t
function_to o = next_function o

pub params_from : {b : Opened} {name : Ident} {at : ℕ} {w : List Terminal} {t : Read} → NextOpening b name (Symbol OpenParen at ∷ w) t → NextParams b name w t
params_from (next_opening p) = p

pub params_to : {b : Opened} {name : Ident} {at : ℕ} {w : List Terminal} {t : Read} → NextParams b name w t → NextOpening b name (Symbol OpenParen at ∷ w) t
params_to p = next_opening p

pub none_from : {b : Opened} {name : Ident} {at : ℕ} {w : List Terminal} {t : Read} → NextParams b name (Symbol CloseParen at ∷ w) t → NextAssign b name [] w t
none_from (next_params no_params a) = a

pub none_to : {b : Opened} {name : Ident} {at : ℕ} {w : List Terminal} {t : Read} → NextAssign b name [] w t → NextParams b name (Symbol CloseParen at ∷ w) t
none_to a = next_params no_params a

pub first_from : {b : Opened} {name : Ident} {x : Terminal} {w : List Terminal} {t : Read} → ((at : ℕ) → x ≡ Symbol CloseParen at → ⊥) →
    NextParams b name (x ∷ w) t → NextParam b name [] (x ∷ w) t
first_from n (next_params (params m) a) = next_param (after_param m a)
first_from n (next_params (no_params {at}) a) = absurd (n at refl)

pub first_to : {b : Opened} {name : Ident} {w : List Terminal} {t : Read} → NextParam b name [] w t → NextParams b name w t
first_to (next_param (after_param m a)) = next_params (params m) a

pub param_from : {b : Opened} {name param : Ident} {so_far : List Ident} {w : List Terminal} {t : Read} →
    NextParam b name so_far (Name param ∷ w) t → AfterParam b name (append so_far param) w t
param_from (next_param a) = a

pub param_to : {b : Opened} {name param : Ident} {so_far : List Ident} {w : List Terminal} {t : Read} →
    AfterParam b name (append so_far param) w t → NextParam b name so_far (Name param ∷ w) t
param_to a = next_param a

pub comma_from : {b : Opened} {name : Ident} {so_far : List Ident} {at : ℕ} {w : List Terminal} {t : Read} →
    AfterParam b name so_far (Symbol Comma at ∷ w) t → NextParam b name so_far w t
comma_from (after_param (more_params m) a) = next_param (after_param m a)

pub comma_to : {b : Opened} {name : Ident} {so_far : List Ident} {at : ℕ} {w : List Terminal} {t : Read} →
    NextParam b name so_far w t → AfterParam b name so_far (Symbol Comma at ∷ w) t
comma_to (next_param (after_param m a)) = after_param (more_params m) a

pub some_from : {b : Opened} {name : Ident} {all : List Ident} {at : ℕ} {w : List Terminal} {t : Read} →
    AfterParam b name all (Symbol CloseParen at ∷ w) t → NextAssign b name all w t
some_from (after_param last_param a) = a

pub some_to : {b : Opened} {name : Ident} {all : List Ident} {at : ℕ} {w : List Terminal} {t : Read} →
    NextAssign b name all w t → AfterParam b name all (Symbol CloseParen at ∷ w) t
some_to a = after_param last_param a

pub body_from : {b : Opened} {name : Ident} {all : List Ident} {e : Kept BExpr} {at : ℕ} {w : List Terminal} {t : Read} →
    AfterBody b name all e (Symbol Semicolon at ∷ w) t →
    Body kept b.head.name b.head.input b.head.outputs (with_part kept b.functions (kept.each (function_of name all) e)) w t.part t.rest
body_from (after_body r) = r

pub body_to : {b : Opened} {name : Ident} {all : List Ident} {e : Kept BExpr} {at : ℕ} {w : List Terminal} {t : Read} →
    Body kept b.head.name b.head.input b.head.outputs (with_part kept b.functions (kept.each (function_of name all) e)) w t.part t.rest →
    AfterBody b name all e (Symbol Semicolon at ∷ w) t
body_to r = after_body r

pub close_from : {b : Opened} {at close : ℕ} {so_far : Option (Kept (List BExpr))} {e : Kept BExpr} {w : List Terminal} {t : Read} →
    AfterPart b at so_far e (Symbol CloseBrace close ∷ w) t →
    read (with_body kept b.head.name b.head.input b.head.outputs b.functions (sequence_of kept at so_far e)) w ≡ t
close_from (after_part last_step) = refl

pub close_to : {b : Opened} {at close : ℕ} {so_far : Option (Kept (List BExpr))} {e : Kept BExpr} {w : List Terminal} {t : Read} →
    read (with_body kept b.head.name b.head.input b.head.outputs b.functions (sequence_of kept at so_far e)) w ≡ t →
    AfterPart b at so_far e (Symbol CloseBrace close ∷ w) t
close_to {b} {at} {close} {so_far} {e} {w} i =
    let P : Read → Type 0 = λ r. AfterPart b at so_far e (Symbol CloseBrace close ∷ w) r in subst P i (after_part last_step)

-- What may not come.
pub no_opening : {name : Ident} {w us : List Terminal} {d : Kept Decl} (x : Terminal) → ((at : ℕ) → x ≡ Symbol OpenParen at → ⊥) →
    RestOfBox kept name (x ∷ w) d us → ⊥
no_opening x n (rest_of_box {opening = at} i o m b) = n at refl

pub no_tuple : {after : Tuple → List Terminal → Read → Type 0} {w : List Terminal} {t : Read} (x : Terminal) → ((at : ℕ) → x ≡ Symbol OpenParen at → ⊥) →
    NextTuple after (x ∷ w) t → ⊥
no_tuple x n (next_tuple (tuple {at} l) a) = n at refl

pub no_arrow : {name : Ident} {input : Tuple} {w : List Terminal} {t : Read} (x : Terminal) → ((at : ℕ) → x ≡ Symbol Arrow at → ⊥) →
    NextArrow name input (x ∷ w) t → ⊥
no_arrow x n (next_arrow {at} o) = n at refl

pub no_after_output : {name : Ident} {input : Tuple} {so_far : List Tuple} {w : List Terminal} {t : Read} (x : Terminal) →
    ((at : ℕ) → x ≡ Symbol Bar at → ⊥) → ((at : ℕ) → x ≡ Symbol CloseParen at → ⊥) → AfterOutput name input so_far (x ∷ w) t → ⊥
no_after_output x n m (after_output (last_tuple {at}) b) = m at refl
no_after_output x n m (after_output (more_tuples {at} o k) b) = n at refl

pub no_brace : {name : Ident} {input : Tuple} {outputs : List Tuple} {w : List Terminal} {t : Read} (x : Terminal) → ((at : ℕ) → x ≡ Symbol OpenBrace at → ⊥) →
    NextBrace name input outputs (x ∷ w) t → ⊥
no_brace x n (next_brace {at} b) = n at refl

pub no_function : {b : Opened} {w : List Terminal} {t : Read} (x : Terminal) → ((name : Ident) → x ≡ Name name → ⊥) → NextFunction b (x ∷ w) t → ⊥
no_function x n (next_function {name} o) = n name refl

pub no_params_here : {b : Opened} {name : Ident} {w : List Terminal} {t : Read} (x : Terminal) → ((at : ℕ) → x ≡ Symbol OpenParen at → ⊥) →
    NextOpening b name (x ∷ w) t → ⊥
no_params_here x n (next_opening {at} p) = n at refl

pub no_param : {b : Opened} {name : Ident} {so_far : List Ident} {w : List Terminal} {t : Read} (x : Terminal) → ((param : Ident) → x ≡ Name param → ⊥) →
    NextParam b name so_far (x ∷ w) t → ⊥
no_param x n (next_param {param} a) = n param refl

pub no_after_param : {b : Opened} {name : Ident} {so_far : List Ident} {w : List Terminal} {t : Read} (x : Terminal) →
    ((at : ℕ) → x ≡ Symbol Comma at → ⊥) → ((at : ℕ) → x ≡ Symbol CloseParen at → ⊥) → AfterParam b name so_far (x ∷ w) t → ⊥
no_after_param x n m (after_param (last_param {at}) a) = m at refl
no_after_param x n m (after_param (more_params {at} k) a) = n at refl

pub no_assign : {b : Opened} {name : Ident} {all : List Ident} {w : List Terminal} {t : Read} (x : Terminal) → ((at : ℕ) → x ≡ Symbol Assign at → ⊥) →
    NextAssign b name all (x ∷ w) t → ⊥
no_assign x n (next_assign {at} e a) = n at refl

pub no_semicolon : {b : Opened} {name : Ident} {all : List Ident} {e : Kept BExpr} {at : ℕ} {w : List Terminal} {t : Read} (s : SomeSymbol) → (s ≡ Semicolon → ⊥) →
    AfterBody b name all e (Symbol s at ∷ w) t → ⊥
no_semicolon s n (after_body r) = n refl

pub no_after_part : {b : Opened} {at place : ℕ} {so_far : Option (Kept (List BExpr))} {e : Kept BExpr} {w : List Terminal} {t : Read} (s : SomeSymbol) →
    (s ≡ Semicolon → ⊥) → (s ≡ CloseBrace → ⊥) → AfterPart b at so_far e (Symbol s place ∷ w) t → ⊥
no_after_part s n m (after_part last_step) = m refl
no_after_part s n m (after_part (more_steps c k)) = n refl
