-- What a parser that embeds the parser of expressions in boxes needs to know of its states.
use Rattle.std.proofs.Common.{pos, List, [], ◌∷◌, refl}
use Rattle.sn_ast.specs.BoxExprs.{BoxExpr, sequence_of, plain, disjunction, no_or, conjunction, no_and, no_compare, compare, sum, no_sum, product, no_product, number, no_arguments, arguments, last_argument, sequence, last_step}
use Rattle.sn_ast.specs.Kept.{Kept, kept}
use Rattle.sn_ast.specs.Operators.{box_operations}
use Rattle.sn_ast.specs.Rows.{no_parts, with_part}
use Rattle.sn_ast.specs.Terminals.{closing}
use Rattle.sn_ast.specs.declared.box_expr.BExpr.{BExpr}
use Rattle.sn_ast.specs.declared.box_expr.BForm.TheVariants as box_form
use Rattle.sn_ast.specs.declared.label.Ident.{Ident}
use Rattle.sn_ast.specs.declared.terminal.Keyword.TheVariants.{In, Then as ThenWord, Else as ElseWord}
use Rattle.sn_ast.specs.declared.terminal.Symbol.TheVariants.{OpenParen, CloseParen, Assign}
use Rattle.sn_ast.specs.declared.terminal.Terminal.{Terminal}
use Rattle.sn_ast.specs.declared.terminal.Terminal.TheVariants.{Name, Number, Keyword, Symbol}
use Rattle.sn_expr_parser.specs.BoxNodes.{bracket_of, with_row}
use Rattle.sn_expr_parser.specs.BoxResidual.{Read, read, ends, completed, no_comparison, Up, whole, in_parens, in_arguments, in_middle, in_last, Down, down, next, NextExpr, next_expr, next_assign, next_name, NextArguments, next_arguments, next_opening, next_number, plain_name, called_name, next_sequence, CompletesIn, Completes}
use Rattle.sn_expr_parser.specs.Levels.{or_in}
use Rattle.sn_expr_parser.specs.declared.box_node.Head.{Head}
use Rattle.sn_expr_parser.specs.declared.box_node.Head.TheVariants.{Variant}
use Rattle.sn_expr_parser.specs.declared.boxes.BoxParser.{BoxParser}
use Rattle.sn_expr_parser.specs.declared.box_frame.Frame.{Frame}
use Rattle.sn_expr_parser.specs.declared.box_frame.Frame.TheVariants.{Parens, Arguments, Middle, Last}
use Rattle.sn_expr_parser.specs.declared.box_frame.LastPart.TheVariants.{Body, Else}
use Rattle.sn_expr_parser.specs.declared.box_frame.MiddlePart.TheVariants.{Bound, Test, Then}
use Rattle.sn_expr_parser.specs.declared.boxes.Mode.{Mode}
use Rattle.sn_expr_parser.specs.declared.boxes.Mode.TheVariants.{Begin, LetName, LetAssign, AtOperand}
use Rattle.sn_expr_parser.specs.declared.boxes.Awaited.TheVariants.{Want, AfterName, AfterOut, Opening, FirstArgument, FirstStep, Have}
use Rattle.sn_expr_parser.specs.declared.level.Level.{Level}
use Rattle.sn_expr_parser.proofs.BoxSteps.{finished_to}

up_no_end : {fs : List Frame} {e : Kept BExpr} {t : Read} → Up fs e [] t → ⊥
up_no_end (whole k) = k
up_no_end (in_parens m d) = elim m [ ]
up_no_end (in_arguments m d) = elim m [ ]
up_no_end (in_last u) = up_no_end u

down_no_end : {fs : List Frame} {l : Level BExpr} {p : Kept BExpr} {t : Read} → Down fs l p [] t → ⊥
down_no_end (down no_product no_sum no_comparison no_and no_or u) = up_no_end u

expr_no_end : {e : Kept BExpr} {us : List Terminal} → BoxExpr kept [] e us → ⊥
expr_no_end (plain (disjunction (conjunction (no_compare (sum (product q ps) ss)) ands) ors)) = elim q [ ]
expr_no_end (plain (disjunction (conjunction (compare (sum (product q ps) ss) i r) ands) ors)) = elim q [ ]

no_end_in : (fs : List Frame) (m : Mode) (t : Read) → CompletesIn fs m [] t → ⊥
no_end_in fs Begin t (next_expr x u) = expr_no_end x
no_end_in fs (LetName at) t y = elim y [ ]
no_end_in fs (LetAssign at name) t y = elim y [ ]
no_end_in fs (AtOperand l Want) t (next q d) = elim q [ ]
no_end_in fs (AtOperand l (AfterName name)) t (plain_name d) = down_no_end d
no_end_in fs (AtOperand l (AfterName name)) t (called_name y) = elim y [ ]
no_end_in fs (AtOperand l (AfterOut at)) t y = elim y [ ]
no_end_in fs (AtOperand l (Opening h)) t y = elim y [ ]
no_end_in fs (AtOperand l (FirstArgument h)) t (next_arguments (arguments x m) d) = expr_no_end x
no_end_in fs (AtOperand l FirstStep) t (next_sequence q d) = elim q [ ]
no_end_in fs (AtOperand l (Have p)) t d = down_no_end d

-- the end of the tokens ends no expression
pub no_end : (s : BoxParser) (t : Read) → Completes s [] t → ⊥
no_end s t = no_end_in s.frames s.mode t

abbrev zero : Kept BExpr
zero = kept.leaf (record { at = 0; form = box_form.Number (pos 0) })

zero_read : (us : List Terminal) → BoxExpr kept (Number (pos 0) 0 ∷ us) zero us
zero_read us = plain (disjunction (conjunction (no_compare (sum (product number no_product) no_sum)) no_and) no_or)

abbrev some_name : Ident
some_name = record { text = []; at = 0 }

completes_up : (fs : List Frame) (e : Kept BExpr) (us : List Terminal) → ends us → (w : List Terminal) × (f : Kept BExpr) × Up fs e w (read f us)
completes_up [] e us k = (us, e, whole k)
completes_up (Parens l at so_far ∷ fs) e us k =
    let r = completes_up fs (or_in box_operations l (kept.parens (sequence_of kept at so_far e))) us k in
    (Symbol CloseParen 0 ∷ r.0, r.1, in_parens last_step (finished_to r.2))
completes_up (Arguments l h row ∷ fs) e us k =
    let r = completes_up fs (or_in box_operations l (with_row h (with_part kept row e))) us k in
    (Symbol (closing (bracket_of h)) 0 ∷ r.0, r.1, in_arguments (last_argument refl) (finished_to r.2))
completes_up (Middle (Bound at name) ∷ fs) e us k =
    let r = completes_up fs (completed (Body at name e) zero) us k in
    (Keyword In 0 ∷ Number (pos 0) 0 ∷ r.0, r.1, in_middle refl (zero_read r.0) (in_last r.2))
completes_up (Middle (Test at) ∷ fs) e us k =
    let r = completes_up fs (completed (Else at e zero) zero) us k in (
      Keyword ThenWord 0 ∷ Number (pos 0) 0 ∷ Keyword ElseWord 0 ∷ Number (pos 0) 0 ∷ r.0,
      r.1,
      in_middle refl (zero_read (Keyword ElseWord 0 ∷ Number (pos 0) 0 ∷ r.0)) (in_middle refl (zero_read r.0) (in_last r.2)),
    )
completes_up (Middle (Then at test) ∷ fs) e us k =
    let r = completes_up fs (completed (Else at test e) zero) us k in
    (Keyword ElseWord 0 ∷ Number (pos 0) 0 ∷ r.0, r.1, in_middle refl (zero_read r.0) (in_last r.2))
completes_up (Last part ∷ fs) e us k = let r = completes_up fs (completed part e) us k in (r.0, r.1, in_last r.2)

completes_down : (fs : List Frame) (l : Level BExpr) (p : Kept BExpr) (us : List Terminal) → ends us →
    (w : List Terminal) × (f : Kept BExpr) × Down fs l p w (read f us)
completes_down fs l p us k = let r = completes_up fs (or_in box_operations l p) us k in (r.0, r.1, finished_to r.2)

completes_expr : (fs : List Frame) (us : List Terminal) → ends us → (w : List Terminal) × (f : Kept BExpr) × NextExpr fs w (read f us)
completes_expr fs us k = let r = completes_up fs zero us k in (Number (pos 0) 0 ∷ r.0, r.1, next_expr (zero_read r.0) r.2)

completes_arguments : (fs : List Frame) (l : Level BExpr) (h : Head) (us : List Terminal) → ends us →
    (w : List Terminal) × (f : Kept BExpr) × NextArguments fs l h w (read f us)
completes_arguments fs l h us k =
    let r = completes_down fs l (with_row h (no_parts kept)) us k in
    (Symbol (closing (bracket_of h)) 0 ∷ r.0, r.1, next_arguments (no_arguments refl) r.2)

completable_in : (fs : List Frame) (m : Mode) (us : List Terminal) → ends us → (w : List Terminal) × (f : Kept BExpr) × CompletesIn fs m w (read f us)
completable_in fs Begin us k = completes_expr fs us k
completable_in fs (LetName at) us k =
    let r = completes_expr (Middle (Bound at some_name) ∷ fs) us k in
    (Name some_name ∷ Symbol Assign 0 ∷ r.0, r.1, next_name (next_assign r.2))
completable_in fs (LetAssign at name) us k =
    let r = completes_expr (Middle (Bound at name) ∷ fs) us k in (Symbol Assign 0 ∷ r.0, r.1, next_assign r.2)
completable_in fs (AtOperand l Want) us k = let r = completes_down fs l zero us k in (Number (pos 0) 0 ∷ r.0, r.1, next number r.2)
completable_in fs (AtOperand l (AfterName name)) us k =
    let r = completes_down fs l (kept.leaf (record { at = name.at; form = box_form.Name name })) us k in (r.0, r.1, plain_name r.2)
completable_in fs (AtOperand l (AfterOut at)) us k =
    let r = completes_arguments fs l (Variant at 0) us k in
    (Number (pos 0) 0 ∷ Symbol OpenParen 0 ∷ r.0, r.1, next_number (next_opening r.2))
completable_in fs (AtOperand l (Opening h)) us k = let r = completes_arguments fs l h us k in (Symbol OpenParen 0 ∷ r.0, r.1, next_opening r.2)
completable_in fs (AtOperand l (FirstArgument h)) us k = completes_arguments fs l h us k
completable_in fs (AtOperand l FirstStep) us k =
    let r = completes_down fs l (kept.parens zero) us k in
    (Number (pos 0) 0 ∷ Symbol CloseParen 0 ∷ r.0, r.1, next_sequence (sequence (zero_read (Symbol CloseParen 0 ∷ r.0)) last_step) r.2)
completable_in fs (AtOperand l (Have p)) us k = completes_down fs l p us k

-- each state can go on to an expression, whatever may follow it
pub completable : (s : BoxParser) (us : List Terminal) → ends us → (w : List Terminal) × (e : Kept BExpr) × Completes s w (read e us)
completable s us k = completable_in s.frames s.mode us k
