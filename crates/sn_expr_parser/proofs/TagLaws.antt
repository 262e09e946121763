-- What a parser that embeds the parser of tag expressions needs to know of its states.
use Rattle.std.proofs.Common.{pos, List, [], ◌∷◌}
use Rattle.sn_ast.specs.Kept.{Kept, kept}
use Rattle.sn_ast.specs.Operators.{tag_operations}
use Rattle.sn_ast.specs.TagExprs.{TagExpr, with_condition, plain, disjunction, no_or, conjunction, no_and, no_compare, sum, no_sum, product, no_product, number}
use Rattle.sn_ast.specs.declared.tag_expr.TExpr.{TExpr}
use Rattle.sn_ast.specs.declared.tag_expr.TForm.TheVariants as tag_form
use Rattle.sn_ast.specs.declared.terminal.Symbol.TheVariants.{CloseParen, Colon}
use Rattle.sn_ast.specs.declared.terminal.Terminal.{Terminal}
use Rattle.sn_ast.specs.declared.terminal.Terminal.TheVariants.{Number, Symbol}
use Rattle.sn_expr_parser.specs.Levels.{or_in}
use Rattle.sn_expr_parser.specs.TagResidual.{Read, read, ends, no_comparison, Up, whole, in_parens, in_middle, in_right, no_test, Down, down, next, CompletesIn, Completes}
use Rattle.sn_expr_parser.specs.declared.level.Level.{Level}
use Rattle.sn_expr_parser.specs.declared.tags.Frame.{Frame}
use Rattle.sn_expr_parser.specs.declared.tags.Frame.TheVariants.{Parens, Middle, Right}
use Rattle.sn_expr_parser.specs.declared.tags.Mode.{Mode}
use Rattle.sn_expr_parser.specs.declared.tags.Mode.TheVariants.{Want, Have}
use Rattle.sn_expr_parser.specs.declared.tags.TagParser.{TagParser}
use Rattle.sn_expr_parser.proofs.TagSteps.{finished_to}

up_no_end : {fs : List Frame} {e : Kept TExpr} {t : Read} → Up fs e [] t → ⊥
up_no_end (whole k) = k
up_no_end (in_right u) = up_no_end u

down_no_end : {fs : List Frame} {l : Level TExpr} {p : Kept TExpr} {t : Read} → Down fs l p [] t → ⊥
down_no_end (down no_product no_sum no_comparison no_and no_or (no_test u)) = up_no_end u

-- the end of the tokens ends no expression
pub no_end : (s : TagParser) (t : Read) → Completes s [] t → ⊥
no_end s t = no_end_in s.frames s.mode t
  where
    no_end_in : (fs : List Frame) (m : Mode) (t : Read) → CompletesIn fs m [] t → ⊥
    no_end_in fs (Want l) t (next q d) = elim q [ ]
    no_end_in fs (Have l p) t d = down_no_end d

abbrev zero : Kept TExpr
zero = kept.leaf (record { at = 0; form = tag_form.Number (pos 0) })

zero_read : (us : List Terminal) → TagExpr kept (Number (pos 0) 0 ∷ us) zero us
zero_read us = plain (disjunction (conjunction (no_compare (sum (product number no_product) no_sum)) no_and) no_or)

completes_up : (fs : List Frame) (e : Kept TExpr) (us : List Terminal) → ends us → (w : List Terminal) × (f : Kept TExpr) × Up fs e w (read f us)
completes_up [] e us k = (us, e, whole k)
completes_up (Parens l ∷ fs) e us k =
    let r = completes_up fs (or_in tag_operations l (kept.parens e)) us k in
    (Symbol CloseParen 0 ∷ r.0, r.1, in_parens (finished_to (no_test r.2)))
completes_up (Middle at c ∷ fs) e us k =
    let r = completes_up fs (with_condition kept at c e zero) us k in
    (Symbol Colon 0 ∷ Number (pos 0) 0 ∷ r.0, r.1, in_middle (zero_read r.0) (in_right r.2))
completes_up (Right at c x ∷ fs) e us k =
    let r = completes_up fs (with_condition kept at c x e) us k in (r.0, r.1, in_right r.2)

completes_down : (fs : List Frame) (l : Level TExpr) (p : Kept TExpr) (us : List Terminal) → ends us →
    (w : List Terminal) × (f : Kept TExpr) × Down fs l p w (read f us)
completes_down fs l p us k = let r = completes_up fs (or_in tag_operations l p) us k in (r.0, r.1, finished_to (no_test r.2))

completable_in : (fs : List Frame) (m : Mode) (us : List Terminal) → ends us → (w : List Terminal) × (f : Kept TExpr) × CompletesIn fs m w (read f us)
completable_in fs (Want l) us k = let r = completes_down fs l zero us k in (Number (pos 0) 0 ∷ r.0, r.1, next number r.2)
completable_in fs (Have l p) us k = completes_down fs l p us k

-- each state can go on to an expression, whatever may follow it
pub completable : (s : TagParser) (us : List Terminal) → ends us → (w : List Terminal) × (e : Kept TExpr) × Completes s w (read e us)
completable s us k = completable_in s.frames s.mode us k
