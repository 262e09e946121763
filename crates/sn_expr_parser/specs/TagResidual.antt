-- What the open forms of an expression over tags still need.
use Rattle.std.specs.Prelude.{ℕ, Bool, true, false, List, [], ◌∷◌, ◌≡◌, ◌↔◌, IsTrue, Option, Some, None, Result, Ok, Err}
use Rattle.sn_ast.specs.Kept.{Kept, kept}
use Rattle.sn_ast.specs.Operators.{tag_operations, with_operator}
use Rattle.sn_ast.specs.TagExprs.{TagExpr, Disjunctions, Conjunctions, Sum, Sums, Products, Operand, with_condition}
use Rattle.sn_ast.specs.Terminals.{infix_of}
use Rattle.sn_ast.specs.declared.tag_expr.Operator.{Operator}
use Rattle.sn_ast.specs.declared.tag_expr.TExpr.{TExpr}
use Rattle.sn_ast.specs.declared.terminal.Infix.TheVariants.{Comparison as ComparisonSign}
use Rattle.sn_ast.specs.declared.terminal.Symbol.{Symbol as SomeSymbol}
use Rattle.sn_ast.specs.declared.terminal.Symbol.TheVariants.{CloseParen, CloseBrace, Comma, Question, Colon}
use Rattle.sn_ast.specs.declared.terminal.Terminal.{Terminal}
use Rattle.sn_ast.specs.declared.terminal.Terminal.TheVariants.{Symbol}
use Rattle.sn_expr_parser.specs.Levels.{product_in, operated, conjoined, disjoined}
use Rattle.sn_expr_parser.specs.declared.level.Level.{Level}
use Rattle.sn_expr_parser.specs.declared.tags.Frame.{Frame}
use Rattle.sn_expr_parser.specs.declared.tags.Frame.TheVariants.{Parens, Middle, Right}
use Rattle.sn_expr_parser.specs.declared.tags.Mode.{Mode}
use Rattle.sn_expr_parser.specs.declared.tags.Mode.TheVariants.{Want, Have}
use Rattle.sn_expr_parser.specs.declared.tags.TagParser.{TagParser}
use Rattle.sn_expr_parser.specs.declared.tags.TagStop.{TagStop}
use Rattle.sn_expr_parser.specs.declared.tags.TagStop.TheVariants.{Memory, Refused, Ended}

-- an expression at the front, and what follows it
pub record Read : Type 0 where
  pub part : Kept TExpr
  pub rest : List Terminal

abbrev pub read : Kept TExpr → List Terminal → Read
read e us = record { part = e; rest = us }

-- the symbols that may follow a whole expression
abbrev pub may_end : SomeSymbol → Bool
may_end CloseParen = true
may_end CloseBrace = true
may_end Comma = true
may_end symbol = false

abbrev pub ends : List Terminal → Type 0
ends (Symbol symbol at ∷ us) = IsTrue (may_end symbol)
ends us = ⊥

-- [ comparison operator, sum ], after the sum e and what waits on its left; comparisons do not chain
pub data Compared : Option (Kept TExpr × Operator × ℕ) → Kept TExpr → List Terminal → Kept TExpr → List Terminal → Type 0 where
  no_comparison : {left : Option (Kept TExpr × Operator × ℕ)} {e : Kept TExpr} {us : List Terminal} →
      Compared left e us (operated tag_operations left e) us
  one_comparison : {at : ℕ} {s : SomeSymbol} {op : Operator} {left : Option (Kept TExpr × Operator × ℕ)} {e f : Kept TExpr} {ts us : List Terminal} →
      left ≡ None → infix_of s ≡ Some (ComparisonSign op) → Sum kept ts f us →
      Compared left e (Symbol s at ∷ ts) (with_operator kept tag_operations op at e f) us

mutual
  -- The tokens go on, after the expression e stands in the innermost of the frames, to what is read and its rest.
  pub data Up : List Frame → Kept TExpr → List Terminal → Read → Type 0 where
    whole : {e : Kept TExpr} {us : List Terminal} → ends us → Up [] e us (read e us)
    in_parens : {close : ℕ} {fs : List Frame} {l : Level TExpr} {e : Kept TExpr} {us : List Terminal} {t : Read} →
        Down fs l (kept.parens e) us t → Up (Parens l ∷ fs) e (Symbol CloseParen close ∷ us) t
    in_middle : {at colon : ℕ} {fs : List Frame} {c e f : Kept TExpr} {ts us : List Terminal} {t : Read} →
        TagExpr kept ts f us → Up (Right at c e ∷ fs) f us t → Up (Middle at c ∷ fs) e (Symbol Colon colon ∷ ts) t
    in_right : {at : ℕ} {fs : List Frame} {c e f : Kept TExpr} {us : List Terminal} {t : Read} →
        Up fs (with_condition kept at c e f) us t → Up (Right at c e ∷ fs) f us t

  -- the same after the disjunction e, which may be the test of a conditional
  pub data Tested : List Frame → Kept TExpr → List Terminal → Read → Type 0 where
    no_test : {fs : List Frame} {e : Kept TExpr} {us : List Terminal} {t : Read} → Up fs e us t → Tested fs e us t
    test : {at colon : ℕ} {fs : List Frame} {c e f : Kept TExpr} {ts us vs : List Terminal} {t : Read} →
        TagExpr kept ts e (Symbol Colon colon ∷ us) → TagExpr kept us f vs → Up fs (with_condition kept at c e f) vs t →
        Tested fs c (Symbol Question at ∷ ts) t

  -- the same after the operand p in the level l
  pub data Down : List Frame → Level TExpr → Kept TExpr → List Terminal → Read → Type 0 where
    down : {fs : List Frame} {l : Level TExpr} {p a b c d e : Kept TExpr} {ts us vs ws xs ys : List Terminal} {t : Read} →
        Products kept (product_in tag_operations l p) ts a us → Sums kept (operated tag_operations l.sum a) us b vs →
        Compared l.comparison b vs c ws → Conjunctions kept (conjoined tag_operations l.and c) ws d xs →
        Disjunctions kept (disjoined tag_operations l.or d) xs e ys → Tested fs e ys t → Down fs l p ts t

-- where an operand comes next
pub data Next : List Frame → Level TExpr → List Terminal → Read → Type 0 where
  next : {fs : List Frame} {l : Level TExpr} {p : Kept TExpr} {ts us : List Terminal} {t : Read} →
      Operand kept ts p us → Down fs l p us t → Next fs l ts t

abbrev pub CompletesIn : List Frame → Mode → List Terminal → Read → Type 0
CompletesIn fs (Want l) w t = Next fs l w t
CompletesIn fs (Have l p) w t = Down fs l p w t

-- The tokens go on from the state to what is read and its rest.
abbrev pub Completes : TagParser → List Terminal → Read → Type 0
Completes s w t = CompletesIn s.frames s.mode w t

-- Where a step took the token x: what goes on from before it begins with x, and then goes on from the state after it.
-- Where it refused x: nothing that begins with x went on. Where it ended at x, which is then a symbol: what was read is
-- the expression, and x is the first of the rest.
abbrev pub StepsFrom : (List Terminal → Read → Type 0) → Terminal → Result TagParser TagStop → Type 0
StepsFrom before x (Ok s) = (w : List Terminal) (t : Read) → before (x ∷ w) t ↔ Completes s w t
StepsFrom before x (Err Memory) = Unit {0}
StepsFrom before x (Err Refused) = (w : List Terminal) (t : Read) → before (x ∷ w) t → ⊥
StepsFrom before x (Err (Ended e s at)) =
    (x ≡ Symbol s at) × ((w : List Terminal) (t : Read) → before (x ∷ w) t ↔ (read e (x ∷ w) ≡ t))

abbrev pub StepsIn : List Frame → Mode → Terminal → Result TagParser TagStop → Type 0
StepsIn fs m x r = StepsFrom (CompletesIn fs m) x r

abbrev pub Steps : TagParser → Terminal → Result TagParser TagStop → Type 0
Steps s x r = StepsFrom (Completes s) x r

abbrev pub framed : Option Frame → List Frame → List Frame
framed None gs = []
framed (Some f) gs = f ∷ gs

-- The expression e in the frames fs is as good as f in the frame o above gs, which is no right part of a conditional,
-- or as f alone.
pub record Innermost (fs : List Frame) (e : Kept TExpr) (o : Option Frame) (gs : List Frame) (f : Kept TExpr) : Type 0 where
  pub same : (us : List Terminal) (t : Read) → Up fs e us t ↔ Up (framed o gs) f us t
  pub other : (at : ℕ) (c x : Kept TExpr) → o ≡ Some (Right at c x) → ⊥
