-- What the open forms of an expression in a box still need.
use Rattle.std.specs.Prelude.{ℕ, ℤ, unsigned_abs, Bool, true, false, List, [], ◌∷◌, ◌≡◌, ◌↔◌, IsTrue, Option, Some, None, Result, Ok, Err}
use Rattle.sn_ast.specs.BoxExprs.{BoxExpr, Disjunctions, Conjunctions, Sum, Sums, Products, Operand, Arguments as SomeArguments, MoreArguments, Sequence, Steps as MoreSteps, with_binding, with_condition}
use Rattle.sn_ast.specs.Kept.{Kept, kept}
use Rattle.sn_ast.specs.Operators.{box_operations, with_operator}
use Rattle.sn_ast.specs.Rows.{with_part}
use Rattle.sn_ast.specs.Terminals.{infix_of}
use Rattle.sn_ast.specs.declared.box_expr.BExpr.{BExpr}
use Rattle.sn_ast.specs.declared.box_expr.BForm.TheVariants as box_form
use Rattle.sn_ast.specs.declared.label.Ident.{Ident}
use Rattle.sn_ast.specs.declared.tag_expr.Operator.{Operator}
use Rattle.sn_ast.specs.declared.terminal.Infix.TheVariants.{Comparison as ComparisonSign}
use Rattle.sn_ast.specs.declared.terminal.Keyword.{Keyword as SomeKeyword}
use Rattle.sn_ast.specs.declared.terminal.Keyword.TheVariants.{In, Then as ThenWord, Else as ElseWord}
use Rattle.sn_ast.specs.declared.terminal.Symbol.{Symbol as SomeSymbol}
use Rattle.sn_ast.specs.declared.terminal.Symbol.TheVariants.{OpenParen, CloseParen, CloseBrace, Semicolon, Assign}
use Rattle.sn_ast.specs.declared.terminal.Terminal.{Terminal}
use Rattle.sn_ast.specs.declared.terminal.Terminal.TheVariants.{Name, Number, Keyword, Symbol}
use Rattle.sn_expr_parser.specs.BoxNodes.{bracket_of, with_row, is_closed_by}
use Rattle.sn_expr_parser.specs.Levels.{product_in, operated, conjoined, disjoined}
use Rattle.sn_expr_parser.specs.declared.box_node.Head.{Head}
use Rattle.sn_expr_parser.specs.declared.box_node.Head.TheVariants.{Function, Variant}
use Rattle.sn_expr_parser.specs.declared.level.Level.{Level}
use Rattle.sn_expr_parser.specs.declared.boxes.BoxParser.{BoxParser}
use Rattle.sn_expr_parser.specs.declared.boxes.BoxStop.{BoxStop}
use Rattle.sn_expr_parser.specs.declared.boxes.BoxStop.TheVariants.{Memory, Refused, Ended}
use Rattle.sn_expr_parser.specs.declared.box_frame.Frame.{Frame}
use Rattle.sn_expr_parser.specs.declared.box_frame.Frame.TheVariants.{Parens, Arguments, Middle, Last}
use Rattle.sn_expr_parser.specs.declared.box_frame.LastPart.{LastPart}
use Rattle.sn_expr_parser.specs.declared.box_frame.LastPart.TheVariants.{Body, Else}
use Rattle.sn_expr_parser.specs.declared.box_frame.MiddlePart.{MiddlePart}
use Rattle.sn_expr_parser.specs.declared.box_frame.MiddlePart.TheVariants.{Bound, Test, Then}
use Rattle.sn_expr_parser.specs.declared.boxes.Mode.{Mode}
use Rattle.sn_expr_parser.specs.declared.boxes.Mode.TheVariants.{Begin, LetName, LetAssign, AtOperand}
use Rattle.sn_expr_parser.specs.declared.boxes.Awaited.TheVariants.{Want, AfterName, AfterOut, Opening, FirstArgument, FirstStep, Have}

-- an expression at the front, and what follows it
pub record Read : Type 0 where
  pub part : Kept BExpr
  pub rest : List Terminal

abbrev pub read : Kept BExpr → List Terminal → Read
read e us = record { part = e; rest = us }

-- the symbols that may follow a whole expression
abbrev pub may_end : SomeSymbol → Bool
may_end Semicolon = true
may_end CloseBrace = true
may_end symbol = false

abbrev pub ends : List Terminal → Type 0
ends (Symbol symbol at ∷ us) = IsTrue (may_end symbol)
ends us = ⊥

abbrev pub is_open_paren : Terminal → Bool
is_open_paren (Symbol OpenParen at) = true
is_open_paren token = false

-- whether the token closes the arguments
abbrev pub closes : Head → Terminal → Bool
closes head (Symbol symbol at) = is_closed_by head symbol
closes head token = false

-- the frame after the part e of a form and the keyword that follows it there
abbrev pub next_frame : MiddlePart → Kept BExpr → SomeKeyword → Option Frame
next_frame (Bound at name) e In = Some (Last (Body at name e))
next_frame (Test at) e ThenWord = Some (Middle (Then at e))
next_frame (Then at test) e ElseWord = Some (Last (Else at test e))
next_frame part e keyword = None

-- the form whose last part is e
abbrev pub completed : LastPart → Kept BExpr → Kept BExpr
completed (Body at name bound) e = with_binding kept at name bound e
completed (Else at test first) e = with_condition kept at test first e

-- [ comparison operator, sum ], after the sum e and what waits on its left; comparisons do not chain
pub data Compared : Option (Kept BExpr × Operator × ℕ) → Kept BExpr → List Terminal → Kept BExpr → List Terminal → Type 0 where
  no_comparison : {left : Option (Kept BExpr × Operator × ℕ)} {e : Kept BExpr} {us : List Terminal} →
      Compared left e us (operated box_operations left e) us
  one_comparison : {at : ℕ} {s : SomeSymbol} {op : Operator} {left : Option (Kept BExpr × Operator × ℕ)} {e f : Kept BExpr} {ts us : List Terminal} →
      left ≡ None → infix_of s ≡ Some (ComparisonSign op) → Sum kept ts f us →
      Compared left e (Symbol s at ∷ ts) (with_operator kept box_operations op at e f) us

mutual
  -- The tokens go on, after the expression e stands in the innermost of the frames, to what is read and its rest.
  pub data Up : List Frame → Kept BExpr → List Terminal → Read → Type 0 where
    whole : {e : Kept BExpr} {us : List Terminal} → ends us → Up [] e us (read e us)
    in_parens : {at close : ℕ} {fs : List Frame} {l : Level BExpr} {so_far : Option (Kept (List BExpr))} {e f : Kept BExpr} {ts us : List Terminal} {t : Read} →
        MoreSteps kept at so_far e ts f (Symbol CloseParen close ∷ us) → Down fs l (kept.parens f) us t →
        Up (Parens l at so_far ∷ fs) e ts t
    in_arguments : {fs : List Frame} {l : Level BExpr} {h : Head} {row es : Kept (List BExpr)} {e : Kept BExpr} {ts us : List Terminal} {t : Read} →
        MoreArguments kept (bracket_of h) (with_part kept row e) ts es us → Down fs l (with_row h es) us t →
        Up (Arguments l h row ∷ fs) e ts t
    in_middle : {at : ℕ} {k : SomeKeyword} {fs : List Frame} {part : MiddlePart} {g : Frame} {e f : Kept BExpr} {ts us : List Terminal} {t : Read} →
        next_frame part e k ≡ Some g → BoxExpr kept ts f us → Up (g ∷ fs) f us t →
        Up (Middle part ∷ fs) e (Keyword k at ∷ ts) t
    in_last : {fs : List Frame} {part : LastPart} {e : Kept BExpr} {us : List Terminal} {t : Read} →
        Up fs (completed part e) us t → Up (Last part ∷ fs) e us t

  -- the same after the operand p in the level l
  pub data Down : List Frame → Level BExpr → Kept BExpr → List Terminal → Read → Type 0 where
    down : {fs : List Frame} {l : Level BExpr} {p a b c d e : Kept BExpr} {ts us vs ws xs ys : List Terminal} {t : Read} →
        Products kept (product_in box_operations l p) ts a us → Sums kept (operated box_operations l.sum a) us b vs →
        Compared l.comparison b vs c ws → Conjunctions kept (conjoined box_operations l.and c) ws d xs →
        Disjunctions kept (disjoined box_operations l.or d) xs e ys → Up fs e ys t → Down fs l p ts t

-- where an operand comes next
pub data Next : List Frame → Level BExpr → List Terminal → Read → Type 0 where
  next : {fs : List Frame} {l : Level BExpr} {p : Kept BExpr} {ts us : List Terminal} {t : Read} →
      Operand kept ts p us → Down fs l p us t → Next fs l ts t

-- where an expression comes next
pub data NextExpr : List Frame → List Terminal → Read → Type 0 where
  next_expr : {fs : List Frame} {e : Kept BExpr} {ts us : List Terminal} {t : Read} → BoxExpr kept ts e us → Up fs e us t → NextExpr fs ts t

-- after "let" and a name
pub data NextAssign : List Frame → ℕ → Ident → List Terminal → Read → Type 0 where
  next_assign : {at assign : ℕ} {name : Ident} {fs : List Frame} {ts : List Terminal} {t : Read} →
      NextExpr (Middle (Bound at name) ∷ fs) ts t → NextAssign fs at name (Symbol Assign assign ∷ ts) t

-- after "let"
pub data NextName : List Frame → ℕ → List Terminal → Read → Type 0 where
  next_name : {at : ℕ} {name : Ident} {fs : List Frame} {ts : List Terminal} {t : Read} → NextAssign fs at name ts t → NextName fs at (Name name ∷ ts) t

-- after the bracket that opens arguments
pub data NextArguments : List Frame → Level BExpr → Head → List Terminal → Read → Type 0 where
  next_arguments : {fs : List Frame} {l : Level BExpr} {h : Head} {es : Kept (List BExpr)} {ts us : List Terminal} {t : Read} →
      SomeArguments kept (bracket_of h) ts es us → Down fs l (with_row h es) us t → NextArguments fs l h ts t

-- where a parenthesis opens arguments
pub data NextOpening : List Frame → Level BExpr → Head → List Terminal → Read → Type 0 where
  next_opening : {at : ℕ} {fs : List Frame} {l : Level BExpr} {h : Head} {ts : List Terminal} {t : Read} →
      NextArguments fs l h ts t → NextOpening fs l h (Symbol OpenParen at ∷ ts) t

-- after "out"
pub data NextNumber : List Frame → Level BExpr → ℕ → List Terminal → Read → Type 0 where
  next_number : {at number_at : ℕ} {n : ℤ} {fs : List Frame} {l : Level BExpr} {ts : List Terminal} {t : Read} →
      NextOpening fs l (Variant at (unsigned_abs n)) ts t → NextNumber fs l at (Number n number_at ∷ ts) t

-- after a name, which is a function where a parenthesis follows
pub data Named : List Frame → Level BExpr → Ident → List Terminal → Read → Type 0 where
  plain_name : {name : Ident} {fs : List Frame} {l : Level BExpr} {us : List Terminal} {t : Read} →
      Down fs l (kept.leaf (record { at = name.at; form = box_form.Name name })) us t → Named fs l name us t
  called_name : {name : Ident} {fs : List Frame} {l : Level BExpr} {us : List Terminal} {t : Read} →
      NextOpening fs l (Function name) us t → Named fs l name us t

-- after the parenthesis that opens a sequence
pub data NextSequence : List Frame → Level BExpr → List Terminal → Read → Type 0 where
  next_sequence : {close : ℕ} {fs : List Frame} {l : Level BExpr} {e : Kept BExpr} {ts us : List Terminal} {t : Read} →
      Sequence kept ts e (Symbol CloseParen close ∷ us) → Down fs l (kept.parens e) us t → NextSequence fs l ts t

abbrev pub CompletesIn : List Frame → Mode → List Terminal → Read → Type 0
CompletesIn fs Begin w t = NextExpr fs w t
CompletesIn fs (LetName at) w t = NextName fs at w t
CompletesIn fs (LetAssign at name) w t = NextAssign fs at name w t
CompletesIn fs (AtOperand l Want) w t = Next fs l w t
CompletesIn fs (AtOperand l (AfterName name)) w t = Named fs l name w t
CompletesIn fs (AtOperand l (AfterOut at)) w t = NextNumber fs l at w t
CompletesIn fs (AtOperand l (Opening h)) w t = NextOpening fs l h w t
CompletesIn fs (AtOperand l (FirstArgument h)) w t = NextArguments fs l h w t
CompletesIn fs (AtOperand l FirstStep) w t = NextSequence fs l w t
CompletesIn fs (AtOperand l (Have p)) w t = Down fs l p w t

-- The tokens go on from the state to what is read and its rest.
abbrev pub Completes : BoxParser → List Terminal → Read → Type 0
Completes s w t = CompletesIn s.frames s.mode w t

-- Where a step took the token x: what goes on from before it begins with x, and then goes on from the state after it.
-- Where it refused x: nothing that begins with x went on. Where it ended at x, which is then a symbol: what was read is
-- the expression, and x is the first of the rest.
abbrev pub StepsFrom : (List Terminal → Read → Type 0) → Terminal → Result BoxParser BoxStop → Type 0
StepsFrom before x (Ok s) = (w : List Terminal) (t : Read) → before (x ∷ w) t ↔ Completes s w t
StepsFrom before x (Err Memory) = Unit {0}
StepsFrom before x (Err Refused) = (w : List Terminal) (t : Read) → before (x ∷ w) t → ⊥
StepsFrom before x (Err (Ended e s at)) =
    (x ≡ Symbol s at) × ((w : List Terminal) (t : Read) → before (x ∷ w) t ↔ (read e (x ∷ w) ≡ t))

abbrev pub StepsIn : List Frame → Mode → Terminal → Result BoxParser BoxStop → Type 0
StepsIn fs m x r = StepsFrom (CompletesIn fs m) x r

abbrev pub Steps : BoxParser → Terminal → Result BoxParser BoxStop → Type 0
Steps s x r = StepsFrom (Completes s) x r

abbrev pub framed : Option Frame → List Frame → List Frame
framed None gs = []
framed (Some f) gs = f ∷ gs

-- The expression e in the frames fs is as good as f in the frame o above gs, which is no last part of a form, or as f
-- alone.
pub record Innermost (fs : List Frame) (e : Kept BExpr) (o : Option Frame) (gs : List Frame) (f : Kept BExpr) : Type 0 where
  pub same : (us : List Terminal) (t : Read) → Up fs e us t ↔ Up (framed o gs) f us t
  pub other : (part : LastPart) → o ≡ Some (Last part) → ⊥
