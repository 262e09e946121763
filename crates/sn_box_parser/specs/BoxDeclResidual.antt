-- What the open forms of a box still need: which tokens complete it, up to the brace that closes its body.
use Rattle.std.specs.Prelude.{ℕ, List, [], ◌∷◌, ◌≡◌, ◌↔◌, Option, Result, Ok, Err}
use Rattle.sn_ast.specs.BoxExprs.{BoxExpr, Steps as MoreSteps}
use Rattle.sn_ast.specs.Declarations.{Body, MoreParams, MoreTuples, Params, RestOfBox, function_of, with_body}
use Rattle.sn_ast.specs.Kept.{Kept, kept}
use Rattle.sn_ast.specs.Labels.{IsTuple}
use Rattle.sn_ast.specs.Rows.{append, no_parts, with_part}
use Rattle.sn_ast.specs.declared.box_expr.BExpr.{BExpr}
use Rattle.sn_ast.specs.declared.declaration.Decl.{Decl}
use Rattle.sn_ast.specs.declared.label.Ident.{Ident}
use Rattle.sn_ast.specs.declared.label.LabelAt.{LabelAt}
use Rattle.sn_ast.specs.declared.label.Tuple.{Tuple}
use Rattle.sn_ast.specs.declared.terminal.Symbol.TheVariants.{OpenParen, OpenBrace, CloseBrace, Semicolon, Assign as AssignSign, Arrow as ArrowSign}
use Rattle.sn_ast.specs.declared.terminal.Terminal.{Terminal}
use Rattle.sn_ast.specs.declared.terminal.Terminal.TheVariants.{Name, Symbol}
use Rattle.sn_expr_parser.specs.BoxResidual.{Completes as ExprCompletes}
use Rattle.sn_expr_parser.specs.declared.boxes.BoxParser.{BoxParser}
use Rattle.sn_type_parser.specs.LabelResidual.{Completes as LabelsComplete}
use Rattle.sn_type_parser.specs.declared.labels.LabelParser.{LabelParser}
use Rattle.sn_box_parser.specs.declared.machine.BoxDeclParser.{BoxDeclParser}
use Rattle.sn_box_parser.specs.declared.machine.BoxDeclStep.{BoxDeclStep}
use Rattle.sn_box_parser.specs.declared.machine.BoxDeclStep.TheVariants.{More, Done}
use Rattle.sn_box_parser.specs.declared.machine.BoxDeclStop.{BoxDeclStop}
use Rattle.sn_box_parser.specs.declared.machine.BoxDeclStop.TheVariants.{Memory, Refused}
use Rattle.sn_box_parser.specs.declared.machine.InBody.TheVariants as in_body
use Rattle.sn_box_parser.specs.declared.machine.InOutputs.TheVariants as in_outputs
use Rattle.sn_box_parser.specs.declared.machine.Mode.{Mode}
use Rattle.sn_box_parser.specs.declared.machine.Mode.TheVariants as mode
use Rattle.sn_box_parser.specs.declared.parts.Opened.{Opened}

-- a box at the front, and what follows it
pub record Read : Type 0 where
  pub part : Kept Decl
  pub rest : List Terminal

abbrev pub read : Kept Decl → List Terminal → Read
read d us = record { part = d; rest = us }

abbrev pub tuple_at : ℕ → List LabelAt → Tuple
tuple_at at labels = record { labels = labels; at = at }

-- the tokens go on from the state of a parser to what it reads, and after that the box is completed
pub data Through {Q : Type 0} (reads : List Terminal → Q → Type 0) (after : Q → Read → Type 0) : List Terminal → Read → Type 0 where
  through : {ts : List Terminal} {t : Read} (q : Q) → reads ts q → after q t → Through reads after ts t

-- a tuple, and then what follows it
pub data NextTuple (after : Tuple → List Terminal → Read → Type 0) : List Terminal → Read → Type 0 where
  next_tuple : {u : Tuple} {ts us : List Terminal} {t : Read} → IsTuple ts u us → after u us t → NextTuple after ts t

-- the same where its opening parenthesis was taken: the parser of labels reads those of the tuple
abbrev pub InTuple : (Tuple → List Terminal → Read → Type 0) → ℕ → LabelParser → List Terminal → Read → Type 0
InTuple after opening s ts t = Through (LabelsComplete s) (λ q u. after (tuple_at opening q.part) q.rest u) ts t

-- { fun } seq "}", after the functions so far
abbrev pub NextBody : Opened → List Terminal → Read → Type 0
NextBody b ts t = Body kept b.head.name b.head.input b.head.outputs b.functions ts t.part t.rest

-- "{" { fun } seq "}"
pub data NextBrace (name : Ident) (input : Tuple) (outputs : List Tuple) : List Terminal → Read → Type 0 where
  next_brace : {at : ℕ} {us : List Terminal} {t : Read} →
      Body kept name input outputs (no_parts kept) us t.part t.rest → NextBrace name input outputs (Symbol OpenBrace at ∷ us) t

-- { "|" tuple } ")", after the outputs so far, and then the body
pub data AfterOutput (name : Ident) (input : Tuple) (so_far : List Tuple) : List Terminal → Read → Type 0 where
  after_output : {outputs : List Tuple} {ts us : List Terminal} {t : Read} →
      MoreTuples so_far ts outputs us → NextBrace name input outputs us t → AfterOutput name input so_far ts t

-- one more output, and what follows it
abbrev pub WithOutput : Ident → Tuple → List Tuple → Tuple → List Terminal → Read → Type 0
WithOutput name input so_far u ts t = AfterOutput name input (append so_far u) ts t

-- "->" and an output, and what follows it
pub data NextArrow (name : Ident) (input : Tuple) : List Terminal → Read → Type 0 where
  next_arrow : {at : ℕ} {us : List Terminal} {t : Read} → NextTuple (WithOutput name input []) us t → NextArrow name input (Symbol ArrowSign at ∷ us) t

-- ";" after the body of a function, and then what follows the function
pub data AfterBody (b : Opened) (name : Ident) (params : List Ident) (e : Kept BExpr) : List Terminal → Read → Type 0 where
  after_body : {at : ℕ} {us : List Terminal} {t : Read} →
      Body kept b.head.name b.head.input b.head.outputs (with_part kept b.functions (kept.each (function_of name params) e)) us t.part t.rest →
      AfterBody b name params e (Symbol Semicolon at ∷ us) t

-- "=" bexpr ";"
pub data NextAssign (b : Opened) (name : Ident) (params : List Ident) : List Terminal → Read → Type 0 where
  next_assign : {at : ℕ} {e : Kept BExpr} {ts us : List Terminal} {t : Read} →
      BoxExpr kept ts e us → AfterBody b name params e us t → NextAssign b name params (Symbol AssignSign at ∷ ts) t

-- { "," ID } ")", after the parameters so far, and then the body of the function
pub data AfterParam (b : Opened) (name : Ident) (so_far : List Ident) : List Terminal → Read → Type 0 where
  after_param : {params : List Ident} {ts us : List Terminal} {t : Read} →
      MoreParams so_far ts params us → NextAssign b name params us t → AfterParam b name so_far ts t

-- a parameter, and what follows it
pub data NextParam (b : Opened) (name : Ident) (so_far : List Ident) : List Terminal → Read → Type 0 where
  next_param : {param : Ident} {us : List Terminal} {t : Read} → AfterParam b name (append so_far param) us t → NextParam b name so_far (Name param ∷ us) t

-- [ ID { "," ID } ] ")", and then the body of the function
pub data NextParams (b : Opened) (name : Ident) : List Terminal → Read → Type 0 where
  next_params : {params : List Ident} {ts us : List Terminal} {t : Read} →
      Params ts params us → NextAssign b name params us t → NextParams b name ts t

-- "(" and the parameters
pub data NextOpening (b : Opened) (name : Ident) : List Terminal → Read → Type 0 where
  next_opening : {at : ℕ} {us : List Terminal} {t : Read} → NextParams b name us t → NextOpening b name (Symbol OpenParen at ∷ us) t

-- a function after its "fun"
pub data NextFunction (b : Opened) : List Terminal → Read → Type 0 where
  next_function : {name : Ident} {us : List Terminal} {t : Read} → NextOpening b name us t → NextFunction b (Name name ∷ us) t

-- { ";" bexpr } "}", after the part e of the body's sequence and those before it
pub data AfterPart (b : Opened) (at : ℕ) (so_far : Option (Kept (List BExpr))) (e : Kept BExpr) : List Terminal → Read → Type 0 where
  after_part : {close : ℕ} {f : Kept BExpr} {ts us : List Terminal} →
      MoreSteps kept at so_far e ts f (Symbol CloseBrace close ∷ us) →
      AfterPart b at so_far e ts (read (with_body kept b.head.name b.head.input b.head.outputs b.functions f) us)

-- in an expression: its parser reads it, and after that the box is completed
abbrev pub InExpr : (Kept BExpr → List Terminal → Read → Type 0) → BoxParser → List Terminal → Read → Type 0
InExpr after s ts t = Through (ExprCompletes s) (λ q u. after q.part q.rest u) ts t

abbrev pub CompletesIn : Mode → List Terminal → Read → Type 0
CompletesIn (mode.Opening name) w t = RestOfBox kept name w t.part t.rest
CompletesIn (mode.Input name) w t = NextTuple (NextArrow name) w t
CompletesIn (mode.InInput name opening labels) w t = InTuple (NextArrow name) opening labels w t
CompletesIn (mode.Arrow name input) w t = NextArrow name input w t
CompletesIn (mode.Outputs h in_outputs.Output) w t = NextTuple (WithOutput h.name h.input h.outputs) w t
CompletesIn (mode.Outputs h (in_outputs.InOutput opening labels)) w t = InTuple (WithOutput h.name h.input h.outputs) opening labels w t
CompletesIn (mode.Outputs h in_outputs.AfterOutput) w t = AfterOutput h.name h.input h.outputs w t
CompletesIn (mode.Outputs h in_outputs.Brace) w t = NextBrace h.name h.input h.outputs w t
CompletesIn (mode.Inside b in_body.Body) w t = NextBody b w t
CompletesIn (mode.Inside b in_body.FunctionName) w t = NextFunction b w t
CompletesIn (mode.Inside b (in_body.FunctionOpening name)) w t = NextOpening b name w t
CompletesIn (mode.Inside b (in_body.FirstParam name)) w t = NextParams b name w t
CompletesIn (mode.Inside b (in_body.Param f)) w t = NextParam b f.name f.params w t
CompletesIn (mode.Inside b (in_body.AfterParam f)) w t = AfterParam b f.name f.params w t
CompletesIn (mode.Inside b (in_body.Assign f)) w t = NextAssign b f.name f.params w t
CompletesIn (mode.Inside b (in_body.InFunction f body)) w t = InExpr (AfterBody b f.name f.params) body w t
CompletesIn (mode.Inside b (in_body.InPart sequence part)) w t = InExpr (AfterPart b sequence.at sequence.so_far) part w t

-- The tokens go on from the state to a box and its rest.
abbrev pub Completes : BoxDeclParser → List Terminal → Read → Type 0
Completes s w t = CompletesIn s.mode w t

-- Where a step took the token x: what went on from before it begins with x, and then goes on from the state after it, or
-- is over with x. Where it refused x: nothing that begins with x went on.
abbrev pub StepsFrom : (List Terminal → Read → Type 0) → Terminal → Result BoxDeclStep BoxDeclStop → Type 0
StepsFrom before x (Ok (More s)) = (w : List Terminal) (t : Read) → before (x ∷ w) t ↔ Completes s w t
StepsFrom before x (Ok (Done d)) = (w : List Terminal) (t : Read) → before (x ∷ w) t ↔ (read d w ≡ t)
StepsFrom before x (Err Memory) = Unit {0}
StepsFrom before x (Err Refused) = (w : List Terminal) (t : Read) → before (x ∷ w) t → ⊥

abbrev pub StepsIn : Mode → Terminal → Result BoxDeclStep BoxDeclStop → Type 0
StepsIn m x r = StepsFrom (CompletesIn m) x r

abbrev pub Steps : BoxDeclParser → Terminal → Result BoxDeclStep BoxDeclStop → Type 0
Steps s x r = StepsFrom (Completes s) x r
