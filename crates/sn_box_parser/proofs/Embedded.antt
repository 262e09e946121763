-- The parsers that a box's parser embeds: what completes them goes on as what completes the box.
use Rattle.std.proofs.Common.{ℕ, List, ◌∷◌, ◌≡◌, ◌↔◌, Option, None, Result, Ok, Err, refl, sym, subst}
use Rattle.sn_ast.specs.BoxExprs.{BoxExpr, Steps as MoreSteps, last_step, more_steps, sequence, with_step}
use Rattle.sn_ast.specs.Declarations.{Body, body, function, with_function}
use Rattle.sn_ast.specs.Kept.{Kept, kept}
use Rattle.sn_ast.specs.Labels.{Labels, tuple}
use Rattle.sn_ast.specs.Terminals.{place_of}
use Rattle.sn_ast.specs.declared.box_expr.BExpr.{BExpr}
use Rattle.sn_ast.specs.declared.declaration.Decl.{Decl}
use Rattle.sn_ast.specs.declared.label.Ident.{Ident}
use Rattle.sn_ast.specs.declared.label.LabelAt.{LabelAt}
use Rattle.sn_ast.specs.declared.label.Tuple.{Tuple}
use Rattle.sn_ast.specs.declared.terminal.Bracket.TheVariants.{Paren}
use Rattle.sn_ast.specs.declared.terminal.Keyword.TheVariants.{Fun}
use Rattle.sn_ast.specs.declared.terminal.Symbol.{Symbol as SomeSymbol}
use Rattle.sn_ast.specs.declared.terminal.Symbol.TheVariants.{OpenParen, CloseBrace, Semicolon, Assign}
use Rattle.sn_ast.specs.declared.terminal.Terminal.{Terminal}
use Rattle.sn_ast.specs.declared.terminal.Terminal.TheVariants.{Keyword, Symbol}
use Rattle.sn_expr_parser.specs.BoxResidual.{Completes as ExprCompletes, Read as ExprRead, ends, read as read_expr}
use Rattle.sn_expr_parser.specs.declared.boxes.BoxParser.{BoxParser}
use Rattle.sn_type_parser.specs.LabelResidual.{Completes as LabelsComplete}
use Rattle.sn_type_parser.specs.Reads.{Read as SomeRead, read as read_labels}
use Rattle.sn_type_parser.specs.declared.labels.LabelParser.{LabelParser}
use Rattle.sn_box_parser.specs.BoxDeclResidual.{AfterBody, AfterPart, InExpr, InTuple, NextAssign, NextBody, NextTuple, Read, StepsFrom, Through, after_body, after_part, next_assign, next_tuple, read, through}
use Rattle.sn_box_parser.specs.declared.machine.BoxDeclStep.{BoxDeclStep}
use Rattle.sn_box_parser.specs.declared.machine.BoxDeclStep.TheVariants.{More, Done}
use Rattle.sn_box_parser.specs.declared.machine.BoxDeclStop.{BoxDeclStop}
use Rattle.sn_box_parser.specs.declared.machine.BoxDeclStop.TheVariants.{Memory, Refused}
use Rattle.sn_box_parser.specs.declared.parts.Opened.{Opened}

-- What one state takes another takes, where the same completes both from this token on.
pub steps_through : (before after : List Terminal → Read → Type 0) (x : Terminal) (r : Result BoxDeclStep BoxDeclStop) →
    ((w : List Terminal) (t : Read) → before (x ∷ w) t ↔ after (x ∷ w) t) → StepsFrom after x r → StepsFrom before x r
steps_through before after x (Ok (More s)) k h = λ w t. (λ y. (h w t).0 ((k w t).0 y), λ y. (k w t).1 ((h w t).1 y))
steps_through before after x (Ok (Done d)) k h = λ w t. (λ y. (h w t).0 ((k w t).0 y), λ y. (k w t).1 ((h w t).1 y))
steps_through before after x (Err Memory) k h = tt
steps_through before after x (Err Refused) k h = λ w t y. h w t ((k w t).0 y)

-- any parser that is embedded
pub through_more : {Q : Type 0} (reads next : List Terminal → Q → Type 0) (after : Q → Read → Type 0) (x : Terminal) →
    ((w : List Terminal) (q : Q) → reads (x ∷ w) q ↔ next w q) → (w : List Terminal) (t : Read) →
    Through reads after (x ∷ w) t ↔ Through next after w t
through_more {Q} reads next after x h w t = (go, back)
  where
    go : Through reads after (x ∷ w) t → Through next after w t
    go (through q c a) = through q ((h w q).0 c) a

    back : Through next after w t → Through reads after (x ∷ w) t
    back (through q c a) = through q ((h w q).1 c) a

pub through_done : {Q : Type 0} (reads : List Terminal → Q → Type 0) (after : Q → Read → Type 0) (read : List Terminal → Q) (x : Terminal) →
    ((w : List Terminal) (q : Q) → reads (x ∷ w) q ↔ (read w ≡ q)) → (w : List Terminal) (t : Read) →
    Through reads after (x ∷ w) t ↔ after (read w) t
through_done {Q} reads after read x h w t = (go, back)
  where
    go : Through reads after (x ∷ w) t → after (read w) t
    go (through q c a) = let P : Q → Type 0 = λ r. after r t in subst P (sym ((h w q).0 c)) a

    back : after (read w) t → Through reads after (x ∷ w) t
    back a = through (read w) ((h w (read w)).1 refl) a

pub through_refused : {Q : Type 0} (reads : List Terminal → Q → Type 0) (after : Q → Read → Type 0) (x : Terminal) →
    ((w : List Terminal) (q : Q) → reads (x ∷ w) q → ⊥) → (w : List Terminal) (t : Read) → Through reads after (x ∷ w) t → ⊥
through_refused reads after x h w t (through q c a) = h w q c

-- a tuple
pub tuple_start : (after : Tuple → List Terminal → Read → Type 0) (opening : ℕ) (s : LabelParser) →
    ((w us : List Terminal) (all : List LabelAt) → Labels Paren w all us → LabelsComplete s w (read_labels all us)) →
    ((w : List Terminal) (q : SomeRead (List LabelAt)) → LabelsComplete s w q → Labels Paren w q.part q.rest) → (w : List Terminal) (t : Read) →
    NextTuple after (Symbol OpenParen opening ∷ w) t ↔ InTuple after opening s w t
tuple_start after opening s from to w t = (go, back)
  where
    go : NextTuple after (Symbol OpenParen opening ∷ w) t → InTuple after opening s w t
    go (next_tuple (tuple {all} {us = us} l) a) = through (read_labels all us) (from w us all l) a

    back : InTuple after opening s w t → NextTuple after (Symbol OpenParen opening ∷ w) t
    back (through q c a) = next_tuple (tuple (to w q c)) a

-- an expression: where its parser ended at the symbol y
pub expr_ended : (after : Kept BExpr → List Terminal → Read → Type 0) (s : BoxParser) (e : Kept BExpr) (y : SomeSymbol) (at : ℕ) (x : Terminal) →
    (x ≡ Symbol y at) × ((w : List Terminal) (q : ExprRead) → ExprCompletes s (x ∷ w) q ↔ (read_expr e (x ∷ w) ≡ q)) →
    (r : Result BoxDeclStep BoxDeclStop) → ((place : ℕ) → StepsFrom (after e) (Symbol y place) r) → StepsFrom (InExpr after s) x r
expr_ended after s e y at x h r k =
    let P : Terminal → Type 0 = λ z. StepsFrom (after e) z r in
    steps_through (InExpr after s) (after e) x r
    (through_done (ExprCompletes s) (λ q u. after q.part q.rest u) (λ w. read_expr e (x ∷ w)) x h.1)
    (subst P (sym h.0) (k at))

-- what the parser of expressions answers of a new one
abbrev Starts : BoxParser → Type 0
Starts s =
    ((w us : List Terminal) (e : Kept BExpr) → BoxExpr kept w e us → ends us → ExprCompletes s w (read_expr e us)) ×
    ((w : List Terminal) (q : ExprRead) → ExprCompletes s w q → BoxExpr kept w q.part q.rest × ends q.rest)

-- the body of a function
body_ends : {b : Opened} {name : Ident} {all : List Ident} {e : Kept BExpr} {us : List Terminal} {t : Read} → AfterBody b name all e us t → ends us
body_ends (after_body r) = refl

pub assign_start : (b : Opened) (name : Ident) (all : List Ident) (at : ℕ) (s : BoxParser) → Starts s → (w : List Terminal) (t : Read) →
    NextAssign b name all (Symbol Assign at ∷ w) t ↔ InExpr (AfterBody b name all) s w t
assign_start b name all at s h w t = (go, back)
  where
    go : NextAssign b name all (Symbol Assign at ∷ w) t → InExpr (AfterBody b name all) s w t
    go (next_assign {e = e} {us = us} c a) = through (read_expr e us) (h.0 w us e c (body_ends a)) a

    back : InExpr (AfterBody b name all) s w t → NextAssign b name all (Symbol Assign at ∷ w) t
    back (through q c a) = next_assign (h.1 w q c).0 a

-- a part of the body's sequence
part_ends : {at close : ℕ} {so_far : Option (Kept (List BExpr))} {e f : Kept BExpr} {us vs : List Terminal} →
    MoreSteps kept at so_far e us f (Symbol CloseBrace close ∷ vs) → ends us
part_ends last_step = refl
part_ends (more_steps c k) = refl

first_from : (b : Opened) (s : BoxParser) (x : Terminal) (w : List Terminal) (d : Kept Decl) (us : List Terminal) → Starts s → ((at : ℕ) → x ≡ Keyword Fun at → ⊥) →
    Body kept b.head.name b.head.input b.head.outputs b.functions (x ∷ w) d us → InExpr (AfterPart b (place_of x) None) s (x ∷ w) (read d us)
first_from b s x w d us h n (body (sequence {e = e} {us = vs} c k)) = through (read_expr e vs) (h.0 (x ∷ w) vs e c (part_ends k)) (after_part k)
first_from b s x w d us h n (with_function (function {at} p c) r) = absurd (n at refl)

first_to : (b : Opened) (s : BoxParser) (x : Terminal) (w : List Terminal) (t : Read) → Starts s →
    InExpr (AfterPart b (place_of x) None) s (x ∷ w) t → NextBody b (x ∷ w) t
first_to b s x w t h (through q c (after_part k)) = body (sequence (h.1 (x ∷ w) q c).0 k)

pub first_start : (b : Opened) (s : BoxParser) (x : Terminal) → Starts s → ((at : ℕ) → x ≡ Keyword Fun at → ⊥) → (w : List Terminal) (t : Read) →
    NextBody b (x ∷ w) t ↔ InExpr (AfterPart b (place_of x) None) s (x ∷ w) t
first_start b s x h n w t = (first_from b s x w t.part t.rest h n, first_to b s x w t h)

part_from : (b : Opened) (at : ℕ) (so_far : Option (Kept (List BExpr))) (e : Kept BExpr) (semicolon : ℕ) (s : BoxParser) (w : List Terminal) (t : Read) → Starts s →
    AfterPart b at so_far e (Symbol Semicolon semicolon ∷ w) t → InExpr (AfterPart b at (with_step kept so_far e)) s w t
part_from b at so_far e semicolon s w t h (after_part (more_steps {f = f} {us = us} c k)) = through (read_expr f us) (h.0 w us f c (part_ends k)) (after_part k)

part_to : (b : Opened) (at : ℕ) (so_far : Option (Kept (List BExpr))) (e : Kept BExpr) (semicolon : ℕ) (s : BoxParser) (w : List Terminal) (t : Read) → Starts s →
    InExpr (AfterPart b at (with_step kept so_far e)) s w t → AfterPart b at so_far e (Symbol Semicolon semicolon ∷ w) t
part_to b at so_far e semicolon s w t h (through q c (after_part k)) = after_part (more_steps (h.1 w q c).0 k)

pub part_start : (b : Opened) (at : ℕ) (so_far : Option (Kept (List BExpr))) (e : Kept BExpr) (semicolon : ℕ) (s : BoxParser) → Starts s → (w : List Terminal) (t : Read) →
    AfterPart b at so_far e (Symbol Semicolon semicolon ∷ w) t ↔ InExpr (AfterPart b at (with_step kept so_far e)) s w t
part_start b at so_far e semicolon s h w t = (part_from b at so_far e semicolon s w t h, part_to b at so_far e semicolon s w t h)
