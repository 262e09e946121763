-- Expressions in boxes read back.
use Rattle.std.proofs.Common.{◌≡◌, ℕ, ℤ, true, ◌++◌, List, [], ◌∷◌, map, pos, unsigned_abs, codes, decimal, Some, None, refl, sym, ap, ◌∙◌}
use Rattle.std.specs.Fmt.{signed_decimal}
use Rattle.std.specs.List.{list_all}
use Rattle.sn_ast.specs.BoxExprs.{Function, Variant, Elements, applied, with_binding, with_condition, with_arguments, BoxExpr, bind, choose, plain, Disjunction, disjunction, Disjunctions, no_or, or, Conjunction, conjunction, Conjunctions, no_and, and, Comparison, no_compare, compare, Sum, sum, Sums, no_sum, add, Product, product, Products, no_product, multiply, Operand, sign, number as numbered, literal, tag, name as named, call, list, out, parens, Arguments, no_arguments, arguments, MoreArguments, last_argument, more_arguments, Sequence, sequence, Steps, last_step, more_steps}
use Rattle.sn_ast.specs.Measures.{measured}
use Rattle.sn_ast.specs.Operators.{box_operations, with_sign, with_operator, with_and, with_or}
use Rattle.sn_ast.specs.Rows.{no_parts, with_part}
use Rattle.sn_ast.specs.declared.box_expr.BExpr.{BExpr, BExpr-F, fold-BExpr, fold-roll-BExpr}
use Rattle.sn_ast.specs.declared.box_expr.BForm.{BForm, fold-BForm}
use Rattle.sn_ast.specs.declared.box_expr.BForm.TheOpen.{BForm-F}
use Rattle.sn_ast.specs.declared.box_expr.BForm.TheFolds.{fold-roll-BForm}
use Rattle.sn_ast.specs.declared.box_expr.BForm.TheVariants as form
use Rattle.sn_ast.specs.declared.label.Ident.{Ident}
use Rattle.sn_ast.specs.declared.measure.Measured.{Measured}
use Rattle.sn_ast.specs.declared.tag_expr.Operator.{Operator}
use Rattle.sn_ast.specs.declared.tag_expr.Operator.TheVariants.{Add, Sub, Mul, Div, Rem, Lt, Le, Gt, Ge, Eq, Ne}
use Rattle.sn_ast.specs.declared.terminal.Bracket.{Bracket}
use Rattle.sn_ast.specs.declared.terminal.Bracket.TheVariants.{Paren, Square}
use Rattle.sn_ast.specs.declared.terminal.Keyword.TheVariants as keyword
use Rattle.sn_ast.specs.declared.terminal.Sign.TheVariants.{Minus, Not}
use Rattle.sn_ast.specs.declared.terminal.Symbol.TheVariants as symbol
use Rattle.sn_ast.specs.declared.terminal.Terminal.{Terminal}
use Rattle.sn_ast.specs.declared.terminal.Terminal.TheVariants.{Symbol, Number}
use Rattle.sn_lexer.specs.Spelling.{quoted, is_printable}
use Rattle.sn_print.specs.Expressions.{Rank, Alone, Compound, Sequence as SequenceRank, Shown, alone, compound, operand, by_rank, part, part_by_rank, box_shown, box_step}
use Rattle.sn_print.specs.Expressions.{arguments as arguments_text}
use Rattle.sn_print.specs.Words.{in_angles, in_parentheses, joined}
use Rattle.sn_roundtrip.specs.Unplaced.{unplaced_ident, unplaced_box, unplaced_box_form, at_no_box_place}
use Rattle.sn_roundtrip.proofs.Joins.{before, calmly, mildly, mildly_exact, wholly}
use Rattle.sn_roundtrip.proofs.Rereads.{Readable, reread, Shows, Like, like_leaf, like_inside, like_parens, like_loose, like_each, like_raise, like_join, like_three, like_row}
use Rattle.sn_roundtrip.proofs.Rows.{GoodRow, row_begins, row_goes_on, mild_head}
use Rattle.sn_roundtrip.proofs.Singles.{symbol_span, keyword_span, number_span, tag_span, name_span, literal_span, spaced_text, spaced, gap}
use Rattle.sn_roundtrip.proofs.Spans.{HeadAt, head_at, Calm, Mild, Exactly, Free, Whole, Span}
use Rattle.sn_roundtrip.proofs.Tags.{symbol_of, op_text, between, parens_span}
use Rattle.sn_roundtrip.specs.Words.{IsIdentifier, IsTagName, IsWord, AreWords}
use Rattle.sn_terminal.specs.Words.{keyword_word}

-- a fold of an expression is one step over the folds of its parts
module _ {A B : Type 0} (s : BForm-F A B → A) (t : BExpr-F A B → B) (at : ℕ) where
  abbrev fold : BExpr → B
  fold = fold-BExpr A B s t

  of_form : (f : BForm) (x : BForm-F A B) → fold-BForm A B s t f ≡ s x → fold (record { at = at; form = f }) ≡ t (record { at = at; form = s x })
  of_form f x is = fold-roll-BExpr A B s t (record { at = at; form = f }) ∙ ap (λ a. t (record { at = at; form = a })) is

  pub fold_number : (n : _) → fold (record { at = at; form = form.Number n }) ≡ t (record { at = at; form = s (BForm-F.Number n) })
  fold_number n = of_form (form.Number n) (BForm-F.Number n) (ap (fold-BForm A B s t) (sym (form.rolls-Number n)) ∙ fold-roll-BForm A B s t (BForm-F.Number n))

  pub fold_text : (text : List ℕ) → fold (record { at = at; form = form.TextLit text }) ≡ t (record { at = at; form = s (BForm-F.TextLit text) })
  fold_text text = of_form (form.TextLit text) (BForm-F.TextLit text) (ap (fold-BForm A B s t) (sym (form.rolls-TextLit text)) ∙ fold-roll-BForm A B s t (BForm-F.TextLit text))

  pub fold_tag : (name : Ident) → fold (record { at = at; form = form.Tag name }) ≡ t (record { at = at; form = s (BForm-F.Tag name) })
  fold_tag name = of_form (form.Tag name) (BForm-F.Tag name) (ap (fold-BForm A B s t) (sym (form.rolls-Tag name)) ∙ fold-roll-BForm A B s t (BForm-F.Tag name))

  pub fold_name : (name : Ident) → fold (record { at = at; form = form.Name name }) ≡ t (record { at = at; form = s (BForm-F.Name name) })
  fold_name name = of_form (form.Name name) (BForm-F.Name name) (ap (fold-BForm A B s t) (sym (form.rolls-Name name)) ∙ fold-roll-BForm A B s t (BForm-F.Name name))

  pub fold_neg : (e : BExpr) → fold (record { at = at; form = form.Neg e }) ≡ t (record { at = at; form = s (BForm-F.Neg (fold e)) })
  fold_neg e = of_form (form.Neg e) (BForm-F.Neg (fold e)) (ap (fold-BForm A B s t) (sym (form.rolls-Neg e)) ∙ fold-roll-BForm A B s t (BForm-F.Neg e))

  pub fold_not : (e : BExpr) → fold (record { at = at; form = form.Not e }) ≡ t (record { at = at; form = s (BForm-F.Not (fold e)) })
  fold_not e = of_form (form.Not e) (BForm-F.Not (fold e)) (ap (fold-BForm A B s t) (sym (form.rolls-Not e)) ∙ fold-roll-BForm A B s t (BForm-F.Not e))

  pub fold_op : (o : Operator) (e f : BExpr) → fold (record { at = at; form = form.Op o e f }) ≡ t (record { at = at; form = s (BForm-F.Op o (fold e) (fold f)) })
  fold_op o e f = of_form (form.Op o e f) (BForm-F.Op o (fold e) (fold f)) (ap (fold-BForm A B s t) (sym (form.rolls-Op o e f)) ∙ fold-roll-BForm A B s t (BForm-F.Op o e f))

  pub fold_and : (e f : BExpr) → fold (record { at = at; form = form.And e f }) ≡ t (record { at = at; form = s (BForm-F.And (fold e) (fold f)) })
  fold_and e f = of_form (form.And e f) (BForm-F.And (fold e) (fold f)) (ap (fold-BForm A B s t) (sym (form.rolls-And e f)) ∙ fold-roll-BForm A B s t (BForm-F.And e f))

  pub fold_or : (e f : BExpr) → fold (record { at = at; form = form.Or e f }) ≡ t (record { at = at; form = s (BForm-F.Or (fold e) (fold f)) })
  fold_or e f = of_form (form.Or e f) (BForm-F.Or (fold e) (fold f)) (ap (fold-BForm A B s t) (sym (form.rolls-Or e f)) ∙ fold-roll-BForm A B s t (BForm-F.Or e f))

  pub fold_if : (c e f : BExpr) → fold (record { at = at; form = form.If c e f }) ≡ t (record { at = at; form = s (BForm-F.If (fold c) (fold e) (fold f)) })
  fold_if c e f = of_form (form.If c e f) (BForm-F.If (fold c) (fold e) (fold f)) (ap (fold-BForm A B s t) (sym (form.rolls-If c e f)) ∙ fold-roll-BForm A B s t (BForm-F.If c e f))

  pub fold_let : (name : Ident) (e f : BExpr) → fold (record { at = at; form = form.Let name e f }) ≡ t (record { at = at; form = s (BForm-F.Let name (fold e) (fold f)) })
  fold_let name e f = of_form (form.Let name e f) (BForm-F.Let name (fold e) (fold f)) (ap (fold-BForm A B s t) (sym (form.rolls-Let name e f)) ∙ fold-roll-BForm A B s t (BForm-F.Let name e f))

  pub fold_seq : (es : List BExpr) → fold (record { at = at; form = form.Seq es }) ≡ t (record { at = at; form = s (BForm-F.Seq (map fold es)) })
  fold_seq es = of_form (form.Seq es) (BForm-F.Seq (map fold es)) (ap (fold-BForm A B s t) (sym (form.rolls-Seq es)) ∙ fold-roll-BForm A B s t (BForm-F.Seq es))

  pub fold_list : (es : List BExpr) → fold (record { at = at; form = form.ListLit es }) ≡ t (record { at = at; form = s (BForm-F.ListLit (map fold es)) })
  fold_list es = of_form (form.ListLit es) (BForm-F.ListLit (map fold es)) (ap (fold-BForm A B s t) (sym (form.rolls-ListLit es)) ∙ fold-roll-BForm A B s t (BForm-F.ListLit es))

  pub fold_call : (name : Ident) (es : List BExpr) → fold (record { at = at; form = form.Call name es }) ≡ t (record { at = at; form = s (BForm-F.Call name (map fold es)) })
  fold_call name es = of_form (form.Call name es) (BForm-F.Call name (map fold es)) (ap (fold-BForm A B s t) (sym (form.rolls-Call name es)) ∙ fold-roll-BForm A B s t (BForm-F.Call name es))

  pub fold_out : (number : ℕ) (es : List BExpr) → fold (record { at = at; form = form.Out number es }) ≡ t (record { at = at; form = s (BForm-F.Out number (map fold es)) })
  fold_out number es = of_form (form.Out number es) (BForm-F.Out number (map fold es)) (ap (fold-BForm A B s t) (sym (form.rolls-Out number es)) ∙ fold-roll-BForm A B s t (BForm-F.Out number es))

-- an operand at each level of the grammar
abbrev IsOperand : List Terminal → Measured BExpr → List Terminal → Type 0
IsOperand = Operand measured

as_product : {ts us : List Terminal} {e : Measured BExpr} → IsOperand ts e us → Product measured ts e us
as_product a = product a no_product

as_sum : {ts us : List Terminal} {e : Measured BExpr} → Product measured ts e us → Sum measured ts e us
as_sum a = sum a no_sum

as_conjunction : {ts us : List Terminal} {e : Measured BExpr} → Comparison measured ts e us → Conjunction measured ts e us
as_conjunction a = conjunction a no_and

as_disjunction : {ts us : List Terminal} {e : Measured BExpr} → Comparison measured ts e us → Disjunction measured ts e us
as_disjunction a = disjunction (as_conjunction a) no_or

of_sum : {ts us : List Terminal} {e : Measured BExpr} → Sum measured ts e us → BoxExpr measured ts e us
of_sum a = plain (as_disjunction (no_compare a))

as_compared : {ts us : List Terminal} {e : Measured BExpr} → IsOperand ts e us → Comparison measured ts e us
as_compared a = no_compare (as_sum (as_product a))

of_operand : {ts us : List Terminal} {e : Measured BExpr} → IsOperand ts e us → BoxExpr measured ts e us
of_operand a = of_sum (as_sum (as_product a))

reads_op : (op : Operator) {at : ℕ} {ts us vs : List Terminal} {e f : Measured BExpr} → IsOperand ts e (Symbol (symbol_of op) at ∷ us) → IsOperand us f vs →
    BoxExpr measured ts (with_operator measured box_operations op at e f) vs
reads_op Add a b = of_sum (sum (as_product a) (add refl (as_product b) no_sum))
reads_op Sub a b = of_sum (sum (as_product a) (add refl (as_product b) no_sum))
reads_op Mul a b = of_sum (as_sum (product a (multiply refl b no_product)))
reads_op Div a b = of_sum (as_sum (product a (multiply refl b no_product)))
reads_op Rem a b = of_sum (as_sum (product a (multiply refl b no_product)))
reads_op Lt a b = plain (as_disjunction (compare (as_sum (as_product a)) refl (as_sum (as_product b))))
reads_op Le a b = plain (as_disjunction (compare (as_sum (as_product a)) refl (as_sum (as_product b))))
reads_op Gt a b = plain (as_disjunction (compare (as_sum (as_product a)) refl (as_sum (as_product b))))
reads_op Ge a b = plain (as_disjunction (compare (as_sum (as_product a)) refl (as_sum (as_product b))))
reads_op Eq a b = plain (as_disjunction (compare (as_sum (as_product a)) refl (as_sum (as_product b))))
reads_op Ne a b = plain (as_disjunction (compare (as_sum (as_product a)) refl (as_sum (as_product b))))

-- an expression has a first token
data Headed : List Terminal → Type 0 where
  headed : {x : Terminal} {ts : List Terminal} → Headed (x ∷ ts)

head_operand : {ts us : List Terminal} {e : Measured BExpr} → IsOperand ts e us → Headed ts
head_operand (sign i a) = headed
head_operand numbered = headed
head_operand literal = headed
head_operand tag = headed
head_operand named = headed
head_operand (call a) = headed
head_operand (list a) = headed
head_operand (out a) = headed
head_operand (parens a) = headed

head_product : {ts us : List Terminal} {e : Measured BExpr} → Product measured ts e us → Headed ts
head_product (product a d) = head_operand a

head_sum : {ts us : List Terminal} {e : Measured BExpr} → Sum measured ts e us → Headed ts
head_sum (sum a d) = head_product a

head_comparison : {ts us : List Terminal} {e : Measured BExpr} → Comparison measured ts e us → Headed ts
head_comparison (no_compare a) = head_sum a
head_comparison (compare a i b) = head_sum a

head_conjunction : {ts us : List Terminal} {e : Measured BExpr} → Conjunction measured ts e us → Headed ts
head_conjunction (conjunction a d) = head_comparison a

head_box : {ts us : List Terminal} {e : Measured BExpr} → BoxExpr measured ts e us → Headed ts
head_box (bind a b) = headed
head_box (choose a b d) = headed
head_box (plain (disjunction a d)) = head_conjunction a

sequence_by : {ts us : List Terminal} {e : Measured BExpr} → Headed ts → BoxExpr measured ts e us → Sequence measured ts e us
sequence_by headed d = sequence d last_step

as_sequence : {ts us : List Terminal} {e : Measured BExpr} → BoxExpr measured ts e us → Sequence measured ts e us
as_sequence d = sequence_by (head_box d) d

of_parens : {at close : ℕ} {ts us : List Terminal} {e : Measured BExpr} → Sequence measured ts e (Symbol symbol.CloseParen close ∷ us) → IsOperand (Symbol symbol.OpenParen at ∷ ts) (measured.parens e) us
of_parens d = parens d

-- what is read of a text by its rank
abbrev pub ReadsBox : Rank → Measured BExpr → List ℕ → Type 0
ReadsBox Alone e text = Readable Calm Whole text (Operand measured) (Like unplaced_box 0 e)
ReadsBox Compound e text = Readable Mild Whole text (BoxExpr measured) (Like unplaced_box 1 e)
ReadsBox SequenceRank e text = Readable Mild Whole text (Sequence measured) (Like unplaced_box 1 e)

-- An expression whose text reads back.
pub record GoodBox (e : Measured BExpr) : Type 0 where
  pub shown : Shown
  pub is : box_shown e.value ≡ shown
  pub reads : ReadsBox shown.rank e shown.text

abbrev pub BoxOperand : Measured BExpr → List ℕ → Type 0
BoxOperand e text = Readable Calm Whole text (Operand measured) (Like unplaced_box 0 e)

abbrev pub BoxPart : Measured BExpr → List ℕ → Type 0
BoxPart e text = Readable Mild Whole text (BoxExpr measured) (Like unplaced_box 0 e)

in_parens : {e : Measured BExpr} (text : List ℕ) → Readable Mild Whole text (Sequence measured) (Like unplaced_box 1 e) → BoxOperand e (in_parentheses text)
in_parens text a = record {
  span = parens_span a.span;
  rereads = λ p. reread _ (λ us. parens ((a.rereads _).reads (Symbol symbol.CloseParen _ ∷ us))) (like_parens unplaced_box (a.rereads _).good);
}

as_step : {e : Measured BExpr} (text : List ℕ) → Readable Mild Whole text (BoxExpr measured) (Like unplaced_box 1 e) → Readable Mild Whole text (Sequence measured) (Like unplaced_box 1 e)
as_step text a = record { span = a.span; rereads = λ p. reread _ (λ us. as_sequence ((a.rereads p).reads us)) (a.rereads p).good }

as_part : {e : Measured BExpr} (text : List ℕ) → BoxOperand e text → BoxPart e text
as_part text a = record { span = mildly a.span; rereads = λ p. reread _ (λ us. of_operand ((a.rereads p).reads us)) (a.rereads p).good }

-- in parentheses where it must be, as an operand and as a part
operand_by : {e : Measured BExpr} (r : Rank) (text : List ℕ) → ReadsBox r e text → BoxOperand e (by_rank r text)
operand_by Alone text a = a
operand_by Compound text a = in_parens text (as_step text a)
operand_by SequenceRank text a = in_parens text a

part_by : {e : Measured BExpr} (r : Rank) (text : List ℕ) → ReadsBox r e text → BoxPart e (part_by_rank r text)
part_by Alone text a = as_part text a
part_by Compound text a = record { span = a.span; rereads = λ p. reread _ (λ us. (a.rereads p).reads us) (like_loose unplaced_box (a.rereads p).good) }
part_by SequenceRank text a = as_part (in_parentheses text) (in_parens text a)

-- a body, which may be a sequence
body_by : {e : Measured BExpr} (r : Rank) (text : List ℕ) → ReadsBox r e text → Readable Mild Whole text (Sequence measured) (Like unplaced_box 0 e)
body_by Alone text a = record { span = mildly a.span; rereads = λ p. reread _ (λ us. as_sequence (of_operand ((a.rereads p).reads us))) (a.rereads p).good }
body_by Compound text a = record { span = a.span; rereads = λ p. reread _ (λ us. as_sequence ((a.rereads p).reads us)) (like_loose unplaced_box (a.rereads p).good) }
body_by SequenceRank text a = record { span = a.span; rereads = λ p. reread _ (λ us. (a.rereads p).reads us) (like_loose unplaced_box (a.rereads p).good) }

pub box_operand : {e : Measured BExpr} (x : GoodBox e) → BoxOperand e (operand x.shown)
box_operand x = operand_by x.shown.rank x.shown.text x.reads

pub box_part : {e : Measured BExpr} (x : GoodBox e) → BoxPart e (part x.shown)
box_part x = part_by x.shown.rank x.shown.text x.reads

pub box_body : {e : Measured BExpr} (x : GoodBox e) → Readable Mild Whole x.shown.text (Sequence measured) (Like unplaced_box 0 e)
box_body x = body_by x.shown.rank x.shown.text x.reads

-- each form of an expression whose parts read back
good_number : (n : ℤ) (at : ℕ) → IsWord (Number n at) → GoodBox (measured.leaf (record { at = at; form = form.Number n }))
good_number n at w = record {
  shown = alone (decimal w.0);
  is = fold_number box_step (λ e. e.form) at n ∙ ap (λ z. alone (signed_decimal z)) w.1;
  reads = record {
    span = number_span w.0 w.2;
    rereads = λ p. reread _ (λ us. numbered) (like_leaf unplaced_box _ _
        (fold_number unplaced_box_form at_no_box_place p (pos w.0) ∙ ap (λ z. record { at = 0; form = form.Number z }) (sym w.1) ∙ sym (fold_number unplaced_box_form at_no_box_place at n)));
  };
}

good_tag : (name : Ident) → IsTagName name.text → GoodBox (measured.leaf (record { at = name.at; form = form.Tag name }))
good_tag name w = record {
  shown = alone (in_angles name.text);
  is = fold_tag box_step (λ e. e.form) name.at name;
  reads = record {
    span = wholly (tag_span w);
    rereads = λ p. reread _ (λ us. tag) (like_leaf unplaced_box _ _
        (fold_tag unplaced_box_form at_no_box_place p (record { text = name.text; at = p }) ∙ sym (fold_tag unplaced_box_form at_no_box_place name.at name)));
  };
}

good_neg : (at : ℕ) {e : Measured BExpr} → GoodBox e → GoodBox (with_sign measured box_operations Minus at e)
good_neg at {e} x = record {
  shown = compound (codes "-" ++ operand x.shown);
  is = fold_neg box_step (λ e. e.form) at e.value ∙ ap (λ y. compound (codes "-" ++ operand y)) x.is;
  reads = record {
    span = mildly_exact refl (before (symbol_span symbol.Minus) (box_operand x).span refl);
    rereads = λ p. reread _ (λ us. of_operand (sign refl (((box_operand x).rereads _).reads us)))
        (like_raise unplaced_box (like_each unplaced_box unplaced_box (λ a. record { at = 0; form = form.Neg a }) _ _
        (fold_neg unplaced_box_form at_no_box_place at) (fold_neg unplaced_box_form at_no_box_place p) ((box_operand x).rereads _).good));
  };
}

good_not : (at : ℕ) {e : Measured BExpr} → GoodBox e → GoodBox (with_sign measured box_operations Not at e)
good_not at {e} x = record {
  shown = compound (codes "!" ++ operand x.shown);
  is = fold_not box_step (λ e. e.form) at e.value ∙ ap (λ y. compound (codes "!" ++ operand y)) x.is;
  reads = record {
    span = mildly_exact refl (before (symbol_span symbol.Bang) (box_operand x).span refl);
    rereads = λ p. reread _ (λ us. of_operand (sign refl (((box_operand x).rereads _).reads us)))
        (like_raise unplaced_box (like_each unplaced_box unplaced_box (λ a. record { at = 0; form = form.Not a }) _ _
        (fold_not unplaced_box_form at_no_box_place at) (fold_not unplaced_box_form at_no_box_place p) ((box_operand x).rereads _).good));
  };
}

good_op : (op : Operator) (at : ℕ) {e f : Measured BExpr} → GoodBox e → GoodBox f → GoodBox (with_operator measured box_operations op at e f)
good_op op at {e} {f} x y = record {
  shown = compound (operand x.shown ++ (spaced_text (symbol_of op) ++ operand y.shown));
  is = fold_op box_step (λ e. e.form) at op e.value f.value ∙ (λ i. compound (operand (x.is i) ++ (op_text op i ++ operand (y.is i))));
  reads = record {
    span = between (box_operand x).span (symbol_of op) (box_operand y).span;
    rereads = λ p. reread _ (λ us. reads_op op (((box_operand x).rereads p).reads _) (((box_operand y).rereads _).reads us))
        (like_raise unplaced_box (like_join unplaced_box unplaced_box unplaced_box (λ a b. record { at = 0; form = form.Op op a b }) _ _
        (fold_op unplaced_box_form at_no_box_place at op) (fold_op unplaced_box_form at_no_box_place _ op) ((box_operand x).rereads p).good ((box_operand y).rereads _).good));
  };
}

good_and : (at : ℕ) {e f : Measured BExpr} → GoodBox e → GoodBox f → GoodBox (with_and measured box_operations at e f)
good_and at {e} {f} x y = record {
  shown = compound (operand x.shown ++ (codes " && " ++ operand y.shown));
  is = fold_and box_step (λ e. e.form) at e.value f.value ∙ (λ i. compound (operand (x.is i) ++ (codes " && " ++ operand (y.is i))));
  reads = record {
    span = between (box_operand x).span symbol.AndAnd (box_operand y).span;
    rereads = λ p. reread _ (λ us. plain (disjunction (conjunction (as_compared (((box_operand x).rereads p).reads _)) (and refl (as_compared (((box_operand y).rereads _).reads us)) no_and)) no_or))
        (like_raise unplaced_box (like_join unplaced_box unplaced_box unplaced_box (λ a b. record { at = 0; form = form.And a b }) _ _
        (fold_and unplaced_box_form at_no_box_place at) (fold_and unplaced_box_form at_no_box_place _) ((box_operand x).rereads p).good ((box_operand y).rereads _).good));
  };
}

good_or : (at : ℕ) {e f : Measured BExpr} → GoodBox e → GoodBox f → GoodBox (with_or measured box_operations at e f)
good_or at {e} {f} x y = record {
  shown = compound (operand x.shown ++ (codes " || " ++ operand y.shown));
  is = fold_or box_step (λ e. e.form) at e.value f.value ∙ (λ i. compound (operand (x.is i) ++ (codes " || " ++ operand (y.is i))));
  reads = record {
    span = between (box_operand x).span symbol.BarBar (box_operand y).span;
    rereads = λ p. reread _ (λ us. plain (disjunction (as_conjunction (as_compared (((box_operand x).rereads p).reads _))) (or refl (as_conjunction (as_compared (((box_operand y).rereads _).reads us))) no_or)))
        (like_raise unplaced_box (like_join unplaced_box unplaced_box unplaced_box (λ a b. record { at = 0; form = form.Or a b }) _ _
        (fold_or unplaced_box_form at_no_box_place at) (fold_or unplaced_box_form at_no_box_place _) ((box_operand x).rereads p).good ((box_operand y).rereads _).good));
  };
}

good_name : (name : Ident) → IsIdentifier name.text → GoodBox (measured.leaf (record { at = name.at; form = form.Name name }))
good_name name w = record {
  shown = alone name.text;
  is = fold_name box_step (λ e. e.form) name.at name;
  reads = record {
    span = name_span w;
    rereads = λ p. reread _ (λ us. named) (like_leaf unplaced_box _ _
        (fold_name unplaced_box_form at_no_box_place p (record { text = name.text; at = p }) ∙ sym (fold_name unplaced_box_form at_no_box_place name.at name)));
  };
}

good_literal : (text : List ℕ) (at : ℕ) → list_all is_printable text ≡ true → GoodBox (measured.leaf (record { at = at; form = form.TextLit text }))
good_literal text at w = record {
  shown = alone (quoted text);
  is = fold_text box_step (λ e. e.form) at text;
  reads = record {
    span = wholly (literal_span text w);
    rereads = λ p. reread _ (λ us. literal) (like_leaf unplaced_box _ _
        (fold_text unplaced_box_form at_no_box_place p text ∙ sym (fold_text unplaced_box_form at_no_box_place at text)));
  };
}

-- a keyword before a blank, and one between blanks
abbrev pub led : (k : _) → Span Calm Free (keyword_word k ++ 32 ∷ [])
led k = before (keyword_span k) (gap 32 refl) refl

abbrev pub spaced_key : (k : _) → Span (Exactly 32) Free (32 ∷ (keyword_word k ++ 32 ∷ []))
spaced_key k = before (gap 32 refl) (before (keyword_span k) (gap 32 refl) refl) refl

good_if : (at : ℕ) {c e f : Measured BExpr} → GoodBox c → GoodBox e → GoodBox f → GoodBox (with_condition measured at c e f)
good_if at {c} {e} {f} x y z = record {
  shown = compound (codes "if " ++ (operand x.shown ++ (codes " then " ++ (operand y.shown ++ (codes " else " ++ operand z.shown)))));
  is = fold_if box_step (λ e. e.form) at c.value e.value f.value ∙ (λ i. compound (codes "if " ++ (operand (x.is i) ++ (codes " then " ++ (operand (y.is i) ++ (codes " else " ++ operand (z.is i)))))));
  reads = record {
    span = mildly (before (led keyword.If) (before (box_operand x).span (before (spaced_key keyword.Then) (before (box_operand y).span (before (spaced_key keyword.Else) (box_operand z).span refl) refl) refl) refl) refl);
    rereads = λ p. reread _ (λ us. choose (of_operand (((box_operand x).rereads _).reads _)) (of_operand (((box_operand y).rereads _).reads _)) (of_operand (((box_operand z).rereads _).reads us)))
        (like_raise unplaced_box (like_three unplaced_box unplaced_box unplaced_box unplaced_box (λ a b d. record { at = 0; form = form.If a b d }) _ _
        (fold_if unplaced_box_form at_no_box_place at) (fold_if unplaced_box_form at_no_box_place _) ((box_operand x).rereads _).good ((box_operand y).rereads _).good ((box_operand z).rereads _).good));
  };
}

good_let : (at : ℕ) (name : Ident) {e f : Measured BExpr} → IsIdentifier name.text → GoodBox e → GoodBox f → GoodBox (with_binding measured at name e f)
good_let at name {e} {f} w x y = record {
  shown = compound (codes "let " ++ (name.text ++ (codes " = " ++ (operand x.shown ++ (codes " in " ++ operand y.shown)))));
  is = fold_let box_step (λ e. e.form) at name e.value f.value ∙ (λ i. compound (codes "let " ++ (name.text ++ (codes " = " ++ (operand (x.is i) ++ (codes " in " ++ operand (y.is i)))))));
  reads = record {
    span = mildly (before (led keyword.Let) (before (name_span w) (before (spaced symbol.Assign) (before (box_operand x).span (before (spaced_key keyword.In) (box_operand y).span refl) refl) refl) refl) refl);
    rereads = λ p. reread _ (λ us. bind (of_operand (((box_operand x).rereads _).reads _)) (of_operand (((box_operand y).rereads _).reads us)))
        (like_raise unplaced_box (like_join unplaced_box unplaced_box unplaced_box (λ a b. record { at = 0; form = form.Let (unplaced_ident name) a b }) _ _
        (fold_let unplaced_box_form at_no_box_place at name) (fold_let unplaced_box_form at_no_box_place _ _) ((box_operand x).rereads _).good ((box_operand y).rereads _).good));
  };
}

-- arguments
abbrev part_text : BExpr → List ℕ
part_text e = part (box_shown e)

abbrev GoodArguments : Bracket → Measured (List BExpr) → Type 0
GoodArguments b row = GoodRow Mild Whole (codes ",") part_text (Arguments measured b) (MoreArguments measured b) row.value (Like (map unplaced_box) 0 row)

good_part : {e : Measured BExpr} → GoodBox e → Shows Mild Whole (part_text e.value) (BoxExpr measured) (Like unplaced_box 0 e)
good_part x = record { text = part x.shown; is = ap part x.is; reads = box_part x }

arguments_begin : (b : Bracket) (p : ℕ) (e : Measured BExpr) (ts us : List Terminal) (w : Measured (List BExpr)) (vs : List Terminal) → HeadAt p ts → BoxExpr measured ts e us →
    MoreArguments measured b (with_part measured (no_parts measured) e) us w vs → Arguments measured b ts w vs
arguments_begin b p e ts us w vs h d k = arguments d k

arguments_go_on : (b : Bracket) (q : ℕ) (row : Measured (List BExpr)) (e : Measured BExpr) (ts us : List Terminal) (w : Measured (List BExpr)) (vs : List Terminal) → BoxExpr measured ts e us →
    MoreArguments measured b (with_part measured row e) us w vs → MoreArguments measured b row (Symbol symbol.Comma q ∷ ts) w vs
arguments_go_on b q row e ts us w vs d k = more_arguments d k

like_none : Like (map unplaced_box) 0 (no_parts measured) (no_parts measured)
like_none = like_leaf (map unplaced_box) [] [] refl

first_argument : (b : Bracket) (e : Measured BExpr) → GoodBox e → GoodArguments b (with_part measured (no_parts measured) e)
first_argument b e x = row_begins (codes ",") part_text (Arguments measured b) (MoreArguments measured b) (λ p y. with_part measured (no_parts measured) y) (arguments_begin b)
    (λ p y l. like_row unplaced_box like_none l) mild_head (good_part x)

next_argument : (b : Bracket) (row : Measured (List BExpr)) (e : Measured BExpr) → GoodArguments b row → GoodBox e → GoodArguments b (with_part measured row e)
next_argument b row e r x = row_goes_on (codes ",") part_text (Arguments measured b) (MoreArguments measured b) (MoreArguments measured b) (symbol_span symbol.Comma) refl
    (λ q. with_part measured) (arguments_go_on b) (λ q so_far y l m. like_row unplaced_box l m) r (good_part x)

map_parts : (es : List BExpr) → map part (map box_shown es) ≡ map part_text es
map_parts [] = refl
map_parts (e ∷ es) = ap (λ ts. part (box_shown e) ∷ ts) (map_parts es)

shown_arguments : (es : List BExpr) → arguments_text (map box_shown es) ≡ joined (codes ",") (map part_text es)
shown_arguments es = ap (joined (codes ",")) (map_parts es)

-- none, or a row of them
data SomeArguments (b : Bracket) : Measured (List BExpr) → Type 0 where
  none : SomeArguments b (no_parts measured)
  some : {row : Measured (List BExpr)} → GoodArguments b row → SomeArguments b row

good_call : (name : Ident) (es : Measured (List BExpr)) → IsIdentifier name.text → SomeArguments Paren es → GoodBox (with_arguments measured (Function name) es)
good_call name es w none = record {
  shown = alone (name.text ++ codes "()");
  is = fold_call box_step (λ e. e.form) name.at name [];
  reads = record {
    span = wholly (before (name_span w) (before (symbol_span symbol.OpenParen) (symbol_span symbol.CloseParen) refl) refl);
    rereads = λ p. reread _ (λ us. call (no_arguments refl))
        (like_loose unplaced_box (like_raise unplaced_box (like_each (map unplaced_box) unplaced_box (λ es. record { at = 0; form = form.Call (unplaced_ident name) es }) _ _
        (fold_call unplaced_box_form at_no_box_place name.at name) (fold_call unplaced_box_form at_no_box_place p (record { text = name.text; at = p })) like_none)));
  };
}
good_call name es w (some r) = record {
  shown = alone (name.text ++ (codes "(" ++ (r.shows.text ++ codes ")")));
  is = fold_call box_step (λ e. e.form) name.at name es.value ∙ ap (λ t. alone (name.text ++ (codes "(" ++ (t ++ codes ")")))) (shown_arguments es.value ∙ r.shows.is);
  reads = record {
    span = wholly (before (name_span w) (before (symbol_span symbol.OpenParen) (before r.shows.reads.span (symbol_span symbol.CloseParen) refl) refl) refl);
    rereads = λ p. reread _ (λ us. call ((r.shows.reads.rereads _).reads _ _ us (last_argument refl)))
        (like_loose unplaced_box (like_raise unplaced_box (like_each (map unplaced_box) unplaced_box (λ es. record { at = 0; form = form.Call (unplaced_ident name) es }) _ _
        (fold_call unplaced_box_form at_no_box_place name.at name) (fold_call unplaced_box_form at_no_box_place p (record { text = name.text; at = p })) (r.shows.reads.rereads _).good)));
  };
}

good_list : (at : ℕ) (es : Measured (List BExpr)) → SomeArguments Square es → GoodBox (with_arguments measured (Elements at) es)
good_list at es none = record {
  shown = alone (codes "[]");
  is = fold_list box_step (λ e. e.form) at [];
  reads = record {
    span = wholly (calmly refl (before (symbol_span symbol.OpenBracket) (symbol_span symbol.CloseBracket) refl));
    rereads = λ p. reread _ (λ us. list (no_arguments refl))
        (like_loose unplaced_box (like_raise unplaced_box (like_each (map unplaced_box) unplaced_box (λ es. record { at = 0; form = form.ListLit es }) _ _
        (fold_list unplaced_box_form at_no_box_place at) (fold_list unplaced_box_form at_no_box_place p) like_none)));
  };
}
good_list at es (some r) = record {
  shown = alone (codes "[" ++ (r.shows.text ++ codes "]"));
  is = fold_list box_step (λ e. e.form) at es.value ∙ ap (λ t. alone (codes "[" ++ (t ++ codes "]"))) (shown_arguments es.value ∙ r.shows.is);
  reads = record {
    span = wholly (calmly refl (before (symbol_span symbol.OpenBracket) (before r.shows.reads.span (symbol_span symbol.CloseBracket) refl) refl));
    rereads = λ p. reread _ (λ us. list ((r.shows.reads.rereads _).reads _ _ us (last_argument refl)))
        (like_loose unplaced_box (like_raise unplaced_box (like_each (map unplaced_box) unplaced_box (λ es. record { at = 0; form = form.ListLit es }) _ _
        (fold_list unplaced_box_form at_no_box_place at) (fold_list unplaced_box_form at_no_box_place p) (r.shows.reads.rereads _).good)));
  };
}

out_value : (at : ℕ) (n : ℤ) (k : ℕ) → n ≡ pos k → (es : List BExpr) → unplaced_box (applied (Variant at n) es) ≡ record { at = 0; form = form.Out k (map unplaced_box es) }
out_value at n k is es = fold_out unplaced_box_form at_no_box_place at (unsigned_abs n) es ∙ ap (λ z. record { at = 0; form = form.Out (unsigned_abs z) (map unplaced_box es) }) is

good_out : (at : ℕ) (n : ℤ) (number_at : ℕ) (es : Measured (List BExpr)) → IsWord (Number n number_at) → SomeArguments Paren es → GoodBox (with_arguments measured (Variant at n) es)
good_out at n number_at es w none = record {
  shown = alone (codes "out " ++ (decimal w.0 ++ codes "()"));
  is = fold_out box_step (λ e. e.form) at (unsigned_abs n) [] ∙ ap (λ z. alone (codes "out " ++ (decimal (unsigned_abs z) ++ codes "()"))) w.1;
  reads = record {
    span = wholly (before (led keyword.Out) (before (number_span w.0 w.2) (before (symbol_span symbol.OpenParen) (symbol_span symbol.CloseParen) refl) refl) refl);
    rereads = λ p. reread _ (λ us. out (no_arguments refl))
        (like_loose unplaced_box (like_raise unplaced_box (like_each (map unplaced_box) unplaced_box (λ es. record { at = 0; form = form.Out w.0 es }) _ _
        (out_value at n w.0 w.1) (out_value p (pos w.0) w.0 refl) like_none)));
  };
}
good_out at n number_at es w (some r) = record {
  shown = alone (codes "out " ++ (decimal w.0 ++ (codes "(" ++ (r.shows.text ++ codes ")"))));
  is = fold_out box_step (λ e. e.form) at (unsigned_abs n) es.value
      ∙ ap (λ z. alone (codes "out " ++ (decimal (unsigned_abs z) ++ (codes "(" ++ (arguments_text (map box_shown es.value) ++ codes ")"))))) w.1
      ∙ ap (λ t. alone (codes "out " ++ (decimal w.0 ++ (codes "(" ++ (t ++ codes ")"))))) (shown_arguments es.value ∙ r.shows.is);
  reads = record {
    span = wholly (before (led keyword.Out) (before (number_span w.0 w.2) (before (symbol_span symbol.OpenParen) (before r.shows.reads.span (symbol_span symbol.CloseParen) refl) refl) refl) refl);
    rereads = λ p. reread _ (λ us. out ((r.shows.reads.rereads _).reads _ _ us (last_argument refl)))
        (like_loose unplaced_box (like_raise unplaced_box (like_each (map unplaced_box) unplaced_box (λ es. record { at = 0; form = form.Out w.0 es }) _ _
        (out_value at n w.0 w.1) (out_value p (pos w.0) w.0 refl) (r.shows.reads.rereads _).good)));
  };
}

-- sequences: after one part, and after more
abbrev AfterOne : Type 0
AfterOne = ℕ × Measured BExpr

abbrev AfterMore : Type 0
AfterMore = ℕ × Measured (List BExpr) × Measured BExpr

abbrev StepsOne : AfterOne → List Terminal → Measured BExpr → List Terminal → Type 0
StepsOne c ts w vs = Steps measured c.0 None c.1 ts w vs

abbrev StepsMore : AfterMore → List Terminal → Measured BExpr → List Terminal → Type 0
StepsMore c ts w vs = Steps measured c.0 (Some c.1) c.2 ts w vs

abbrev GoodOne : Measured BExpr → Type 0
GoodOne e = GoodRow Mild Whole (codes "; ") part_text (Sequence measured) StepsOne (e.value ∷ []) (λ c. Like unplaced_box 0 e c.1)

abbrev GoodSteps : Measured (List BExpr) → Type 0
GoodSteps row = GoodRow Mild Whole (codes "; ") part_text (Sequence measured) StepsMore row.value (λ c. Like (map unplaced_box) 0 row (with_part measured c.1 c.2))

starts_at : (p : ℕ) (e : Measured BExpr) (ts us : List Terminal) (w : Measured BExpr) (vs : List Terminal) → HeadAt p ts → BoxExpr measured ts e us → StepsOne (p, e) us w vs → Sequence measured ts w vs
starts_at p e ts us w vs (head_at is) d k = sequence d (rw is k)

abbrev semicolon : Span (Exactly 59) Free (codes "; ")
semicolon = before (symbol_span symbol.Semicolon) (gap 32 refl) refl

second_step : (q : ℕ) (c : AfterOne) (f : Measured BExpr) (ts us : List Terminal) (w : Measured BExpr) (vs : List Terminal) → BoxExpr measured ts f us →
    StepsMore (c.0, with_part measured (no_parts measured) c.1, f) us w vs → StepsOne c (Symbol symbol.Semicolon q ∷ ts) w vs
second_step q c f ts us w vs d k = more_steps d k

later_step : (q : ℕ) (c : AfterMore) (f : Measured BExpr) (ts us : List Terminal) (w : Measured BExpr) (vs : List Terminal) → BoxExpr measured ts f us →
    StepsMore (c.0, with_part measured c.1 c.2, f) us w vs → StepsMore c (Symbol symbol.Semicolon q ∷ ts) w vs
later_step q c f ts us w vs d k = more_steps d k

one_step : (e : Measured BExpr) → GoodBox e → GoodOne e
one_step e x = row_begins (codes "; ") part_text (Sequence measured) StepsOne (λ p y. (p, y)) starts_at (λ p y l. l) mild_head (good_part x)

two_steps : (e f : Measured BExpr) → GoodOne e → GoodBox f → GoodSteps (with_part measured (with_part measured (no_parts measured) e) f)
two_steps e f r x = row_goes_on (codes "; ") part_text (Sequence measured) StepsOne StepsMore semicolon refl (λ q c y. (c.0, with_part measured (no_parts measured) c.1, y)) second_step
    (λ q c y l m. like_row unplaced_box (like_row unplaced_box like_none l) m) r (good_part x)

next_step : (row : Measured (List BExpr)) (f : Measured BExpr) → GoodSteps row → GoodBox f → GoodSteps (with_part measured row f)
next_step row f r x = row_goes_on (codes "; ") part_text (Sequence measured) StepsMore StepsMore semicolon refl (λ q c y. (c.0, with_part measured c.1 c.2, y)) later_step
    (λ q c y l m. like_row unplaced_box l m) r (good_part x)

abbrev sequence_at : ℕ → List BExpr → BExpr
sequence_at at es = record { at = at; form = form.Seq es }

good_seq : (at : ℕ) (row : Measured (List BExpr)) → GoodSteps row → GoodBox (measured.raise (measured.each (sequence_at at) row))
good_seq at row r = record {
  shown = record { rank = SequenceRank; text = r.shows.text };
  is = fold_seq box_step (λ e. e.form) at row.value ∙ ap (λ t. record { rank = SequenceRank; text = t }) (ap (joined (codes "; ")) (map_parts row.value) ∙ r.shows.is);
  reads = record {
    span = r.shows.reads.span;
    rereads = λ p. reread _ (λ us. (r.shows.reads.rereads p).reads us _ us last_step)
        (like_raise unplaced_box (like_each (map unplaced_box) unplaced_box (sequence_at 0) _ _
        (fold_seq unplaced_box_form at_no_box_place at) (fold_seq unplaced_box_form at_no_box_place _) (r.shows.reads.rereads p).good));
  };
}

-- parentheses leave no node of their own
inside : (e : Measured BExpr) (r : Rank) (text : List ℕ) → ReadsBox r e text → ReadsBox r (measured.parens e) text
inside e Alone text a = record { span = a.span; rereads = λ p. reread _ (λ us. (a.rereads p).reads us) (like_inside unplaced_box (a.rereads p).good) }
inside e Compound text a = record { span = a.span; rereads = λ p. reread _ (λ us. (a.rereads p).reads us) (like_inside unplaced_box (a.rereads p).good) }
inside e SequenceRank text a = record { span = a.span; rereads = λ p. reread _ (λ us. (a.rereads p).reads us) (like_inside unplaced_box (a.rereads p).good) }

good_parens : {e : Measured BExpr} → GoodBox e → GoodBox (measured.parens e)
good_parens x = record { shown = x.shown; is = x.is; reads = inside _ x.shown.rank x.shown.text x.reads }

-- each expression that words spell reads back
mutual
  pub good_box_expr : {e : Measured BExpr} {ts us : List Terminal} → BoxExpr measured ts e us → AreWords ts → GoodBox e × AreWords us
  good_box_expr (bind {at} {name = n} a b) w = let x = good_box_expr a w.1.1.1 in let y = good_box_expr b x.1.1 in (good_let at n w.1.0 x.0 y.0, y.1)
  good_box_expr (choose {at} a b d) w = let x = good_box_expr a w.1 in let y = good_box_expr b x.1.1 in let z = good_box_expr d y.1.1 in (good_if at x.0 y.0 z.0, z.1)
  good_box_expr (plain d) w = good_disjunction d w

  good_disjunction : {e : Measured BExpr} {ts us : List Terminal} → Disjunction measured ts e us → AreWords ts → GoodBox e × AreWords us
  good_disjunction (disjunction a d) w = let x = good_conjunction a w in good_disjunctions d x.0 x.1

  good_disjunctions : {e f : Measured BExpr} {ts us : List Terminal} → Disjunctions measured e ts f us → GoodBox e → AreWords ts → GoodBox f × AreWords us
  good_disjunctions no_or x w = (x, w)
  good_disjunctions (or {at} i a d) x w = let y = good_conjunction a w.1 in good_disjunctions d (good_or at x y.0) y.1

  good_conjunction : {e : Measured BExpr} {ts us : List Terminal} → Conjunction measured ts e us → AreWords ts → GoodBox e × AreWords us
  good_conjunction (conjunction a d) w = let x = good_comparison a w in good_conjunctions d x.0 x.1

  good_conjunctions : {e f : Measured BExpr} {ts us : List Terminal} → Conjunctions measured e ts f us → GoodBox e → AreWords ts → GoodBox f × AreWords us
  good_conjunctions no_and x w = (x, w)
  good_conjunctions (and {at} i a d) x w = let y = good_comparison a w.1 in good_conjunctions d (good_and at x y.0) y.1

  good_comparison : {e : Measured BExpr} {ts us : List Terminal} → Comparison measured ts e us → AreWords ts → GoodBox e × AreWords us
  good_comparison (no_compare a) w = good_sum a w
  good_comparison (compare {at} {op = op} a i b) w = let x = good_sum a w in let y = good_sum b x.1.1 in (good_op op at x.0 y.0, y.1)

  good_sum : {e : Measured BExpr} {ts us : List Terminal} → Sum measured ts e us → AreWords ts → GoodBox e × AreWords us
  good_sum (sum a d) w = let x = good_product a w in good_sums d x.0 x.1

  good_sums : {e f : Measured BExpr} {ts us : List Terminal} → Sums measured e ts f us → GoodBox e → AreWords ts → GoodBox f × AreWords us
  good_sums no_sum x w = (x, w)
  good_sums (add {at} {op = op} i a d) x w = let y = good_product a w.1 in good_sums d (good_op op at x y.0) y.1

  good_product : {e : Measured BExpr} {ts us : List Terminal} → Product measured ts e us → AreWords ts → GoodBox e × AreWords us
  good_product (product a d) w = let x = good_operand a w in good_products d x.0 x.1

  good_products : {e f : Measured BExpr} {ts us : List Terminal} → Products measured e ts f us → GoodBox e → AreWords ts → GoodBox f × AreWords us
  good_products no_product x w = (x, w)
  good_products (multiply {at} {op = op} i a d) x w = let y = good_operand a w.1 in good_products d (good_op op at x y.0) y.1

  good_operand : {e : Measured BExpr} {ts us : List Terminal} → Operand measured ts e us → AreWords ts → GoodBox e × AreWords us
  good_operand (sign {at} {g = Minus} i a) w = let x = good_operand a w.1 in (good_neg at x.0, x.1)
  good_operand (sign {at} {g = Not} i a) w = let x = good_operand a w.1 in (good_not at x.0, x.1)
  good_operand (numbered {n} {at}) w = (good_number n at w.0, w.1)
  good_operand (literal {text} {at}) w = (good_literal text at w.0, w.1)
  good_operand (tag {name = n}) w = (good_tag n w.0, w.1)
  good_operand (named {name = n}) w = (good_name n w.0, w.1)
  good_operand (call {name = n} {es = es} a) w = let x = good_arguments Paren a w.1.1 in (good_call n es w.0 x.0, x.1)
  good_operand (list {at} {es = es} a) w = let x = good_arguments Square a w.1 in (good_list at es x.0, x.1)
  good_operand (out {at} {number_at = k} {n = n} {es = es} a) w = let x = good_arguments Paren a w.1.1.1 in (good_out at n k es w.1.0 x.0, x.1)
  good_operand (parens a) w = let x = good_sequence a w.1 in (good_parens x.0, x.1.1)

  good_arguments : (b : Bracket) {es : Measured (List BExpr)} {ts us : List Terminal} → Arguments measured b ts es us → AreWords ts → SomeArguments b es × AreWords us
  good_arguments b (no_arguments is) w = (none, w.1)
  good_arguments b (arguments {e = e} a d) w = let x = good_box_expr a w in let y = good_more_arguments b d (first_argument b e x.0) x.1 in (some y.0, y.1)

  good_more_arguments : (b : Bracket) {row es : Measured (List BExpr)} {ts us : List Terminal} → MoreArguments measured b row ts es us → GoodArguments b row → AreWords ts → GoodArguments b es × AreWords us
  good_more_arguments b (last_argument is) r w = (r, w.1)
  good_more_arguments b (more_arguments {e = e} {so_far = row} a d) r w = let x = good_box_expr a w.1 in good_more_arguments b d (next_argument b row e r x.0) x.1

  pub good_sequence : {e : Measured BExpr} {ts us : List Terminal} → Sequence measured ts e us → AreWords ts → GoodBox e × AreWords us
  good_sequence (sequence {e = e} a d) w = let x = good_box_expr a w in good_steps_one d x.0 x.1

  good_steps_one : {at : ℕ} {e f : Measured BExpr} {ts us : List Terminal} → Steps measured at None e ts f us → GoodBox e → AreWords ts → GoodBox f × AreWords us
  good_steps_one last_step x w = (x, w)
  good_steps_one (more_steps {e = e} {f = f} a d) x w = let y = good_box_expr a w.1 in good_steps_more d (two_steps e f (one_step e x) y.0) y.1

  good_steps_more : {at : ℕ} {row : Measured (List BExpr)} {e f : Measured BExpr} {ts us : List Terminal} → Steps measured at (Some row) e ts f us → GoodSteps (with_part measured row e) → AreWords ts → GoodBox f × AreWords us
  good_steps_more {at} {row} {e} last_step r w = (good_seq at (with_part measured row e) r, w)
  good_steps_more {at} {row} {e} (more_steps {f = f} a d) r w = let y = good_box_expr a w.1 in good_steps_more d (next_step (with_part measured row e) f r y.0) y.1
