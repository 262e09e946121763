-- Expressions over tags read back.
use Rattle.std.proofs.Common.{◌≡◌, ℕ, ℤ, ◌++◌, List, ◌∷◌, pos, codes, decimal, refl, sym, ap, ◌∙◌}
use Rattle.std.specs.Fmt.{signed_decimal}
use Rattle.sn_ast.specs.Measures.{measured}
use Rattle.sn_ast.specs.Operators.{tag_operations, with_sign, with_operator, with_and, with_or}
use Rattle.sn_ast.specs.TagExprs.{with_condition, TagExpr, plain, choose, Disjunction, disjunction, Disjunctions, no_or, or, Conjunction, conjunction, Conjunctions, no_and, and, Comparison, no_compare, compare, Sum, sum, Sums, no_sum, add, Product, product, Products, no_product, multiply, Operand, sign, number, tag, parens}
use Rattle.sn_ast.specs.declared.label.Ident.{Ident}
use Rattle.sn_ast.specs.declared.measure.Measured.{Measured}
use Rattle.sn_ast.specs.declared.tag_expr.Operator.{Operator}
use Rattle.sn_ast.specs.declared.tag_expr.Operator.TheVariants.{Add, Sub, Mul, Div, Rem, Lt, Le, Gt, Ge, Eq, Ne}
use Rattle.sn_ast.specs.declared.tag_expr.TExpr.{TExpr, TExpr-F, fold-TExpr, fold-roll-TExpr}
use Rattle.sn_ast.specs.declared.tag_expr.TForm.{TForm, fold-TForm}
use Rattle.sn_ast.specs.declared.tag_expr.TForm.TheOpen.{TForm-F}
use Rattle.sn_ast.specs.declared.tag_expr.TForm.TheFolds.{fold-roll-TForm}
use Rattle.sn_ast.specs.declared.tag_expr.TForm.TheVariants as form
use Rattle.sn_ast.specs.declared.terminal.Symbol.{Symbol as SomeSymbol}
use Rattle.sn_ast.specs.declared.terminal.Symbol.TheVariants as symbol
use Rattle.sn_ast.specs.declared.terminal.Terminal.{Terminal}
use Rattle.sn_ast.specs.declared.terminal.Terminal.TheVariants.{Symbol, Number}
use Rattle.sn_ast.specs.declared.terminal.Sign.TheVariants.{Minus, Not}
use Rattle.sn_print.specs.Expressions.{Rank, Alone, Compound, Sequence, Shown, alone, compound, operand, by_rank, tag_shown, tag_step}
use Rattle.sn_print.specs.Words.{operator_text, in_angles, in_parentheses}
use Rattle.sn_roundtrip.specs.Unplaced.{unplaced_tag, unplaced_tag_form, at_no_tag_place}
use Rattle.sn_roundtrip.proofs.Joins.{before, calmly, mildly, mildly_exact, wholly}
use Rattle.sn_roundtrip.proofs.Rereads.{Readable, reread, Like, like_leaf, like_inside, like_parens, like_loose, like_each, like_raise, like_join, like_three}
use Rattle.sn_roundtrip.proofs.Singles.{symbol_span, number_span, tag_span, spaced_text, spaced}
use Rattle.sn_roundtrip.proofs.Spans.{Calm, Mild, Whole, Span}
use Rattle.sn_roundtrip.specs.Words.{IsTagName, IsWord, AreWords}

-- a fold of an expression is one step over the folds of its parts
module _ {A B : Type 0} (s : TForm-F A B → A) (t : TExpr-F A B → B) (at : ℕ) where
  abbrev fold : TExpr → B
  fold = fold-TExpr A B s t

  of_form : (f : TForm) (x : TForm-F A B) → fold-TForm A B s t f ≡ s x → fold (record { at = at; form = f }) ≡ t (record { at = at; form = s x })
  of_form f x is = fold-roll-TExpr A B s t (record { at = at; form = f }) ∙ ap (λ a. t (record { at = at; form = a })) is

  pub fold_number : (n : _) → fold (record { at = at; form = form.Number n }) ≡ t (record { at = at; form = s (TForm-F.Number n) })
  fold_number n = of_form (form.Number n) (TForm-F.Number n) (ap (fold-TForm A B s t) (sym (form.rolls-Number n)) ∙ fold-roll-TForm A B s t (TForm-F.Number n))

  pub fold_tag : (name : Ident) → fold (record { at = at; form = form.Tag name }) ≡ t (record { at = at; form = s (TForm-F.Tag name) })
  fold_tag n = of_form (form.Tag n) (TForm-F.Tag n) (ap (fold-TForm A B s t) (sym (form.rolls-Tag n)) ∙ fold-roll-TForm A B s t (TForm-F.Tag n))

  pub fold_neg : (e : TExpr) → fold (record { at = at; form = form.Neg e }) ≡ t (record { at = at; form = s (TForm-F.Neg (fold e)) })
  fold_neg e = of_form (form.Neg e) (TForm-F.Neg (fold e)) (ap (fold-TForm A B s t) (sym (form.rolls-Neg e)) ∙ fold-roll-TForm A B s t (TForm-F.Neg e))

  pub fold_not : (e : TExpr) → fold (record { at = at; form = form.Not e }) ≡ t (record { at = at; form = s (TForm-F.Not (fold e)) })
  fold_not e = of_form (form.Not e) (TForm-F.Not (fold e)) (ap (fold-TForm A B s t) (sym (form.rolls-Not e)) ∙ fold-roll-TForm A B s t (TForm-F.Not e))

  pub fold_op : (o : Operator) (e f : TExpr) → fold (record { at = at; form = form.Op o e f }) ≡ t (record { at = at; form = s (TForm-F.Op o (fold e) (fold f)) })
  fold_op o e f = of_form (form.Op o e f) (TForm-F.Op o (fold e) (fold f)) (ap (fold-TForm A B s t) (sym (form.rolls-Op o e f)) ∙ fold-roll-TForm A B s t (TForm-F.Op o e f))

  pub fold_and : (e f : TExpr) → fold (record { at = at; form = form.And e f }) ≡ t (record { at = at; form = s (TForm-F.And (fold e) (fold f)) })
  fold_and e f = of_form (form.And e f) (TForm-F.And (fold e) (fold f)) (ap (fold-TForm A B s t) (sym (form.rolls-And e f)) ∙ fold-roll-TForm A B s t (TForm-F.And e f))

  pub fold_or : (e f : TExpr) → fold (record { at = at; form = form.Or e f }) ≡ t (record { at = at; form = s (TForm-F.Or (fold e) (fold f)) })
  fold_or e f = of_form (form.Or e f) (TForm-F.Or (fold e) (fold f)) (ap (fold-TForm A B s t) (sym (form.rolls-Or e f)) ∙ fold-roll-TForm A B s t (TForm-F.Or e f))

  pub fold_cond : (c e f : TExpr) → fold (record { at = at; form = form.Cond c e f }) ≡ t (record { at = at; form = s (TForm-F.Cond (fold c) (fold e) (fold f)) })
  fold_cond c e f = of_form (form.Cond c e f) (TForm-F.Cond (fold c) (fold e) (fold f)) (ap (fold-TForm A B s t) (sym (form.rolls-Cond c e f)) ∙ fold-roll-TForm A B s t (TForm-F.Cond c e f))

-- an operand at each level of the grammar
abbrev IsOperand : List Terminal → Measured TExpr → List Terminal → Type 0
IsOperand = Operand measured

as_product : {ts us : List Terminal} {e : Measured TExpr} → IsOperand ts e us → Product measured ts e us
as_product a = product a no_product

as_sum : {ts us : List Terminal} {e : Measured TExpr} → Product measured ts e us → Sum measured ts e us
as_sum a = sum a no_sum

as_conjunction : {ts us : List Terminal} {e : Measured TExpr} → Comparison measured ts e us → Conjunction measured ts e us
as_conjunction a = conjunction a no_and

as_disjunction : {ts us : List Terminal} {e : Measured TExpr} → Comparison measured ts e us → Disjunction measured ts e us
as_disjunction a = disjunction (as_conjunction a) no_or

of_sum : {ts us : List Terminal} {e : Measured TExpr} → Sum measured ts e us → TagExpr measured ts e us
of_sum a = plain (as_disjunction (no_compare a))

as_compared : {ts us : List Terminal} {e : Measured TExpr} → IsOperand ts e us → Comparison measured ts e us
as_compared a = no_compare (as_sum (as_product a))

of_operand : {ts us : List Terminal} {e : Measured TExpr} → IsOperand ts e us → TagExpr measured ts e us
of_operand a = of_sum (as_sum (as_product a))

abbrev pub symbol_of : Operator → SomeSymbol
symbol_of Add = symbol.Plus
symbol_of Sub = symbol.Minus
symbol_of Mul = symbol.Star
symbol_of Div = symbol.Slash
symbol_of Rem = symbol.Percent
symbol_of Lt = symbol.Less
symbol_of Le = symbol.LessEqual
symbol_of Gt = symbol.Greater
symbol_of Ge = symbol.GreaterEqual
symbol_of Eq = symbol.Equal
symbol_of Ne = symbol.NotEqual

reads_op : (op : Operator) {at : ℕ} {ts us vs : List Terminal} {e f : Measured TExpr} → IsOperand ts e (Symbol (symbol_of op) at ∷ us) → IsOperand us f vs →
    TagExpr measured ts (with_operator measured tag_operations op at e f) vs
reads_op Add a b = of_sum (sum (as_product a) (add refl (as_product b) no_sum))
reads_op Sub a b = of_sum (sum (as_product a) (add refl (as_product b) no_sum))
reads_op Mul a b = of_sum (as_sum (product a (multiply refl b no_product)))
reads_op Div a b = of_sum (as_sum (product a (multiply refl b no_product)))
reads_op Rem a b = of_sum (as_sum (product a (multiply refl b no_product)))
reads_op Lt a b = plain (as_disjunction (compare (as_sum (as_product a)) refl (as_sum (as_product b))))
reads_op Le a b = plain (as_disjunction (compare (as_sum (as_product a)) refl (as_sum (as_product b))))
reads_op Gt a b = plain (as_disjunction (compare (as_sum (as_product a)) refl (as_sum (as_product b))))
reads_op Ge a b = plain (as_disjunction (compare (as_sum (as_product a)) refl (as_sum (as_product b))))
reads_op Eq a b = plain (as_disjunction (compare (as_sum (as_product a)) refl (as_sum (as_product b))))
reads_op Ne a b = plain (as_disjunction (compare (as_sum (as_product a)) refl (as_sum (as_product b))))

-- what is read of a text by its rank
abbrev pub ReadsTag : Rank → Measured TExpr → List ℕ → Type 0
ReadsTag Alone e text = Readable Calm Whole text (Operand measured) (Like unplaced_tag 0 e)
ReadsTag Compound e text = Readable Mild Whole text (TagExpr measured) (Like unplaced_tag 1 e)
ReadsTag Sequence e text = ⊥

-- An expression whose text reads back.
pub record GoodTag (e : Measured TExpr) : Type 0 where
  pub shown : Shown
  pub is : tag_shown e.value ≡ shown
  pub reads : ReadsTag shown.rank e shown.text

abbrev pub TagOperand : Measured TExpr → List ℕ → Type 0
TagOperand e text = Readable Calm Whole text (Operand measured) (Like unplaced_tag 0 e)

abbrev pub parens_span : {text : List ℕ} → Span Mild Whole text → Span Calm Whole (in_parentheses text)
parens_span s = wholly (calmly refl (before (symbol_span symbol.OpenParen) (before s (symbol_span symbol.CloseParen) refl) refl))

-- in parentheses where it must be
as_operand : {e : Measured TExpr} (r : Rank) (text : List ℕ) → ReadsTag r e text → TagOperand e (by_rank r text)
as_operand Alone text a = a
as_operand Compound text a = record {
  span = parens_span a.span;
  rereads = λ p. reread _ (λ us. parens ((a.rereads _).reads (Symbol symbol.CloseParen _ ∷ us))) (like_parens unplaced_tag (a.rereads _).good);
}
as_operand Sequence text a = absurd a

pub tag_operand : {e : Measured TExpr} (x : GoodTag e) → TagOperand e (operand x.shown)
tag_operand x = as_operand x.shown.rank x.shown.text x.reads

-- anywhere else
as_whole : {e : Measured TExpr} (r : Rank) (text : List ℕ) → ReadsTag r e text → Readable Mild Whole text (TagExpr measured) (Like unplaced_tag 0 e)
as_whole Alone text a = record { span = mildly a.span; rereads = λ p. reread _ (λ us. of_operand ((a.rereads p).reads us)) (a.rereads p).good }
as_whole Compound text a = record { span = a.span; rereads = λ p. reread _ (λ us. (a.rereads p).reads us) (like_loose unplaced_tag (a.rereads p).good) }
as_whole Sequence text a = absurd a

pub tag_whole : {e : Measured TExpr} (x : GoodTag e) → Readable Mild Whole x.shown.text (TagExpr measured) (Like unplaced_tag 0 e)
tag_whole x = as_whole x.shown.rank x.shown.text x.reads

-- operands with an operator between them
abbrev pub between : {s t : List ℕ} → Span Calm Whole s → (x : SomeSymbol) → Span Calm Whole t → Span Mild Whole (s ++ (spaced_text x ++ t))
between s x t = mildly (before s (before (spaced x) t refl) refl)

pub op_text : (op : Operator) → operator_text op ≡ spaced_text (symbol_of op)
op_text Add = refl
op_text Sub = refl
op_text Mul = refl
op_text Div = refl
op_text Rem = refl
op_text Lt = refl
op_text Le = refl
op_text Gt = refl
op_text Ge = refl
op_text Eq = refl
op_text Ne = refl

-- each form of an expression whose parts read back
good_number : (n : ℤ) (at : ℕ) → IsWord (Number n at) → GoodTag (measured.leaf (record { at = at; form = form.Number n }))
good_number n at w = record {
  shown = alone (decimal w.0);
  is = fold_number tag_step (λ e. e.form) at n ∙ ap (λ z. alone (signed_decimal z)) w.1;
  reads = record {
    span = number_span w.0 w.2;
    rereads = λ p. reread _ (λ us. number) (like_leaf unplaced_tag _ _
        (fold_number unplaced_tag_form at_no_tag_place p (pos w.0) ∙ ap (λ z. record { at = 0; form = form.Number z }) (sym w.1) ∙ sym (fold_number unplaced_tag_form at_no_tag_place at n)));
  };
}

good_name : (name : Ident) → IsTagName name.text → GoodTag (measured.leaf (record { at = name.at; form = form.Tag name }))
good_name name w = record {
  shown = alone (in_angles name.text);
  is = fold_tag tag_step (λ e. e.form) name.at name;
  reads = record {
    span = wholly (tag_span w);
    rereads = λ p. reread _ (λ us. tag) (like_leaf unplaced_tag _ _
        (fold_tag unplaced_tag_form at_no_tag_place p (record { text = name.text; at = p }) ∙ sym (fold_tag unplaced_tag_form at_no_tag_place name.at name)));
  };
}

good_neg : (at : ℕ) {e : Measured TExpr} → GoodTag e → GoodTag (with_sign measured tag_operations Minus at e)
good_neg at {e} x = record {
  shown = compound (codes "-" ++ operand x.shown);
  is = fold_neg tag_step (λ e. e.form) at e.value ∙ ap (λ y. compound (codes "-" ++ operand y)) x.is;
  reads = record {
    span = mildly_exact refl (before (symbol_span symbol.Minus) (tag_operand x).span refl);
    rereads = λ p. reread _ (λ us. of_operand (sign refl (((tag_operand x).rereads _).reads us)))
        (like_raise unplaced_tag (like_each unplaced_tag unplaced_tag (λ a. record { at = 0; form = form.Neg a }) _ _
        (fold_neg unplaced_tag_form at_no_tag_place at) (fold_neg unplaced_tag_form at_no_tag_place p) ((tag_operand x).rereads _).good));
  };
}

good_not : (at : ℕ) {e : Measured TExpr} → GoodTag e → GoodTag (with_sign measured tag_operations Not at e)
good_not at {e} x = record {
  shown = compound (codes "!" ++ operand x.shown);
  is = fold_not tag_step (λ e. e.form) at e.value ∙ ap (λ y. compound (codes "!" ++ operand y)) x.is;
  reads = record {
    span = mildly_exact refl (before (symbol_span symbol.Bang) (tag_operand x).span refl);
    rereads = λ p. reread _ (λ us. of_operand (sign refl (((tag_operand x).rereads _).reads us)))
        (like_raise unplaced_tag (like_each unplaced_tag unplaced_tag (λ a. record { at = 0; form = form.Not a }) _ _
        (fold_not unplaced_tag_form at_no_tag_place at) (fold_not unplaced_tag_form at_no_tag_place p) ((tag_operand x).rereads _).good));
  };
}

good_op : (op : Operator) (at : ℕ) {e f : Measured TExpr} → GoodTag e → GoodTag f → GoodTag (with_operator measured tag_operations op at e f)
good_op op at {e} {f} x y = record {
  shown = compound (operand x.shown ++ (spaced_text (symbol_of op) ++ operand y.shown));
  is = fold_op tag_step (λ e. e.form) at op e.value f.value ∙ (λ i. compound (operand (x.is i) ++ (op_text op i ++ operand (y.is i))));
  reads = record {
    span = between (tag_operand x).span (symbol_of op) (tag_operand y).span;
    rereads = λ p. reread _ (λ us. reads_op op (((tag_operand x).rereads p).reads _) (((tag_operand y).rereads _).reads us))
        (like_raise unplaced_tag (like_join unplaced_tag unplaced_tag unplaced_tag (λ a b. record { at = 0; form = form.Op op a b }) _ _
        (fold_op unplaced_tag_form at_no_tag_place at op) (fold_op unplaced_tag_form at_no_tag_place _ op) ((tag_operand x).rereads p).good ((tag_operand y).rereads _).good));
  };
}

good_and : (at : ℕ) {e f : Measured TExpr} → GoodTag e → GoodTag f → GoodTag (with_and measured tag_operations at e f)
good_and at {e} {f} x y = record {
  shown = compound (operand x.shown ++ (codes " && " ++ operand y.shown));
  is = fold_and tag_step (λ e. e.form) at e.value f.value ∙ (λ i. compound (operand (x.is i) ++ (codes " && " ++ operand (y.is i))));
  reads = record {
    span = between (tag_operand x).span symbol.AndAnd (tag_operand y).span;
    rereads = λ p. reread _ (λ us. plain (disjunction (conjunction (as_compared (((tag_operand x).rereads p).reads _)) (and refl (as_compared (((tag_operand y).rereads _).reads us)) no_and)) no_or))
        (like_raise unplaced_tag (like_join unplaced_tag unplaced_tag unplaced_tag (λ a b. record { at = 0; form = form.And a b }) _ _
        (fold_and unplaced_tag_form at_no_tag_place at) (fold_and unplaced_tag_form at_no_tag_place _) ((tag_operand x).rereads p).good ((tag_operand y).rereads _).good));
  };
}

good_or : (at : ℕ) {e f : Measured TExpr} → GoodTag e → GoodTag f → GoodTag (with_or measured tag_operations at e f)
good_or at {e} {f} x y = record {
  shown = compound (operand x.shown ++ (codes " || " ++ operand y.shown));
  is = fold_or tag_step (λ e. e.form) at e.value f.value ∙ (λ i. compound (operand (x.is i) ++ (codes " || " ++ operand (y.is i))));
  reads = record {
    span = between (tag_operand x).span symbol.BarBar (tag_operand y).span;
    rereads = λ p. reread _ (λ us. plain (disjunction (as_conjunction (as_compared (((tag_operand x).rereads p).reads _))) (or refl (as_conjunction (as_compared (((tag_operand y).rereads _).reads us))) no_or)))
        (like_raise unplaced_tag (like_join unplaced_tag unplaced_tag unplaced_tag (λ a b. record { at = 0; form = form.Or a b }) _ _
        (fold_or unplaced_tag_form at_no_tag_place at) (fold_or unplaced_tag_form at_no_tag_place _) ((tag_operand x).rereads p).good ((tag_operand y).rereads _).good));
  };
}

good_cond : (at : ℕ) {c e f : Measured TExpr} → GoodTag c → GoodTag e → GoodTag f → GoodTag (with_condition measured at c e f)
good_cond at {c} {e} {f} x y z = record {
  shown = compound (operand x.shown ++ (codes " ? " ++ (operand y.shown ++ (codes " : " ++ operand z.shown))));
  is = fold_cond tag_step (λ e. e.form) at c.value e.value f.value ∙ (λ i. compound (operand (x.is i) ++ (codes " ? " ++ (operand (y.is i) ++ (codes " : " ++ operand (z.is i))))));
  reads = record {
    span = mildly (before (tag_operand x).span (before (spaced symbol.Question) (before (tag_operand y).span (before (spaced symbol.Colon) (tag_operand z).span refl) refl) refl) refl);
    rereads = λ p. reread _ (λ us. choose (as_disjunction (as_compared (((tag_operand x).rereads p).reads _))) (of_operand (((tag_operand y).rereads _).reads _)) (of_operand (((tag_operand z).rereads _).reads us)))
        (like_raise unplaced_tag (like_three unplaced_tag unplaced_tag unplaced_tag unplaced_tag (λ a b d. record { at = 0; form = form.Cond a b d }) _ _
        (fold_cond unplaced_tag_form at_no_tag_place at) (fold_cond unplaced_tag_form at_no_tag_place _) ((tag_operand x).rereads p).good ((tag_operand y).rereads _).good ((tag_operand z).rereads _).good));
  };
}

-- parentheses leave no node of their own
inside : (e : Measured TExpr) (r : Rank) (text : List ℕ) → ReadsTag r e text → ReadsTag r (measured.parens e) text
inside e Alone text a = record { span = a.span; rereads = λ p. reread _ (λ us. (a.rereads p).reads us) (like_inside unplaced_tag (a.rereads p).good) }
inside e Compound text a = record { span = a.span; rereads = λ p. reread _ (λ us. (a.rereads p).reads us) (like_inside unplaced_tag (a.rereads p).good) }
inside e Sequence text a = absurd a

good_parens : {e : Measured TExpr} → GoodTag e → GoodTag (measured.parens e)
good_parens x = record { shown = x.shown; is = x.is; reads = inside _ x.shown.rank x.shown.text x.reads }

-- each expression that words spell reads back
mutual
  pub good_tag_expr : {e : Measured TExpr} {ts us : List Terminal} → TagExpr measured ts e us → AreWords ts → GoodTag e × AreWords us
  good_tag_expr (plain d) w = good_disjunction d w
  good_tag_expr (choose {at} a b d) w = let x = good_disjunction a w in let y = good_tag_expr b x.1.1 in let z = good_tag_expr d y.1.1 in (good_cond at x.0 y.0 z.0, z.1)

  good_disjunction : {e : Measured TExpr} {ts us : List Terminal} → Disjunction measured ts e us → AreWords ts → GoodTag e × AreWords us
  good_disjunction (disjunction a d) w = let x = good_conjunction a w in good_disjunctions d x.0 x.1

  good_disjunctions : {e f : Measured TExpr} {ts us : List Terminal} → Disjunctions measured e ts f us → GoodTag e → AreWords ts → GoodTag f × AreWords us
  good_disjunctions no_or x w = (x, w)
  good_disjunctions (or {at} i a d) x w = let y = good_conjunction a w.1 in good_disjunctions d (good_or at x y.0) y.1

  good_conjunction : {e : Measured TExpr} {ts us : List Terminal} → Conjunction measured ts e us → AreWords ts → GoodTag e × AreWords us
  good_conjunction (conjunction a d) w = let x = good_comparison a w in good_conjunctions d x.0 x.1

  good_conjunctions : {e f : Measured TExpr} {ts us : List Terminal} → Conjunctions measured e ts f us → GoodTag e → AreWords ts → GoodTag f × AreWords us
  good_conjunctions no_and x w = (x, w)
  good_conjunctions (and {at} i a d) x w = let y = good_comparison a w.1 in good_conjunctions d (good_and at x y.0) y.1

  good_comparison : {e : Measured TExpr} {ts us : List Terminal} → Comparison measured ts e us → AreWords ts → GoodTag e × AreWords us
  good_comparison (no_compare a) w = good_sum a w
  good_comparison (compare {at} {op = op} a i b) w = let x = good_sum a w in let y = good_sum b x.1.1 in (good_op op at x.0 y.0, y.1)

  good_sum : {e : Measured TExpr} {ts us : List Terminal} → Sum measured ts e us → AreWords ts → GoodTag e × AreWords us
  good_sum (sum a d) w = let x = good_product a w in good_sums d x.0 x.1

  good_sums : {e f : Measured TExpr} {ts us : List Terminal} → Sums measured e ts f us → GoodTag e → AreWords ts → GoodTag f × AreWords us
  good_sums no_sum x w = (x, w)
  good_sums (add {at} {op = op} i a d) x w = let y = good_product a w.1 in good_sums d (good_op op at x y.0) y.1

  good_product : {e : Measured TExpr} {ts us : List Terminal} → Product measured ts e us → AreWords ts → GoodTag e × AreWords us
  good_product (product a d) w = let x = good_operand a w in good_products d x.0 x.1

  good_products : {e f : Measured TExpr} {ts us : List Terminal} → Products measured e ts f us → GoodTag e → AreWords ts → GoodTag f × AreWords us
  good_products no_product x w = (x, w)
  good_products (multiply {at} {op = op} i a d) x w = let y = good_operand a w.1 in good_products d (good_op op at x y.0) y.1

  good_operand : {e : Measured TExpr} {ts us : List Terminal} → Operand measured ts e us → AreWords ts → GoodTag e × AreWords us
  good_operand (sign {at} {g = Minus} i a) w = let x = good_operand a w.1 in (good_neg at x.0, x.1)
  good_operand (sign {at} {g = Not} i a) w = let x = good_operand a w.1 in (good_not at x.0, x.1)
  good_operand (number {n} {at}) w = (good_number n at w.0, w.1)
  good_operand (tag {name}) w = (good_name name w.0, w.1)
  good_operand (parens a) w = let x = good_tag_expr a w.1 in (good_parens x.0, x.1.1)
