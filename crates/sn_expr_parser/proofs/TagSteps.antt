-- One token of an expression over tags at a time: what goes on from before it begins with it, and then goes on from the
-- state after it.
use Rattle.std.proofs.Common.{ℕ, ℤ, false, List, [], ◌∷◌, ◌≡◌, ◌↔◌, IsTrue, Option, Some, None, Result, Ok, Err, refl, subst, sym}
use Rattle.sn_ast.specs.Kept.{Kept, kept}
use Rattle.sn_ast.specs.Operators.{tag_operations, with_sign}
use Rattle.sn_ast.specs.TagExprs.{TagExpr, Disjunctions, Conjunctions, Comparison, Sum, with_condition, plain, choose, disjunction, no_or, or, conjunction, no_and, and, no_compare, compare, sum, no_sum, add, product, no_product, multiply, sign, number, tag, parens}
use Rattle.sn_ast.specs.Terminals.{infix_of, sign_of}
use Rattle.sn_ast.specs.declared.label.Ident.{Ident}
use Rattle.sn_ast.specs.declared.tag_expr.Operator.{Operator}
use Rattle.sn_ast.specs.declared.tag_expr.TExpr.{TExpr}
use Rattle.sn_ast.specs.declared.tag_expr.TForm.TheVariants as tag_form
use Rattle.sn_ast.specs.declared.terminal.Infix.{Infix}
use Rattle.sn_ast.specs.declared.terminal.Infix.TheVariants.{Product as ProductSign, Sum as SumSign, Comparison as ComparisonSign, Conjunction as AndSign, Disjunction as OrSign}
use Rattle.sn_ast.specs.declared.terminal.Sign.{Sign}
use Rattle.sn_ast.specs.declared.terminal.Symbol.{Symbol as SomeSymbol}
use Rattle.sn_ast.specs.declared.terminal.Symbol.TheVariants.{OpenParen, CloseParen, CloseBrace, Comma, Question, Colon}
use Rattle.sn_ast.specs.declared.terminal.Terminal.{Terminal}
use Rattle.sn_ast.specs.declared.terminal.Terminal.TheVariants.{Tag, Number, Symbol}
use Rattle.sn_expr_parser.specs.Levels.{fresh, or_in, after, after_product, after_sum, compared, after_comparison, after_and, after_or, with_next_sign}
use Rattle.sn_expr_parser.specs.TagResidual.{Read, read, may_end, ends, Compared, no_comparison, one_comparison, Up, whole, in_parens, in_middle, in_right, Tested, no_test, test, Down, down, Next, next, StepsFrom, Innermost}
use Rattle.sn_expr_parser.specs.declared.level.Level.{Level}
use Rattle.sn_expr_parser.specs.declared.tags.Frame.{Frame}
use Rattle.sn_expr_parser.specs.declared.tags.Frame.TheVariants.{Parens, Middle, Right}
use Rattle.sn_expr_parser.specs.declared.tags.TagParser.{TagParser}
use Rattle.sn_expr_parser.specs.declared.tags.TagStop.{TagStop}
use Rattle.sn_expr_parser.specs.declared.tags.TagStop.TheVariants.{Memory, Refused, Ended}

-- A comparison in two parts: its first sum, and what the level takes after it.
data Split (ts : List Terminal) (c : Kept TExpr) (vs : List Terminal) : Type 0 where
  split : {e : Kept TExpr} {us : List Terminal} → Sum kept ts e us → Compared None e us c vs → Split ts c vs

split_comparison : {ts vs : List Terminal} {c : Kept TExpr} → Comparison kept ts c vs → Split ts c vs
split_comparison (no_compare s) = split s no_comparison
split_comparison (compare s i r) = split s (one_comparison refl i r)

join_comparison : {ts us vs : List Terminal} {e c : Kept TExpr} → Sum kept ts e us → Compared None e us c vs → Comparison kept ts c vs
join_comparison s no_comparison = no_compare s
join_comparison s (one_comparison n i r) = compare s i r

-- where an expression begins
pub data NextTag (fs : List Frame) (ts : List Terminal) (t : Read) : Type 0 where
  next_tag : {e : Kept TExpr} {us : List Terminal} → TagExpr kept ts e us → Up fs e us t → NextTag fs ts t

next_or : {fs : List Frame} {ts vs xs ys : List Terminal} {c d e : Kept TExpr} {t : Read} → Comparison kept ts c vs →
    Conjunctions kept c vs d xs → Disjunctions kept d xs e ys → Tested fs e ys t → Next fs fresh ts t
next_or x ands ors u = elim (split_comparison x) [ split (sum (product q ps) ss) cs ↦ next q (down ps ss cs ands ors u) ]

pub begin_from : {fs : List Frame} {ts : List Terminal} {t : Read} → NextTag fs ts t → Next fs fresh ts t
begin_from (next_tag (plain (disjunction (conjunction x ands) ors)) u) = next_or x ands ors (no_test u)
begin_from (next_tag (choose (disjunction (conjunction x ands) ors) y z) u) = next_or x ands ors (test y z u)

pub begin_to : {fs : List Frame} {ts : List Terminal} {t : Read} → Next fs fresh ts t → NextTag fs ts t
begin_to (next q (down ps ss cs ands ors (no_test u))) =
    next_tag (plain (disjunction (conjunction (join_comparison (sum (product q ps) ss) cs) ands) ors)) u
begin_to (next q (down ps ss cs ands ors (test y z u))) =
    next_tag (choose (disjunction (conjunction (join_comparison (sum (product q ps) ss) cs) ands) ors) y z) u

-- What may follow an expression is a symbol, and neither an operator nor a question mark.
pub data Closes : Terminal → Type 0 where
  closes : {s : SomeSymbol} {at : ℕ} → infix_of s ≡ None → (s ≡ Question → ⊥) → Closes (Symbol s at)

closes_end : (s : SomeSymbol) (at : ℕ) → IsTrue (may_end s) → Closes (Symbol s at)
closes_end CloseParen at k = closes refl (λ e. cc)
closes_end CloseBrace at k = closes refl (λ e. cc)
closes_end Comma at k = closes refl (λ e. cc)
closes_end s at k = absurd cc

closes_whole : (x : Terminal) (w : List Terminal) → ends (x ∷ w) → Closes x
closes_whole (Symbol s at) w k = closes_end s at k
closes_whole x w k = absurd k

pub up_closes : {fs : List Frame} {e : Kept TExpr} {x : Terminal} {w : List Terminal} {t : Read} → Up fs e (x ∷ w) t → Closes x
up_closes {x} {w} (whole k) = closes_whole x w k
up_closes (in_parens d) = closes refl (λ e. cc)
up_closes (in_middle x u) = closes refl (λ e. cc)
up_closes (in_right u) = up_closes u

-- What follows a disjunction is a symbol and no operator.
data Finishes : Terminal → Type 0 where
  finishes : {s : SomeSymbol} {at : ℕ} → infix_of s ≡ None → Finishes (Symbol s at)

closes_finishes : {x : Terminal} → Closes x → Finishes x
closes_finishes (closes i n) = finishes i

tested_finishes : {fs : List Frame} {e : Kept TExpr} {x : Terminal} {w : List Terminal} {t : Read} → Tested fs e (x ∷ w) t → Finishes x
tested_finishes (no_test u) = closes_finishes (up_closes u)
tested_finishes (test y z u) = finishes refl

-- What follows an operand: an operator that the level takes, or what follows the disjunction that the operand completes.
data Followed (fs : List Frame) (l : Level TExpr) (p : Kept TExpr) : Terminal → List Terminal → Read → Type 0 where
  operated : {i : Infix} {s : SomeSymbol} {at : ℕ} {k : Level TExpr} {w : List Terminal} {t : Read} →
      infix_of s ≡ Some i → after tag_operations l i at p ≡ Some k → Next fs k w t → Followed fs l p (Symbol s at) w t
  finished : {s : SomeSymbol} {at : ℕ} {w : List Terminal} {t : Read} →
      infix_of s ≡ None → Tested fs (or_in tag_operations l p) (Symbol s at ∷ w) t → Followed fs l p (Symbol s at) w t

finished_at : {fs : List Frame} {l : Level TExpr} {p : Kept TExpr} {x : Terminal} {w : List Terminal} {t : Read} → Finishes x →
    Tested fs (or_in tag_operations l p) (x ∷ w) t → Followed fs l p x w t
finished_at (finishes i) u = finished i u

free_comparison : (l : Level TExpr) (op : Operator) (at : ℕ) (p : Kept TExpr) → l.comparison ≡ None →
    after_comparison tag_operations l op at p ≡ Some (compared tag_operations l op at p)
free_comparison l op at p n = rw n refl

followed : {fs : List Frame} {l : Level TExpr} {p : Kept TExpr} {x : Terminal} {w : List Terminal} {t : Read} → Down fs l p (x ∷ w) t →
    Followed fs l p x w t
followed (down (multiply i q ps) ss cs ands ors u) = operated i refl (next q (down ps ss cs ands ors u))
followed (down no_product (add i (product q ps) ss) cs ands ors u) = operated i refl (next q (down ps ss cs ands ors u))
followed {l} {p} (down no_product no_sum (one_comparison {at} {op} n i (sum (product q ps) ss)) ands ors u) =
    operated i (free_comparison l op at p n) (next q (down ps ss no_comparison ands ors u))
followed (down no_product no_sum no_comparison (and i x ands) ors u) =
    elim (split_comparison x) [ split (sum (product q ps) ss) cs ↦ operated i refl (next q (down ps ss cs ands ors u)) ]
followed (down no_product no_sum no_comparison no_and (or i (conjunction x ands) ors) u) =
    elim (split_comparison x) [ split (sum (product q ps) ss) cs ↦ operated i refl (next q (down ps ss cs ands ors u)) ]
followed (down no_product no_sum no_comparison no_and no_or u) = finished_at (tested_finishes u) u

same_level : (l k m : Level TExpr) (i j : Infix) (s : SomeSymbol) (at : ℕ) (p : Kept TExpr) → infix_of s ≡ Some i → infix_of s ≡ Some j →
    after tag_operations l i at p ≡ Some k → after tag_operations l j at p ≡ Some m → m ≡ k
same_level l k m i j s at p h h' g g' =
    let e : j ≡ i = cc in
    let f : after tag_operations l i at p ≡ Some m = rw e at g' in cc

operator_next : {fs : List Frame} {l k : Level TExpr} {p : Kept TExpr} {i : Infix} {s : SomeSymbol} {at : ℕ} {w : List Terminal} {t : Read} →
    infix_of s ≡ Some i → after tag_operations l i at p ≡ Some k → Followed fs l p (Symbol s at) w t → Next fs k w t
operator_next {fs} {l} {k} {p} {i} {s} {at} {w} {t} h g (operated {i = j} {k = m} h' g' y) =
    let P : Level TExpr → Type 0 = λ x. Next fs x w t in subst P (same_level l k m i j s at p h h' g g') y
operator_next h g (finished m u) = absurd cc

operator_none : {fs : List Frame} {l : Level TExpr} {p : Kept TExpr} {i : Infix} {s : SomeSymbol} {at : ℕ} {w : List Terminal} {t : Read} →
    infix_of s ≡ Some i → after tag_operations l i at p ≡ None → Followed fs l p (Symbol s at) w t → ⊥
operator_none {l} {p} {i} {at} h g (operated {i = j} {k} m n y) =
    let e : j ≡ i = cc in
    let f : after tag_operations l i at p ≡ Some k = rw e at n in cc
operator_none h g (finished m u) = cc

finished_next : {fs : List Frame} {l : Level TExpr} {p : Kept TExpr} {s : SomeSymbol} {at : ℕ} {w : List Terminal} {t : Read} →
    infix_of s ≡ None → Followed fs l p (Symbol s at) w t → Tested fs (or_in tag_operations l p) (Symbol s at ∷ w) t
finished_next h (operated m n y) = absurd cc
finished_next h (finished m u) = u

only_symbols : {fs : List Frame} {l : Level TExpr} {p : Kept TExpr} {x : Terminal} {w : List Terminal} {t : Read} →
    ((s : SomeSymbol) (at : ℕ) → x ≡ Symbol s at → ⊥) → Followed fs l p x w t → ⊥
only_symbols n (operated {s} {at} m h y) = n s at refl
only_symbols n (finished {s} {at} m u) = n s at refl

to_product : {fs : List Frame} {l : Level TExpr} {p : Kept TExpr} {op : Operator} {s : SomeSymbol} {at : ℕ} {w : List Terminal} {t : Read} →
    infix_of s ≡ Some (ProductSign op) → Next fs (after_product tag_operations l op at p) w t → Down fs l p (Symbol s at ∷ w) t
to_product h (next q (down ps ss cs ands ors u)) = down (multiply h q ps) ss cs ands ors u

to_sum : {fs : List Frame} {l : Level TExpr} {p : Kept TExpr} {op : Operator} {s : SomeSymbol} {at : ℕ} {w : List Terminal} {t : Read} →
    infix_of s ≡ Some (SumSign op) → Next fs (after_sum tag_operations l op at p) w t → Down fs l p (Symbol s at ∷ w) t
to_sum h (next q (down ps ss cs ands ors u)) = down no_product (add h (product q ps) ss) cs ands ors u

to_comparison : {fs : List Frame} {l : Level TExpr} {p : Kept TExpr} {op : Operator} {s : SomeSymbol} {at : ℕ} {w : List Terminal} {t : Read} →
    l.comparison ≡ None → infix_of s ≡ Some (ComparisonSign op) → Next fs (compared tag_operations l op at p) w t → Down fs l p (Symbol s at ∷ w) t
to_comparison n h (next q (down ps ss no_comparison ands ors u)) = down no_product no_sum (one_comparison n h (sum (product q ps) ss)) ands ors u
to_comparison n h (next q (down ps ss (one_comparison m i r) ands ors u)) = absurd cc

to_and : {fs : List Frame} {l : Level TExpr} {p : Kept TExpr} {s : SomeSymbol} {at : ℕ} {w : List Terminal} {t : Read} →
    infix_of s ≡ Some AndSign → Next fs (after_and tag_operations l at p) w t → Down fs l p (Symbol s at ∷ w) t
to_and h (next q (down ps ss cs ands ors u)) =
    down no_product no_sum no_comparison (and h (join_comparison (sum (product q ps) ss) cs) ands) ors u

to_or : {fs : List Frame} {l : Level TExpr} {p : Kept TExpr} {s : SomeSymbol} {at : ℕ} {w : List Terminal} {t : Read} →
    infix_of s ≡ Some OrSign → Next fs (after_or tag_operations l at p) w t → Down fs l p (Symbol s at ∷ w) t
to_or h (next q (down ps ss cs ands ors u)) =
    down no_product no_sum no_comparison no_and (or h (conjunction (join_comparison (sum (product q ps) ss) cs) ands) ors) u

free_of : (l k : Level TExpr) (op : Operator) (at : ℕ) (p : Kept TExpr) (left : Option (Kept TExpr × Operator × ℕ)) → l.comparison ≡ left →
    after_comparison tag_operations l op at p ≡ Some k → (l.comparison ≡ None) × (k ≡ compared tag_operations l op at p)
free_of l k op at p None e g = let h = free_comparison l op at p e in (e, cc)
free_of l k op at p (Some left) e g = let h : after_comparison tag_operations l op at p ≡ None = rw e refl in absurd cc

operator_to : (i : Infix) {fs : List Frame} {l k : Level TExpr} {p : Kept TExpr} {s : SomeSymbol} {at : ℕ} {w : List Terminal} {t : Read} →
    infix_of s ≡ Some i → after tag_operations l i at p ≡ Some k → Next fs k w t → Down fs l p (Symbol s at ∷ w) t
operator_to (ProductSign op) {l} {k} {p} {at} h g y = let e : k ≡ after_product tag_operations l op at p = cc in to_product h (rw e at y)
operator_to (SumSign op) {l} {k} {p} {at} h g y = let e : k ≡ after_sum tag_operations l op at p = cc in to_sum h (rw e at y)
operator_to (ComparisonSign op) {l} {k} {p} {at} h g y = let f = free_of l k op at p l.comparison refl g in to_comparison f.0 h (rw f.1 at y)
operator_to AndSign {l} {k} {p} {at} h g y = let e : k ≡ after_and tag_operations l at p = cc in to_and h (rw e at y)
operator_to OrSign {l} {k} {p} {at} h g y = let e : k ≡ after_or tag_operations l at p = cc in to_or h (rw e at y)

-- One step each, as the code takes it.
pub number_from : {fs : List Frame} {l : Level TExpr} {n : ℤ} {at : ℕ} {w : List Terminal} {t : Read} → Next fs l (Number n at ∷ w) t →
    Down fs l (kept.leaf (record { at = at; form = tag_form.Number n })) w t
number_from (next number d) = d

pub number_to : {fs : List Frame} {l : Level TExpr} {n : ℤ} {at : ℕ} {w : List Terminal} {t : Read} →
    Down fs l (kept.leaf (record { at = at; form = tag_form.Number n })) w t → Next fs l (Number n at ∷ w) t
number_to d = next number d

pub tag_from : {fs : List Frame} {l : Level TExpr} {name : Ident} {w : List Terminal} {t : Read} → Next fs l (Tag name ∷ w) t →
    Down fs l (kept.leaf (record { at = name.at; form = tag_form.Tag name })) w t
tag_from (next tag d) = d

pub tag_to : {fs : List Frame} {l : Level TExpr} {name : Ident} {w : List Terminal} {t : Read} →
    Down fs l (kept.leaf (record { at = name.at; form = tag_form.Tag name })) w t → Next fs l (Tag name ∷ w) t
tag_to d = next tag d

sign_next : {fs : List Frame} {l : Level TExpr} {g : Sign} {at : ℕ} {p : Kept TExpr} {w : List Terminal} {t : Read} →
    Down fs l (with_sign kept tag_operations g at p) w t → Down fs (with_next_sign l g at) p w t
sign_next (down ps ss cs ands ors u) = down ps ss cs ands ors u

sign_back : {fs : List Frame} {l : Level TExpr} {g : Sign} {at : ℕ} {p : Kept TExpr} {w : List Terminal} {t : Read} →
    Down fs (with_next_sign l g at) p w t → Down fs l (with_sign kept tag_operations g at p) w t
sign_back (down ps ss cs ands ors u) = down ps ss cs ands ors u

pub sign_from : {fs : List Frame} {l : Level TExpr} {g : Sign} {s : SomeSymbol} {at : ℕ} {w : List Terminal} {t : Read} → sign_of s ≡ Some g →
    Next fs l (Symbol s at ∷ w) t → Next fs (with_next_sign l g at) w t
sign_from {fs} {l} {g} {at} {w} {t} h (next (sign {g = f} i q) d) =
    let e : f ≡ g = cc in
    let P : Sign → Type 0 = λ x. Next fs (with_next_sign l x at) w t in subst P e (next q (sign_next d))
sign_from h (next (parens e) d) = absurd cc

pub sign_to : {fs : List Frame} {l : Level TExpr} {g : Sign} {s : SomeSymbol} {at : ℕ} {w : List Terminal} {t : Read} → sign_of s ≡ Some g →
    Next fs (with_next_sign l g at) w t → Next fs l (Symbol s at ∷ w) t
sign_to h (next q d) = next (sign h q) (sign_back d)

pub open_from : {fs : List Frame} {l : Level TExpr} {at : ℕ} {w : List Terminal} {t : Read} → Next fs l (Symbol OpenParen at ∷ w) t →
    Next (Parens l ∷ fs) fresh w t
open_from (next (parens e) d) = begin_from (next_tag e (in_parens d))
open_from (next (sign i q) d) = absurd cc

opened : {fs : List Frame} {l : Level TExpr} {at : ℕ} {w : List Terminal} {t : Read} → NextTag (Parens l ∷ fs) w t → Next fs l (Symbol OpenParen at ∷ w) t
opened (next_tag e (in_parens d)) = next (parens e) d

pub open_to : {fs : List Frame} {l : Level TExpr} {at : ℕ} {w : List Terminal} {t : Read} → Next (Parens l ∷ fs) fresh w t →
    Next fs l (Symbol OpenParen at ∷ w) t
open_to y = opened (begin_to y)

pub no_opening : {fs : List Frame} {l : Level TExpr} {s : SomeSymbol} {at : ℕ} {w : List Terminal} {t : Read} → sign_of s ≡ None →
    (s ≡ OpenParen → ⊥) → Next fs l (Symbol s at ∷ w) t → ⊥
no_opening h n (next (sign i q) d) = cc
no_opening h n (next (parens e) d) = n refl

pub no_operand : {fs : List Frame} {l : Level TExpr} {x : Terminal} {w : List Terminal} {t : Read} → ((n : ℤ) (at : ℕ) → x ≡ Number n at → ⊥) →
    ((name : Ident) → x ≡ Tag name → ⊥) → ((s : SomeSymbol) (at : ℕ) → x ≡ Symbol s at → ⊥) → Next fs l (x ∷ w) t → ⊥
no_operand n m o (next (number {n = v} {at}) d) = n v at refl
no_operand n m o (next (tag {name}) d) = m name refl
no_operand n m o (next (sign {at} {s} i q) d) = o s at refl
no_operand n m o (next (parens {at} e) d) = o OpenParen at refl

pub operator_steps : (fs : List Frame) (l k : Level TExpr) (p : Kept TExpr) (i : Infix) (s : SomeSymbol) (at : ℕ) → infix_of s ≡ Some i →
    Some k ≡ after tag_operations l i at p → (w : List Terminal) (t : Read) → Down fs l p (Symbol s at ∷ w) t ↔ Next fs k w t
operator_steps fs l k p i s at h g w t = (λ d. operator_next h (sym g) (followed d), operator_to i h (sym g))

pub operator_refused : (fs : List Frame) (l : Level TExpr) (p : Kept TExpr) (i : Infix) (s : SomeSymbol) (at : ℕ) → infix_of s ≡ Some i →
    None ≡ after tag_operations l i at p → (w : List Terminal) (t : Read) → Down fs l p (Symbol s at ∷ w) t → ⊥
operator_refused fs l p i s at h g w t d = operator_none h (sym g) (followed d)

pub finished_from : {fs : List Frame} {l : Level TExpr} {p : Kept TExpr} {s : SomeSymbol} {at : ℕ} {w : List Terminal} {t : Read} →
    infix_of s ≡ None → Down fs l p (Symbol s at ∷ w) t → Tested fs (or_in tag_operations l p) (Symbol s at ∷ w) t
finished_from h d = finished_next h (followed d)

pub finished_to : {fs : List Frame} {l : Level TExpr} {p : Kept TExpr} {us : List Terminal} {t : Read} →
    Tested fs (or_in tag_operations l p) us t → Down fs l p us t
finished_to u = down no_product no_sum no_comparison no_and no_or u

pub no_symbol : {fs : List Frame} {l : Level TExpr} {p : Kept TExpr} {x : Terminal} {w : List Terminal} {t : Read} →
    ((s : SomeSymbol) (at : ℕ) → x ≡ Symbol s at → ⊥) → Down fs l p (x ∷ w) t → ⊥
no_symbol n d = only_symbols n (followed d)

pub question_from : {fs : List Frame} {c : Kept TExpr} {at : ℕ} {w : List Terminal} {t : Read} → Tested fs c (Symbol Question at ∷ w) t →
    Next (Middle at c ∷ fs) fresh w t
question_from (test y z u) = begin_from (next_tag y (in_middle z (in_right u)))
question_from {at} (no_test u) = absurd (no_question (up_closes u))
  where
    no_question : {at : ℕ} → Closes (Symbol Question at) → ⊥
    no_question (closes i n) = n refl

asked : {fs : List Frame} {c : Kept TExpr} {at : ℕ} {w : List Terminal} {t : Read} → NextTag (Middle at c ∷ fs) w t → Tested fs c (Symbol Question at ∷ w) t
asked (next_tag y (in_middle z (in_right u))) = test y z u

pub question_to : {fs : List Frame} {c : Kept TExpr} {at : ℕ} {w : List Terminal} {t : Read} → Next (Middle at c ∷ fs) fresh w t →
    Tested fs c (Symbol Question at ∷ w) t
question_to y = asked (begin_to y)

pub untested : {fs : List Frame} {e : Kept TExpr} {s : SomeSymbol} {at : ℕ} {w : List Terminal} {t : Read} → (s ≡ Question → ⊥) →
    Tested fs e (Symbol s at ∷ w) t → Up fs e (Symbol s at ∷ w) t
untested n (no_test u) = u
untested n (test y z u) = absurd (n refl)

pub close_from : {fs : List Frame} {l : Level TExpr} {e : Kept TExpr} {at : ℕ} {w : List Terminal} {t : Read} →
    Up (Parens l ∷ fs) e (Symbol CloseParen at ∷ w) t → Down fs l (kept.parens e) w t
close_from (in_parens d) = d

pub close_to : {fs : List Frame} {l : Level TExpr} {e : Kept TExpr} {at : ℕ} {w : List Terminal} {t : Read} →
    Down fs l (kept.parens e) w t → Up (Parens l ∷ fs) e (Symbol CloseParen at ∷ w) t
close_to d = in_parens d

pub no_close : {fs : List Frame} {l : Level TExpr} {e : Kept TExpr} {s : SomeSymbol} {at : ℕ} {w : List Terminal} {t : Read} →
    (s ≡ CloseParen → ⊥) → Up (Parens l ∷ fs) e (Symbol s at ∷ w) t → ⊥
no_close n (in_parens d) = n refl

pub colon_from : {fs : List Frame} {c e : Kept TExpr} {at colon : ℕ} {w : List Terminal} {t : Read} →
    Up (Middle at c ∷ fs) e (Symbol Colon colon ∷ w) t → Next (Right at c e ∷ fs) fresh w t
colon_from (in_middle x u) = begin_from (next_tag x u)

chosen : {fs : List Frame} {c e : Kept TExpr} {at colon : ℕ} {w : List Terminal} {t : Read} → NextTag (Right at c e ∷ fs) w t →
    Up (Middle at c ∷ fs) e (Symbol Colon colon ∷ w) t
chosen (next_tag x u) = in_middle x u

pub colon_to : {fs : List Frame} {c e : Kept TExpr} {at colon : ℕ} {w : List Terminal} {t : Read} → Next (Right at c e ∷ fs) fresh w t →
    Up (Middle at c ∷ fs) e (Symbol Colon colon ∷ w) t
colon_to y = chosen (begin_to y)

pub no_colon : {fs : List Frame} {c e : Kept TExpr} {s : SomeSymbol} {at colon : ℕ} {w : List Terminal} {t : Read} →
    (s ≡ Colon → ⊥) → Up (Middle at c ∷ fs) e (Symbol s colon ∷ w) t → ⊥
no_colon n (in_middle x u) = n refl

-- At the top, and in conditionals, which end where the expression does.
top_from : {e : Kept TExpr} {us : List Terminal} {t : Read} → Up [] e us t → read e us ≡ t
top_from (whole k) = refl

top_to : {e : Kept TExpr} {us : List Terminal} {t : Read} → ends us → read e us ≡ t → Up [] e us t
top_to {e} {us} k i = let P : Read → Type 0 = λ x. Up [] e us x in subst P i (whole k)

top_ends : {e : Kept TExpr} {us : List Terminal} {t : Read} → Up [] e us t → ends us
top_ends (whole k) = k

pub ended_steps : (e : Kept TExpr) (s : SomeSymbol) (at : ℕ) → IsTrue (may_end s) → StepsFrom (Up [] e) (Symbol s at) (Err (Ended e s at))
ended_steps e s at k = (refl, λ w t. (top_from, top_to k))

pub ended_refused : (e : Kept TExpr) (s : SomeSymbol) (at : ℕ) → may_end s ≡ false → StepsFrom (Up [] e) (Symbol s at) (Err Refused)
ended_refused e s at k = λ w t u. let i : IsTrue (may_end s) = top_ends u in cc

right_from : {fs : List Frame} {at : ℕ} {c x e : Kept TExpr} {us : List Terminal} {t : Read} → Up (Right at c x ∷ fs) e us t →
    Up fs (with_condition kept at c x e) us t
right_from (in_right u) = u

pub conditional_step : (fs gs hs : List Frame) (e f g : Kept TExpr) (at : ℕ) (c x : Kept TExpr) → gs ≡ Right at c x ∷ hs →
    g ≡ with_condition kept at c x f → ((us : List Terminal) (t : Read) → Up fs e us t ↔ Up gs f us t) →
    (us : List Terminal) (t : Read) → Up fs e us t ↔ Up hs g us t
conditional_step fs gs hs e f g at c x i j k us t =
    let p : Up fs e us t ↔ Up (Right at c x ∷ hs) f us t = rw i at (k us t) in
    rw j (λ y. right_from (p.0 y), λ y. p.1 (in_right y))

-- where no frame is left, and where the next is no right part
pub innermost_none : (fs gs hs : List Frame) (e f : Kept TExpr) → gs ≡ [] → ((us : List Terminal) (t : Read) → Up fs e us t ↔ Up gs f us t) → Innermost fs e None hs f
innermost_none fs gs hs e f i k = record { same = λ us t. rw i at (k us t); other = λ at c x j. cc }

pub innermost_some : (fs gs hs : List Frame) (e f : Kept TExpr) (o p : Frame) → gs ≡ p ∷ hs → o ≡ p → ((at : ℕ) (c x : Kept TExpr) → p ≡ Right at c x → ⊥) →
    ((us : List Terminal) (t : Read) → Up fs e us t ↔ Up gs f us t) → Innermost fs e (Some o) hs f
innermost_some fs gs hs e f o p i j n k = record { same = λ us t. rw j (rw i at (k us t)); other = λ at c x m. n at c x cc }

-- What one state takes another takes, where the same goes on from both.
pub through : (P Q : List Terminal → Read → Type 0) (x : Terminal) (r : Result TagParser TagStop) →
    ((w : List Terminal) (t : Read) → P (x ∷ w) t ↔ Q (x ∷ w) t) → StepsFrom Q x r → StepsFrom P x r
through P Q x (Ok s) k h = λ w t. (λ y. (h w t).0 ((k w t).0 y), λ y. (k w t).1 ((h w t).1 y))
through P Q x (Err Memory) k h = tt
through P Q x (Err Refused) k h = λ w t y. h w t ((k w t).0 y)
through P Q x (Err (Ended e s at)) k h = (h.0, λ w t. (λ y. (h.1 w t).0 ((k w t).0 y), λ y. (k w t).1 ((h.1 w t).1 y)))

pub innermost_steps : (fs gs : List Frame) (e f : Kept TExpr) (o : Option Frame) (k : Frame) (x : Terminal) (r : Result TagParser TagStop) →
    Innermost fs e o gs f → o ≡ Some k → StepsFrom (Up (k ∷ gs) f) x r → StepsFrom (Up fs e) x r
innermost_steps fs gs e f o k x r h i j = through (Up fs e) (Up (k ∷ gs) f) x r (λ w t. rw i at (h.same (x ∷ w) t)) j

pub top_steps : (fs gs : List Frame) (e f : Kept TExpr) (o : Option Frame) (x : Terminal) (r : Result TagParser TagStop) →
    Innermost fs e o gs f → o ≡ None → StepsFrom (Up [] f) x r → StepsFrom (Up fs e) x r
top_steps fs gs e f o x r h i j = through (Up fs e) (Up [] f) x r (λ w t. rw i at (h.same (x ∷ w) t)) j

pub start_from : {w us : List Terminal} {e : Kept TExpr} → TagExpr kept w e us → ends us → Next [] fresh w (read e us)
start_from x k = begin_from (next_tag x (whole k))

started : {w : List Terminal} {t : Read} → NextTag [] w t → TagExpr kept w t.part t.rest × ends t.rest
started (next_tag x (whole k)) = (x, k)

pub start_to : {w : List Terminal} {t : Read} → Next [] fresh w t → TagExpr kept w t.part t.rest × ends t.rest
start_to y = started (begin_to y)
