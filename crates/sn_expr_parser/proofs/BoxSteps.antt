-- One token of an expression in a box at a time: what goes on from before it begins with it, and then goes on from the
-- state after it.
use Rattle.std.proofs.Common.{ℕ, ℤ, true, false, unsigned_abs, List, [], ◌∷◌, ◌≡◌, ◌↔◌, IsTrue, Option, Some, None, Result, Ok, Err, refl, subst, sym, ◌∙◌}
use Rattle.sn_ast.specs.BoxExprs.{BoxExpr, Disjunction, Disjunctions, Conjunctions, Comparison, Sum, Operand, bind, choose, plain, disjunction, no_or, or, conjunction, no_and, and, no_compare, compare, sum, no_sum, add, product, no_product, multiply, sign, number, literal, tag, name, call, list, out, parens, no_arguments, arguments, last_argument, more_arguments, sequence, last_step, more_steps, sequence_of, with_step}
use Rattle.sn_ast.specs.Kept.{Kept, kept}
use Rattle.sn_ast.specs.Operators.{box_operations, with_sign}
use Rattle.sn_ast.specs.Rows.{no_parts, with_part}
use Rattle.sn_ast.specs.Terminals.{closing, infix_of, place_of, sign_of}
use Rattle.sn_ast.specs.declared.box_expr.BExpr.{BExpr}
use Rattle.sn_ast.specs.declared.box_expr.BForm.TheVariants as box_form
use Rattle.sn_ast.specs.declared.label.Ident.{Ident}
use Rattle.sn_ast.specs.declared.tag_expr.Operator.{Operator}
use Rattle.sn_ast.specs.declared.terminal.Bracket.{Bracket}
use Rattle.sn_ast.specs.declared.terminal.Bracket.TheVariants.{Paren, Brace, Square}
use Rattle.sn_ast.specs.declared.terminal.Infix.{Infix}
use Rattle.sn_ast.specs.declared.terminal.Infix.TheVariants.{Product as ProductSign, Sum as SumSign, Comparison as ComparisonSign, Conjunction as AndSign, Disjunction as OrSign}
use Rattle.sn_ast.specs.declared.terminal.Keyword.{Keyword as SomeKeyword}
use Rattle.sn_ast.specs.declared.terminal.Keyword.TheVariants.{Let, If, In, Then as ThenWord, Else as ElseWord, Out}
use Rattle.sn_ast.specs.declared.terminal.Sign.{Sign}
use Rattle.sn_ast.specs.declared.terminal.Symbol.{Symbol as SomeSymbol}
use Rattle.sn_ast.specs.declared.terminal.Symbol.TheVariants.{OpenParen, CloseParen, OpenBracket, CloseBracket, CloseBrace, Comma, Semicolon, Assign}
use Rattle.sn_ast.specs.declared.terminal.Terminal.{Terminal}
use Rattle.sn_ast.specs.declared.terminal.Terminal.TheVariants.{Name, Tag, Number, Literal, Keyword, Symbol}
use Rattle.sn_expr_parser.specs.BoxNodes.{bracket_of, with_row, is_close_paren, is_close_bracket, is_closed_by}
use Rattle.sn_expr_parser.specs.BoxResidual.{Read, read, may_end, ends, is_open_paren, closes, next_frame, completed, Compared, no_comparison, one_comparison, Up, whole, in_parens, in_arguments, in_middle, in_last, Down, down, Next, next, NextExpr, next_expr, NextAssign, next_assign, NextName, next_name, NextArguments, next_arguments, NextOpening, next_opening, NextNumber, next_number, Named, plain_name, called_name, NextSequence, next_sequence, StepsFrom, Innermost}
use Rattle.sn_expr_parser.specs.Levels.{fresh, or_in, after, after_product, after_sum, compared, after_comparison, after_and, after_or, with_next_sign}
use Rattle.sn_expr_parser.specs.declared.box_node.Head.{Head}
use Rattle.sn_expr_parser.specs.declared.box_node.Head.TheVariants.{Function, Variant, Elements}
use Rattle.sn_expr_parser.specs.declared.boxes.BoxParser.{BoxParser}
use Rattle.sn_expr_parser.specs.declared.boxes.BoxStop.{BoxStop}
use Rattle.sn_expr_parser.specs.declared.boxes.BoxStop.TheVariants.{Memory, Refused, Ended}
use Rattle.sn_expr_parser.specs.declared.box_frame.Frame.{Frame}
use Rattle.sn_expr_parser.specs.declared.box_frame.Frame.TheVariants.{Parens, Arguments, Middle, Last}
use Rattle.sn_expr_parser.specs.declared.box_frame.LastPart.{LastPart}
use Rattle.sn_expr_parser.specs.declared.box_frame.LastPart.TheVariants.{Body, Else}
use Rattle.sn_expr_parser.specs.declared.box_frame.MiddlePart.{MiddlePart}
use Rattle.sn_expr_parser.specs.declared.box_frame.MiddlePart.TheVariants.{Bound, Test, Then}
use Rattle.sn_expr_parser.specs.declared.level.Level.{Level}

-- A comparison in two parts: its first sum, and what the level takes after it.
data Split (ts : List Terminal) (c : Kept BExpr) (vs : List Terminal) : Type 0 where
  split : {e : Kept BExpr} {us : List Terminal} → Sum kept ts e us → Compared None e us c vs → Split ts c vs

split_comparison : {ts vs : List Terminal} {c : Kept BExpr} → Comparison kept ts c vs → Split ts c vs
split_comparison (no_compare s) = split s no_comparison
split_comparison (compare s i r) = split s (one_comparison refl i r)

join_comparison : {ts us vs : List Terminal} {e c : Kept BExpr} → Sum kept ts e us → Compared None e us c vs → Comparison kept ts c vs
join_comparison s no_comparison = no_compare s
join_comparison s (one_comparison n i r) = compare s i r

next_or : {fs : List Frame} {ts vs xs ys : List Terminal} {c d e : Kept BExpr} {t : Read} → Comparison kept ts c vs →
    Conjunctions kept c vs d xs → Disjunctions kept d xs e ys → Up fs e ys t → Next fs fresh ts t
next_or x ands ors u = elim (split_comparison x) [ split (sum (product q ps) ss) cs ↦ next q (down ps ss cs ands ors u) ]

-- Where an expression begins, and neither "let" nor "if" does, an operand begins in a fresh level.
pub expr_from : {fs : List Frame} {x : Terminal} {w : List Terminal} {t : Read} → ((at : ℕ) → x ≡ Keyword Let at → ⊥) →
    ((at : ℕ) → x ≡ Keyword If at → ⊥) → NextExpr fs (x ∷ w) t → Next fs fresh (x ∷ w) t
expr_from n m (next_expr (bind {at} x y) u) = absurd (n at refl)
expr_from n m (next_expr (choose {at} x y z) u) = absurd (m at refl)
expr_from n m (next_expr (plain (disjunction (conjunction x ands) ors)) u) = next_or x ands ors u

pub keyword_expr_from : {fs : List Frame} {k : SomeKeyword} {at : ℕ} {w : List Terminal} {t : Read} → (k ≡ Let → ⊥) → (k ≡ If → ⊥) →
    NextExpr fs (Keyword k at ∷ w) t → Next fs fresh (Keyword k at ∷ w) t
keyword_expr_from n m y = expr_from (λ a e. n (cc)) (λ a e. m (cc)) y

pub expr_to : {fs : List Frame} {w : List Terminal} {t : Read} → Next fs fresh w t → NextExpr fs w t
expr_to (next q (down ps ss cs ands ors u)) =
    next_expr (plain (disjunction (conjunction (join_comparison (sum (product q ps) ss) cs) ands) ors)) u

-- What may follow an expression is a keyword, or a symbol that is neither an operator nor an opening parenthesis.
pub data Closes : Terminal → Type 0 where
  symbol : {s : SomeSymbol} {at : ℕ} → infix_of s ≡ None → (s ≡ OpenParen → ⊥) → Closes (Symbol s at)
  keyword : {k : SomeKeyword} {at : ℕ} → Closes (Keyword k at)

closes_end : (s : SomeSymbol) (at : ℕ) → IsTrue (may_end s) → Closes (Symbol s at)
closes_end Semicolon at k = symbol refl (λ e. cc)
closes_end CloseBrace at k = symbol refl (λ e. cc)
closes_end s at k = absurd cc

closes_whole : (x : Terminal) (w : List Terminal) → ends (x ∷ w) → Closes x
closes_whole (Symbol s at) w k = closes_end s at k
closes_whole x w k = absurd k

closes_bracket : (b : Bracket) (s : SomeSymbol) (at : ℕ) → s ≡ closing b → Closes (Symbol s at)
closes_bracket Paren s at i = let n : CloseParen ≡ OpenParen → ⊥ = λ e. cc in rw i (symbol refl n)
closes_bracket Brace s at i = let n : CloseBrace ≡ OpenParen → ⊥ = λ e. cc in rw i (symbol refl n)
closes_bracket Square s at i = let n : CloseBracket ≡ OpenParen → ⊥ = λ e. cc in rw i (symbol refl n)

pub up_closes : {fs : List Frame} {e : Kept BExpr} {x : Terminal} {w : List Terminal} {t : Read} → Up fs e (x ∷ w) t → Closes x
up_closes {x} {w} (whole k) = closes_whole x w k
up_closes (in_parens last_step d) = symbol refl (λ e. cc)
up_closes (in_parens (more_steps x m) d) = symbol refl (λ e. cc)
up_closes (in_arguments {h} (last_argument {at} {s} i) d) = closes_bracket (bracket_of h) s at i
up_closes (in_arguments (more_arguments x m) d) = symbol refl (λ e. cc)
up_closes (in_middle i x u) = keyword
up_closes (in_last u) = up_closes u

not_plain : {i : Infix} {s : SomeSymbol} {at : ℕ} → infix_of s ≡ Some i → Closes (Symbol s at) → ⊥
not_plain h (symbol i n) = cc

-- What follows an operand: an operator that the level takes, or what follows the disjunction that the operand completes.
data Followed (fs : List Frame) (l : Level BExpr) (p : Kept BExpr) : Terminal → List Terminal → Read → Type 0 where
  operated : {i : Infix} {s : SomeSymbol} {at : ℕ} {k : Level BExpr} {w : List Terminal} {t : Read} →
      infix_of s ≡ Some i → after box_operations l i at p ≡ Some k → Next fs k w t → Followed fs l p (Symbol s at) w t
  finished : {x : Terminal} {w : List Terminal} {t : Read} → Closes x → Up fs (or_in box_operations l p) (x ∷ w) t → Followed fs l p x w t

free_comparison : (l : Level BExpr) (op : Operator) (at : ℕ) (p : Kept BExpr) → l.comparison ≡ None →
    after_comparison box_operations l op at p ≡ Some (compared box_operations l op at p)
free_comparison l op at p n = rw n refl

followed : {fs : List Frame} {l : Level BExpr} {p : Kept BExpr} {x : Terminal} {w : List Terminal} {t : Read} → Down fs l p (x ∷ w) t →
    Followed fs l p x w t
followed (down (multiply i q ps) ss cs ands ors u) = operated i refl (next q (down ps ss cs ands ors u))
followed (down no_product (add i (product q ps) ss) cs ands ors u) = operated i refl (next q (down ps ss cs ands ors u))
followed {l} {p} (down no_product no_sum (one_comparison {at} {op} n i (sum (product q ps) ss)) ands ors u) =
    operated i (free_comparison l op at p n) (next q (down ps ss no_comparison ands ors u))
followed (down no_product no_sum no_comparison (and i x ands) ors u) =
    elim (split_comparison x) [ split (sum (product q ps) ss) cs ↦ operated i refl (next q (down ps ss cs ands ors u)) ]
followed (down no_product no_sum no_comparison no_and (or i (conjunction x ands) ors) u) =
    elim (split_comparison x) [ split (sum (product q ps) ss) cs ↦ operated i refl (next q (down ps ss cs ands ors u)) ]
followed (down no_product no_sum no_comparison no_and no_or u) = finished (up_closes u) u

same_level : (l k m : Level BExpr) (i j : Infix) (s : SomeSymbol) (at : ℕ) (p : Kept BExpr) → infix_of s ≡ Some i → infix_of s ≡ Some j →
    after box_operations l i at p ≡ Some k → after box_operations l j at p ≡ Some m → m ≡ k
same_level l k m i j s at p h h' g g' =
    let e : j ≡ i = cc in
    let f : after box_operations l i at p ≡ Some m = rw e at g' in cc

operator_next : {fs : List Frame} {l k : Level BExpr} {p : Kept BExpr} {i : Infix} {s : SomeSymbol} {at : ℕ} {w : List Terminal} {t : Read} →
    infix_of s ≡ Some i → after box_operations l i at p ≡ Some k → Followed fs l p (Symbol s at) w t → Next fs k w t
operator_next {fs} {l} {k} {p} {i} {s} {at} {w} {t} h g (operated {i = j} {k = m} h' g' y) =
    let P : Level BExpr → Type 0 = λ x. Next fs x w t in subst P (same_level l k m i j s at p h h' g g') y
operator_next h g (finished m u) = absurd (not_plain h m)

operator_none : {fs : List Frame} {l : Level BExpr} {p : Kept BExpr} {i : Infix} {s : SomeSymbol} {at : ℕ} {w : List Terminal} {t : Read} →
    infix_of s ≡ Some i → after box_operations l i at p ≡ None → Followed fs l p (Symbol s at) w t → ⊥
operator_none {l} {p} {i} {at} h g (operated {i = j} {k} m n y) =
    let e : j ≡ i = cc in
    let f : after box_operations l i at p ≡ Some k = rw e at n in cc
operator_none h g (finished m u) = not_plain h m

finished_symbol : {fs : List Frame} {l : Level BExpr} {p : Kept BExpr} {s : SomeSymbol} {at : ℕ} {w : List Terminal} {t : Read} →
    infix_of s ≡ None → Followed fs l p (Symbol s at) w t → Up fs (or_in box_operations l p) (Symbol s at ∷ w) t
finished_symbol h (operated m n y) = absurd cc
finished_symbol h (finished m u) = u

finished_keyword : {fs : List Frame} {l : Level BExpr} {p : Kept BExpr} {k : SomeKeyword} {at : ℕ} {w : List Terminal} {t : Read} →
    Followed fs l p (Keyword k at) w t → Up fs (or_in box_operations l p) (Keyword k at ∷ w) t
finished_keyword (finished m u) = u

closes_plain : {x : Terminal} → Closes x → ((s : SomeSymbol) (at : ℕ) → x ≡ Symbol s at → ⊥) →
    ((k : SomeKeyword) (at : ℕ) → x ≡ Keyword k at → ⊥) → ⊥
closes_plain (symbol {s} {at} i n) o q = o s at refl
closes_plain (keyword {k} {at}) o q = q k at refl

only_symbols : {fs : List Frame} {l : Level BExpr} {p : Kept BExpr} {x : Terminal} {w : List Terminal} {t : Read} →
    ((s : SomeSymbol) (at : ℕ) → x ≡ Symbol s at → ⊥) → ((k : SomeKeyword) (at : ℕ) → x ≡ Keyword k at → ⊥) → Followed fs l p x w t → ⊥
only_symbols n o (operated {s} {at} m h y) = n s at refl
only_symbols n o (finished m u) = closes_plain m n o

to_product : {fs : List Frame} {l : Level BExpr} {p : Kept BExpr} {op : Operator} {s : SomeSymbol} {at : ℕ} {w : List Terminal} {t : Read} →
    infix_of s ≡ Some (ProductSign op) → Next fs (after_product box_operations l op at p) w t → Down fs l p (Symbol s at ∷ w) t
to_product h (next q (down ps ss cs ands ors u)) = down (multiply h q ps) ss cs ands ors u

to_sum : {fs : List Frame} {l : Level BExpr} {p : Kept BExpr} {op : Operator} {s : SomeSymbol} {at : ℕ} {w : List Terminal} {t : Read} →
    infix_of s ≡ Some (SumSign op) → Next fs (after_sum box_operations l op at p) w t → Down fs l p (Symbol s at ∷ w) t
to_sum h (next q (down ps ss cs ands ors u)) = down no_product (add h (product q ps) ss) cs ands ors u

to_comparison : {fs : List Frame} {l : Level BExpr} {p : Kept BExpr} {op : Operator} {s : SomeSymbol} {at : ℕ} {w : List Terminal} {t : Read} →
    l.comparison ≡ None → infix_of s ≡ Some (ComparisonSign op) → Next fs (compared box_operations l op at p) w t → Down fs l p (Symbol s at ∷ w) t
to_comparison n h (next q (down ps ss no_comparison ands ors u)) = down no_product no_sum (one_comparison n h (sum (product q ps) ss)) ands ors u
to_comparison n h (next q (down ps ss (one_comparison m i r) ands ors u)) = absurd cc

to_and : {fs : List Frame} {l : Level BExpr} {p : Kept BExpr} {s : SomeSymbol} {at : ℕ} {w : List Terminal} {t : Read} →
    infix_of s ≡ Some AndSign → Next fs (after_and box_operations l at p) w t → Down fs l p (Symbol s at ∷ w) t
to_and h (next q (down ps ss cs ands ors u)) =
    down no_product no_sum no_comparison (and h (join_comparison (sum (product q ps) ss) cs) ands) ors u

to_or : {fs : List Frame} {l : Level BExpr} {p : Kept BExpr} {s : SomeSymbol} {at : ℕ} {w : List Terminal} {t : Read} →
    infix_of s ≡ Some OrSign → Next fs (after_or box_operations l at p) w t → Down fs l p (Symbol s at ∷ w) t
to_or h (next q (down ps ss cs ands ors u)) =
    down no_product no_sum no_comparison no_and (or h (conjunction (join_comparison (sum (product q ps) ss) cs) ands) ors) u

free_of : (l k : Level BExpr) (op : Operator) (at : ℕ) (p : Kept BExpr) (left : Option (Kept BExpr × Operator × ℕ)) → l.comparison ≡ left →
    after_comparison box_operations l op at p ≡ Some k → (l.comparison ≡ None) × (k ≡ compared box_operations l op at p)
free_of l k op at p None e g = let h = free_comparison l op at p e in (e, cc)
free_of l k op at p (Some left) e g = let h : after_comparison box_operations l op at p ≡ None = rw e refl in absurd cc

operator_to : (i : Infix) {fs : List Frame} {l k : Level BExpr} {p : Kept BExpr} {s : SomeSymbol} {at : ℕ} {w : List Terminal} {t : Read} →
    infix_of s ≡ Some i → after box_operations l i at p ≡ Some k → Next fs k w t → Down fs l p (Symbol s at ∷ w) t
operator_to (ProductSign op) {l} {k} {p} {at} h g y = let e : k ≡ after_product box_operations l op at p = cc in to_product h (rw e at y)
operator_to (SumSign op) {l} {k} {p} {at} h g y = let e : k ≡ after_sum box_operations l op at p = cc in to_sum h (rw e at y)
operator_to (ComparisonSign op) {l} {k} {p} {at} h g y = let f = free_of l k op at p l.comparison refl g in to_comparison f.0 h (rw f.1 at y)
operator_to AndSign {l} {k} {p} {at} h g y = let e : k ≡ after_and box_operations l at p = cc in to_and h (rw e at y)
operator_to OrSign {l} {k} {p} {at} h g y = let e : k ≡ after_or box_operations l at p = cc in to_or h (rw e at y)

-- "let" and "if": what stands between their keywords.
last_from : {fs : List Frame} {part : LastPart} {e : Kept BExpr} {us : List Terminal} {t : Read} → Up (Last part ∷ fs) e us t →
    Up fs (completed part e) us t
last_from (in_last u) = u

same_frame : {fs : List Frame} {e : Kept BExpr} {us : List Terminal} {t : Read} (g h : Frame) → Some g ≡ Some h → Up (g ∷ fs) e us t → Up (h ∷ fs) e us t
same_frame {fs} {e} {us} {t} g h i u = let j : g ≡ h = cc in let P : Frame → Type 0 = λ x. Up (x ∷ fs) e us t in subst P j u

data InBound (fs : List Frame) (at : ℕ) (name : Ident) (e : Kept BExpr) : List Terminal → Read → Type 0 where
  in_bound : {in_at : ℕ} {f : Kept BExpr} {ts us : List Terminal} {t : Read} → BoxExpr kept ts f us → Up fs (completed (Body at name e) f) us t →
      InBound fs at name e (Keyword In in_at ∷ ts) t

bound_of : {fs : List Frame} {at : ℕ} {name : Ident} {e : Kept BExpr} {us : List Terminal} {t : Read} → Up (Middle (Bound at name) ∷ fs) e us t →
    InBound fs at name e us t
bound_of {at} {name} {e} (in_middle {k = In} {g} i x u) = in_bound x (last_from (same_frame g (Last (Body at name e)) (sym i) u))
bound_of (in_middle i x u) = absurd cc

data InThen (fs : List Frame) (at : ℕ) (c e : Kept BExpr) : List Terminal → Read → Type 0 where
  in_then : {else_at : ℕ} {f : Kept BExpr} {ts us : List Terminal} {t : Read} → BoxExpr kept ts f us → Up fs (completed (Else at c e) f) us t →
      InThen fs at c e (Keyword ElseWord else_at ∷ ts) t

then_of : {fs : List Frame} {at : ℕ} {c e : Kept BExpr} {us : List Terminal} {t : Read} → Up (Middle (Then at c) ∷ fs) e us t → InThen fs at c e us t
then_of {at} {c} {e} (in_middle {k = ElseWord} {g} i x u) = in_then x (last_from (same_frame g (Last (Else at c e)) (sym i) u))
then_of (in_middle i x u) = absurd cc

data InTest (fs : List Frame) (at : ℕ) (c : Kept BExpr) : List Terminal → Read → Type 0 where
  in_test : {then_at : ℕ} {e : Kept BExpr} {ts us : List Terminal} {t : Read} → BoxExpr kept ts e us → InThen fs at c e us t →
      InTest fs at c (Keyword ThenWord then_at ∷ ts) t

test_of : {fs : List Frame} {at : ℕ} {c : Kept BExpr} {us : List Terminal} {t : Read} → Up (Middle (Test at) ∷ fs) c us t → InTest fs at c us t
test_of {at} {c} (in_middle {k = ThenWord} {g} i x u) = in_test x (then_of (same_frame g (Middle (Then at c)) (sym i) u))
test_of (in_middle i x u) = absurd cc

operand_keyword : {k : SomeKeyword} {at : ℕ} {w us : List Terminal} {p : Kept BExpr} → Operand kept (Keyword k at ∷ w) p us → k ≡ Out
operand_keyword (out xs) = refl

sum_keyword : {k : SomeKeyword} {at : ℕ} {w us : List Terminal} {p : Kept BExpr} → Sum kept (Keyword k at ∷ w) p us → k ≡ Out
sum_keyword (sum (product q ps) ss) = operand_keyword q

or_keyword : {k : SomeKeyword} {at : ℕ} {w us : List Terminal} {p : Kept BExpr} → Disjunction kept (Keyword k at ∷ w) p us → k ≡ Out
or_keyword (disjunction (conjunction (no_compare s) ands) ors) = sum_keyword s
or_keyword (disjunction (conjunction (compare s i r) ands) ors) = sum_keyword s

-- One step each, as the code takes it.
pub let_from : {fs : List Frame} {at : ℕ} {w : List Terminal} {t : Read} → NextExpr fs (Keyword Let at ∷ w) t → NextName fs at w t
let_from (next_expr (bind x y) u) = next_name (next_assign (next_expr x (in_middle refl y (in_last u))))
let_from (next_expr (plain d) u) = let e : Let ≡ Out = or_keyword d in absurd cc

bind_all : {fs : List Frame} {at assign : ℕ} {name : Ident} {e : Kept BExpr} {ts us : List Terminal} {t : Read} → BoxExpr kept ts e us →
    InBound fs at name e us t → NextExpr fs (Keyword Let at ∷ Name name ∷ Symbol Assign assign ∷ ts) t
bind_all x (in_bound y u) = next_expr (bind x y) u

pub let_to : {fs : List Frame} {at : ℕ} {w : List Terminal} {t : Read} → NextName fs at w t → NextExpr fs (Keyword Let at ∷ w) t
let_to (next_name (next_assign (next_expr x u))) = bind_all x (bound_of u)

pub if_from : {fs : List Frame} {at : ℕ} {w : List Terminal} {t : Read} → NextExpr fs (Keyword If at ∷ w) t → NextExpr (Middle (Test at) ∷ fs) w t
if_from (next_expr (choose x y z) u) = next_expr x (in_middle refl y (in_middle refl z (in_last u)))
if_from (next_expr (plain d) u) = let e : If ≡ Out = or_keyword d in absurd cc

choose_all : {fs : List Frame} {at : ℕ} {c : Kept BExpr} {ts us : List Terminal} {t : Read} → BoxExpr kept ts c us → InTest fs at c us t →
    NextExpr fs (Keyword If at ∷ ts) t
choose_all x (in_test y (in_then z u)) = next_expr (choose x y z) u

pub if_to : {fs : List Frame} {at : ℕ} {w : List Terminal} {t : Read} → NextExpr (Middle (Test at) ∷ fs) w t → NextExpr fs (Keyword If at ∷ w) t
if_to (next_expr x u) = choose_all x (test_of u)

pub name_from : {fs : List Frame} {at : ℕ} {name : Ident} {w : List Terminal} {t : Read} → NextName fs at (Name name ∷ w) t → NextAssign fs at name w t
name_from (next_name y) = y

pub name_to : {fs : List Frame} {at : ℕ} {name : Ident} {w : List Terminal} {t : Read} → NextAssign fs at name w t → NextName fs at (Name name ∷ w) t
name_to y = next_name y

pub no_name : {fs : List Frame} {at : ℕ} {x : Terminal} {w : List Terminal} {t : Read} → ((name : Ident) → x ≡ Name name → ⊥) → NextName fs at (x ∷ w) t → ⊥
no_name n (next_name {name} y) = n name refl

pub assign_from : {fs : List Frame} {at assign : ℕ} {name : Ident} {w : List Terminal} {t : Read} → NextAssign fs at name (Symbol Assign assign ∷ w) t →
    NextExpr (Middle (Bound at name) ∷ fs) w t
assign_from (next_assign y) = y

pub assign_to : {fs : List Frame} {at assign : ℕ} {name : Ident} {w : List Terminal} {t : Read} → NextExpr (Middle (Bound at name) ∷ fs) w t →
    NextAssign fs at name (Symbol Assign assign ∷ w) t
assign_to y = next_assign y

pub no_assign : {fs : List Frame} {at : ℕ} {x : Terminal} {name : Ident} {w : List Terminal} {t : Read} →
    ((assign : ℕ) → x ≡ Symbol Assign assign → ⊥) → NextAssign fs at name (x ∷ w) t → ⊥
no_assign n (next_assign {assign} y) = n assign refl

-- operands
pub number_from : {fs : List Frame} {l : Level BExpr} {n : ℤ} {at : ℕ} {w : List Terminal} {t : Read} → Next fs l (Number n at ∷ w) t →
    Down fs l (kept.leaf (record { at = at; form = box_form.Number n })) w t
number_from (next number d) = d

pub number_to : {fs : List Frame} {l : Level BExpr} {n : ℤ} {at : ℕ} {w : List Terminal} {t : Read} →
    Down fs l (kept.leaf (record { at = at; form = box_form.Number n })) w t → Next fs l (Number n at ∷ w) t
number_to d = next number d

pub literal_from : {fs : List Frame} {l : Level BExpr} {text : List ℕ} {at : ℕ} {w : List Terminal} {t : Read} → Next fs l (Literal text at ∷ w) t →
    Down fs l (kept.leaf (record { at = at; form = box_form.TextLit text })) w t
literal_from (next literal d) = d

pub literal_to : {fs : List Frame} {l : Level BExpr} {text : List ℕ} {at : ℕ} {w : List Terminal} {t : Read} →
    Down fs l (kept.leaf (record { at = at; form = box_form.TextLit text })) w t → Next fs l (Literal text at ∷ w) t
literal_to d = next literal d

pub tag_from : {fs : List Frame} {l : Level BExpr} {name : Ident} {w : List Terminal} {t : Read} → Next fs l (Tag name ∷ w) t →
    Down fs l (kept.leaf (record { at = name.at; form = box_form.Tag name })) w t
tag_from (next tag d) = d

pub tag_to : {fs : List Frame} {l : Level BExpr} {name : Ident} {w : List Terminal} {t : Read} →
    Down fs l (kept.leaf (record { at = name.at; form = box_form.Tag name })) w t → Next fs l (Tag name ∷ w) t
tag_to d = next tag d

pub named_from : {fs : List Frame} {l : Level BExpr} {n : Ident} {w : List Terminal} {t : Read} → Next fs l (Name n ∷ w) t → Named fs l n w t
named_from (next name d) = plain_name d
named_from (next (call xs) d) = called_name (next_opening (next_arguments xs d))

pub named_to : {fs : List Frame} {l : Level BExpr} {n : Ident} {w : List Terminal} {t : Read} → Named fs l n w t → Next fs l (Name n ∷ w) t
named_to (plain_name d) = next name d
named_to (called_name (next_opening (next_arguments xs d))) = next (call xs) d

pub out_from : {fs : List Frame} {l : Level BExpr} {at : ℕ} {w : List Terminal} {t : Read} → Next fs l (Keyword Out at ∷ w) t → NextNumber fs l at w t
out_from (next (out xs) d) = next_number (next_opening (next_arguments xs d))

pub out_to : {fs : List Frame} {l : Level BExpr} {at : ℕ} {w : List Terminal} {t : Read} → NextNumber fs l at w t → Next fs l (Keyword Out at ∷ w) t
out_to (next_number (next_opening (next_arguments xs d))) = next (out xs) d

pub no_out : {fs : List Frame} {l : Level BExpr} {k : SomeKeyword} {at : ℕ} {w : List Terminal} {t : Read} → (k ≡ Out → ⊥) →
    Next fs l (Keyword k at ∷ w) t → ⊥
no_out n (next q d) = n (operand_keyword q)

pub out_number_from : {fs : List Frame} {l : Level BExpr} {n : ℤ} {at number_at : ℕ} {w : List Terminal} {t : Read} →
    NextNumber fs l at (Number n number_at ∷ w) t → NextOpening fs l (Variant at (unsigned_abs n)) w t
out_number_from (next_number y) = y

pub out_number_to : {fs : List Frame} {l : Level BExpr} {n : ℤ} {at number_at : ℕ} {w : List Terminal} {t : Read} →
    NextOpening fs l (Variant at (unsigned_abs n)) w t → NextNumber fs l at (Number n number_at ∷ w) t
out_number_to y = next_number y

pub no_number : {fs : List Frame} {l : Level BExpr} {at : ℕ} {x : Terminal} {w : List Terminal} {t : Read} →
    ((n : ℤ) (at : ℕ) → x ≡ Number n at → ⊥) → NextNumber fs l at (x ∷ w) t → ⊥
no_number n (next_number {number_at} {n = v} y) = n v number_at refl

sign_next : {fs : List Frame} {l : Level BExpr} {g : Sign} {at : ℕ} {p : Kept BExpr} {w : List Terminal} {t : Read} →
    Down fs l (with_sign kept box_operations g at p) w t → Down fs (with_next_sign l g at) p w t
sign_next (down ps ss cs ands ors u) = down ps ss cs ands ors u

sign_back : {fs : List Frame} {l : Level BExpr} {g : Sign} {at : ℕ} {p : Kept BExpr} {w : List Terminal} {t : Read} →
    Down fs (with_next_sign l g at) p w t → Down fs l (with_sign kept box_operations g at p) w t
sign_back (down ps ss cs ands ors u) = down ps ss cs ands ors u

pub sign_from : {fs : List Frame} {l : Level BExpr} {g : Sign} {s : SomeSymbol} {at : ℕ} {w : List Terminal} {t : Read} → sign_of s ≡ Some g →
    Next fs l (Symbol s at ∷ w) t → Next fs (with_next_sign l g at) w t
sign_from {fs} {l} {g} {at} {w} {t} h (next (sign {g = f} i q) d) =
    let e : f ≡ g = cc in
    let P : Sign → Type 0 = λ x. Next fs (with_next_sign l x at) w t in subst P e (next q (sign_next d))
sign_from h (next (parens e) d) = absurd cc
sign_from h (next (list xs) d) = absurd cc

pub sign_to : {fs : List Frame} {l : Level BExpr} {g : Sign} {s : SomeSymbol} {at : ℕ} {w : List Terminal} {t : Read} → sign_of s ≡ Some g →
    Next fs (with_next_sign l g at) w t → Next fs l (Symbol s at ∷ w) t
sign_to h (next q d) = next (sign h q) (sign_back d)

pub open_from : {fs : List Frame} {l : Level BExpr} {at : ℕ} {w : List Terminal} {t : Read} → Next fs l (Symbol OpenParen at ∷ w) t → NextSequence fs l w t
open_from (next (parens q) d) = next_sequence q d
open_from (next (sign i q) d) = absurd cc

pub open_to : {fs : List Frame} {l : Level BExpr} {at : ℕ} {w : List Terminal} {t : Read} → NextSequence fs l w t → Next fs l (Symbol OpenParen at ∷ w) t
open_to (next_sequence q d) = next (parens q) d

pub list_from : {fs : List Frame} {l : Level BExpr} {at : ℕ} {w : List Terminal} {t : Read} → Next fs l (Symbol OpenBracket at ∷ w) t →
    NextArguments fs l (Elements at) w t
list_from (next (list xs) d) = next_arguments xs d
list_from (next (sign i q) d) = absurd cc

pub list_to : {fs : List Frame} {l : Level BExpr} {at : ℕ} {w : List Terminal} {t : Read} → NextArguments fs l (Elements at) w t →
    Next fs l (Symbol OpenBracket at ∷ w) t
list_to (next_arguments xs d) = next (list xs) d

operand_symbol : {s : SomeSymbol} {at : ℕ} {w us : List Terminal} {p : Kept BExpr} → sign_of s ≡ None → (s ≡ OpenParen → ⊥) → (s ≡ OpenBracket → ⊥) →
    Operand kept (Symbol s at ∷ w) p us → ⊥
operand_symbol h n m (sign i q) = cc
operand_symbol h n m (parens e) = n refl
operand_symbol h n m (list xs) = m refl

pub no_opening : {fs : List Frame} {l : Level BExpr} {s : SomeSymbol} {at : ℕ} {w : List Terminal} {t : Read} → sign_of s ≡ None →
    (s ≡ OpenParen → ⊥) → (s ≡ OpenBracket → ⊥) → Next fs l (Symbol s at ∷ w) t → ⊥
no_opening h n m (next q d) = operand_symbol h n m q

-- calls
paren_symbol : (s : SomeSymbol) (at : ℕ) → is_open_paren (Symbol s at) ≡ true → s ≡ OpenParen
paren_symbol OpenParen at e = refl
paren_symbol s at e = absurd cc

pub opening_from : {fs : List Frame} {l : Level BExpr} {h : Head} {x : Terminal} {w : List Terminal} {t : Read} → NextOpening fs l h (x ∷ w) t →
    NextArguments fs l h w t
opening_from (next_opening y) = y

pub opening_to : {fs : List Frame} {l : Level BExpr} {h : Head} {w : List Terminal} {t : Read} (x : Terminal) → is_open_paren x ≡ true →
    NextArguments fs l h w t → NextOpening fs l h (x ∷ w) t
opening_to (Symbol OpenParen at) e y = next_opening y
opening_to x e y = absurd cc

pub no_open : {fs : List Frame} {l : Level BExpr} {h : Head} {x : Terminal} {w : List Terminal} {t : Read} → is_open_paren x ≡ false →
    NextOpening fs l h (x ∷ w) t → ⊥
no_open e (next_opening y) = cc

no_infix_paren : (s : SomeSymbol) (i : Infix) → infix_of s ≡ Some i → s ≡ OpenParen → ⊥
no_infix_paren s i m e = let f : infix_of OpenParen ≡ Some i = rw e at m in cc

followed_paren : {fs : List Frame} {l : Level BExpr} {p : Kept BExpr} {x : Terminal} {w : List Terminal} {t : Read} → is_open_paren x ≡ true →
    Followed fs l p x w t → ⊥
followed_paren e (operated {i} {s} {at} m h y) = no_infix_paren s i m (paren_symbol s at e)
followed_paren e (finished (symbol {s} {at} i n) u) = n (paren_symbol s at e)
followed_paren e (finished keyword u) = cc

pub called_from : {fs : List Frame} {l : Level BExpr} {n : Ident} {x : Terminal} {w : List Terminal} {t : Read} → is_open_paren x ≡ true →
    Named fs l n (x ∷ w) t → NextArguments fs l (Function n) w t
called_from e (called_name y) = opening_from y
called_from e (plain_name d) = absurd (followed_paren e (followed d))

pub called_to : {fs : List Frame} {l : Level BExpr} {n : Ident} {w : List Terminal} {t : Read} (x : Terminal) → is_open_paren x ≡ true →
    NextArguments fs l (Function n) w t → Named fs l n (x ∷ w) t
called_to x e y = called_name (opening_to x e y)

pub plain_from : {fs : List Frame} {l : Level BExpr} {n : Ident} {x : Terminal} {w : List Terminal} {t : Read} → is_open_paren x ≡ false →
    Named fs l n (x ∷ w) t → Down fs l (kept.leaf (record { at = n.at; form = box_form.Name n })) (x ∷ w) t
plain_from e (plain_name d) = d
plain_from e (called_name y) = absurd (no_open e y)

-- arguments
close_paren : (s : SomeSymbol) → is_close_paren s ≡ true → s ≡ CloseParen
close_paren CloseParen e = refl
close_paren s e = absurd cc

close_bracket : (s : SomeSymbol) → is_close_bracket s ≡ true → s ≡ CloseBracket
close_bracket CloseBracket e = refl
close_bracket s e = absurd cc

closing_is : (h : Head) (s : SomeSymbol) → is_closed_by h s ≡ true → s ≡ closing (bracket_of h)
closing_is (Function n) s e = close_paren s e
closing_is (Variant at n) s e = close_paren s e
closing_is (Elements at) s e = close_bracket s e

closing_closes : (h : Head) → is_closed_by h (closing (bracket_of h)) ≡ true
closing_closes (Function n) = refl
closing_closes (Variant at n) = refl
closing_closes (Elements at) = refl

is_closing : (h : Head) (s : SomeSymbol) → s ≡ closing (bracket_of h) → is_closed_by h s ≡ true
is_closing h s i = rw i (closing_closes h)

comma_closes_none : (h : Head) → is_closed_by h Comma ≡ false
comma_closes_none (Function n) = refl
comma_closes_none (Variant at n) = refl
comma_closes_none (Elements at) = refl

no_closing_operand : (b : Bracket) {at : ℕ} {w us : List Terminal} {p : Kept BExpr} → Operand kept (Symbol (closing b) at ∷ w) p us → ⊥
no_closing_operand Paren q = operand_symbol refl (λ e. cc) (λ e. cc) q
no_closing_operand Brace q = operand_symbol refl (λ e. cc) (λ e. cc) q
no_closing_operand Square q = operand_symbol refl (λ e. cc) (λ e. cc) q

expr_operand : {s : SomeSymbol} {at : ℕ} {w us : List Terminal} {e : Kept BExpr} → BoxExpr kept (Symbol s at ∷ w) e us →
    (vs : List Terminal) × (p : Kept BExpr) × Operand kept (Symbol s at ∷ w) p vs
expr_operand (plain (disjunction (conjunction (no_compare (sum (product q ps) ss)) ands) ors)) = (_, _, q)
expr_operand (plain (disjunction (conjunction (compare (sum (product q ps) ss) i r) ands) ors)) = (_, _, q)

no_closing_expr : (h : Head) (s : SomeSymbol) {at : ℕ} {w us : List Terminal} {e : Kept BExpr} → is_closed_by h s ≡ true →
    BoxExpr kept (Symbol s at ∷ w) e us → ⊥
no_closing_expr h s {at} {w} {us} {e} c x =
    let i = closing_is h s c in
    let y : BoxExpr kept (Symbol (closing (bracket_of h)) at ∷ w) e us = rw i at x in
    no_closing_operand (bracket_of h) (expr_operand y).2

closed_expr : (h : Head) (x : Terminal) {w us : List Terminal} {e : Kept BExpr} → closes h x ≡ true → BoxExpr kept (x ∷ w) e us → ⊥
closed_expr h (Symbol s at) c x = no_closing_expr h s c x
closed_expr h y c x = absurd cc

pub none_from : {fs : List Frame} {l : Level BExpr} {h : Head} {x : Terminal} {w : List Terminal} {t : Read} → closes h x ≡ true →
    NextArguments fs l h (x ∷ w) t → Down fs l (with_row h (no_parts kept)) w t
none_from c (next_arguments (no_arguments i) d) = d
none_from {h} {x} c (next_arguments (arguments y m) d) = absurd (closed_expr h x c y)

pub none_to : {fs : List Frame} {l : Level BExpr} (h : Head) (x : Terminal) {w : List Terminal} {t : Read} → closes h x ≡ true →
    Down fs l (with_row h (no_parts kept)) w t → NextArguments fs l h (x ∷ w) t
none_to h (Symbol s at) c d = next_arguments (no_arguments (closing_is h s c)) d
none_to h x c d = absurd cc

not_closed : (h : Head) (s : SomeSymbol) → is_closed_by h s ≡ false → s ≡ closing (bracket_of h) → ⊥
not_closed h s c i = let e = is_closing h s i in cc

pub first_from : {fs : List Frame} {l : Level BExpr} {h : Head} {x : Terminal} {w : List Terminal} {t : Read} → closes h x ≡ false →
    NextArguments fs l h (x ∷ w) t → NextExpr (Arguments l h (no_parts kept) ∷ fs) (x ∷ w) t
first_from {h} c (next_arguments (no_arguments {s} i) d) = absurd (not_closed h s c i)
first_from c (next_arguments (arguments y m) d) = next_expr y (in_arguments m d)

pub first_to : {fs : List Frame} {l : Level BExpr} {h : Head} {w : List Terminal} {t : Read} → NextExpr (Arguments l h (no_parts kept) ∷ fs) w t →
    NextArguments fs l h w t
first_to (next_expr y (in_arguments m d)) = next_arguments (arguments y m) d

pub closed_from : {fs : List Frame} {l : Level BExpr} {h : Head} {row : Kept (List BExpr)} {e : Kept BExpr} {s : SomeSymbol} {at : ℕ} {w : List Terminal} {t : Read} →
    is_closed_by h s ≡ true → Up (Arguments l h row ∷ fs) e (Symbol s at ∷ w) t → Down fs l (with_row h (with_part kept row e)) w t
closed_from c (in_arguments (last_argument i) d) = d
closed_from {h} c (in_arguments (more_arguments x m) d) = let e = comma_closes_none h in absurd cc

pub closed_to : {fs : List Frame} {l : Level BExpr} (h : Head) {row : Kept (List BExpr)} {e : Kept BExpr} (s : SomeSymbol) {at : ℕ} {w : List Terminal} {t : Read} →
    is_closed_by h s ≡ true → Down fs l (with_row h (with_part kept row e)) w t → Up (Arguments l h row ∷ fs) e (Symbol s at ∷ w) t
closed_to h s c d = in_arguments (last_argument (closing_is h s c)) d

pub comma_from : {fs : List Frame} {l : Level BExpr} {h : Head} {row : Kept (List BExpr)} {e : Kept BExpr} {at : ℕ} {w : List Terminal} {t : Read} →
    Up (Arguments l h row ∷ fs) e (Symbol Comma at ∷ w) t → NextExpr (Arguments l h (with_part kept row e) ∷ fs) w t
comma_from {h} (in_arguments (last_argument i) d) = absurd (not_closed h Comma (comma_closes_none h) i)
comma_from (in_arguments (more_arguments x m) d) = next_expr x (in_arguments m d)

pub comma_to : {fs : List Frame} {l : Level BExpr} {h : Head} {row : Kept (List BExpr)} {e : Kept BExpr} {at : ℕ} {w : List Terminal} {t : Read} →
    NextExpr (Arguments l h (with_part kept row e) ∷ fs) w t → Up (Arguments l h row ∷ fs) e (Symbol Comma at ∷ w) t
comma_to (next_expr x (in_arguments m d)) = in_arguments (more_arguments x m) d

pub no_argument : {fs : List Frame} {l : Level BExpr} {h : Head} {row : Kept (List BExpr)} {e : Kept BExpr} {s : SomeSymbol} {at : ℕ} {w : List Terminal} {t : Read} →
    is_closed_by h s ≡ false → (s ≡ Comma → ⊥) → Up (Arguments l h row ∷ fs) e (Symbol s at ∷ w) t → ⊥
no_argument {h} {s} c n (in_arguments (last_argument i) d) = not_closed h s c i
no_argument c n (in_arguments (more_arguments x m) d) = n refl

pub arguments_keyword : {fs : List Frame} {l : Level BExpr} {h : Head} {row : Kept (List BExpr)} {e : Kept BExpr} {k : SomeKeyword} {at : ℕ} {w : List Terminal} {t : Read} →
    Up (Arguments l h row ∷ fs) e (Keyword k at ∷ w) t → ⊥
arguments_keyword (in_arguments m d) = elim m [ ]

-- sequences
pub step_from : {fs : List Frame} {l : Level BExpr} {x : Terminal} {w : List Terminal} {t : Read} → NextSequence fs l (x ∷ w) t →
    NextExpr (Parens l (place_of x) None ∷ fs) (x ∷ w) t
step_from (next_sequence (sequence y m) d) = next_expr y (in_parens m d)

pub step_to : {fs : List Frame} {l : Level BExpr} {x : Terminal} {w : List Terminal} {t : Read} → NextExpr (Parens l (place_of x) None ∷ fs) (x ∷ w) t →
    NextSequence fs l (x ∷ w) t
step_to (next_expr y (in_parens m d)) = next_sequence (sequence y m) d

pub close_from : {fs : List Frame} {l : Level BExpr} {place : ℕ} {so_far : Option (Kept (List BExpr))} {e : Kept BExpr} {at : ℕ} {w : List Terminal} {t : Read} →
    Up (Parens l place so_far ∷ fs) e (Symbol CloseParen at ∷ w) t → Down fs l (kept.parens (sequence_of kept place so_far e)) w t
close_from (in_parens last_step d) = d

pub close_to : {fs : List Frame} {l : Level BExpr} {place : ℕ} {so_far : Option (Kept (List BExpr))} {e : Kept BExpr} {at : ℕ} {w : List Terminal} {t : Read} →
    Down fs l (kept.parens (sequence_of kept place so_far e)) w t → Up (Parens l place so_far ∷ fs) e (Symbol CloseParen at ∷ w) t
close_to d = in_parens last_step d

pub semicolon_from : {fs : List Frame} {l : Level BExpr} {place : ℕ} {so_far : Option (Kept (List BExpr))} {e : Kept BExpr} {at : ℕ} {w : List Terminal} {t : Read} →
    Up (Parens l place so_far ∷ fs) e (Symbol Semicolon at ∷ w) t → NextExpr (Parens l place (with_step kept so_far e) ∷ fs) w t
semicolon_from (in_parens (more_steps x m) d) = next_expr x (in_parens m d)

pub semicolon_to : {fs : List Frame} {l : Level BExpr} {place : ℕ} {so_far : Option (Kept (List BExpr))} {e : Kept BExpr} {at : ℕ} {w : List Terminal} {t : Read} →
    NextExpr (Parens l place (with_step kept so_far e) ∷ fs) w t → Up (Parens l place so_far ∷ fs) e (Symbol Semicolon at ∷ w) t
semicolon_to (next_expr x (in_parens m d)) = in_parens (more_steps x m) d

pub no_step : {fs : List Frame} {l : Level BExpr} {place : ℕ} {so_far : Option (Kept (List BExpr))} {e : Kept BExpr} {s : SomeSymbol} {at : ℕ} {w : List Terminal} {t : Read} →
    (s ≡ CloseParen → ⊥) → (s ≡ Semicolon → ⊥) → Up (Parens l place so_far ∷ fs) e (Symbol s at ∷ w) t → ⊥
no_step n m (in_parens last_step d) = n refl
no_step n m (in_parens (more_steps x y) d) = m refl

pub parens_keyword : {fs : List Frame} {l : Level BExpr} {place : ℕ} {so_far : Option (Kept (List BExpr))} {e : Kept BExpr} {k : SomeKeyword} {at : ℕ} {w : List Terminal} {t : Read} →
    Up (Parens l place so_far ∷ fs) e (Keyword k at ∷ w) t → ⊥
parens_keyword (in_parens m d) = elim m [ ]

-- forms of keywords
pub middle_from : {fs : List Frame} {part : MiddlePart} {g : Frame} {e : Kept BExpr} {k : SomeKeyword} {at : ℕ} {w : List Terminal} {t : Read} →
    Some g ≡ next_frame part e k → Up (Middle part ∷ fs) e (Keyword k at ∷ w) t → NextExpr (g ∷ fs) w t
middle_from {g} h (in_middle {g = f} i x u) = next_expr x (same_frame f g (sym (h ∙ i)) u)

pub middle_to : {fs : List Frame} {part : MiddlePart} {g : Frame} {e : Kept BExpr} {k : SomeKeyword} {at : ℕ} {w : List Terminal} {t : Read} →
    Some g ≡ next_frame part e k → NextExpr (g ∷ fs) w t → Up (Middle part ∷ fs) e (Keyword k at ∷ w) t
middle_to h (next_expr x u) = in_middle (sym h) x u

pub no_middle : {fs : List Frame} {part : MiddlePart} {e : Kept BExpr} {k : SomeKeyword} {at : ℕ} {w : List Terminal} {t : Read} →
    None ≡ next_frame part e k → Up (Middle part ∷ fs) e (Keyword k at ∷ w) t → ⊥
no_middle h (in_middle i x u) = cc

pub middle_symbol : {fs : List Frame} {part : MiddlePart} {e : Kept BExpr} {s : SomeSymbol} {at : ℕ} {w : List Terminal} {t : Read} →
    Up (Middle part ∷ fs) e (Symbol s at ∷ w) t → ⊥
middle_symbol u = elim u [ ]

-- a frame whose part may not end before a symbol, and before a keyword
pub frame_symbol : {fs : List Frame} {e : Kept BExpr} {s : SomeSymbol} {at : ℕ} {w : List Terminal} {t : Read} (f : Frame) →
    ((l : Level BExpr) (place : ℕ) (so_far : Option (Kept (List BExpr))) → f ≡ Parens l place so_far → ⊥) →
    ((l : Level BExpr) (h : Head) (row : Kept (List BExpr)) → f ≡ Arguments l h row → ⊥) → ((part : LastPart) → f ≡ Last part → ⊥) →
    Up (f ∷ fs) e (Symbol s at ∷ w) t → ⊥
frame_symbol (Parens l place so_far) p q r u = p l place so_far refl
frame_symbol (Arguments l h row) p q r u = q l h row refl
frame_symbol (Middle part) p q r u = middle_symbol u
frame_symbol (Last part) p q r u = r part refl

pub frame_keyword : {fs : List Frame} {e : Kept BExpr} {k : SomeKeyword} {at : ℕ} {w : List Terminal} {t : Read} (f : Frame) →
    ((part : MiddlePart) → f ≡ Middle part → ⊥) → ((part : LastPart) → f ≡ Last part → ⊥) → Up (f ∷ fs) e (Keyword k at ∷ w) t → ⊥
frame_keyword (Parens l place so_far) p q u = parens_keyword u
frame_keyword (Arguments l h row) p q u = arguments_keyword u
frame_keyword (Middle part) p q u = p part refl
frame_keyword (Last part) p q u = q part refl

pub top_keyword : {e : Kept BExpr} {k : SomeKeyword} {at : ℕ} {w : List Terminal} {t : Read} → Up [] e (Keyword k at ∷ w) t → ⊥
top_keyword (whole k) = k

-- what follows an operand
pub operator_steps : (fs : List Frame) (l k : Level BExpr) (p : Kept BExpr) (i : Infix) (s : SomeSymbol) (at : ℕ) → infix_of s ≡ Some i →
    Some k ≡ after box_operations l i at p → (w : List Terminal) (t : Read) → Down fs l p (Symbol s at ∷ w) t ↔ Next fs k w t
operator_steps fs l k p i s at h g w t = (λ d. operator_next h (sym g) (followed d), operator_to i h (sym g))

pub operator_refused : (fs : List Frame) (l : Level BExpr) (p : Kept BExpr) (i : Infix) (s : SomeSymbol) (at : ℕ) → infix_of s ≡ Some i →
    None ≡ after box_operations l i at p → (w : List Terminal) (t : Read) → Down fs l p (Symbol s at ∷ w) t → ⊥
operator_refused fs l p i s at h g w t d = operator_none h (sym g) (followed d)

pub symbol_from : {fs : List Frame} {l : Level BExpr} {p : Kept BExpr} {s : SomeSymbol} {at : ℕ} {w : List Terminal} {t : Read} →
    infix_of s ≡ None → Down fs l p (Symbol s at ∷ w) t → Up fs (or_in box_operations l p) (Symbol s at ∷ w) t
symbol_from h d = finished_symbol h (followed d)

pub keyword_from : {fs : List Frame} {l : Level BExpr} {p : Kept BExpr} {k : SomeKeyword} {at : ℕ} {w : List Terminal} {t : Read} →
    Down fs l p (Keyword k at ∷ w) t → Up fs (or_in box_operations l p) (Keyword k at ∷ w) t
keyword_from d = finished_keyword (followed d)

pub finished_to : {fs : List Frame} {l : Level BExpr} {p : Kept BExpr} {us : List Terminal} {t : Read} →
    Up fs (or_in box_operations l p) us t → Down fs l p us t
finished_to u = down no_product no_sum no_comparison no_and no_or u

pub no_follower : {fs : List Frame} {l : Level BExpr} {p : Kept BExpr} {x : Terminal} {w : List Terminal} {t : Read} →
    ((s : SomeSymbol) (at : ℕ) → x ≡ Symbol s at → ⊥) → ((k : SomeKeyword) (at : ℕ) → x ≡ Keyword k at → ⊥) → Down fs l p (x ∷ w) t → ⊥
no_follower n o d = only_symbols n o (followed d)

-- At the top, and in last parts, which end where the expression does.
top_from : {e : Kept BExpr} {us : List Terminal} {t : Read} → Up [] e us t → read e us ≡ t
top_from (whole k) = refl

top_to : {e : Kept BExpr} {us : List Terminal} {t : Read} → ends us → read e us ≡ t → Up [] e us t
top_to {e} {us} k i = let P : Read → Type 0 = λ x. Up [] e us x in subst P i (whole k)

top_ends : {e : Kept BExpr} {us : List Terminal} {t : Read} → Up [] e us t → ends us
top_ends (whole k) = k

pub ended_steps : (e : Kept BExpr) (s : SomeSymbol) (at : ℕ) → IsTrue (may_end s) → StepsFrom (Up [] e) (Symbol s at) (Err (Ended e s at))
ended_steps e s at k = (refl, λ w t. (top_from, top_to k))

pub last_step_same : (fs gs hs : List Frame) (e f g : Kept BExpr) (part : LastPart) → gs ≡ Last part ∷ hs → g ≡ completed part f →
    ((us : List Terminal) (t : Read) → Up fs e us t ↔ Up gs f us t) → (us : List Terminal) (t : Read) → Up fs e us t ↔ Up hs g us t
last_step_same fs gs hs e f g part i j k us t =
    let p : Up fs e us t ↔ Up (Last part ∷ hs) f us t = rw i at (k us t) in
    rw j (λ y. last_from (p.0 y), λ y. p.1 (in_last y))

-- where no frame is left, and where the next is no last part
pub innermost_none : (fs gs hs : List Frame) (e f : Kept BExpr) → gs ≡ [] → ((us : List Terminal) (t : Read) → Up fs e us t ↔ Up gs f us t) → Innermost fs e None hs f
innermost_none fs gs hs e f i k = record { same = λ us t. rw i at (k us t); other = λ part j. cc }

pub innermost_some : (fs gs hs : List Frame) (e f : Kept BExpr) (o p : Frame) → gs ≡ p ∷ hs → o ≡ p → ((part : LastPart) → p ≡ Last part → ⊥) →
    ((us : List Terminal) (t : Read) → Up fs e us t ↔ Up gs f us t) → Innermost fs e (Some o) hs f
innermost_some fs gs hs e f o p i j n k = record { same = λ us t. rw j (rw i at (k us t)); other = λ part m. n part cc }

-- What one state takes another takes, where the same goes on from both.
pub through : (P Q : List Terminal → Read → Type 0) (x : Terminal) (r : Result BoxParser BoxStop) →
    ((w : List Terminal) (t : Read) → P (x ∷ w) t ↔ Q (x ∷ w) t) → StepsFrom Q x r → StepsFrom P x r
through P Q x (Ok s) k h = λ w t. (λ y. (h w t).0 ((k w t).0 y), λ y. (k w t).1 ((h w t).1 y))
through P Q x (Err Memory) k h = tt
through P Q x (Err Refused) k h = λ w t y. h w t ((k w t).0 y)
through P Q x (Err (Ended e s at)) k h = (h.0, λ w t. (λ y. (h.1 w t).0 ((k w t).0 y), λ y. (k w t).1 ((h.1 w t).1 y)))

pub innermost_steps : (fs gs : List Frame) (e f : Kept BExpr) (o : Option Frame) (k : Frame) (x : Terminal) (r : Result BoxParser BoxStop) →
    Innermost fs e o gs f → o ≡ Some k → StepsFrom (Up (k ∷ gs) f) x r → StepsFrom (Up fs e) x r
innermost_steps fs gs e f o k x r h i j = through (Up fs e) (Up (k ∷ gs) f) x r (λ w t. rw i at (h.same (x ∷ w) t)) j

pub top_steps : (fs gs : List Frame) (e f : Kept BExpr) (o : Option Frame) (x : Terminal) (r : Result BoxParser BoxStop) →
    Innermost fs e o gs f → o ≡ None → StepsFrom (Up [] f) x r → StepsFrom (Up fs e) x r
top_steps fs gs e f o x r h i j = through (Up fs e) (Up [] f) x r (λ w t. rw i at (h.same (x ∷ w) t)) j

pub start_from : {w us : List Terminal} {e : Kept BExpr} → BoxExpr kept w e us → ends us → NextExpr [] w (read e us)
start_from x k = next_expr x (whole k)

pub start_to : {w : List Terminal} {t : Read} → NextExpr [] w t → BoxExpr kept w t.part t.rest × ends t.rest
start_to (next_expr x (whole k)) = (x, k)
