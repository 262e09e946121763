-- Tokens spell one expression in a box, up to what may follow it.
use Rattle.std.proofs.Common.{◌≡◌, ◌∙◌, ℕ, ◌<◌, ◌⊎◌, Bool, true, false, List, [], ◌∷◌, Option, Some, None, refl, sym, ap, subst, inl, inr, arith}
use Rattle.sn_ast.specs.BoxExprs.{Function, Variant, Elements, with_binding, with_condition, with_arguments, with_step}
use Rattle.sn_ast.specs.BoxExprs.{BoxExpr, bind, choose, plain, Disjunction, disjunction, Disjunctions, no_or, or, Conjunction, conjunction, Conjunctions, no_and, and, Comparison, no_compare, compare, Sum, sum, Sums, no_sum, add, Product, product, Products, no_product, multiply, Operand, sign, number, literal, tag, name, call, list, out, parens, Arguments, no_arguments, arguments, MoreArguments, last_argument, more_arguments, Sequence, sequence, Steps, last_step, more_steps}
use Rattle.sn_ast.specs.Measures.{Measuring}
use Rattle.sn_ast.specs.Operators.{box_operations, with_sign, with_operator, with_and, with_or}
use Rattle.sn_ast.specs.Rows.{no_parts, with_part}
use Rattle.sn_ast.specs.Terminals.{closing, place_of, sign_of}
use Rattle.sn_ast.specs.declared.box_expr.BExpr.{BExpr}
use Rattle.sn_ast.specs.declared.terminal.Bracket.{Bracket}
use Rattle.sn_ast.specs.declared.terminal.Bracket.TheVariants.{Paren, Brace, Square}
use Rattle.sn_ast.specs.declared.terminal.Infix.TheVariants as kind
use Rattle.sn_ast.specs.declared.terminal.Keyword.TheVariants.{If, Else, Let, Out}
use Rattle.sn_ast.specs.declared.terminal.Sign.{Sign}
use Rattle.sn_ast.specs.declared.terminal.Symbol.{Symbol as SomeSymbol}
use Rattle.sn_ast.specs.declared.terminal.Symbol.TheVariants.{OpenParen, OpenBracket}
use Rattle.sn_ast.specs.declared.terminal.Terminal.{Terminal}
use Rattle.sn_ast.specs.declared.terminal.Terminal.TheVariants.{Keyword, Symbol}
use Rattle.sn_outcomes.proofs.Fronts.{rank, symbol_rank, behind, front_place, front_infix, along}
use Rattle.sn_outcomes.proofs.LabelOnce.{comma_closes}

-- the first token may begin an operand
abbrev other_begins : SomeSymbol → Bool
other_begins OpenParen = true
other_begins OpenBracket = true
other_begins s = false

abbrev symbol_begins : SomeSymbol → Option Sign → Bool
symbol_begins s (Some g) = true
symbol_begins s None = other_begins s

abbrev begins_operand : List Terminal → Bool
begins_operand [] = false
begins_operand (Keyword Out at ∷ ts) = true
begins_operand (Keyword k at ∷ ts) = false
begins_operand (Symbol s at ∷ ts) = symbol_begins s (sign_of s)
begins_operand (x ∷ ts) = true

-- or a binding or a condition
abbrev binds : List Terminal → Bool
binds (Keyword Let at ∷ ts) = true
binds (Keyword If at ∷ ts) = true
binds ts = false

abbrev pub BeginsExpr : List Terminal → Type 0
BeginsExpr ts = (binds ts ≡ true) ⊎ (begins_operand ts ≡ true)

closing_begins : (b : Bracket) (at : ℕ) (ts : List Terminal) → BeginsExpr (Symbol (closing b) at ∷ ts) → ⊥
closing_begins Paren at ts (inl e) = absurd cc
closing_begins Paren at ts (inr e) = absurd cc
closing_begins Brace at ts (inl e) = absurd cc
closing_begins Brace at ts (inr e) = absurd cc
closing_begins Square at ts (inl e) = absurd cc
closing_begins Square at ts (inr e) = absurd cc

not_closing : (b : Bracket) (s : SomeSymbol) (at : ℕ) (ts : List Terminal) → s ≡ closing b → BeginsExpr (Symbol s at ∷ ts) → ⊥
not_closing b s at ts e p = closing_begins b at ts (subst (λ t. BeginsExpr (Symbol t at ∷ ts)) e p)

module _ {F : Type 0 → Type 0} (m : Measuring F) where
  operand_begins : {e : F BExpr} {ts us : List Terminal} → Operand m ts e us → begins_operand ts ≡ true
  operand_begins (sign {s = s} is a) = ap (symbol_begins s) is
  operand_begins number = refl
  operand_begins literal = refl
  operand_begins tag = refl
  operand_begins name = refl
  operand_begins (call a) = refl
  operand_begins (list a) = refl
  operand_begins (out a) = refl
  operand_begins (parens a) = refl

  sum_begins : {e : F BExpr} {ts us : List Terminal} → Sum m ts e us → begins_operand ts ≡ true
  sum_begins (sum (product a d) k) = operand_begins a

  comparison_begins : {e : F BExpr} {ts us : List Terminal} → Comparison m ts e us → begins_operand ts ≡ true
  comparison_begins (no_compare a) = sum_begins a
  comparison_begins (compare a is b) = sum_begins a

  disjunction_begins : {e : F BExpr} {ts us : List Terminal} → Disjunction m ts e us → begins_operand ts ≡ true
  disjunction_begins (disjunction (conjunction a d) k) = comparison_begins a

  pub box_expr_begins : {e : F BExpr} {ts us : List Terminal} → BoxExpr m ts e us → BeginsExpr ts
  box_expr_begins (bind a b) = inl refl
  box_expr_begins (choose a b c) = inl refl
  box_expr_begins (plain a) = inr (disjunction_begins a)

  -- what follows the first operand of a row
  products_front : {e f : F BExpr} {us vs : List Terminal} → Products m e us f vs → rank vs < 6 → rank us < 7
  products_front no_product p = omega arith
  products_front (multiply {at} {s} {ts} is a d) p = let r : rank (Symbol s at ∷ ts) ≡ 6 = ap (symbol_rank s) is in omega arith

  sums_front : {e f : F BExpr} {us vs : List Terminal} → Sums m e us f vs → rank vs < 5 → rank us < 6
  sums_front no_sum p = omega arith
  sums_front (add {at} {s} {ts} is a d) p = let r : rank (Symbol s at ∷ ts) ≡ 5 = ap (symbol_rank s) is in omega arith

  conjunctions_front : {e f : F BExpr} {us vs : List Terminal} → Conjunctions m e us f vs → rank vs < 3 → rank us < 4
  conjunctions_front no_and p = omega arith
  conjunctions_front (and {at} {s} {ts} is a d) p = let r : rank (Symbol s at ∷ ts) ≡ 3 = ap (symbol_rank s) is in omega arith

  disjunctions_front : {e f : F BExpr} {us vs : List Terminal} → Disjunctions m e us f vs → rank vs < 2 → rank us < 3
  disjunctions_front no_or p = omega arith
  disjunctions_front (or {at} {s} {ts} is a d) p = let r : rank (Symbol s at ∷ ts) ≡ 2 = ap (symbol_rank s) is in omega arith

  -- what follows an argument, and a part of a sequence
  closing_rank : (b : Bracket) (s : SomeSymbol) (at : ℕ) (ts : List Terminal) → s ≡ closing b → rank (Symbol s at ∷ ts) < 2
  closing_rank Paren s at ts e = let r : rank (Symbol s at ∷ ts) ≡ 0 = ap (λ t. rank (Symbol t at ∷ ts)) e in omega arith
  closing_rank Brace s at ts e = let r : rank (Symbol s at ∷ ts) ≡ 0 = ap (λ t. rank (Symbol t at ∷ ts)) e in omega arith
  closing_rank Square s at ts e = let r : rank (Symbol s at ∷ ts) ≡ 0 = ap (λ t. rank (Symbol t at ∷ ts)) e in omega arith

  arguments_front : {b : Bracket} {es fs : F (List BExpr)} {us vs : List Terminal} → MoreArguments m b es us fs vs → rank us < 2
  arguments_front {b} (last_argument {at} {s = s} {us = ts} e) = closing_rank b s at ts e
  arguments_front (more_arguments a d) = omega arith

  steps_front : {at : ℕ} {so_far : Option (F (List BExpr))} {e f : F BExpr} {us vs : List Terminal} → Steps m at so_far e us f vs → rank vs < 1 → rank us < 2
  steps_front last_step p = omega arith
  steps_front (more_steps a d) p = omega arith

  mutual
    pub box_expr_once : {e f : F BExpr} {ts us vs : List Terminal} → BoxExpr m ts e us → BoxExpr m ts f vs → rank us < 2 → rank vs < 2 → (e ≡ f) × (us ≡ vs)
    box_expr_once {vs} (bind {at} {name = bound} a d) (bind {f = g} b k) p q =
        let first = box_expr_once a b (omega arith) (omega arith) in
        let second = box_expr_once d (subst (λ ts. BoxExpr m ts g vs) (sym (ap behind first.1)) k) p q in
        (λ i. with_binding m at bound (first.0 i) (second.0 i), second.1)
    box_expr_once (bind a d) (plain b) p q = let no = disjunction_begins b in absurd cc
    box_expr_once (plain b) (bind a d) p q = let no = disjunction_begins b in absurd cc
    box_expr_once {vs} (choose {at} a b d) (choose {else_at = else_at'} {e = e'} {f = f'} {vs = ws'} a' b' d') p q =
        let first = box_expr_once a a' (omega arith) (omega arith) in
        let second = box_expr_once b (subst (λ ts. BoxExpr m ts e' (Keyword Else else_at' ∷ ws')) (sym (ap behind first.1)) b') (omega arith) (omega arith) in
        let third = box_expr_once d (subst (λ ts. BoxExpr m ts f' vs) (sym (ap behind second.1)) d') p q in
        (λ i. with_condition m at (first.0 i) (second.0 i) (third.0 i), third.1)
    box_expr_once (choose a b d) (plain c) p q = let no = disjunction_begins c in absurd cc
    box_expr_once (plain c) (choose a b d) p q = let no = disjunction_begins c in absurd cc
    box_expr_once (plain a) (plain b) p q = disjunction_once a b p q

    disjunction_once : {e f : F BExpr} {ts us vs : List Terminal} → Disjunction m ts e us → Disjunction m ts f vs → rank us < 2 → rank vs < 2 → (e ≡ f) × (us ≡ vs)
    disjunction_once {f = g} {vs} (disjunction a d) (disjunction b k) p q =
        let first = conjunction_once a b (disjunctions_front d p) (disjunctions_front k q) in
        disjunctions_once d (along (λ x ts. Disjunctions m x ts g vs) first.0 first.1 k) p q

    disjunctions_once : {e f g : F BExpr} {ts us vs : List Terminal} → Disjunctions m e ts f us → Disjunctions m e ts g vs → rank us < 2 → rank vs < 2 → (f ≡ g) × (us ≡ vs)
    disjunctions_once no_or no_or p q = (refl, refl)
    disjunctions_once no_or (or {at} {s} {ts} is b k) p q = let r : rank (Symbol s at ∷ ts) ≡ 2 = ap (symbol_rank s) is in absurd (omega arith)
    disjunctions_once (or {at} {s} {ts} is a d) no_or p q = let r : rank (Symbol s at ∷ ts) ≡ 2 = ap (symbol_rank s) is in absurd (omega arith)
    disjunctions_once {e} {g} {vs} (or {at} is a d) (or is' b k) p q =
        let first = conjunction_once a b (disjunctions_front d p) (disjunctions_front k q) in
        disjunctions_once d (along (λ x ts. Disjunctions m x ts g vs) (λ i. with_or m box_operations at e (first.0 i)) first.1 k) p q

    conjunction_once : {e f : F BExpr} {ts us vs : List Terminal} → Conjunction m ts e us → Conjunction m ts f vs → rank us < 3 → rank vs < 3 → (e ≡ f) × (us ≡ vs)
    conjunction_once {f = g} {vs} (conjunction a d) (conjunction b k) p q =
        let first = comparison_once a b (conjunctions_front d p) (conjunctions_front k q) in
        conjunctions_once d (along (λ x ts. Conjunctions m x ts g vs) first.0 first.1 k) p q

    conjunctions_once : {e f g : F BExpr} {ts us vs : List Terminal} → Conjunctions m e ts f us → Conjunctions m e ts g vs → rank us < 3 → rank vs < 3 → (f ≡ g) × (us ≡ vs)
    conjunctions_once no_and no_and p q = (refl, refl)
    conjunctions_once no_and (and {at} {s} {ts} is b k) p q = let r : rank (Symbol s at ∷ ts) ≡ 3 = ap (symbol_rank s) is in absurd (omega arith)
    conjunctions_once (and {at} {s} {ts} is a d) no_and p q = let r : rank (Symbol s at ∷ ts) ≡ 3 = ap (symbol_rank s) is in absurd (omega arith)
    conjunctions_once {e} {g} {vs} (and {at} is a d) (and is' b k) p q =
        let first = comparison_once a b (conjunctions_front d p) (conjunctions_front k q) in
        conjunctions_once d (along (λ x ts. Conjunctions m x ts g vs) (λ i. with_and m box_operations at e (first.0 i)) first.1 k) p q

    comparison_once : {e f : F BExpr} {ts us vs : List Terminal} → Comparison m ts e us → Comparison m ts f vs → rank us < 4 → rank vs < 4 → (e ≡ f) × (us ≡ vs)
    comparison_once (no_compare a) (no_compare b) p q = sum_once a b (omega arith) (omega arith)
    comparison_once {us} (no_compare a) (compare {at} {s} {us = ws} b is c) p q =
        let r : rank (Symbol s at ∷ ws) ≡ 4 = ap (symbol_rank s) is in
        let first = sum_once a b (omega arith) (omega arith) in
        let same : rank us ≡ rank (Symbol s at ∷ ws) = ap rank first.1 in
        absurd (omega arith)
    comparison_once {vs} (compare {at} {s} {us = ws} b is c) (no_compare a) p q =
        let r : rank (Symbol s at ∷ ws) ≡ 4 = ap (symbol_rank s) is in
        let first = sum_once b a (omega arith) (omega arith) in
        let same : rank (Symbol s at ∷ ws) ≡ rank vs = ap rank first.1 in
        absurd (omega arith)
    comparison_once {us} {vs} (compare {at} {s} {op} {f = f} {us = ws} a is c) (compare {at = at'} {s = s'} {op = op'} {f = f'} {us = ws'} a' is' c') p q =
        let r : rank (Symbol s at ∷ ws) ≡ 4 = ap (symbol_rank s) is in
        let r' : rank (Symbol s' at' ∷ ws') ≡ 4 = ap (symbol_rank s') is' in
        let first = sum_once a a' (omega arith) (omega arith) in
        let second = sum_once c (subst (λ ts. Sum m ts f' vs) (sym (ap behind first.1)) c') (omega arith) (omega arith) in
        let ops : Some (kind.Comparison op) ≡ Some (kind.Comparison op') = sym is ∙ ap front_infix first.1 ∙ is' in
        let op_is : op ≡ op' = cc in
        (λ i. with_operator m box_operations (op_is i) (ap front_place first.1 i) (first.0 i) (second.0 i), second.1)

    sum_once : {e f : F BExpr} {ts us vs : List Terminal} → Sum m ts e us → Sum m ts f vs → rank us < 5 → rank vs < 5 → (e ≡ f) × (us ≡ vs)
    sum_once {f = g} {vs} (sum a d) (sum b k) p q =
        let first = product_once a b (sums_front d p) (sums_front k q) in
        sums_once d (along (λ x ts. Sums m x ts g vs) first.0 first.1 k) p q

    sums_once : {e f g : F BExpr} {ts us vs : List Terminal} → Sums m e ts f us → Sums m e ts g vs → rank us < 5 → rank vs < 5 → (f ≡ g) × (us ≡ vs)
    sums_once no_sum no_sum p q = (refl, refl)
    sums_once no_sum (add {at} {s} {ts} is b k) p q = let r : rank (Symbol s at ∷ ts) ≡ 5 = ap (symbol_rank s) is in absurd (omega arith)
    sums_once (add {at} {s} {ts} is a d) no_sum p q = let r : rank (Symbol s at ∷ ts) ≡ 5 = ap (symbol_rank s) is in absurd (omega arith)
    sums_once {e} {g} {vs} (add {at} {op} is a d) (add {op = op'} is' b k) p q =
        let first = product_once a b (sums_front d p) (sums_front k q) in
        let ops : Some (kind.Sum op) ≡ Some (kind.Sum op') = sym is ∙ is' in
        let op_is : op ≡ op' = cc in
        sums_once d (along (λ x ts. Sums m x ts g vs) (λ i. with_operator m box_operations (op_is i) at e (first.0 i)) first.1 k) p q

    product_once : {e f : F BExpr} {ts us vs : List Terminal} → Product m ts e us → Product m ts f vs → rank us < 6 → rank vs < 6 → (e ≡ f) × (us ≡ vs)
    product_once {f = g} {vs} (product a d) (product b k) p q =
        let first = operand_once a b (products_front d p) (products_front k q) in
        products_once d (along (λ x ts. Products m x ts g vs) first.0 first.1 k) p q

    products_once : {e f g : F BExpr} {ts us vs : List Terminal} → Products m e ts f us → Products m e ts g vs → rank us < 6 → rank vs < 6 → (f ≡ g) × (us ≡ vs)
    products_once no_product no_product p q = (refl, refl)
    products_once no_product (multiply {at} {s} {ts} is b k) p q = let r : rank (Symbol s at ∷ ts) ≡ 6 = ap (symbol_rank s) is in absurd (omega arith)
    products_once (multiply {at} {s} {ts} is a d) no_product p q = let r : rank (Symbol s at ∷ ts) ≡ 6 = ap (symbol_rank s) is in absurd (omega arith)
    products_once {e} {g} {vs} (multiply {at} {op} is a d) (multiply {op = op'} is' b k) p q =
        let first = operand_once a b (products_front d p) (products_front k q) in
        let ops : Some (kind.Product op) ≡ Some (kind.Product op') = sym is ∙ is' in
        let op_is : op ≡ op' = cc in
        products_once d (along (λ x ts. Products m x ts g vs) (λ i. with_operator m box_operations (op_is i) at e (first.0 i)) first.1 k) p q

    operand_once : {e f : F BExpr} {ts us vs : List Terminal} → Operand m ts e us → Operand m ts f vs → rank us < 7 → rank vs < 7 → (e ≡ f) × (us ≡ vs)
    operand_once (sign {at} {g} is a) (sign {g = g'} is' b) p q =
        let first = operand_once a b p q in
        let signs : Some g ≡ Some g' = sym is ∙ is' in
        let sign_is : g ≡ g' = cc in
        (λ i. with_sign m box_operations (sign_is i) at (first.0 i), first.1)
    operand_once (sign is a) (list b) p q = absurd cc
    operand_once (sign is a) (parens b) p q = absurd cc
    operand_once (list b) (sign is a) p q = absurd cc
    operand_once (parens b) (sign is a) p q = absurd cc
    operand_once number number p q = (refl, refl)
    operand_once literal literal p q = (refl, refl)
    operand_once tag tag p q = (refl, refl)
    operand_once name name p q = (refl, refl)
    operand_once name (call b) p q = absurd (omega arith)
    operand_once (call a) name p q = absurd (omega arith)
    operand_once (call {name = called} a) (call b) p q = let first = arguments_once a b in (ap (with_arguments m (Function called)) first.0, first.1)
    operand_once (list {at} a) (list b) p q = let first = arguments_once a b in (ap (with_arguments m (Elements at)) first.0, first.1)
    operand_once (out {at} {n = n} a) (out b) p q = let first = arguments_once a b in (ap (with_arguments m (Variant at n)) first.0, first.1)
    operand_once (parens a) (parens b) p q =
        let first = sequence_once a b (omega arith) (omega arith) in
        (ap m.parens first.0, ap behind first.1)

    arguments_once : {b : Bracket} {es fs : F (List BExpr)} {ts us vs : List Terminal} → Arguments m b ts es us → Arguments m b ts fs vs → (es ≡ fs) × (us ≡ vs)
    arguments_once (no_arguments e) (no_arguments f) = (refl, refl)
    arguments_once (no_arguments {at} {b} {s} {us} e) (arguments c k) = absurd (not_closing b s at us e (box_expr_begins c))
    arguments_once (arguments c k) (no_arguments {at} {b} {s} {us} e) = absurd (not_closing b s at us e (box_expr_begins c))
    arguments_once {b} {fs} {vs} (arguments a d) (arguments c k) =
        let first = box_expr_once a c (arguments_front d) (arguments_front k) in
        more_arguments_once d (along (λ x ts. MoreArguments m b x ts fs vs) (ap (with_part m (no_parts m)) first.0) first.1 k)

    more_arguments_once : {b : Bracket} {so_far es fs : F (List BExpr)} {ts us vs : List Terminal} → MoreArguments m b so_far ts es us → MoreArguments m b so_far ts fs vs → (es ≡ fs) × (us ≡ vs)
    more_arguments_once (last_argument e) (last_argument f) = (refl, refl)
    more_arguments_once {b} (last_argument e) (more_arguments c k) = absurd (comma_closes b e)
    more_arguments_once {b} (more_arguments c k) (last_argument e) = absurd (comma_closes b e)
    more_arguments_once {b} {so_far} {fs} {vs} (more_arguments a d) (more_arguments c k) =
        let first = box_expr_once a c (arguments_front d) (arguments_front k) in
        more_arguments_once d (along (λ x ts. MoreArguments m b x ts fs vs) (ap (with_part m so_far) first.0) first.1 k)

    pub sequence_once : {e f : F BExpr} {ts us vs : List Terminal} → Sequence m ts e us → Sequence m ts f vs → rank us < 1 → rank vs < 1 → (e ≡ f) × (us ≡ vs)
    sequence_once {f = g} {vs} (sequence {x} a d) (sequence b k) p q =
        let first = box_expr_once a b (steps_front d p) (steps_front k q) in
        steps_once d (along (λ e ts. Steps m (place_of x) None e ts g vs) first.0 first.1 k) p q

    steps_once : {at : ℕ} {so_far : Option (F (List BExpr))} {e f g : F BExpr} {ts us vs : List Terminal} → Steps m at so_far e ts f us → Steps m at so_far e ts g vs → rank us < 1 → rank vs < 1 → (f ≡ g) × (us ≡ vs)
    steps_once last_step last_step p q = (refl, refl)
    steps_once last_step (more_steps b k) p q = absurd (omega arith)
    steps_once (more_steps a d) last_step p q = absurd (omega arith)
    steps_once {at} {so_far} {e} {g} {vs} (more_steps a d) (more_steps b k) p q =
        let first = box_expr_once a b (steps_front d p) (steps_front k q) in
        steps_once d (along (λ x ts. Steps m at (with_step m so_far e) x ts g vs) first.0 first.1 k) p q
