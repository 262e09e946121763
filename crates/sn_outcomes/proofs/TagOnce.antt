-- Tokens spell one expression over tags, up to what may follow it.
use Rattle.std.proofs.Common.{◌≡◌, ◌∙◌, ◌<◌, List, ◌∷◌, Some, refl, sym, ap, subst, arith}
use Rattle.sn_ast.specs.Measures.{Measuring}
use Rattle.sn_ast.specs.Operators.{tag_operations, with_sign, with_operator, with_and, with_or}
use Rattle.sn_ast.specs.TagExprs.{with_condition}
use Rattle.sn_ast.specs.TagExprs.{TagExpr, plain, choose, Disjunction, disjunction, Disjunctions, no_or, or, Conjunction, conjunction, Conjunctions, no_and, and, Comparison, no_compare, compare, Sum, sum, Sums, no_sum, add, Product, product, Products, no_product, multiply, Operand, sign, number, tag, parens}
use Rattle.sn_ast.specs.declared.tag_expr.TExpr.{TExpr}
use Rattle.sn_ast.specs.declared.terminal.Infix.TheVariants as kind
use Rattle.sn_ast.specs.declared.terminal.Symbol.TheVariants.{Colon}
use Rattle.sn_ast.specs.declared.terminal.Terminal.{Terminal}
use Rattle.sn_ast.specs.declared.terminal.Terminal.TheVariants.{Symbol}
use Rattle.sn_outcomes.proofs.Fronts.{rank, symbol_rank, behind, front_place, front_infix, along}

module _ {F : Type 0 → Type 0} (m : Measuring F) where
  -- what follows the first operand of a row
  sums_front : {e f : F TExpr} {us vs : List Terminal} → Sums m e us f vs → rank vs < 5 → rank us < 6
  sums_front no_sum p = omega arith
  sums_front (add {at} {s} {ts} is a d) p = let r : rank (Symbol s at ∷ ts) ≡ 5 = ap (symbol_rank s) is in omega arith

  conjunctions_front : {e f : F TExpr} {us vs : List Terminal} → Conjunctions m e us f vs → rank vs < 3 → rank us < 4
  conjunctions_front no_and p = omega arith
  conjunctions_front (and {at} {s} {ts} is a d) p = let r : rank (Symbol s at ∷ ts) ≡ 3 = ap (symbol_rank s) is in omega arith

  disjunctions_front : {e f : F TExpr} {us vs : List Terminal} → Disjunctions m e us f vs → rank vs < 2 → rank us < 3
  disjunctions_front no_or p = omega arith
  disjunctions_front (or {at} {s} {ts} is a d) p = let r : rank (Symbol s at ∷ ts) ≡ 2 = ap (symbol_rank s) is in omega arith

  mutual
    pub tag_expr_once : {e f : F TExpr} {ts us vs : List Terminal} → TagExpr m ts e us → TagExpr m ts f vs → rank us < 1 → rank vs < 1 → (e ≡ f) × (us ≡ vs)
    tag_expr_once (plain a) (plain b) p q = disjunction_once a b (omega arith) (omega arith)
    tag_expr_once {us} (plain a) (choose b c d) p q =
        let first = disjunction_once a b (omega arith) (omega arith) in
        let asks : rank us ≡ 1 = ap rank first.1 in
        absurd (omega arith)
    tag_expr_once {vs} (choose b c d) (plain a) p q =
        let first = disjunction_once b a (omega arith) (omega arith) in
        let asks : 1 ≡ rank vs = ap rank first.1 in
        absurd (omega arith)
    tag_expr_once {us} {vs} (choose {at = at} {c = c} {e = e} {f = f} a b d) (choose {at = at'} {colon = colon'} {c = c'} {e = e'} {f = f'} {vs = ws'} a' b' d') p q =
        let first = disjunction_once a a' (omega arith) (omega arith) in
        let second = tag_expr_once b (subst (λ ts. TagExpr m ts e' (Symbol Colon colon' ∷ ws')) (sym (ap behind first.1)) b') (omega arith) (omega arith) in
        let third = tag_expr_once d (subst (λ ts. TagExpr m ts f' vs) (sym (ap behind second.1)) d') p q in
        (λ i. with_condition m (ap front_place first.1 i) (first.0 i) (second.0 i) (third.0 i), third.1)

    disjunction_once : {e f : F TExpr} {ts us vs : List Terminal} → Disjunction m ts e us → Disjunction m ts f vs → rank us < 2 → rank vs < 2 → (e ≡ f) × (us ≡ vs)
    disjunction_once {f = g} {vs} (disjunction a d) (disjunction b k) p q =
        let first = conjunction_once a b (disjunctions_front d p) (disjunctions_front k q) in
        disjunctions_once d (along (λ x ts. Disjunctions m x ts g vs) first.0 first.1 k) p q

    disjunctions_once : {e f g : F TExpr} {ts us vs : List Terminal} → Disjunctions m e ts f us → Disjunctions m e ts g vs → rank us < 2 → rank vs < 2 → (f ≡ g) × (us ≡ vs)
    disjunctions_once no_or no_or p q = (refl, refl)
    disjunctions_once no_or (or {at} {s} {ts} is b k) p q = let r : rank (Symbol s at ∷ ts) ≡ 2 = ap (symbol_rank s) is in absurd (omega arith)
    disjunctions_once (or {at} {s} {ts} is a d) no_or p q = let r : rank (Symbol s at ∷ ts) ≡ 2 = ap (symbol_rank s) is in absurd (omega arith)
    disjunctions_once {e} {g} {vs} (or {at} is a d) (or is' b k) p q =
        let first = conjunction_once a b (disjunctions_front d p) (disjunctions_front k q) in
        disjunctions_once d (along (λ x ts. Disjunctions m x ts g vs) (λ i. with_or m tag_operations at e (first.0 i)) first.1 k) p q

    conjunction_once : {e f : F TExpr} {ts us vs : List Terminal} → Conjunction m ts e us → Conjunction m ts f vs → rank us < 3 → rank vs < 3 → (e ≡ f) × (us ≡ vs)
    conjunction_once {f = g} {vs} (conjunction a d) (conjunction b k) p q =
        let first = comparison_once a b (conjunctions_front d p) (conjunctions_front k q) in
        conjunctions_once d (along (λ x ts. Conjunctions m x ts g vs) first.0 first.1 k) p q

    conjunctions_once : {e f g : F TExpr} {ts us vs : List Terminal} → Conjunctions m e ts f us → Conjunctions m e ts g vs → rank us < 3 → rank vs < 3 → (f ≡ g) × (us ≡ vs)
    conjunctions_once no_and no_and p q = (refl, refl)
    conjunctions_once no_and (and {at} {s} {ts} is b k) p q = let r : rank (Symbol s at ∷ ts) ≡ 3 = ap (symbol_rank s) is in absurd (omega arith)
    conjunctions_once (and {at} {s} {ts} is a d) no_and p q = let r : rank (Symbol s at ∷ ts) ≡ 3 = ap (symbol_rank s) is in absurd (omega arith)
    conjunctions_once {e} {g} {vs} (and {at} is a d) (and is' b k) p q =
        let first = comparison_once a b (conjunctions_front d p) (conjunctions_front k q) in
        conjunctions_once d (along (λ x ts. Conjunctions m x ts g vs) (λ i. with_and m tag_operations at e (first.0 i)) first.1 k) p q

    comparison_once : {e f : F TExpr} {ts us vs : List Terminal} → Comparison m ts e us → Comparison m ts f vs → rank us < 4 → rank vs < 4 → (e ≡ f) × (us ≡ vs)
    comparison_once (no_compare a) (no_compare b) p q = sum_once a b (omega arith) (omega arith)
    comparison_once {us} (no_compare a) (compare {at} {s} {us = ws} b is c) p q =
        let r : rank (Symbol s at ∷ ws) ≡ 4 = ap (symbol_rank s) is in
        let first = sum_once a b (omega arith) (omega arith) in
        let same : rank us ≡ rank (Symbol s at ∷ ws) = ap rank first.1 in
        absurd (omega arith)
    comparison_once {vs} (compare {at} {s} {us = ws} b is c) (no_compare a) p q =
        let r : rank (Symbol s at ∷ ws) ≡ 4 = ap (symbol_rank s) is in
        let first = sum_once b a (omega arith) (omega arith) in
        let same : rank (Symbol s at ∷ ws) ≡ rank vs = ap rank first.1 in
        absurd (omega arith)
    comparison_once {us} {vs} (compare {at} {s} {op} {f = f} {us = ws} a is c) (compare {at = at'} {s = s'} {op = op'} {f = f'} {us = ws'} a' is' c') p q =
        let r : rank (Symbol s at ∷ ws) ≡ 4 = ap (symbol_rank s) is in
        let r' : rank (Symbol s' at' ∷ ws') ≡ 4 = ap (symbol_rank s') is' in
        let first = sum_once a a' (omega arith) (omega arith) in
        let second = sum_once c (subst (λ ts. Sum m ts f' vs) (sym (ap behind first.1)) c') (omega arith) (omega arith) in
        let ops : Some (kind.Comparison op) ≡ Some (kind.Comparison op') = sym is ∙ ap front_infix first.1 ∙ is' in
        let op_is : op ≡ op' = cc in
        (λ i. with_operator m tag_operations (op_is i) (ap front_place first.1 i) (first.0 i) (second.0 i), second.1)

    sum_once : {e f : F TExpr} {ts us vs : List Terminal} → Sum m ts e us → Sum m ts f vs → rank us < 5 → rank vs < 5 → (e ≡ f) × (us ≡ vs)
    sum_once {f = g} {vs} (sum a d) (sum b k) p q =
        let first = product_once a b (sums_front d p) (sums_front k q) in
        sums_once d (along (λ x ts. Sums m x ts g vs) first.0 first.1 k) p q

    sums_once : {e f g : F TExpr} {ts us vs : List Terminal} → Sums m e ts f us → Sums m e ts g vs → rank us < 5 → rank vs < 5 → (f ≡ g) × (us ≡ vs)
    sums_once no_sum no_sum p q = (refl, refl)
    sums_once no_sum (add {at} {s} {ts} is b k) p q = let r : rank (Symbol s at ∷ ts) ≡ 5 = ap (symbol_rank s) is in absurd (omega arith)
    sums_once (add {at} {s} {ts} is a d) no_sum p q = let r : rank (Symbol s at ∷ ts) ≡ 5 = ap (symbol_rank s) is in absurd (omega arith)
    sums_once {e} {g} {vs} (add {at} {op} is a d) (add {op = op'} is' b k) p q =
        let first = product_once a b (sums_front d p) (sums_front k q) in
        let ops : Some (kind.Sum op) ≡ Some (kind.Sum op') = sym is ∙ is' in
        let op_is : op ≡ op' = cc in
        sums_once d (along (λ x ts. Sums m x ts g vs) (λ i. with_operator m tag_operations (op_is i) at e (first.0 i)) first.1 k) p q

    product_once : {e f : F TExpr} {ts us vs : List Terminal} → Product m ts e us → Product m ts f vs → rank us < 6 → rank vs < 6 → (e ≡ f) × (us ≡ vs)
    product_once {f = g} {vs} (product a d) (product b k) p q =
        let first = operand_once a b in
        products_once d (along (λ x ts. Products m x ts g vs) first.0 first.1 k) p q

    products_once : {e f g : F TExpr} {ts us vs : List Terminal} → Products m e ts f us → Products m e ts g vs → rank us < 6 → rank vs < 6 → (f ≡ g) × (us ≡ vs)
    products_once no_product no_product p q = (refl, refl)
    products_once no_product (multiply {at} {s} {ts} is b k) p q = let r : rank (Symbol s at ∷ ts) ≡ 6 = ap (symbol_rank s) is in absurd (omega arith)
    products_once (multiply {at} {s} {ts} is a d) no_product p q = let r : rank (Symbol s at ∷ ts) ≡ 6 = ap (symbol_rank s) is in absurd (omega arith)
    products_once {e} {g} {vs} (multiply {at} {op} is a d) (multiply {op = op'} is' b k) p q =
        let first = operand_once a b in
        let ops : Some (kind.Product op) ≡ Some (kind.Product op') = sym is ∙ is' in
        let op_is : op ≡ op' = cc in
        products_once d (along (λ x ts. Products m x ts g vs) (λ i. with_operator m tag_operations (op_is i) at e (first.0 i)) first.1 k) p q

    operand_once : {e f : F TExpr} {ts us vs : List Terminal} → Operand m ts e us → Operand m ts f vs → (e ≡ f) × (us ≡ vs)
    operand_once (sign {at} {g} is a) (sign {g = g'} is' b) =
        let first = operand_once a b in
        let signs : Some g ≡ Some g' = sym is ∙ is' in
        let sign_is : g ≡ g' = cc in
        (λ i. with_sign m tag_operations (sign_is i) at (first.0 i), first.1)
    operand_once (sign is a) (parens b) = absurd cc
    operand_once (parens a) (sign is b) = absurd cc
    operand_once number number = (refl, refl)
    operand_once tag tag = (refl, refl)
    operand_once (parens a) (parens b) =
        let first = tag_expr_once a b (omega arith) (omega arith) in
        (ap m.parens first.0, ap behind first.1)
