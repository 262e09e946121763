-- A map of parts carries the grammar of expressions over tags both ways.
use Rattle.std.proofs.Common.{List, ◌≡◌}
use Rattle.sn_ast.proofs.Maps.{Map, pair_of, node_of, parens_of, triple_of}
use Rattle.sn_ast.specs.Measures.{Measuring}
use Rattle.sn_ast.specs.Operators.{tag_operations, with_sign, with_operator, with_and, with_or}
use Rattle.sn_ast.specs.TagExprs.{with_condition, conditional}
use Rattle.sn_ast.specs.TagExprs.{TagExpr, plain, choose, Disjunction, disjunction, Disjunctions, no_or, or, Conjunction, conjunction, Conjunctions, no_and, and, Comparison, no_compare, compare, Sum, sum, Sums, no_sum, add, Product, product, Products, no_product, multiply, Operand, sign, number, tag, parens}
use Rattle.sn_ast.specs.declared.tag_expr.TExpr.{TExpr}
use Rattle.sn_ast.specs.declared.terminal.Terminal.{Terminal}

module _ {F G : Type 0 → Type 0} (m : Measuring F) (n : Measuring G) (h : Map m n) where
  mutual
    pub to_tag_expr : {e : F TExpr} {ts us : List Terminal} → TagExpr m ts e us → TagExpr n ts (h.map e) us
    to_tag_expr (plain d) = plain (to_disjunction d)
    to_tag_expr (choose a b d) = rw (h.of_raise, h.of_join, h.of_join) (choose (to_disjunction a) (to_tag_expr b) (to_tag_expr d))

    to_disjunction : {e : F TExpr} {ts us : List Terminal} → Disjunction m ts e us → Disjunction n ts (h.map e) us
    to_disjunction (disjunction a d) = disjunction (to_conjunction a) (to_disjunctions d)

    to_disjunctions : {e f : F TExpr} {ts us : List Terminal} → Disjunctions m e ts f us → Disjunctions n (h.map e) ts (h.map f) us
    to_disjunctions no_or = no_or
    to_disjunctions (or i a d) = or i (to_conjunction a) (rw (h.of_raise, h.of_join) at (to_disjunctions d))

    to_conjunction : {e : F TExpr} {ts us : List Terminal} → Conjunction m ts e us → Conjunction n ts (h.map e) us
    to_conjunction (conjunction a d) = conjunction (to_comparison a) (to_conjunctions d)

    to_conjunctions : {e f : F TExpr} {ts us : List Terminal} → Conjunctions m e ts f us → Conjunctions n (h.map e) ts (h.map f) us
    to_conjunctions no_and = no_and
    to_conjunctions (and i a d) = and i (to_comparison a) (rw (h.of_raise, h.of_join) at (to_conjunctions d))

    to_comparison : {e : F TExpr} {ts us : List Terminal} → Comparison m ts e us → Comparison n ts (h.map e) us
    to_comparison (no_compare a) = no_compare (to_sum a)
    to_comparison (compare a i b) = rw (h.of_raise, h.of_join) (compare (to_sum a) i (to_sum b))

    to_sum : {e : F TExpr} {ts us : List Terminal} → Sum m ts e us → Sum n ts (h.map e) us
    to_sum (sum a d) = sum (to_product a) (to_sums d)

    to_sums : {e f : F TExpr} {ts us : List Terminal} → Sums m e ts f us → Sums n (h.map e) ts (h.map f) us
    to_sums no_sum = no_sum
    to_sums (add i a d) = add i (to_product a) (rw (h.of_raise, h.of_join) at (to_sums d))

    to_product : {e : F TExpr} {ts us : List Terminal} → Product m ts e us → Product n ts (h.map e) us
    to_product (product a d) = product (to_operand a) (to_products d)

    to_products : {e f : F TExpr} {ts us : List Terminal} → Products m e ts f us → Products n (h.map e) ts (h.map f) us
    to_products no_product = no_product
    to_products (multiply i a d) = multiply i (to_operand a) (rw (h.of_raise, h.of_join) at (to_products d))

    to_operand : {e : F TExpr} {ts us : List Terminal} → Operand m ts e us → Operand n ts (h.map e) us
    to_operand (sign i a) = rw (h.of_raise, h.of_each) (sign i (to_operand a))
    to_operand number = rw h.of_leaf number
    to_operand tag = rw h.of_leaf tag
    to_operand (parens a) = rw h.of_parens (parens (to_tag_expr a))

  mutual
    pub from_tag_expr : {y : G TExpr} {ts us : List Terminal} → TagExpr n ts y us → (e : F TExpr) × TagExpr m ts e us × (h.map e ≡ y)
    from_tag_expr (plain d) = let r = from_disjunction d in (r.0, plain r.1, r.2)
    from_tag_expr (choose {at} a b d) =
        let p = from_disjunction a in let q = from_tag_expr b in let r = from_tag_expr d in
        (with_condition m at p.0 q.0 r.0, choose p.1 q.1 r.1, triple_of m n h (conditional at) p.2 q.2 r.2)

    from_disjunction : {y : G TExpr} {ts us : List Terminal} → Disjunction n ts y us → (e : F TExpr) × Disjunction m ts e us × (h.map e ≡ y)
    from_disjunction (disjunction a d) = let p = from_conjunction a in let r = from_disjunctions d p.0 p.2 in (r.0, disjunction p.1 r.1, r.2)

    from_disjunctions : {x y : G TExpr} {ts us : List Terminal} → Disjunctions n x ts y us →
        (e : F TExpr) → h.map e ≡ x → (f : F TExpr) × Disjunctions m e ts f us × (h.map f ≡ y)
    from_disjunctions no_or e s = (e, no_or, s)
    from_disjunctions (or {at} i a d) e s =
        let p = from_conjunction a in
        let r = from_disjunctions d (with_or m tag_operations at e p.0) (pair_of m n h (tag_operations.or at) s p.2) in
        (r.0, or i p.1 r.1, r.2)

    from_conjunction : {y : G TExpr} {ts us : List Terminal} → Conjunction n ts y us → (e : F TExpr) × Conjunction m ts e us × (h.map e ≡ y)
    from_conjunction (conjunction a d) = let p = from_comparison a in let r = from_conjunctions d p.0 p.2 in (r.0, conjunction p.1 r.1, r.2)

    from_conjunctions : {x y : G TExpr} {ts us : List Terminal} → Conjunctions n x ts y us →
        (e : F TExpr) → h.map e ≡ x → (f : F TExpr) × Conjunctions m e ts f us × (h.map f ≡ y)
    from_conjunctions no_and e s = (e, no_and, s)
    from_conjunctions (and {at} i a d) e s =
        let p = from_comparison a in
        let r = from_conjunctions d (with_and m tag_operations at e p.0) (pair_of m n h (tag_operations.and at) s p.2) in
        (r.0, and i p.1 r.1, r.2)

    from_comparison : {y : G TExpr} {ts us : List Terminal} → Comparison n ts y us → (e : F TExpr) × Comparison m ts e us × (h.map e ≡ y)
    from_comparison (no_compare a) = let p = from_sum a in (p.0, no_compare p.1, p.2)
    from_comparison (compare {at} {op} a i b) =
        let p = from_sum a in let q = from_sum b in
        (with_operator m tag_operations op at p.0 q.0, compare p.1 i q.1, pair_of m n h (tag_operations.op op at) p.2 q.2)

    from_sum : {y : G TExpr} {ts us : List Terminal} → Sum n ts y us → (e : F TExpr) × Sum m ts e us × (h.map e ≡ y)
    from_sum (sum a d) = let p = from_product a in let r = from_sums d p.0 p.2 in (r.0, sum p.1 r.1, r.2)

    from_sums : {x y : G TExpr} {ts us : List Terminal} → Sums n x ts y us →
        (e : F TExpr) → h.map e ≡ x → (f : F TExpr) × Sums m e ts f us × (h.map f ≡ y)
    from_sums no_sum e s = (e, no_sum, s)
    from_sums (add {at} {op} i a d) e s =
        let p = from_product a in
        let r = from_sums d (with_operator m tag_operations op at e p.0) (pair_of m n h (tag_operations.op op at) s p.2) in
        (r.0, add i p.1 r.1, r.2)

    from_product : {y : G TExpr} {ts us : List Terminal} → Product n ts y us → (e : F TExpr) × Product m ts e us × (h.map e ≡ y)
    from_product (product a d) = let p = from_operand a in let r = from_products d p.0 p.2 in (r.0, product p.1 r.1, r.2)

    from_products : {x y : G TExpr} {ts us : List Terminal} → Products n x ts y us →
        (e : F TExpr) → h.map e ≡ x → (f : F TExpr) × Products m e ts f us × (h.map f ≡ y)
    from_products no_product e s = (e, no_product, s)
    from_products (multiply {at} {op} i a d) e s =
        let p = from_operand a in
        let r = from_products d (with_operator m tag_operations op at e p.0) (pair_of m n h (tag_operations.op op at) s p.2) in
        (r.0, multiply i p.1 r.1, r.2)

    from_operand : {y : G TExpr} {ts us : List Terminal} → Operand n ts y us → (e : F TExpr) × Operand m ts e us × (h.map e ≡ y)
    from_operand (sign {at} {g} i a) =
        let p = from_operand a in (with_sign m tag_operations g at p.0, sign i p.1, node_of m n h (tag_operations.sign g at) p.2)
    from_operand number = (m.leaf _, number, h.of_leaf _)
    from_operand tag = (m.leaf _, tag, h.of_leaf _)
    from_operand (parens a) = let p = from_tag_expr a in (m.parens p.0, parens p.1, parens_of m n h p.2)
