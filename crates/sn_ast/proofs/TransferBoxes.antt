-- A map of parts carries the grammar of expressions in a box both ways.
use Rattle.std.proofs.Common.{ℕ, List, [], ◌≡◌, Option, Some, None, refl, ◌∙◌, ap}
use Rattle.sn_ast.proofs.Maps.{Map, row_of, pair_of, node_of, parens_of, triple_of}
use Rattle.sn_ast.specs.BoxExprs.{applied, bound, conditional, with_binding, with_condition, with_arguments, with_step, sequence_of}
use Rattle.sn_ast.specs.BoxExprs.{BoxExpr, bind, choose, plain, Disjunction, disjunction, Disjunctions, no_or, or, Conjunction, conjunction, Conjunctions, no_and, and, Comparison, no_compare, compare, Sum, sum, Sums, no_sum, add, Product, product, Products, no_product, multiply, Operand, sign, number, literal, tag, name, call, list, out, parens, Arguments, no_arguments, arguments, MoreArguments, last_argument, more_arguments, Sequence, sequence, Steps, last_step, more_steps}
use Rattle.sn_ast.specs.BoxExprs.Head.{Function, Variant, Elements}
use Rattle.sn_ast.specs.Measures.{Measuring}
use Rattle.sn_ast.specs.Operators.{box_operations, with_sign, with_operator, with_and, with_or}
use Rattle.sn_ast.specs.Rows.{no_parts, with_part}
use Rattle.sn_ast.specs.declared.box_expr.BExpr.{BExpr}
use Rattle.sn_ast.specs.declared.box_expr.BForm.TheVariants as box_form
use Rattle.sn_ast.specs.declared.terminal.Bracket.{Bracket}
use Rattle.sn_ast.specs.declared.terminal.Terminal.{Terminal}

module _ {F G : Type 0 → Type 0} (m : Measuring F) (n : Measuring G) (h : Map m n) where
  -- the steps of a sequence so far
  abbrev pub steps_map : Option (F (List BExpr)) → Option (G (List BExpr))
  steps_map None = None
  steps_map (Some p) = Some (h.map p)

  of_sequence : (at : ℕ) (o : Option (F (List BExpr))) (e : F BExpr) →
      h.map (sequence_of m at o e) ≡ sequence_of n at (steps_map o) (h.map e)
  of_sequence at None e = refl
  of_sequence at (Some p) e = node_of m n h (λ es. record { at = at; form = box_form.Seq es }) (row_of m n h refl refl)

  of_step : (o : Option (F (List BExpr))) (e : F BExpr) → steps_map (with_step m o e) ≡ with_step n (steps_map o) (h.map e)
  of_step None e = ap Some (row_of m n h (h.of_leaf []) refl)
  of_step (Some p) e = ap Some (row_of m n h refl refl)

  mutual
    pub to_box_expr : {e : F BExpr} {ts us : List Terminal} → BoxExpr m ts e us → BoxExpr n ts (h.map e) us
    to_box_expr (bind a b) = rw (h.of_raise, h.of_join) (bind (to_box_expr a) (to_box_expr b))
    to_box_expr (choose a b d) = rw (h.of_raise, h.of_join, h.of_join) (choose (to_box_expr a) (to_box_expr b) (to_box_expr d))
    to_box_expr (plain d) = plain (to_disjunction d)

    to_disjunction : {e : F BExpr} {ts us : List Terminal} → Disjunction m ts e us → Disjunction n ts (h.map e) us
    to_disjunction (disjunction a d) = disjunction (to_conjunction a) (to_disjunctions d)

    to_disjunctions : {e f : F BExpr} {ts us : List Terminal} → Disjunctions m e ts f us → Disjunctions n (h.map e) ts (h.map f) us
    to_disjunctions no_or = no_or
    to_disjunctions (or i a d) = or i (to_conjunction a) (rw (h.of_raise, h.of_join) at (to_disjunctions d))

    to_conjunction : {e : F BExpr} {ts us : List Terminal} → Conjunction m ts e us → Conjunction n ts (h.map e) us
    to_conjunction (conjunction a d) = conjunction (to_comparison a) (to_conjunctions d)

    to_conjunctions : {e f : F BExpr} {ts us : List Terminal} → Conjunctions m e ts f us → Conjunctions n (h.map e) ts (h.map f) us
    to_conjunctions no_and = no_and
    to_conjunctions (and i a d) = and i (to_comparison a) (rw (h.of_raise, h.of_join) at (to_conjunctions d))

    to_comparison : {e : F BExpr} {ts us : List Terminal} → Comparison m ts e us → Comparison n ts (h.map e) us
    to_comparison (no_compare a) = no_compare (to_sum a)
    to_comparison (compare a i b) = rw (h.of_raise, h.of_join) (compare (to_sum a) i (to_sum b))

    to_sum : {e : F BExpr} {ts us : List Terminal} → Sum m ts e us → Sum n ts (h.map e) us
    to_sum (sum a d) = sum (to_product a) (to_sums d)

    to_sums : {e f : F BExpr} {ts us : List Terminal} → Sums m e ts f us → Sums n (h.map e) ts (h.map f) us
    to_sums no_sum = no_sum
    to_sums (add i a d) = add i (to_product a) (rw (h.of_raise, h.of_join) at (to_sums d))

    to_product : {e : F BExpr} {ts us : List Terminal} → Product m ts e us → Product n ts (h.map e) us
    to_product (product a d) = product (to_operand a) (to_products d)

    to_products : {e f : F BExpr} {ts us : List Terminal} → Products m e ts f us → Products n (h.map e) ts (h.map f) us
    to_products no_product = no_product
    to_products (multiply i a d) = multiply i (to_operand a) (rw (h.of_raise, h.of_join) at (to_products d))

    to_operand : {e : F BExpr} {ts us : List Terminal} → Operand m ts e us → Operand n ts (h.map e) us
    to_operand (sign i a) = rw (h.of_raise, h.of_each) (sign i (to_operand a))
    to_operand number = rw h.of_leaf number
    to_operand literal = rw h.of_leaf literal
    to_operand tag = rw h.of_leaf tag
    to_operand name = rw h.of_leaf name
    to_operand (call a) = rw (h.of_raise, h.of_each) (call (to_arguments a))
    to_operand (list a) = rw (h.of_raise, h.of_each) (list (to_arguments a))
    to_operand (out a) = rw (h.of_raise, h.of_each) (out (to_arguments a))
    to_operand (parens a) = rw h.of_parens (parens (to_sequence a))

    to_arguments : {b : Bracket} {es : F (List BExpr)} {ts us : List Terminal} → Arguments m b ts es us → Arguments n b ts (h.map es) us
    to_arguments (no_arguments i) = rw h.of_leaf (no_arguments i)
    to_arguments (arguments a d) = arguments (to_box_expr a) (rw (h.of_join, h.of_leaf) at (to_more_arguments d))

    to_more_arguments : {b : Bracket} {so_far es : F (List BExpr)} {ts us : List Terminal} →
        MoreArguments m b so_far ts es us → MoreArguments n b (h.map so_far) ts (h.map es) us
    to_more_arguments (last_argument i) = last_argument i
    to_more_arguments (more_arguments a d) = more_arguments (to_box_expr a) (rw h.of_join at (to_more_arguments d))

    pub to_sequence : {e : F BExpr} {ts us : List Terminal} → Sequence m ts e us → Sequence n ts (h.map e) us
    to_sequence (sequence a d) = sequence (to_box_expr a) (to_steps d)

    to_steps : {at : ℕ} {o : Option (F (List BExpr))} {e f : F BExpr} {ts us : List Terminal} →
        Steps m at o e ts f us → Steps n at (steps_map o) (h.map e) ts (h.map f) us
    to_steps (last_step {at} {so_far = o} {e}) = rw (of_sequence at o e) last_step
    to_steps (more_steps {so_far = o} {e} a d) = more_steps (to_box_expr a) (rw (of_step o e) at (to_steps d))

  mutual
    pub from_box_expr : {y : G BExpr} {ts us : List Terminal} → BoxExpr n ts y us → (e : F BExpr) × BoxExpr m ts e us × (h.map e ≡ y)
    from_box_expr (bind {at} {name = x} a b) =
        let p = from_box_expr a in let q = from_box_expr b in
        (with_binding m at x p.0 q.0, bind p.1 q.1, pair_of m n h (bound at x) p.2 q.2)
    from_box_expr (choose {at} a b d) =
        let p = from_box_expr a in let q = from_box_expr b in let r = from_box_expr d in
        (with_condition m at p.0 q.0 r.0, choose p.1 q.1 r.1, triple_of m n h (conditional at) p.2 q.2 r.2)
    from_box_expr (plain d) = let r = from_disjunction d in (r.0, plain r.1, r.2)

    from_disjunction : {y : G BExpr} {ts us : List Terminal} → Disjunction n ts y us → (e : F BExpr) × Disjunction m ts e us × (h.map e ≡ y)
    from_disjunction (disjunction a d) = let p = from_conjunction a in let r = from_disjunctions d p.0 p.2 in (r.0, disjunction p.1 r.1, r.2)

    from_disjunctions : {x y : G BExpr} {ts us : List Terminal} → Disjunctions n x ts y us →
        (e : F BExpr) → h.map e ≡ x → (f : F BExpr) × Disjunctions m e ts f us × (h.map f ≡ y)
    from_disjunctions no_or e s = (e, no_or, s)
    from_disjunctions (or {at} i a d) e s =
        let p = from_conjunction a in
        let r = from_disjunctions d (with_or m box_operations at e p.0) (pair_of m n h (box_operations.or at) s p.2) in
        (r.0, or i p.1 r.1, r.2)

    from_conjunction : {y : G BExpr} {ts us : List Terminal} → Conjunction n ts y us → (e : F BExpr) × Conjunction m ts e us × (h.map e ≡ y)
    from_conjunction (conjunction a d) = let p = from_comparison a in let r = from_conjunctions d p.0 p.2 in (r.0, conjunction p.1 r.1, r.2)

    from_conjunctions : {x y : G BExpr} {ts us : List Terminal} → Conjunctions n x ts y us →
        (e : F BExpr) → h.map e ≡ x → (f : F BExpr) × Conjunctions m e ts f us × (h.map f ≡ y)
    from_conjunctions no_and e s = (e, no_and, s)
    from_conjunctions (and {at} i a d) e s =
        let p = from_comparison a in
        let r = from_conjunctions d (with_and m box_operations at e p.0) (pair_of m n h (box_operations.and at) s p.2) in
        (r.0, and i p.1 r.1, r.2)

    from_comparison : {y : G BExpr} {ts us : List Terminal} → Comparison n ts y us → (e : F BExpr) × Comparison m ts e us × (h.map e ≡ y)
    from_comparison (no_compare a) = let p = from_sum a in (p.0, no_compare p.1, p.2)
    from_comparison (compare {at} {op} a i b) =
        let p = from_sum a in let q = from_sum b in
        (with_operator m box_operations op at p.0 q.0, compare p.1 i q.1, pair_of m n h (box_operations.op op at) p.2 q.2)

    from_sum : {y : G BExpr} {ts us : List Terminal} → Sum n ts y us → (e : F BExpr) × Sum m ts e us × (h.map e ≡ y)
    from_sum (sum a d) = let p = from_product a in let r = from_sums d p.0 p.2 in (r.0, sum p.1 r.1, r.2)

    from_sums : {x y : G BExpr} {ts us : List Terminal} → Sums n x ts y us →
        (e : F BExpr) → h.map e ≡ x → (f : F BExpr) × Sums m e ts f us × (h.map f ≡ y)
    from_sums no_sum e s = (e, no_sum, s)
    from_sums (add {at} {op} i a d) e s =
        let p = from_product a in
        let r = from_sums d (with_operator m box_operations op at e p.0) (pair_of m n h (box_operations.op op at) s p.2) in
        (r.0, add i p.1 r.1, r.2)

    from_product : {y : G BExpr} {ts us : List Terminal} → Product n ts y us → (e : F BExpr) × Product m ts e us × (h.map e ≡ y)
    from_product (product a d) = let p = from_operand a in let r = from_products d p.0 p.2 in (r.0, product p.1 r.1, r.2)

    from_products : {x y : G BExpr} {ts us : List Terminal} → Products n x ts y us →
        (e : F BExpr) → h.map e ≡ x → (f : F BExpr) × Products m e ts f us × (h.map f ≡ y)
    from_products no_product e s = (e, no_product, s)
    from_products (multiply {at} {op} i a d) e s =
        let p = from_operand a in
        let r = from_products d (with_operator m box_operations op at e p.0) (pair_of m n h (box_operations.op op at) s p.2) in
        (r.0, multiply i p.1 r.1, r.2)

    from_operand : {y : G BExpr} {ts us : List Terminal} → Operand n ts y us → (e : F BExpr) × Operand m ts e us × (h.map e ≡ y)
    from_operand (sign {at} {g} i a) =
        let p = from_operand a in (with_sign m box_operations g at p.0, sign i p.1, node_of m n h (box_operations.sign g at) p.2)
    from_operand number = (m.leaf _, number, h.of_leaf _)
    from_operand literal = (m.leaf _, literal, h.of_leaf _)
    from_operand tag = (m.leaf _, tag, h.of_leaf _)
    from_operand name = (m.leaf _, name, h.of_leaf _)
    from_operand (call {name = x} a) =
        let p = from_arguments a in (with_arguments m (Function x) p.0, call p.1, node_of m n h (applied (Function x)) p.2)
    from_operand (list {at} a) =
        let p = from_arguments a in (with_arguments m (Elements at) p.0, list p.1, node_of m n h (applied (Elements at)) p.2)
    from_operand (out {at} {n = i} a) =
        let p = from_arguments a in (with_arguments m (Variant at i) p.0, out p.1, node_of m n h (applied (Variant at i)) p.2)
    from_operand (parens a) = let p = from_sequence a in (m.parens p.0, parens p.1, parens_of m n h p.2)

    from_arguments : {b : Bracket} {y : G (List BExpr)} {ts us : List Terminal} → Arguments n b ts y us →
        (es : F (List BExpr)) × Arguments m b ts es us × (h.map es ≡ y)
    from_arguments (no_arguments i) = (no_parts m, no_arguments i, h.of_leaf [])
    from_arguments (arguments a d) =
        let p = from_box_expr a in
        let r = from_more_arguments d (with_part m (no_parts m) p.0) (row_of m n h (h.of_leaf []) p.2) in
        (r.0, arguments p.1 r.1, r.2)

    from_more_arguments : {b : Bracket} {x y : G (List BExpr)} {ts us : List Terminal} → MoreArguments n b x ts y us →
        (so_far : F (List BExpr)) → h.map so_far ≡ x → (es : F (List BExpr)) × MoreArguments m b so_far ts es us × (h.map es ≡ y)
    from_more_arguments (last_argument i) so_far s = (so_far, last_argument i, s)
    from_more_arguments (more_arguments a d) so_far s =
        let p = from_box_expr a in
        let r = from_more_arguments d (with_part m so_far p.0) (row_of m n h s p.2) in
        (r.0, more_arguments p.1 r.1, r.2)

    pub from_sequence : {y : G BExpr} {ts us : List Terminal} → Sequence n ts y us → (e : F BExpr) × Sequence m ts e us × (h.map e ≡ y)
    from_sequence (sequence a d) = let p = from_box_expr a in let r = from_steps d None p.0 refl p.2 in (r.0, sequence p.1 r.1, r.2)

    from_steps : {at : ℕ} {v : Option (G (List BExpr))} {x y : G BExpr} {ts us : List Terminal} → Steps n at v x ts y us →
        (o : Option (F (List BExpr))) (e : F BExpr) → steps_map o ≡ v → h.map e ≡ x →
        (f : F BExpr) × Steps m at o e ts f us × (h.map f ≡ y)
    from_steps (last_step {at}) o e s t = (sequence_of m at o e, last_step, of_sequence at o e ∙ rw (s, t) refl)
    from_steps (more_steps a d) o e s t =
        let p = from_box_expr a in
        let r = from_steps d (with_step m o e) p.0 (of_step o e ∙ rw (s, t) refl) p.2 in
        (r.0, more_steps p.1 r.1, r.2)
