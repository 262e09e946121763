-- What an operand completes, and what then stands before the next one.
use Rattle.std.specs.Prelude.{ℕ, List, [], ◌∷◌, Option, Some, None}
use Rattle.sn_ast.specs.Kept.{Kept, kept}
use Rattle.sn_ast.specs.Operators.{Operations, with_sign, with_operator, with_and, with_or}
use Rattle.sn_ast.specs.declared.tag_expr.Operator.{Operator}
use Rattle.sn_ast.specs.declared.terminal.Infix.{Infix}
use Rattle.sn_ast.specs.declared.terminal.Infix.TheVariants.{Product, Sum, Comparison, Conjunction, Disjunction}
use Rattle.sn_ast.specs.declared.terminal.Sign.{Sign}
use Rattle.sn_expr_parser.specs.declared.level.Level.{Level}

-- where an expression begins
abbrev pub fresh : {E : Type 0} → Level E
fresh = record { or = None; and = None; comparison = None; sum = None; product = None; signs = [] }

-- the level after one more sign
abbrev pub with_next_sign : {E : Type 0} → Level E → Sign → ℕ → Level E
with_next_sign l sign at = record l { signs = (sign, at) ∷ l.signs }

module _ {E : Type 0} (o : Operations E) where
  -- the operand with the signs before it, of which the last stands first
  abbrev pub signed : List (Sign × ℕ) → Kept E → Kept E
  signed [] e = e
  signed (s ∷ signs) e = signed signs (with_sign kept o s.0 s.1 e)

  -- the part with what waits for it on its left
  abbrev pub operated : Option (Kept E × Operator × ℕ) → Kept E → Kept E
  operated None e = e
  operated (Some left) e = with_operator kept o left.1 left.2 left.0 e

  abbrev pub conjoined : Option (Kept E × ℕ) → Kept E → Kept E
  conjoined None e = e
  conjoined (Some left) e = with_and kept o left.1 left.0 e

  abbrev pub disjoined : Option (Kept E × ℕ) → Kept E → Kept E
  disjoined None e = e
  disjoined (Some left) e = with_or kept o left.1 left.0 e

  -- the sum that the operand e completes
  abbrev pub sum_of : Option (Kept E × Operator × ℕ) → Option (Kept E × Operator × ℕ) → List (Sign × ℕ) → Kept E → Kept E
  sum_of sum product signs e = operated sum (operated product (signed signs e))

  -- what the operand e completes in a level: a product, a sum, a comparison, a conjunction, a disjunction
  abbrev pub product_in : Level E → Kept E → Kept E
  product_in l e = operated l.product (signed l.signs e)

  abbrev pub sum_in : Level E → Kept E → Kept E
  sum_in l e = sum_of l.sum l.product l.signs e

  abbrev pub comparison_in : Level E → Kept E → Kept E
  comparison_in l e = operated l.comparison (sum_in l e)

  abbrev pub and_in : Level E → Kept E → Kept E
  and_in l e = conjoined l.and (comparison_in l e)

  abbrev pub or_in : Level E → Kept E → Kept E
  or_in l e = disjoined l.or (and_in l e)

  -- the level after the operand e and an operator
  abbrev pub after_product : Level E → Operator → ℕ → Kept E → Level E
  after_product l op at e = record {
    or = l.or;
    and = l.and;
    comparison = l.comparison;
    sum = l.sum;
    product = Some (product_in l e, op, at);
    signs = [];
  }

  abbrev pub after_sum : Level E → Operator → ℕ → Kept E → Level E
  after_sum l op at e = record {
    or = l.or;
    and = l.and;
    comparison = l.comparison;
    sum = Some (sum_in l e, op, at);
    product = None;
    signs = [];
  }

  abbrev pub compared : Level E → Operator → ℕ → Kept E → Level E
  compared l op at e = record {
    or = l.or;
    and = l.and;
    comparison = Some (sum_in l e, op, at);
    sum = None;
    product = None;
    signs = [];
  }

  -- comparisons do not chain: none may wait for its right side
  abbrev pub after_comparison : Level E → Operator → ℕ → Kept E → Option (Level E)
  after_comparison l op at e = elim l.comparison [ None ↦ Some (compared l op at e) | Some left ↦ None ]

  abbrev pub after_and : Level E → ℕ → Kept E → Level E
  after_and l at e = record {
    or = l.or;
    and = Some (and_in l e, at);
    comparison = None;
    sum = None;
    product = None;
    signs = [];
  }

  abbrev pub after_or : Level E → ℕ → Kept E → Level E
  after_or l at e = record {
    or = Some (or_in l e, at);
    and = None;
    comparison = None;
    sum = None;
    product = None;
    signs = [];
  }

  -- the same by what the operator is, if it may follow
  abbrev pub after : Level E → Infix → ℕ → Kept E → Option (Level E)
  after l (Product op) at e = Some (after_product l op at e)
  after l (Sum op) at e = Some (after_sum l op at e)
  after l (Comparison op) at e = after_comparison l op at e
  after l Conjunction at e = Some (after_and l at e)
  after l Disjunction at e = Some (after_or l at e)
