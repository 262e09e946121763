-- The grammar of expressions over tags: which tokens spell which of them. In each relation the last list is what
-- follows. The operators of one level group to the left; comparisons do not chain.
use Rattle.std.specs.Prelude.{ℕ, ℤ, List, ◌∷◌, ◌≡◌, Some}
use Rattle.sn_ast.specs.Measures.{Measuring}
use Rattle.sn_ast.specs.Operators.{tag_operations, with_sign, with_operator, with_and, with_or}
use Rattle.sn_ast.specs.Terminals.{infix_of, sign_of}
use Rattle.sn_ast.specs.declared.label.Ident.{Ident}
use Rattle.sn_ast.specs.declared.tag_expr.Operator.{Operator}
use Rattle.sn_ast.specs.declared.tag_expr.TExpr.{TExpr}
use Rattle.sn_ast.specs.declared.tag_expr.TForm.TheVariants as tag_form
use Rattle.sn_ast.specs.declared.terminal.Infix.TheVariants.{Product as ProductSign, Sum as SumSign, Comparison as ComparisonSign, Conjunction as AndSign, Disjunction as OrSign}
use Rattle.sn_ast.specs.declared.terminal.Sign.{Sign}
use Rattle.sn_ast.specs.declared.terminal.Symbol.{Symbol as SomeSymbol}
use Rattle.sn_ast.specs.declared.terminal.Symbol.TheVariants.{OpenParen, CloseParen, Question, Colon}
use Rattle.sn_ast.specs.declared.terminal.Terminal.{Terminal}
use Rattle.sn_ast.specs.declared.terminal.Terminal.TheVariants.{Number, Tag, Symbol}

abbrev pub conditional : ℕ → TExpr → TExpr → TExpr → TExpr
conditional at c e f = record { at = at; form = tag_form.Cond c e f }

abbrev pub with_condition : {F : Type 0 → Type 0} → Measuring F → ℕ → F TExpr → F TExpr → F TExpr → F TExpr
with_condition m at c e f = m.raise (m.join (λ g z. g z) (m.join (conditional at) c e) f)

mutual
  -- texpr = or [ "?" texpr ":" texpr ]
  pub data TagExpr {F : Type 0 → Type 0} (m : Measuring F) : List Terminal → F TExpr → List Terminal → Type 0 where
    plain : {e : F TExpr} {ts us : List Terminal} → Disjunction m ts e us → TagExpr m ts e us
    choose : {at colon : ℕ} {c e f : F TExpr} {ts us vs ws : List Terminal} →
        Disjunction m ts c (Symbol Question at ∷ us) → TagExpr m us e (Symbol Colon colon ∷ vs) → TagExpr m vs f ws →
        TagExpr m ts (with_condition m at c e f) ws

  -- or = and { "||" and }
  pub data Disjunction {F : Type 0 → Type 0} (m : Measuring F) : List Terminal → F TExpr → List Terminal → Type 0 where
    disjunction : {e f : F TExpr} {ts us vs : List Terminal} → Conjunction m ts e us → Disjunctions m e us f vs → Disjunction m ts f vs

  pub data Disjunctions {F : Type 0 → Type 0} (m : Measuring F) : F TExpr → List Terminal → F TExpr → List Terminal → Type 0 where
    no_or : {e : F TExpr} {us : List Terminal} → Disjunctions m e us e us
    or : {at : ℕ} {s : SomeSymbol} {e f g : F TExpr} {ts us vs : List Terminal} →
        infix_of s ≡ Some OrSign → Conjunction m ts f us → Disjunctions m (with_or m tag_operations at e f) us g vs →
        Disjunctions m e (Symbol s at ∷ ts) g vs

  -- and = comparison { "&&" comparison }
  pub data Conjunction {F : Type 0 → Type 0} (m : Measuring F) : List Terminal → F TExpr → List Terminal → Type 0 where
    conjunction : {e f : F TExpr} {ts us vs : List Terminal} → Comparison m ts e us → Conjunctions m e us f vs → Conjunction m ts f vs

  pub data Conjunctions {F : Type 0 → Type 0} (m : Measuring F) : F TExpr → List Terminal → F TExpr → List Terminal → Type 0 where
    no_and : {e : F TExpr} {us : List Terminal} → Conjunctions m e us e us
    and : {at : ℕ} {s : SomeSymbol} {e f g : F TExpr} {ts us vs : List Terminal} →
        infix_of s ≡ Some AndSign → Comparison m ts f us → Conjunctions m (with_and m tag_operations at e f) us g vs →
        Conjunctions m e (Symbol s at ∷ ts) g vs

  -- comparison = sum [ ( "<" | "<=" | ">" | ">=" | "==" | "!=" ) sum ]
  pub data Comparison {F : Type 0 → Type 0} (m : Measuring F) : List Terminal → F TExpr → List Terminal → Type 0 where
    no_compare : {e : F TExpr} {ts us : List Terminal} → Sum m ts e us → Comparison m ts e us
    compare : {at : ℕ} {s : SomeSymbol} {op : Operator} {e f : F TExpr} {ts us vs : List Terminal} →
        Sum m ts e (Symbol s at ∷ us) → infix_of s ≡ Some (ComparisonSign op) → Sum m us f vs →
        Comparison m ts (with_operator m tag_operations op at e f) vs

  -- sum = product { ( "+" | "-" ) product }
  pub data Sum {F : Type 0 → Type 0} (m : Measuring F) : List Terminal → F TExpr → List Terminal → Type 0 where
    sum : {e f : F TExpr} {ts us vs : List Terminal} → Product m ts e us → Sums m e us f vs → Sum m ts f vs

  pub data Sums {F : Type 0 → Type 0} (m : Measuring F) : F TExpr → List Terminal → F TExpr → List Terminal → Type 0 where
    no_sum : {e : F TExpr} {us : List Terminal} → Sums m e us e us
    add : {at : ℕ} {s : SomeSymbol} {op : Operator} {e f g : F TExpr} {ts us vs : List Terminal} →
        infix_of s ≡ Some (SumSign op) → Product m ts f us → Sums m (with_operator m tag_operations op at e f) us g vs →
        Sums m e (Symbol s at ∷ ts) g vs

  -- product = operand { ( "*" | "/" | "%" ) operand }
  pub data Product {F : Type 0 → Type 0} (m : Measuring F) : List Terminal → F TExpr → List Terminal → Type 0 where
    product : {e f : F TExpr} {ts us vs : List Terminal} → Operand m ts e us → Products m e us f vs → Product m ts f vs

  pub data Products {F : Type 0 → Type 0} (m : Measuring F) : F TExpr → List Terminal → F TExpr → List Terminal → Type 0 where
    no_product : {e : F TExpr} {us : List Terminal} → Products m e us e us
    multiply : {at : ℕ} {s : SomeSymbol} {op : Operator} {e f g : F TExpr} {ts us vs : List Terminal} →
        infix_of s ≡ Some (ProductSign op) → Operand m ts f us → Products m (with_operator m tag_operations op at e f) us g vs →
        Products m e (Symbol s at ∷ ts) g vs

  -- operand = ( "-" | "!" ) operand | NUMBER | TAG | "(" texpr ")"
  pub data Operand {F : Type 0 → Type 0} (m : Measuring F) : List Terminal → F TExpr → List Terminal → Type 0 where
    sign : {at : ℕ} {s : SomeSymbol} {g : Sign} {e : F TExpr} {ts us : List Terminal} →
        sign_of s ≡ Some g → Operand m ts e us → Operand m (Symbol s at ∷ ts) (with_sign m tag_operations g at e) us
    number : {n : ℤ} {at : ℕ} {us : List Terminal} →
        Operand m (Number n at ∷ us) (m.leaf (record { at = at; form = tag_form.Number n })) us
    tag : {name : Ident} {us : List Terminal} →
        Operand m (Tag name ∷ us) (m.leaf (record { at = name.at; form = tag_form.Tag name })) us
    parens : {at close : ℕ} {e : F TExpr} {ts us : List Terminal} →
        TagExpr m ts e (Symbol CloseParen close ∷ us) → Operand m (Symbol OpenParen at ∷ ts) (m.parens e) us
