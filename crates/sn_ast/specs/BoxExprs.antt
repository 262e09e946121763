-- The grammar of expressions in a box: which tokens spell which of them. In each relation the last list is what
-- follows. The operators of one level group to the left; comparisons do not chain.
use Rattle.std.specs.Prelude.{ℕ, ℤ, List, ◌∷◌, ◌≡◌, Option, Some, None, unsigned_abs}
use Rattle.sn_ast.specs.Measures.{Measuring}
use Rattle.sn_ast.specs.Operators.{box_operations, with_sign, with_operator, with_and, with_or}
use Rattle.sn_ast.specs.Rows.{no_parts, with_part}
use Rattle.sn_ast.specs.Terminals.{closing, infix_of, place_of, sign_of}
use Rattle.sn_ast.specs.declared.box_expr.BExpr.{BExpr}
use Rattle.sn_ast.specs.declared.box_expr.BForm.TheVariants as box_form
use Rattle.sn_ast.specs.declared.label.Ident.{Ident}
use Rattle.sn_ast.specs.declared.tag_expr.Operator.{Operator}
use Rattle.sn_ast.specs.declared.terminal.Bracket.{Bracket}
use Rattle.sn_ast.specs.declared.terminal.Bracket.TheVariants.{Paren, Square}
use Rattle.sn_ast.specs.declared.terminal.Infix.TheVariants.{Product as ProductSign, Sum as SumSign, Comparison as ComparisonSign, Conjunction as AndSign, Disjunction as OrSign}
use Rattle.sn_ast.specs.declared.terminal.Keyword.TheVariants.{If, Then, Else, Let, In, Out}
use Rattle.sn_ast.specs.declared.terminal.Sign.{Sign}
use Rattle.sn_ast.specs.declared.terminal.Symbol.{Symbol as SomeSymbol}
use Rattle.sn_ast.specs.declared.terminal.Symbol.TheVariants.{OpenParen, CloseParen, OpenBracket, Comma, Semicolon, Assign}
use Rattle.sn_ast.specs.declared.terminal.Terminal.{Terminal}
use Rattle.sn_ast.specs.declared.terminal.Terminal.TheVariants.{Name, Tag, Number, Literal, Keyword, Symbol}

abbrev pub bound : ℕ → Ident → BExpr → BExpr → BExpr
bound at name e f = record { at = at; form = box_form.Let name e f }

abbrev pub conditional : ℕ → BExpr → BExpr → BExpr → BExpr
conditional at c e f = record { at = at; form = box_form.If c e f }

-- What arguments are given to: a function by its name, an output variant by its number, or a list.
pub data Head : Type 0 where
  Function : Ident → Head
  Variant : ℕ → ℤ → Head
  Elements : ℕ → Head

abbrev pub applied : Head → List BExpr → BExpr
applied (Function name) es = record { at = name.at; form = box_form.Call name es }
applied (Variant at number) es = record { at = at; form = box_form.Out (unsigned_abs number) es }
applied (Elements at) es = record { at = at; form = box_form.ListLit es }

module _ {F : Type 0 → Type 0} (m : Measuring F) where
  abbrev pub with_binding : ℕ → Ident → F BExpr → F BExpr → F BExpr
  with_binding at name e f = m.raise (m.join (bound at name) e f)

  abbrev pub with_condition : ℕ → F BExpr → F BExpr → F BExpr → F BExpr
  with_condition at c e f = m.raise (m.join (λ g z. g z) (m.join (conditional at) c e) f)

  abbrev pub with_arguments : Head → F (List BExpr) → F BExpr
  with_arguments head es = m.raise (m.each (applied head) es)

  -- the part e after the parts so far, if there are any: e alone, or a sequence at the place
  abbrev pub sequence_of : ℕ → Option (F (List BExpr)) → F BExpr → F BExpr
  sequence_of at None e = e
  sequence_of at (Some so_far) e = m.raise (m.each (λ es. record { at = at; form = box_form.Seq es }) (with_part m so_far e))

  abbrev pub with_step : Option (F (List BExpr)) → F BExpr → Option (F (List BExpr))
  with_step None e = Some (with_part m (no_parts m) e)
  with_step (Some so_far) e = Some (with_part m so_far e)

mutual
  -- bexpr = "let" ID "=" bexpr "in" bexpr | "if" bexpr "then" bexpr "else" bexpr | or
  pub data BoxExpr {F : Type 0 → Type 0} (m : Measuring F) : List Terminal → F BExpr → List Terminal → Type 0 where
    bind : {at assign in_at : ℕ} {name : Ident} {e f : F BExpr} {ts us vs : List Terminal} →
        BoxExpr m ts e (Keyword In in_at ∷ us) → BoxExpr m us f vs →
        BoxExpr m (Keyword Let at ∷ Name name ∷ Symbol Assign assign ∷ ts) (with_binding m at name e f) vs
    choose : {at then_at else_at : ℕ} {c e f : F BExpr} {ts us vs ws : List Terminal} →
        BoxExpr m ts c (Keyword Then then_at ∷ us) → BoxExpr m us e (Keyword Else else_at ∷ vs) → BoxExpr m vs f ws →
        BoxExpr m (Keyword If at ∷ ts) (with_condition m at c e f) ws
    plain : {e : F BExpr} {ts us : List Terminal} → Disjunction m ts e us → BoxExpr m ts e us

  -- or = and { "||" and }
  pub data Disjunction {F : Type 0 → Type 0} (m : Measuring F) : List Terminal → F BExpr → List Terminal → Type 0 where
    disjunction : {e f : F BExpr} {ts us vs : List Terminal} → Conjunction m ts e us → Disjunctions m e us f vs → Disjunction m ts f vs

  pub data Disjunctions {F : Type 0 → Type 0} (m : Measuring F) : F BExpr → List Terminal → F BExpr → List Terminal → Type 0 where
    no_or : {e : F BExpr} {us : List Terminal} → Disjunctions m e us e us
    or : {at : ℕ} {s : SomeSymbol} {e f g : F BExpr} {ts us vs : List Terminal} →
        infix_of s ≡ Some OrSign → Conjunction m ts f us → Disjunctions m (with_or m box_operations at e f) us g vs →
        Disjunctions m e (Symbol s at ∷ ts) g vs

  -- and = comparison { "&&" comparison }
  pub data Conjunction {F : Type 0 → Type 0} (m : Measuring F) : List Terminal → F BExpr → List Terminal → Type 0 where
    conjunction : {e f : F BExpr} {ts us vs : List Terminal} → Comparison m ts e us → Conjunctions m e us f vs → Conjunction m ts f vs

  pub data Conjunctions {F : Type 0 → Type 0} (m : Measuring F) : F BExpr → List Terminal → F BExpr → List Terminal → Type 0 where
    no_and : {e : F BExpr} {us : List Terminal} → Conjunctions m e us e us
    and : {at : ℕ} {s : SomeSymbol} {e f g : F BExpr} {ts us vs : List Terminal} →
        infix_of s ≡ Some AndSign → Comparison m ts f us → Conjunctions m (with_and m box_operations at e f) us g vs →
        Conjunctions m e (Symbol s at ∷ ts) g vs

  -- comparison = sum [ ( "<" | "<=" | ">" | ">=" | "==" | "!=" ) sum ]
  pub data Comparison {F : Type 0 → Type 0} (m : Measuring F) : List Terminal → F BExpr → List Terminal → Type 0 where
    no_compare : {e : F BExpr} {ts us : List Terminal} → Sum m ts e us → Comparison m ts e us
    compare : {at : ℕ} {s : SomeSymbol} {op : Operator} {e f : F BExpr} {ts us vs : List Terminal} →
        Sum m ts e (Symbol s at ∷ us) → infix_of s ≡ Some (ComparisonSign op) → Sum m us f vs →
        Comparison m ts (with_operator m box_operations op at e f) vs

  -- sum = product { ( "+" | "-" ) product }
  pub data Sum {F : Type 0 → Type 0} (m : Measuring F) : List Terminal → F BExpr → List Terminal → Type 0 where
    sum : {e f : F BExpr} {ts us vs : List Terminal} → Product m ts e us → Sums m e us f vs → Sum m ts f vs

  pub data Sums {F : Type 0 → Type 0} (m : Measuring F) : F BExpr → List Terminal → F BExpr → List Terminal → Type 0 where
    no_sum : {e : F BExpr} {us : List Terminal} → Sums m e us e us
    add : {at : ℕ} {s : SomeSymbol} {op : Operator} {e f g : F BExpr} {ts us vs : List Terminal} →
        infix_of s ≡ Some (SumSign op) → Product m ts f us → Sums m (with_operator m box_operations op at e f) us g vs →
        Sums m e (Symbol s at ∷ ts) g vs

  -- product = operand { ( "*" | "/" | "%" ) operand }
  pub data Product {F : Type 0 → Type 0} (m : Measuring F) : List Terminal → F BExpr → List Terminal → Type 0 where
    product : {e f : F BExpr} {ts us vs : List Terminal} → Operand m ts e us → Products m e us f vs → Product m ts f vs

  pub data Products {F : Type 0 → Type 0} (m : Measuring F) : F BExpr → List Terminal → F BExpr → List Terminal → Type 0 where
    no_product : {e : F BExpr} {us : List Terminal} → Products m e us e us
    multiply : {at : ℕ} {s : SomeSymbol} {op : Operator} {e f g : F BExpr} {ts us vs : List Terminal} →
        infix_of s ≡ Some (ProductSign op) → Operand m ts f us → Products m (with_operator m box_operations op at e f) us g vs →
        Products m e (Symbol s at ∷ ts) g vs

  -- operand = ( "-" | "!" ) operand | NUMBER | TEXT | TAG | ID | ID "(" arguments ")" | "[" arguments "]"
  --         | "out" NUMBER "(" arguments ")" | "(" seq ")"
  pub data Operand {F : Type 0 → Type 0} (m : Measuring F) : List Terminal → F BExpr → List Terminal → Type 0 where
    sign : {at : ℕ} {s : SomeSymbol} {g : Sign} {e : F BExpr} {ts us : List Terminal} →
        sign_of s ≡ Some g → Operand m ts e us → Operand m (Symbol s at ∷ ts) (with_sign m box_operations g at e) us
    number : {n : ℤ} {at : ℕ} {us : List Terminal} →
        Operand m (Number n at ∷ us) (m.leaf (record { at = at; form = box_form.Number n })) us
    literal : {text : List ℕ} {at : ℕ} {us : List Terminal} →
        Operand m (Literal text at ∷ us) (m.leaf (record { at = at; form = box_form.TextLit text })) us
    tag : {name : Ident} {us : List Terminal} →
        Operand m (Tag name ∷ us) (m.leaf (record { at = name.at; form = box_form.Tag name })) us
    name : {name : Ident} {us : List Terminal} →
        Operand m (Name name ∷ us) (m.leaf (record { at = name.at; form = box_form.Name name })) us
    call : {at : ℕ} {name : Ident} {es : F (List BExpr)} {ts us : List Terminal} →
        Arguments m Paren ts es us → Operand m (Name name ∷ Symbol OpenParen at ∷ ts) (with_arguments m (Function name) es) us
    list : {at : ℕ} {es : F (List BExpr)} {ts us : List Terminal} →
        Arguments m Square ts es us → Operand m (Symbol OpenBracket at ∷ ts) (with_arguments m (Elements at) es) us
    out : {at number_at open_at : ℕ} {n : ℤ} {es : F (List BExpr)} {ts us : List Terminal} →
        Arguments m Paren ts es us →
        Operand m (Keyword Out at ∷ Number n number_at ∷ Symbol OpenParen open_at ∷ ts) (with_arguments m (Variant at n) es) us
    parens : {at close : ℕ} {e : F BExpr} {ts us : List Terminal} →
        Sequence m ts e (Symbol CloseParen close ∷ us) → Operand m (Symbol OpenParen at ∷ ts) (m.parens e) us

  -- arguments = [ bexpr { "," bexpr } ], and the closing bracket
  pub data Arguments {F : Type 0 → Type 0} (m : Measuring F) : Bracket → List Terminal → F (List BExpr) → List Terminal → Type 0 where
    no_arguments : {at : ℕ} {b : Bracket} {s : SomeSymbol} {us : List Terminal} → s ≡ closing b → Arguments m b (Symbol s at ∷ us) (no_parts m) us
    arguments : {b : Bracket} {e : F BExpr} {es : F (List BExpr)} {ts us vs : List Terminal} →
        BoxExpr m ts e us → MoreArguments m b (with_part m (no_parts m) e) us es vs → Arguments m b ts es vs

  -- { "," bexpr } and the closing bracket, after the arguments so far
  pub data MoreArguments {F : Type 0 → Type 0} (m : Measuring F) : Bracket → F (List BExpr) → List Terminal → F (List BExpr) → List Terminal → Type 0 where
    last_argument : {at : ℕ} {b : Bracket} {s : SomeSymbol} {es : F (List BExpr)} {us : List Terminal} →
        s ≡ closing b → MoreArguments m b es (Symbol s at ∷ us) es us
    more_arguments : {at : ℕ} {b : Bracket} {e : F BExpr} {so_far es : F (List BExpr)} {ts us vs : List Terminal} →
        BoxExpr m ts e us → MoreArguments m b (with_part m so_far e) us es vs → MoreArguments m b so_far (Symbol Comma at ∷ ts) es vs

  -- seq = bexpr { ";" bexpr }; the place of a sequence is that of its first token
  pub data Sequence {F : Type 0 → Type 0} (m : Measuring F) : List Terminal → F BExpr → List Terminal → Type 0 where
    sequence : {x : Terminal} {e f : F BExpr} {ts us vs : List Terminal} →
        BoxExpr m (x ∷ ts) e us → Steps m (place_of x) None e us f vs → Sequence m (x ∷ ts) f vs

  -- { ";" bexpr }, after the parts so far and then e
  pub data Steps {F : Type 0 → Type 0} (m : Measuring F) : ℕ → Option (F (List BExpr)) → F BExpr → List Terminal → F BExpr → List Terminal → Type 0 where
    last_step : {at : ℕ} {so_far : Option (F (List BExpr))} {e : F BExpr} {us : List Terminal} →
        Steps m at so_far e us (sequence_of m at so_far e) us
    more_steps : {at semicolon : ℕ} {so_far : Option (F (List BExpr))} {e f g : F BExpr} {ts us vs : List Terminal} →
        BoxExpr m ts f us → Steps m at (with_step m so_far e) f us g vs → Steps m at so_far e (Symbol Semicolon semicolon ∷ ts) g vs
