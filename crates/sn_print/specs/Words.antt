-- The texts of words, and how texts are put together.
use Rattle.std.specs.Prelude.{ℕ, zero, suc, Bool, List, [], ◌∷◌, ◌++◌, codes, if◌then◌else◌}
use Rattle.std.specs.List.{flat_map}
use Rattle.sn_ast.specs.declared.tag_expr.Operator.{Operator}
use Rattle.sn_ast.specs.declared.tag_expr.Operator.TheVariants.{Add, Sub, Mul, Div, Rem, Lt, Le, Gt, Ge, Eq, Ne}

-- texts with a separator between any two
abbrev pub joined : List ℕ → List (List ℕ) → List ℕ
joined separator [] = []
joined separator (text ∷ more) = text ++ flat_map (λ next. separator ++ next) more

-- what stands before a text at a place
abbrev pub led_by : List ℕ → ℕ → List ℕ
led_by separator zero = []
led_by separator (suc i) = separator

abbrev pub in_parentheses : List ℕ → List ℕ
in_parentheses text = codes "(" ++ (text ++ codes ")")

-- a tag by its name
abbrev pub in_angles : List ℕ → List ℕ
in_angles name = codes "<" ++ (name ++ codes ">")

-- the operators between operands, with a blank on each side
abbrev pub operator_text : Operator → List ℕ
operator_text Add = codes " + "
operator_text Sub = codes " - "
operator_text Mul = codes " * "
operator_text Div = codes " / "
operator_text Rem = codes " % "
operator_text Lt = codes " < "
operator_text Le = codes " <= "
operator_text Gt = codes " > "
operator_text Ge = codes " >= "
operator_text Eq = codes " == "
operator_text Ne = codes " != "

-- an operator, which is doubled where it is deterministic
abbrev pub chosen : Bool → List ℕ → List ℕ → List ℕ
chosen det doubled single = if det then doubled else single
