-- What the operators and the built-in functions of a box give of values, or their fault.
use Rattle.std.specs.Prelude.{ℕ, ℤ, pos, negsuc, Bool, true, false, not, ◌&&◌, nat_le, if◌then◌else◌, List, [], ◌∷◌, ◌++◌, length, take, drop, slice_get, Option, None, Some, Result, Ok, Err}
use Rattle.std.specs.Ordering.{int_eq}
use Rattle.std.specs.Str.{bytes_eq}
use Rattle.std.specs.Option.{option_map}
use Rattle.std.specs.Fmt.{signed_decimal}
use Rattle.sn_record.specs.declared.item.FaultKind.{FaultKind}
use Rattle.sn_record.specs.declared.item.FaultKind.TheVariants.{Kind, Index}
use Rattle.sn_record.specs.declared.value.Value.{Value, fold-Value}
use Rattle.sn_record.specs.declared.value.Value.TheOpen.{Value-F}
use Rattle.sn_record.specs.declared.value.Value.TheViews.{out-Value}
use Rattle.sn_record.specs.declared.value.Value.TheVariants.{Int, «Text», «List» as ListOf}
use Rattle.sn_record.specs.Value.{nesting, weight, is_printable}
use Rattle.sn_tagexpr.specs.declared.expr.BinOp.{BinOp}
use Rattle.sn_tagexpr.specs.declared.expr.BinOp.TheVariants as op
use Rattle.sn_tagexpr.specs.declared.fault.ExprFault.{ExprFault}
use Rattle.sn_tagexpr.specs.Operators.{operated, negated, is_zero, truth}
use Rattle.sn_net.specs.declared.expr.BuiltinKind.{BuiltinKind}
use Rattle.sn_net.specs.declared.expr.BuiltinKind.TheVariants as builtin
use Rattle.sn_net.specs.Answer.{fault_kind}

-- a value, or why there is none
abbrev pub Given : Type 0
Given = Result Value FaultKind

-- the fault, or what comes of what was given
abbrev pub onward : {A B : Type 0} → Result A FaultKind → (A → Result B FaultKind) → Result B FaultKind
onward (Ok x) next = next x
onward (Err fault) next = Err fault

-- what is there, or the fault
abbrev pub there_or : {A : Type 0} → FaultKind → Option A → Result A FaultKind
there_or fault (Some x) = Ok x
there_or fault None = Err fault

-- whether a record may hold the value
abbrev pub is_sound : Value → Bool
is_sound v = nat_le (nesting v) 32 && (nat_le (weight v) 65536 && is_printable v)

-- the value, where it is neither nested too deep nor too heavy
abbrev pub fitting : Value → Given
fitting v = if is_sound v then Ok v else Err Index

-- the number of an Int
abbrev pub number_in : Value-F Value → Result ℤ FaultKind
number_in (Value-F.Int n) = Ok n
number_in (Value-F.Text text) = Err Kind
number_in (Value-F.List values) = Err Kind

abbrev pub number : Value → Result ℤ FaultKind
number v = number_in (out-Value v)

-- whether an Int is not 0
abbrev pub condition : Value → Result Bool FaultKind
condition v = onward (number v) (λ n. Ok (not (is_zero n)))

-- 1 or 0
abbrev pub truth_value : Bool → Value
truth_value b = Int (truth b)

-- what was computed of numbers, as a value
abbrev pub computed : Result ℤ ExprFault → Given
computed (Ok n) = Ok (Int n)
computed (Err fault) = Err (fault_kind fault)

-- `-v`
abbrev pub negative : Value → Given
negative v = onward (number v) (λ n. computed (negated n))

-- `!v`
abbrev pub opposite : Value → Given
opposite v = onward (condition v) (λ b. Ok (truth_value (not b)))

-- 1 where the value is not 0, else 0
abbrev pub truth_of : Value → Given
truth_of v = onward (condition v) (λ b. Ok (truth_value b))

-- as many on both sides, each equal to the one at its place
abbrev pub all_equal : List (Value → Bool) → List Value → Bool
all_equal [] [] = true
all_equal (is_one ∷ more) (v ∷ vs) = is_one v && all_equal more vs
all_equal [] (v ∷ vs) = false
all_equal (is_one ∷ more) [] = false

-- one level, with the test of each element in its place
abbrev pub equal_step : Value-F (Value → Bool) → Value-F Value → Bool
equal_step (Value-F.Int m) (Value-F.Int n) = int_eq m n
equal_step (Value-F.Text s) (Value-F.Text t) = bytes_eq s t
equal_step (Value-F.List tests) (Value-F.List vs) = all_equal tests vs
equal_step test other = false

-- whether two values are of one kind and equal
abbrev pub are_equal : Value → Value → Bool
are_equal = fold-Value (Value → Bool) (λ test v. equal_step test (out-Value v))

-- what an operator gives: values of all kinds are compared by `==` and `!=`, and the others take Ints alone
abbrev pub combined : BinOp → Value → Value → Given
combined op.Eq v w = Ok (truth_value (are_equal v w))
combined op.Ne v w = Ok (truth_value (not (are_equal v w)))
combined op v w = onward (number v) (λ m. onward (number w) (λ n. computed (operated op m n)))

-- how many bytes or elements there are
abbrev pub length_in : Value-F Value → Result ℕ FaultKind
length_in (Value-F.Int n) = Err Kind
length_in (Value-F.Text text) = Ok (length text)
length_in (Value-F.List values) = Ok (length values)

-- the element at the place, counted from 0
abbrev pub element : {A : Type 0} → List A → ℤ → Option A
element xs (pos i) = slice_get xs i
element xs (negsuc i) = None

-- an element of a List, or a byte of a Text as an Int
abbrev pub element_in : Value-F Value → ℤ → Given
element_in (Value-F.Int n) i = Err Kind
element_in (Value-F.Text text) i = there_or Index (option_map (λ byte. Int (pos byte)) (element text i))
element_in (Value-F.List values) i = there_or Index (element values i)

-- the elements from one place up to before another, which stand in order within the list
abbrev pub section : {A : Type 0} → List A → ℤ → ℤ → Option (List A)
section xs (pos i) (pos j) = if nat_le i j && nat_le j (length xs) then Some (drop i (take j xs)) else None
section xs i j = None

abbrev pub section_in : Value-F Value → ℤ → ℤ → Given
section_in (Value-F.Int n) i j = Err Kind
section_in (Value-F.Text text) i j = there_or Index (option_map (λ part. «Text» part) (section text i j))
section_in (Value-F.List values) i j = there_or Index (option_map (λ part. ListOf part) (section values i j))

-- two Texts or two Lists, put together
abbrev pub joined_in : Value-F Value → Value-F Value → Given
joined_in (Value-F.Text s) (Value-F.Text t) = fitting («Text» (s ++ t))
joined_in (Value-F.List vs) (Value-F.List ws) = fitting (ListOf (vs ++ ws))
joined_in x y = Err Kind

-- a List with one more element behind the others
abbrev pub pushed_in : Value-F Value → Value → Given
pushed_in (Value-F.Int n) v = Err Kind
pushed_in (Value-F.Text text) v = Err Kind
pushed_in (Value-F.List values) v = fitting (ListOf (values ++ v ∷ []))

-- the number that stands for the kind of a value
abbrev pub kind_in : Value-F Value → ℕ
kind_in (Value-F.Int n) = 0
kind_in (Value-F.Text text) = 1
kind_in (Value-F.List values) = 2

-- what a function that every box has gives of its arguments. Closed programs call none with another number of them
abbrev pub built_in : BuiltinKind → List Value → Given
built_in builtin.Len (x ∷ []) = onward (length_in (out-Value x)) (λ n. Ok (Int (pos n)))
built_in builtin.At (x ∷ i ∷ []) = onward (number i) (element_in (out-Value x))
built_in builtin.Slice (x ∷ i ∷ j ∷ []) = onward (number i) (λ m. onward (number j) (section_in (out-Value x) m))
built_in builtin.Join (x ∷ y ∷ []) = joined_in (out-Value x) (out-Value y)
built_in builtin.Push (x ∷ v ∷ []) = pushed_in (out-Value x) v
built_in builtin.«Text» (i ∷ []) = onward (number i) (λ n. Ok («Text» (signed_decimal n)))
built_in builtin.Kind (x ∷ []) = Ok (Int (pos (kind_in (out-Value x))))
built_in function others = Err Kind
