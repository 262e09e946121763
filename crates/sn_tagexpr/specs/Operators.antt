-- What the operators give of numbers of 64 bits.
use Rattle.std.specs.Prelude.{◌^◌, ℤ, pos, negsuc, neg_ℤ, ◌+ℤ◌, ◌-ℤ◌, ◌*ℤ◌, int_lt, int_div, int_rem, Bool, not, nat_lt, if◌then◌else◌, Result, Ok, Err}
use Rattle.std.specs.Ordering.{int_eq}
use Rattle.sn_tagexpr.specs.declared.expr.BinOp.{BinOp}
use Rattle.sn_tagexpr.specs.declared.expr.BinOp.TheVariants.{Add, Sub, Mul, Div, Rem, Lt, Le, Gt, Ge, Eq, Ne}
use Rattle.sn_tagexpr.specs.declared.fault.ExprFault.{ExprFault}
use Rattle.sn_tagexpr.specs.declared.fault.ExprFault.TheVariants.{Overflow, DivZero}

-- from -9223372036854775808 to 9223372036854775807
abbrev pub is_within : ℤ → Bool
is_within (pos n) = nat_lt n (2 ^ 63)
is_within (negsuc n) = nat_lt n (2 ^ 63)

-- the number, where it is in range
abbrev pub within : ℤ → Result ℤ ExprFault
within n = if is_within n then Ok n else Err Overflow

abbrev pub is_zero : ℤ → Bool
is_zero n = int_eq n (pos 0)

-- 1 or 0
abbrev pub truth : Bool → ℤ
truth b = if b then pos 1 else pos 0

-- what an operator gives: `/` cuts the quotient toward zero, and `%` gives the rest with the sign of the left number
abbrev pub operated : BinOp → ℤ → ℤ → Result ℤ ExprFault
operated Add a b = within (a +ℤ b)
operated Sub a b = within (a -ℤ b)
operated Mul a b = within (a *ℤ b)
operated Div a b = if is_zero b then Err DivZero else within (int_div a b)
operated Rem a b = if is_zero b then Err DivZero else Ok (int_rem a b)
operated Lt a b = Ok (truth (int_lt a b))
operated Le a b = Ok (truth (not (int_lt b a)))
operated Gt a b = Ok (truth (int_lt b a))
operated Ge a b = Ok (truth (not (int_lt a b)))
operated Eq a b = Ok (truth (int_eq a b))
operated Ne a b = Ok (truth (not (int_eq a b)))

abbrev pub negated : ℤ → Result ℤ ExprFault
negated n = within (neg_ℤ n)
