-- Operators that take Ints alone.
use Rattle.std.proofs.Common.{◌≡◌, refl}
use Rattle.sn_record.specs.declared.value.Value.{Value}
use Rattle.sn_tagexpr.specs.declared.expr.BinOp.{BinOp}
use Rattle.sn_tagexpr.specs.declared.expr.BinOp.TheVariants.{Add, Sub, Mul, Div, Rem, Lt, Le, Gt, Ge, Eq, Ne}
use Rattle.sn_tagexpr.specs.Operators.{operated}
use Rattle.sn_net.specs.BoxValues.{combined, computed, number, onward}

pub of_numbers : (op : BinOp) (v w : Value) → (op ≡ Eq → ⊥) → (op ≡ Ne → ⊥) → combined op v w ≡ onward (number v) (λ m. onward (number w) (λ n. computed (operated op m n)))
of_numbers Add v w not_eq not_ne = refl
of_numbers Sub v w not_eq not_ne = refl
of_numbers Mul v w not_eq not_ne = refl
of_numbers Div v w not_eq not_ne = refl
of_numbers Rem v w not_eq not_ne = refl
of_numbers Lt v w not_eq not_ne = refl
of_numbers Le v w not_eq not_ne = refl
of_numbers Gt v w not_eq not_ne = refl
of_numbers Ge v w not_eq not_ne = refl
of_numbers Eq v w not_eq not_ne = absurd (not_eq refl)
of_numbers Ne v w not_eq not_ne = absurd (not_ne refl)
