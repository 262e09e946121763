-- What a value made of its variant is, and values that may stand at a label.
use Rattle.std.proofs.Common.{◌≡◌, ◌+◌, ℕ, ℤ, Bool, true, List, length, map, sum, sym, ap, ◌∙◌, subst, arith}
use Rattle.sn_record.specs.declared.label.Kind.TheVariants.{Field}
use Rattle.sn_record.specs.declared.label.Label.{Label}
use Rattle.sn_record.specs.declared.value.Value.{Value}
use Rattle.sn_record.specs.declared.value.Value.TheOpen.{Value-F}
use Rattle.sn_record.specs.declared.value.Value.TheViews.{out-Value, out-roll-Value}
use Rattle.sn_record.specs.declared.value.Value.TheFolds.{fold-roll-Value}
use Rattle.sn_record.specs.declared.value.Value.TheVariants.{Int, Text, List as Many, rolls-Int, rolls-Text, rolls-List}
use Rattle.sn_record.specs.Value.{nesting, nesting_step, weight, weight_step, is_printable, printable_step, is_printable_text, greatest, every, IsSound}
use Rattle.sn_record.specs.Record.{FitsLabel, IsInt}

pub nesting-Int : (n : ℤ) → nesting (Int n) ≡ 0
nesting-Int n = ap nesting (sym (rolls-Int n)) ∙ fold-roll-Value ℕ nesting_step (Value-F.Int n)

pub nesting-Text : (t : List ℕ) → nesting (Text t) ≡ 0
nesting-Text t = ap nesting (sym (rolls-Text t)) ∙ fold-roll-Value ℕ nesting_step (Value-F.Text t)

pub nesting-List : (vs : List Value) → nesting (Many vs) ≡ greatest (map nesting vs) + 1
nesting-List vs = ap nesting (sym (rolls-List vs)) ∙ fold-roll-Value ℕ nesting_step (Value-F.List vs)

pub weight-Int : (n : ℤ) → weight (Int n) ≡ 1
weight-Int n = ap weight (sym (rolls-Int n)) ∙ fold-roll-Value ℕ weight_step (Value-F.Int n)

pub weight-Text : (t : List ℕ) → weight (Text t) ≡ 1 + length t
weight-Text t = ap weight (sym (rolls-Text t)) ∙ fold-roll-Value ℕ weight_step (Value-F.Text t)

pub weight-List : (vs : List Value) → weight (Many vs) ≡ 1 + sum (map weight vs)
weight-List vs = ap weight (sym (rolls-List vs)) ∙ fold-roll-Value ℕ weight_step (Value-F.List vs)

pub is_printable-Int : (n : ℤ) → is_printable (Int n) ≡ true
is_printable-Int n = ap is_printable (sym (rolls-Int n)) ∙ fold-roll-Value Bool printable_step (Value-F.Int n)

pub is_printable-Text : (t : List ℕ) → is_printable (Text t) ≡ is_printable_text t
is_printable-Text t = ap is_printable (sym (rolls-Text t)) ∙ fold-roll-Value Bool printable_step (Value-F.Text t)

pub is_printable-List : (vs : List Value) → is_printable (Many vs) ≡ every (map is_printable vs)
is_printable-List vs = ap is_printable (sym (rolls-List vs)) ∙ fold-roll-Value Bool printable_step (Value-F.List vs)

-- each Int is sound
pub IsSound-Int : (n : ℤ) → IsSound (Int n)
IsSound-Int n = record { shallow = omega (arith, nesting-Int n); light = omega (arith, weight-Int n); printable = is_printable-Int n }

IsInt-Int : (n : ℤ) → IsInt (out-Value (Int n))
IsInt-Int n = subst (λ v. IsInt (out-Value v)) (rolls-Int n) (subst IsInt (sym (out-roll-Value (Value-F.Int n))) tt)

-- an Int may stand at each label
pub FitsLabel-Int : (l : Label) (n : ℤ) → FitsLabel l (Int n)
FitsLabel-Int l n = record { sound = IsSound-Int n; tag = λ _. IsInt-Int n }

-- a sound value may stand at a field
pub FitsLabel-Field : (l : Label) (v : Value) → l.kind ≡ Field → IsSound v → FitsLabel l v
FitsLabel-Field l v field sound = record { sound = sound; tag = λ tag. cc }
