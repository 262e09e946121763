-- What fits, by its parts.
use Rattle.std.proofs.Common.{◌≡◌, ◌∙◌, ◌+◌, ◌-◌, ◌<◌, ℕ, ℤ, Bool, true, false, IsTrue, ◌&&◌, List, [], ◌∷◌, length, map, sum, arith, refl, sym}
use Rattle.std.proofs.lemmas.List.Sums.{sum_by-cons}
use Rattle.sn_record.specs.Value.{FitsIn, IsSound, every, is_printable, weight}
use Rattle.sn_record.specs.declared.value.Value.{Value}
use Rattle.sn_record.specs.declared.value.Value.TheVariants as value
use Rattle.sn_record.proofs.Values.{nesting-Int, nesting-Text, nesting-List, weight-Int, weight-Text, weight-List, is_printable-Int, is_printable-List}
use Rattle.sn_record_parser.specs.Answers.{FitTogether}

both_true : (a b : Bool) → IsTrue (a && b) → IsTrue a × IsTrue b
both_true true true h = (refl, refl)
both_true true false h = absurd cc
both_true false b h = absurd cc

true_both : (a b : Bool) → IsTrue a → IsTrue b → IsTrue (a && b)
true_both true true p q = refl
true_both true false p q = absurd cc
true_both false b p q = absurd cc

sum_cons : (n : ℕ) (ns : List ℕ) → sum (n ∷ ns) ≡ n + sum ns
sum_cons n ns = sum_by-cons (λ k. k) n ns

pub fits_Int : {levels room : ℕ} (n : ℤ) → 0 < room → FitsIn levels room (value.Int n)
fits_Int n h = record { shallow = omega (arith, nesting-Int n); light = omega (arith, weight-Int n); printable = is_printable-Int n }

pub fits_Text : {levels room : ℕ} (t : List ℕ) → length t < room → IsSound (value.Text t) → FitsIn levels room (value.Text t)
fits_Text t h s = record { shallow = omega (arith, nesting-Text t); light = omega (arith, weight-Text t); printable = s.printable }

pub fits_none : {levels room : ℕ} → FitTogether levels room []
fits_none = record { shallow = omega arith; light = omega arith; printable = refl }

pub fits_more : {levels room left : ℕ} {v : Value} {vs : List Value} → FitsIn levels room v → weight v + left ≡ room → FitTogether levels left vs → FitTogether levels room (v ∷ vs)
fits_more {v = v} {vs = vs} f e g = record {
  shallow = omega (arith, f.shallow, g.shallow);
  light = omega (arith, g.light, sum_cons (weight v) (map weight vs));
  printable = true_both (is_printable v) (every (map is_printable vs)) f.printable g.printable;
}

pub fits_first : {levels room : ℕ} {v : Value} {vs : List Value} → FitTogether levels room (v ∷ vs) → FitsIn levels room v
fits_first {v = v} {vs = vs} f = record {
  shallow = omega (arith, f.shallow);
  light = omega (arith, f.light, sum_cons (weight v) (map weight vs));
  printable = (both_true (is_printable v) (every (map is_printable vs)) f.printable).0;
}

pub fits_others : {levels room left : ℕ} {v : Value} {vs : List Value} → weight v + left ≡ room → FitTogether levels room (v ∷ vs) → FitTogether levels left vs
fits_others {v = v} {vs = vs} e f = record {
  shallow = omega (arith, f.shallow);
  light = omega (arith, f.light, sum_cons (weight v) (map weight vs));
  printable = (both_true (is_printable v) (every (map is_printable vs)) f.printable).1;
}

pub fits_List : {levels room : ℕ} (vs : List Value) → 0 < levels → 0 < room → FitTogether (levels - 1) (room - 1) vs → FitsIn levels room (value.List vs)
fits_List vs p q f = record {
  shallow = omega (arith, nesting-List vs, f.shallow);
  light = omega (arith, weight-List vs, f.light);
  printable = is_printable-List vs ∙ f.printable;
}

pub fits_inside : {levels room : ℕ} (vs : List Value) → FitsIn levels room (value.List vs) → FitTogether (levels - 1) (room - 1) vs
fits_inside vs f = record {
  shallow = omega (arith, nesting-List vs, f.shallow);
  light = omega (arith, weight-List vs, f.light);
  printable = sym (is_printable-List vs) ∙ f.printable;
}
