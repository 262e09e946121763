-- The JSON of a value reads as the value.
use Rattle.std.proofs.Common.{◌≡◌, ◌≤◌, ◌+◌, ◌^◌, ℕ, ℤ, pos, negsuc, Bool, true, cond, List, [], ◌∷◌, length, map, sum, Some, None, Ok, Err, refl, sym, ap, ◌∙◌, subst, arith}
use Rattle.std.specs.Prelude.{FitsSigned, nat_lt, nat_le}
use Rattle.std.specs.Int.{w64}
use Rattle.std.specs.List.{All}
use Rattle.std.proofs.lemmas.Bool.{and_parts, and_from}
use Rattle.std.proofs.lemmas.Bool.Decides.{nat_tests}
use Rattle.std.proofs.lemmas.List.Sums.{sum_by-cons}
use Rattle.std.proofs.lemmas.List.Elements.{All-nil, All-head, All-tail, All-cons}
use Rattle.sn_record.specs.declared.value.Value.{Value}
use Rattle.sn_record.specs.declared.value.Value.TheOpen.{Value-F}
use Rattle.sn_record.specs.declared.value.Value.TheFolds.{fold-roll-Value, ind-Value, map-Value, every_here-Value, every_held-Value}
use Rattle.sn_record.specs.declared.value.Value.TheVariants.{Int, Text, rolls-Int, rolls-Text, rolls-List}
use Rattle.sn_record.specs.declared.value.Value.TheViews.{roll-Value, out-roll-Value}
use Rattle.sn_record.specs.Value.{every, is_printable, is_printable_text, printable_step, weight, weight_step}
use Rattle.sn_record_roundtrip.specs.Writable.{AreBounded, IsBounded}
use Rattle.serde_json.specs.Data.{Data}
use Rattle.serde_json.specs.Find.{as_i64, of_integer}
use Rattle.serde_json.specs.View.{items_of}
use Rattle.sn_json.specs.declared.fault.Reason.TheVariants as reason
use Rattle.sn_json.specs.Reading.{integer, is_text, listed, text_of, then_values, value_of, values_of}
use Rattle.sn_json.specs.Writing.{data_of, data_step}

int_reads : (n : ℤ) → FitsSigned w64 n → integer (as_i64 (of_integer n)) ≡ Ok (Int n)
int_reads (pos n) fits =
    let small : nat_lt n (2 ^ 63) ≡ true = grind (arith, nat_tests, fits) in
    ap (λ b. integer (cond b (Some (pos n)) None)) small
int_reads (negsuc n) fits = refl

text_reads : (t : List ℕ) → is_printable_text t ≡ true → 1 + length t ≤ 65536 → text_of t ≡ Ok (Text t)
text_reads t printable light =
    let short : nat_le (length t) 65535 ≡ true = grind (arith, nat_tests) in
    let may : is_text t ≡ true = and_from _ _ printable short in
    ap (λ b. cond b (Ok (Text t)) (Err reason.Text)) may

-- What is to be known of a value.
abbrev pub Good : Value → Type 0
Good v = is_printable v ≡ true → AreBounded v → weight v ≤ 65536 → value_of (data_of v) ≡ Ok v

abbrev GoodValue : Type 0
GoodValue = (v : Value) × Good v

abbrev values : List GoodValue → List Value
values = map (λ e. e.0)

first_light : (v : Value) (vs : List Value) → sum (map weight (v ∷ vs)) ≤ 65536 → weight v ≤ 65536
first_light v vs light = omega (arith, light, sum_by-cons (λ n. n) (weight v) (map weight vs))

others_light : (v : Value) (vs : List Value) → sum (map weight (v ∷ vs)) ≤ 65536 → sum (map weight vs) ≤ 65536
others_light v vs light = omega (arith, light, sum_by-cons (λ n. n) (weight v) (map weight vs))

all_read : (vs : List GoodValue) → every (map is_printable (values vs)) ≡ true → All AreBounded (values vs) → sum (map weight (values vs)) ≤ 65536 → values_of (items_of (map data_of (values vs))) ≡ Ok (values vs)
all_read [] printable bounded light = refl
all_read (v ∷ vs) printable bounded light =
    let parts = and_parts (is_printable v.0) (every (map is_printable (values vs))) printable in
    let first = v.1 parts.0 (All-head AreBounded v.0 (values vs) bounded) (first_light v.0 (values vs) light) in
    let rest = all_read vs parts.1 (All-tail AreBounded v.0 (values vs) bounded) (others_light v.0 (values vs) light) in
    ap (λ r. then_values r (values_of (items_of (map data_of (values vs))))) first ∙ ap (then_values (Ok v.0)) rest

-- the elements of one level
abbrev elements : {A : Type 0} → Value-F A → List A
elements (Value-F.Int n) = []
elements (Value-F.Text t) = []
elements (Value-F.List vs) = vs

elements-map : {A B : Type 0} (f : A → B) (x : Value-F A) → elements (map-Value A B f x) ≡ map f (elements x)
elements-map f (Value-F.Int n) = refl
elements-map f (Value-F.Text t) = refl
elements-map f (Value-F.List vs) = refl

all_firsts : {A : Type 0} (P : A → Type 0) (xs : List ((x : A) × P x)) → All P (map (λ e. e.0) xs)
all_firsts P [] = All-nil P
all_firsts P (x ∷ xs) = All-cons P x.0 (map (λ e. e.0) xs) x.1 (all_firsts P xs)

level_bounded : (x : Value-F Value) → AreBounded (roll-Value x) → IsBounded x
level_bounded x bounded = subst IsBounded (out-roll-Value x) (every_here-Value IsBounded (roll-Value x) bounded)

elements_bounded : (x : Value-F Value) → AreBounded (roll-Value x) → All AreBounded (elements x)
elements_bounded x bounded =
    let held = every_held-Value IsBounded (roll-Value x) bounded in
    subst (All AreBounded) (sym (elements-map (λ e. e.0) held.0) ∙ ap elements (held.1 ∙ out-roll-Value x)) (all_firsts AreBounded (elements held.0))

shown : (x : Value-F Value) → value_of (data_step (map-Value Value Data data_of x)) ≡ Ok (roll-Value x) → value_of (data_of (roll-Value x)) ≡ Ok (roll-Value x)
shown x reads = ap value_of (fold-roll-Value Data data_step x) ∙ reads

light_here : (x : Value-F Value) → weight (roll-Value x) ≤ 65536 → weight_step (map-Value Value ℕ weight x) ≤ 65536
light_here x light = subst (λ n. n ≤ 65536) (fold-roll-Value ℕ weight_step x) light

pub value_reads : (v : Value) → Good v
value_reads = ind-Value Good (λ x y is. subst (λ z. Good (roll-Value z)) is
    (elim y as (λ z. Good (roll-Value (map-Value _ _ (λ e. e.0) z))) [
      | Value-F.Int n ↦ λ printable bounded light. shown (Value-F.Int n) (int_reads n (level_bounded (Value-F.Int n) bounded) ∙ ap Ok (sym (rolls-Int n)))
      | Value-F.Text t ↦ λ printable bounded light. shown (Value-F.Text t)
          (text_reads t (sym (fold-roll-Value Bool printable_step (Value-F.Text t)) ∙ printable) (light_here (Value-F.Text t) light) ∙ ap Ok (sym (rolls-Text t)))
      | Value-F.List vs ↦ λ printable bounded light.
          let light_list = light_here (Value-F.List (values vs)) light in
          shown (Value-F.List (values vs))
          (ap listed (all_read vs (sym (fold-roll-Value Bool printable_step (Value-F.List (values vs))) ∙ printable) (elements_bounded (Value-F.List (values vs)) bounded) (omega (arith, light_list)))
          ∙ ap Ok (sym (rolls-List (values vs))))
    ]))
