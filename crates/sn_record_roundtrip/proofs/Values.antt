-- The text of a value reads back as the value.
use Rattle.std.proofs.Common.{◌≡◌, ℕ, ℤ, Bool, true, List, [], ◌∷◌, ◌++◌, map, append_assoc, codes, refl, sym, ap, ◌∙◌, subst}
use Rattle.std.specs.Prelude.{FitsSigned}
use Rattle.std.specs.Int.{w64}
use Rattle.std.specs.List.{All, flat_map}
use Rattle.std.proofs.lemmas.Bool.{and_parts}
use Rattle.std.proofs.lemmas.List.Elements.{All-head, All-tail, All-cons, All-nil}
use Rattle.sn_record.specs.declared.value.Value.{Value}
use Rattle.sn_record.specs.declared.value.Value.TheOpen.{Value-F}
use Rattle.sn_record.specs.declared.value.Value.TheFolds.{fold-roll-Value, ind-Value, map-Value, every_here-Value, every_held-Value}
use Rattle.sn_record.specs.declared.value.Value.TheVariants.{Int, rolls-Int, rolls-Text, rolls-List}
use Rattle.sn_record.specs.declared.value.Value.TheViews.{roll-Value, out-Value, out-roll-Value}
use Rattle.sn_record.specs.Record.{IsInt}
use Rattle.sn_record.specs.Value.{is_printable, printable_step, every}
use Rattle.sn_record_tokens.specs.declared.token.Mark.TheVariants.{OpenList, CloseList}
use Rattle.sn_record_tokens.specs.declared.token.Token.{Token}
use Rattle.sn_record_parser.specs.Grammar.{IsValue, AreMore}
use Rattle.sn_record_parser.specs.Grammar.IsValue.{number as number_value, text as text_value, empty as empty_list, list as filled_list}
use Rattle.sn_record_parser.specs.Grammar.AreMore.{end as no_more_left, next as next_value}
use Rattle.sn_output.specs.Line.{joined, value_step, value_text}
use Rattle.sn_record_roundtrip.specs.Writable.{IsBounded, AreBounded}
use Rattle.sn_record_roundtrip.proofs.Readings.{Reads, Marked, nothing, before, opened, led, same_text, same_marked}
use Rattle.sn_record_roundtrip.proofs.Words.{number_reads, text_reads}

-- The text is read as the value, whatever follows.
pub record ReadsAs (text : List ℕ) (v : Value) : Type 0 where
  pub reads : Reads text
  pub value : (us : List Token) → IsValue (reads.says us) v us

-- the texts of further values of a list
abbrev more_text : List Value → List ℕ
more_text vs = flat_map (λ next. codes ", " ++ next) (map value_text vs)

-- They are read as those, up to the list's end.
record MoreReads (vs : List Value) : Type 0 where
  marked : Marked (more_text vs ++ codes "]")
  more : (us : List Token) → AreMore (marked.reads.says us) vs us

no_more : MoreReads []
no_more = record { marked = opened CloseList nothing; more = λ us. no_more_left }

one_more : (v : Value) (vs : List Value) → ReadsAs (value_text v) v → MoreReads vs → MoreReads (v ∷ vs)
one_more v vs first rest =
    let same : codes ", " ++ (value_text v ++ (more_text vs ++ codes "]")) ≡ more_text (v ∷ vs) ++ codes "]" =
    ap (λ t. codes ", " ++ t) (sym (append_assoc (value_text v) (more_text vs) (codes "]"))) in
    record {
      marked = same_marked same (led (before first.reads rest.marked));
      more = λ us. next_value (first.value _) (rest.more us);
    }

-- What there is to read back of a value.
abbrev pub Good : Value → Type 0
Good v = is_printable v ≡ true → AreBounded v → ReadsAs (value_text v) v

abbrev GoodValue : Type 0
GoodValue = (v : Value) × Good v

abbrev values : List GoodValue → List Value
values = map (λ e. e.0)

all_more : (vs : List GoodValue) → every (map is_printable (values vs)) ≡ true → All AreBounded (values vs) → MoreReads (values vs)
all_more [] printable bounded = no_more
all_more (v ∷ vs) printable bounded =
    let parts = and_parts (is_printable v.0) (every (map is_printable (values vs))) printable in
    one_more v.0 (values vs) (v.1 parts.0 (All-head AreBounded v.0 (values vs) bounded)) (all_more vs parts.1 (All-tail AreBounded v.0 (values vs) bounded))

list_reads : (vs : List GoodValue) → every (map is_printable (values vs)) ≡ true → All AreBounded (values vs) → ReadsAs (codes "[" ++ (joined (codes ", ") (map value_text (values vs)) ++ codes "]")) (roll-Value (Value-F.List (values vs)))
list_reads [] printable bounded = record { reads = (opened OpenList (opened CloseList nothing).reads).reads; value = λ us. empty_list (rolls-List []) }
list_reads (v ∷ vs) printable bounded =
    let parts = and_parts (is_printable v.0) (every (map is_printable (values vs))) printable in
    let first = v.1 parts.0 (All-head AreBounded v.0 (values vs) bounded) in
    let rest = all_more vs parts.1 (All-tail AreBounded v.0 (values vs) bounded) in
    let same : codes "[" ++ (value_text v.0 ++ (more_text (values vs) ++ codes "]")) ≡ codes "[" ++ ((value_text v.0 ++ more_text (values vs)) ++ codes "]") =
    ap (λ t. codes "[" ++ t) (sym (append_assoc (value_text v.0) (more_text (values vs)) (codes "]"))) in
    record {
      reads = same_text same (opened OpenList (before first.reads rest.marked)).reads;
      value = λ us. filled_list (first.value _) (rest.more us) (rolls-List (v.0 ∷ values vs));
    }

-- the elements of one level
abbrev elements : {A : Type 0} → Value-F A → List A
elements (Value-F.Int n) = []
elements (Value-F.Text t) = []
elements (Value-F.List vs) = vs

elements-map : {A B : Type 0} (f : A → B) (x : Value-F A) → elements (map-Value A B f x) ≡ map f (elements x)
elements-map f (Value-F.Int n) = refl
elements-map f (Value-F.Text t) = refl
elements-map f (Value-F.List vs) = refl

all_firsts : {A : Type 0} (P : A → Type 0) (xs : List ((x : A) × P x)) → All P (map (λ e. e.0) xs)
all_firsts P [] = All-nil P
all_firsts P (x ∷ xs) = All-cons P x.0 (map (λ e. e.0) xs) x.1 (all_firsts P xs)

level_bounded : (x : Value-F Value) → AreBounded (roll-Value x) → IsBounded x
level_bounded x bounded = subst IsBounded (out-roll-Value x) (every_here-Value IsBounded (roll-Value x) bounded)

elements_bounded : (x : Value-F Value) → AreBounded (roll-Value x) → All AreBounded (elements x)
elements_bounded x bounded =
    let held = every_held-Value IsBounded (roll-Value x) bounded in
    subst (All AreBounded) (sym (elements-map (λ e. e.0) held.0) ∙ ap elements (held.1 ∙ out-roll-Value x)) (all_firsts AreBounded (elements held.0))

-- a value that is shown by its level
shown : (x : Value-F Value) → ReadsAs (value_step (map-Value Value (List ℕ) value_text x)) (roll-Value x) → ReadsAs (value_text (roll-Value x)) (roll-Value x)
shown x r = record { reads = same_text (sym (fold-roll-Value (List ℕ) value_step x)) r.reads; value = r.value }

pub value_reads : (v : Value) → Good v
value_reads = ind-Value Good (λ x y is. subst (λ z. Good (roll-Value z)) is
    (elim y as (λ z. Good (roll-Value (map-Value _ _ (λ e. e.0) z))) [
      | Value-F.Int n ↦ λ printable bounded. shown (Value-F.Int n) record { reads = number_reads n (level_bounded (Value-F.Int n) bounded); value = λ us. number_value (rolls-Int n) }
      | Value-F.Text t ↦ λ printable bounded. shown (Value-F.Text t) record {
        reads = text_reads t (sym (fold-roll-Value Bool printable_step (Value-F.Text t)) ∙ printable);
        value = λ us. text_value (rolls-Text t);
      }
      | Value-F.List vs ↦ λ printable bounded.
          shown (Value-F.List (values vs)) (list_reads vs (sym (fold-roll-Value Bool printable_step (Value-F.List (values vs))) ∙ printable) (elements_bounded (Value-F.List (values vs)) bounded))
    ]))

-- A value that is a number of 64 bits.
pub record IsNumber (v : Value) : Type 0 where
  pub number : ℤ
  pub is : v ≡ Int number
  pub fits : FitsSigned w64 number

abbrev Numbered : Value → Type 0
Numbered v = IsInt (out-Value v) → AreBounded v → IsNumber v

number_level : (x : Value-F Value) → IsInt x → IsBounded x → IsNumber (roll-Value x)
number_level (Value-F.Int n) is fits = record { number = n; is = rolls-Int n; fits = fits }
number_level (Value-F.Text t) is fits = absurd is
number_level (Value-F.List vs) is fits = absurd is

pub int_is : (v : Value) → Numbered v
int_is = ind-Value Numbered (λ x y is. λ int bounded. number_level x (subst IsInt (out-roll-Value x) int) (level_bounded x bounded))

pub value_text-Int : (n : ℤ) → value_text (Int n) ≡ value_step (Value-F.Int n)
value_text-Int n = ap value_text (sym (rolls-Int n)) ∙ fold-roll-Value (List ℕ) value_step (Value-F.Int n)
