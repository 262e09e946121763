-- A record that the tokens of a line spell may be written.
use Rattle.std.proofs.Common.{◌≡◌, ℕ, ℤ, true, false, cond, IsTrue, List, [], ◌∷◌, map, Option, None, Some, IfSome, refl, sym, subst}
use Rattle.std.specs.Prelude.{FitsSigned}
use Rattle.std.specs.Int.{w64}
use Rattle.std.specs.List.{All}
use Rattle.std.specs.Option.{is_some}
use Rattle.std.specs.Ordering.{eq_by_cmp}
use Rattle.std.specs.FinMap as finite
use Rattle.std.specs.FinMap.{find}
use Rattle.std.proofs.lemmas.List.Elements.{All-nil, All-head, All-tail, All-cons}
use Rattle.sn_record.specs.declared.label.Label.{Label}
use Rattle.sn_record.specs.declared.value.Value.{Value}
use Rattle.sn_record.specs.declared.value.Value.TheOpen.{Value-F}
use Rattle.sn_record.specs.declared.value.Value.TheFolds.{every_made-Value}
use Rattle.sn_record.specs.declared.value.Value.TheVariants.{Int, Text, List as Many, rolls-Int, rolls-Text, rolls-List}
use Rattle.sn_record.specs.Label.{label_cmp, label_cmp_total}
use Rattle.sn_record.specs.Record.{FitsLabel}
use Rattle.sn_record.proofs.Maps.{same_label}
use Rattle.sn_record.proofs.Values.{FitsLabel-Int, FitsLabel-Field}
use Rattle.sn_names.specs.Names.{is_held}
use Rattle.sn_names.proofs.Labels.{label_name-label_number, number_is_held}
use Rattle.sn_record_tokens.specs.declared.token.Token.{Token}
use Rattle.sn_record_tokens.specs.Tokens.{Spells, SpellsName, SpellsTagName, Tokens}
use Rattle.sn_record_tokens.specs.Tokens.Tokens.{end, blank, token}
use Rattle.sn_record_parser.specs.declared.entry.Entry.{Entry}
use Rattle.sn_record_parser.specs.Grammar.{IsValue, AreMore, IsEntry, AreFurther, IsLine, field, tag}
use Rattle.sn_record_parser.specs.Grammar.IsValue.{number, text, empty as empty_list, list}
use Rattle.sn_record_parser.specs.Grammar.AreMore.{end as no_more_left, next as next_value}
use Rattle.sn_record_parser.specs.Grammar.IsEntry.{field_at, tag_at}
use Rattle.sn_record_parser.specs.Grammar.AreFurther.{end as none_further, next as next_entry}
use Rattle.sn_record_parser.specs.Grammar.IsLine.{empty as empty_line, entries as filled_line}
use Rattle.sn_input.specs.Numbered.{label_in, entry_in, record_of}
use Rattle.sn_record_roundtrip.specs.Writable.{IsBounded, AreBounded, SpellsLabel, HasName, IsWritable}
use Rattle.sn_record_roundtrip.proofs.Entries.{IsGood}

-- tokens that characters spell
abbrev AreSpelled : List Token → Type 0
AreSpelled [] = Unit {0}
AreSpelled (t ∷ ts) = ((word : List ℕ) × Spells t word) × AreSpelled ts

tokens_spelled : {cs : List ℕ} {ts : List Token} → Tokens cs ts → AreSpelled ts
tokens_spelled end = tt
tokens_spelled (blank is told) = tokens_spelled told
tokens_spelled (token here told) = ((here.word, here.spelled), tokens_spelled told)

-- numbers of 64 bits, texts, and lists of what is bounded
bounded_int : (n : ℤ) → FitsSigned w64 n → AreBounded (Int n)
bounded_int n fits = subst AreBounded (rolls-Int n) (every_made-Value IsBounded (Value-F.Int n) (Value-F.Int n) refl fits)

bounded_text : (t : List ℕ) → AreBounded (Text t)
bounded_text t = subst AreBounded (rolls-Text t) (every_made-Value IsBounded (Value-F.Text t) (Value-F.Text t) refl tt)

-- Bounded values, each beside why it is.
record Paired (vs : List Value) : Type 0 where
  pairs : List ((v : Value) × AreBounded v)
  are : map (λ e. e.0) pairs ≡ vs

paired : (vs : List Value) → All AreBounded vs → Paired vs
paired [] all = record { pairs = []; are = refl }
paired (v ∷ vs) all =
    let rest = paired vs (All-tail AreBounded v vs all) in
    record { pairs = (v, All-head AreBounded v vs all) ∷ rest.pairs; are = λ i. v ∷ rest.are i }

bounded_list : (vs : List Value) → All AreBounded vs → AreBounded (Many vs)
bounded_list vs all =
    let rest = paired vs all in
    subst AreBounded (rolls-List vs) (every_made-Value IsBounded (Value-F.List vs) (Value-F.List rest.pairs) (λ i. Value-F.List (rest.are i)) tt)

mutual
  value_bounded : {ts us : List Token} {v : Value} → IsValue ts v us → AreSpelled ts → AreBounded v × AreSpelled us
  value_bounded (number {n = n} is) s = (subst AreBounded (sym is) (bounded_int n s.0.1.fits), s.1)
  value_bounded (text {t = t} is) s = (subst AreBounded (sym is) (bounded_text t), s.1)
  value_bounded (empty_list is) s = (subst AreBounded (sym is) (bounded_list [] (All-nil AreBounded)), s.1.1)
  value_bounded (list {v = v} {vs = vs} first rest is) s =
      let head = value_bounded first s.1 in
      let tail = more_bounded rest head.1 in
      (subst AreBounded (sym is) (bounded_list (v ∷ vs) (All-cons AreBounded v vs head.0 tail.0)), tail.1)

  more_bounded : {ts us : List Token} {vs : List Value} → AreMore ts vs us → AreSpelled ts → All AreBounded vs × AreSpelled us
  more_bounded no_more_left s = (All-nil AreBounded, s.1)
  more_bounded (next_value {v = v} {vs = vs} first rest) s =
      let head = value_bounded first s.1 in
      let tail = more_bounded rest head.1 in
      (All-cons AreBounded v vs head.0 tail.0, tail.1)

module _ (names : List (List ℕ)) where
  -- What a line says of an entry.
  record IsSaid (e : Entry) : Type 0 where
    fits : FitsLabel (label_in names e.label) e.value
    bounded : AreBounded e.value
    word : List ℕ
    spelled : SpellsLabel e.label.kind word e.label.name

  field_said : (name : List ℕ) (v : Value) → ((word : List ℕ) × SpellsName word name) → FitsLabel (label_in names (field name)) v → AreBounded v → IsSaid record { label = field name; value = v }
  field_said name v s fits bounded = record { fits = fits; bounded = bounded; word = s.0; spelled = s.1 }

  tag_said : (name : List ℕ) (n : ℤ) (inside : List ℕ) → SpellsTagName inside name → FitsSigned w64 n → IsSaid record { label = tag name; value = Int n }
  tag_said name n inside s fits = record { fits = FitsLabel-Int (label_in names (tag name)) n; bounded = bounded_int n fits; word = inside; spelled = s }

  entry_said : {ts us : List Token} {e : Entry} → IsEntry ts e us → AreSpelled ts → IsSaid e × AreSpelled us
  entry_said (field_at {name = name} {v = v} value sound is) s =
      let read = value_bounded value s.1.1 in
      (subst IsSaid (sym is) (field_said name v s.0 (FitsLabel-Field (label_in names (field name)) v refl sound) read.0), read.1)
  entry_said (tag_at {name = name} {n = n} is) s =
      (subst IsSaid (sym is) (tag_said name n s.0.1.inside s.0.1.name s.1.1.0.1.fits), s.1.1.1)

  further_said : {ts us : List Token} {es : List Entry} → AreFurther ts es us → AreSpelled ts → All IsSaid es
  further_said none_further s = All-nil IsSaid
  further_said (next_entry {e = e} {es = es} first rest) s =
      let head = entry_said first s.1 in
      All-cons IsSaid e es head.0 (further_said rest head.1)

  line_said : {ts : List Token} {es : List Entry} → IsLine ts es → AreSpelled ts → All IsSaid es
  line_said empty_line s = All-nil IsSaid
  line_said (filled_line {e = e} {es = es} first rest) s =
      let head = entry_said first s.1 in
      All-cons IsSaid e es head.0 (further_said rest head.1)

  abbrev Holds : Entry → Type 0
  Holds e = IsTrue (is_held names e.label.name)

  said_good : (e : Entry) → Holds e → IsSaid e → IsGood names (entry_in names e)
  said_good e held said = record {
    fits = said.fits;
    bounded = said.bounded;
    named = record {
      held = number_is_held names e.label.name held;
      word = said.word;
      spelled = subst (SpellsLabel e.label.kind said.word) (sym (label_name-label_number names e.label.name held)) said.spelled;
    };
  }

  all_good : (es : List Entry) → All Holds es → All IsSaid es → All (IsGood names) (map (entry_in names) es)
  all_good [] held said = All-nil (IsGood names)
  all_good (e ∷ es) held said =
      All-cons (IsGood names) (entry_in names e) (map (entry_in names) es) (said_good e (All-head Holds e es held) (All-head IsSaid e es said)) (all_good es (All-tail Holds e es held) (All-tail IsSaid e es said))

  -- what is found at a label is of one of the entries
  found_good : (l : Label) (es : List (Label × Value)) → All (IsGood names) es → IfSome (find label_cmp l es) (λ v. IsGood names (l, v))
  found_good l [] good = tt
  found_good l (e ∷ es) good =
      elim (eq_by_cmp label_cmp l e.0) as (λ b. eq_by_cmp label_cmp l e.0 ≡ b → IfSome (cond b (Some e.1) (find label_cmp l es)) (λ v. IsGood names (l, v))) [
        | true ↦ λ ties. subst (λ k. IsGood names (k, e.1)) (sym (same_label l e.0 ties)) (All-head (IsGood names) e es good)
        | false ↦ λ apart. found_good l es (All-tail (IsGood names) e es good)
      ] refl

  if_weaker : (P Q : Value → Type 0) → ((v : Value) → P v → Q v) → (x : Option Value) → IfSome x P → IfSome x Q
  if_weaker P Q weaker None here = tt
  if_weaker P Q weaker (Some v) here = weaker v here

  name_of_found : (l : Label) (x : Option Value) → IfSome x (λ v. IsGood names (l, v)) → IsTrue (is_some x) → HasName names l
  name_of_found l None good there = cc
  name_of_found l (Some v) good there = good.named

  pub line_writable : (cs : List ℕ) (ts : List Token) (es : List Entry) → Tokens cs ts → IsLine ts es → All Holds es → IsWritable names (record_of names es)
  line_writable cs ts es told line held =
      let good = all_good es held (line_said line (tokens_spelled told)) in
      let at = λ (l : Label). subst (λ x. IfSome x (λ v. IsGood names (l, v))) (sym (finite.get-from_entries label_cmp_total (map (entry_in names) es) l)) (found_good l (map (entry_in names) es) good) in
      record {
        sound = λ l. if_weaker (λ v. IsGood names (l, v)) (FitsLabel l) (λ v g. g.fits) _ (at l);
        bounded = λ l. if_weaker (λ v. IsGood names (l, v)) AreBounded (λ v g. g.bounded) _ (at l);
        named = λ l there. name_of_found l _ (at l) there;
      }
