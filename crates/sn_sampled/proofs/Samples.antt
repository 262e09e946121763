-- The records of each number are of the input type.
use Rattle.std.proofs.Common.{◌≡◌, ℕ, zero, suc, ◌+◌, ◌==◌, ◌||◌, ◌/◌, ◌%◌, nat_lt, Bool, true, false, cond, pos, List, [], ◌∷◌, ◌++◌, length, length-append, Some, None, is_some, refl, sym, ap, ◌∙◌, arith}
use Rattle.std.specs.FinMap as map
use Rattle.std.specs.List.{position, position_or_len, list_any}
use Rattle.std.specs.Ordering.{eq_by_cmp}
use Rattle.std.proofs.lemmas.Bool.Decides.{nat_tests}
use Rattle.std.proofs.lemmas.List.Folds.{position_or_len_push}
use Rattle.sn_record.specs.declared.item.Item.{Item}
use Rattle.sn_record.specs.declared.item.Item.TheVariants as item
use Rattle.sn_record.specs.declared.label.Label.{Label}
use Rattle.sn_record.specs.declared.value.Value.{Value}
use Rattle.sn_record.specs.declared.value.Value.TheVariants.{Int}
use Rattle.sn_record.specs.Label.{label_cmp}
use Rattle.sn_record.specs.Record.{is_match}
use Rattle.sn_record.proofs.Records.{contains_key-insert}
use Rattle.sn_record.proofs.Scores.{is_match-Matches}
use Rattle.sn_sample.specs.Numbers.{number_at}
use Rattle.sn_sample.specs.Records.{sample_record, sample_items}
use Rattle.sn_sampled.proofs.Accepted.{label_v, input_labels, input_holds}
use Rattle.sn_sampled.proofs.Declared.{label_k, label_n}
use Rattle.sn_sampled.proofs.Entered.{the_names}
use Rattle.sn_sampled.proofs.Labels.{has}

abbrev labels_vkn : List Label
labels_vkn = label_v ∷ label_k ∷ label_n ∷ []

or_more : (a b c : Bool) → b ≡ c → (a || b) ≡ (a || c)
or_more a b c same = ap (λ x. a || x) same

-- the record has the three labels
record_has : (x : ℕ) (l : Label) → map.contains_key (sample_record the_names x) l ≡ has labels_vkn l
record_has x l =
    let last = map.insert (map.empty {X = Value} {R = label_cmp}) label_n (Int (pos (x / 524288 % 16))) in
    let middle = map.insert last label_k (Int (pos (x / 65536 % 8))) in
    contains_key-insert middle label_v (Int (pos (x % 1000))) l
    ∙ or_more (eq_by_cmp label_cmp l label_v) _ _ (contains_key-insert last label_k (Int (pos (x / 65536 % 8))) l
    ∙ or_more (eq_by_cmp label_cmp l label_k) _ _ (contains_key-insert map.empty label_n (Int (pos (x / 524288 % 16))) l
    ∙ or_more (eq_by_cmp label_cmp l label_n) _ _ (ap is_some (map.get-empty {X = Value} label_cmp l))))

-- so it matches the input variant
record_matches : (x : ℕ) → is_match (sample_record the_names x) input_labels ≡ true
record_matches x = (is_match-Matches (sample_record the_names x) input_labels).1 (record {
  within = λ l there. record_has x l ∙ sym (input_holds l) ∙ there;
  bound = λ l binds there. input_holds l ∙ sym (record_has x l) ∙ there;
})

-- no item fails a test that each record passes
module _ (fails : Item → Bool) (never : (x : ℕ) → fails (item.Rec (sample_record the_names x)) ≡ false) where
  none_first : (number count : ℕ) → position_or_len fails (sample_items the_names number count) ≡ length (sample_items the_names number count)
  none_first number zero = refl
  none_first number (suc count) =
      let last = item.Rec (sample_record the_names (number_at number (suc count))) in
      let before = sample_items the_names number count in
      let pushed = position_or_len_push fails before last in
      let size = length-append before (last ∷ []) in
      let here = never (number_at number (suc count)) in
      let all = before ++ last ∷ [] in
      at_end (position_or_len fails before) (length before) (fails last) (position_or_len fails all) (length all) pushed (none_first number count) here size
    where
      at_end : (p n : ℕ) (b : Bool) (q m : ℕ) → q ≡ cond (p == n) (n + cond b 0 1) p → p ≡ n → b ≡ false → m ≡ n + 1 → q ≡ m
      at_end p n b q m is same fresh size = grind (arith, nat_tests)

  pub none_found : (number count : ℕ) → position fails (sample_items the_names number count) ≡ None
  none_found number count = past (position_or_len fails (sample_items the_names number count)) (length (sample_items the_names number count)) (none_first number count)
    where
      past : (p n : ℕ) → p ≡ n → cond (nat_lt p n) (Some p) None ≡ None
      past p n same = let not_below : nat_lt p n ≡ false = grind (arith, nat_tests) in ap (λ b. cond b (Some p) None) not_below

pub either_test : (x : ℕ) (variants : List _) → (is_match (sample_record the_names x) input_labels || list_any (is_match (sample_record the_names x)) variants) ≡ true
either_test x variants = ap (λ b. b || list_any (is_match (sample_record the_names x)) variants) (record_matches x)
