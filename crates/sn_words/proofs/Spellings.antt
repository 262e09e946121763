-- Each command has words, and a value may stand in its option's word.
use Rattle.std.proofs.Common.{◌≡◌, ◌∙◌, ◌<◌, ◌≤◌, ◌+◌, ◌^◌, ◌&&◌, ◌||◌, ℕ, suc, Bool, true, false, not, cond, refl, sym, ap, arith, List, [], ◌∷◌, ◌++◌, take, drop, length, lt-ltb, le-leb, true≢false, nat_le, nat_lt}
use Rattle.std.specs.Prelude.{Some, None}
use Rattle.std.specs.Fmt.{decimal}
use Rattle.std.specs.List.{list_any, before_first, after_first, position_or_len}
use Rattle.std.proofs.lemmas.Fmt.{digits_decimal, digits_value-decimal, length-decimal-le, decimal_nonempty}
use Rattle.sn_words.specs.Words.{Text, command_of, full, is_equals, kind_of, makes_run, makes_once, makes_check, makes_plan, makes_print, makes_trace, makes_replay, makes_feed, makes_sample, named, need, need_that, number_of, parts_from, parts_of, within}
use Rattle.sn_words.specs.Command.{IsInRange}
use Rattle.sn_words.specs.Spelling.{HasNames, dashed, with_value, words_of}
use Rattle.sn_words.specs.declared.command.Command.{Command}
use Rattle.sn_words.specs.declared.command.Command.TheVariants.{Run, Once, Check, Print, Plan, Trace, Replay, Feed, Sample}
use Rattle.sn_words.proofs.Digits.{numerals}

number_back : (n : ℕ) → n < 10 ^ 10 → number_of (decimal n) ≡ Some n
number_back n small =
    let fits : n < 2 ^ 64 = omega arith in
    let digits = digits_decimal numerals n fits in
    let value = digits_value-decimal numerals n fits in
    let first : nat_le 1 (length (decimal n)) ≡ true = le-leb 1 (length (decimal n)) (decimal_nonempty n fits) in
    let last : nat_le (length (decimal n)) 10 ≡ true = le-leb (length (decimal n)) 10 (length-decimal-le 10 n (omega arith) small fits) in
    λ i. cond ((digits i && first i) && last i) (Some (value i)) None

within_back : (least most n : ℕ) → n < 10 ^ 10 → least ≤ n → n ≤ most → within least most (number_of (decimal n)) ≡ Some n
within_back least most n small low high = ap (λ o. need o (λ m. need_that (nat_le least m && nat_le m most) m)) (number_back n small)
    ∙ (λ i. need_that (le-leb least n low i && le-leb n most high i) n)

there : (word : Text) → 0 < length word → need_that (nat_lt 0 (length word)) word ≡ Some word
there word e = ap (λ b. need_that b word) (lt-ltb 0 (length word) e)

pub each_command : (command : Command) → IsInRange command → HasNames command → command_of (words_of command) ≡ Some command
each_command (Run source input w f d q p) r n =
    let s = there source n.0 in
    let t = there input n.1 in
    let a = within_back 1 64 w (omega arith) r.0 r.1 in
    let b = within_back 1 1_000_000_000 f (omega arith) r.2 r.3 in
    let c = within_back 1 2_000 d (omega arith) r.4 r.5 in
    let e = within_back 1 1_024 q (omega arith) r.6 r.7 in
    let g = within_back 0 1 p (omega arith) (omega arith) r.8 in
    (λ i. need (need (s i) (λ x. need (need (t i) (λ y. Some (y ∷ []))) (λ ys. Some (x ∷ ys))))
    (λ xs. need (need (g i) (λ m. need (need (a i) (λ m. need (need (b i) (λ m. need (need (c i) (λ m. need (need (e i) (λ m. Some (m ∷ []))) (λ ms. Some (m ∷ ms)))) (λ ms. Some (m ∷ ms))))
    (λ ms. Some (m ∷ ms)))) (λ ms. Some (m ∷ ms)))) (λ ms. makes_run xs ms)))
each_command (Once source input f d) r n =
    let s = there source n.0 in
    let t = there input n.1 in
    let b = within_back 1 1_000_000_000 f (omega arith) r.0 r.1 in
    let c = within_back 1 2_000 d (omega arith) r.2 r.3 in
    (λ i. need (need (s i) (λ x. need (need (t i) (λ y. Some (y ∷ []))) (λ ys. Some (x ∷ ys))))
    (λ xs. need (need (b i) (λ m. need (need (c i) (λ m. Some (m ∷ []))) (λ ms. Some (m ∷ ms)))) (λ ms. makes_once xs ms)))
each_command (Check source) r n = ap (λ o. need (need o (λ x. Some (x ∷ []))) (λ xs. makes_check xs [])) (there source n)
each_command (Print source) r n = ap (λ o. need (need o (λ x. Some (x ∷ []))) (λ xs. makes_print xs [])) (there source n)
each_command (Plan source) r n = ap (λ o. need (need o (λ x. Some (x ∷ []))) (λ xs. makes_plan xs [])) (there source n)
each_command (Trace source input w f d q) r n =
    let s = there source n.0 in
    let t = there input n.1 in
    let a = within_back 1 64 w (omega arith) r.0 r.1 in
    let b = within_back 1 1_000_000_000 f (omega arith) r.2 r.3 in
    let c = within_back 1 2_000 d (omega arith) r.4 r.5 in
    let e = within_back 1 1_024 q (omega arith) r.6 r.7 in
    (λ i. need (need (s i) (λ x. need (need (t i) (λ y. Some (y ∷ []))) (λ ys. Some (x ∷ ys))))
    (λ xs. need (need (a i) (λ m. need (need (b i) (λ m. need (need (c i) (λ m. need (need (e i) (λ m. Some (m ∷ []))) (λ ms. Some (m ∷ ms)))) (λ ms. Some (m ∷ ms)))) (λ ms. Some (m ∷ ms)))) (λ ms. makes_trace xs ms)))
each_command (Replay source input trace f d) r n =
    let s = there source n.0 in
    let t = there input n.1 in
    let u = there trace n.2 in
    let b = within_back 1 1_000_000_000 f (omega arith) r.0 r.1 in
    let c = within_back 1 2_000 d (omega arith) r.2 r.3 in
    (λ i. need (need (s i) (λ x. need (need (t i) (λ y. need (need (u i) (λ z. Some (z ∷ []))) (λ zs. Some (y ∷ zs)))) (λ ys. Some (x ∷ ys))))
    (λ xs. need (need (b i) (λ m. need (need (c i) (λ m. Some (m ∷ []))) (λ ms. Some (m ∷ ms)))) (λ ms. makes_replay xs ms)))
each_command (Feed source input u f d) r n =
    let s = there source n.0 in
    let t = there input n.1 in
    let a = within_back 1 1_048_576 u (omega arith) r.0 r.1 in
    let b = within_back 1 1_000_000_000 f (omega arith) r.2 r.3 in
    let c = within_back 1 2_000 d (omega arith) r.4 r.5 in
    (λ i. need (need (s i) (λ x. need (need (t i) (λ y. Some (y ∷ []))) (λ ys. Some (x ∷ ys))))
    (λ xs. need (need (a i) (λ m. need (need (b i) (λ m. need (need (c i) (λ m. Some (m ∷ []))) (λ ms. Some (m ∷ ms)))) (λ ms. Some (m ∷ ms)))) (λ ms. makes_feed xs ms)))
each_command (Sample number count) r n =
    let first : number < 2 ^ 64 = omega arith in
    let second : count < 2 ^ 64 = omega arith in
    let s = there (decimal number) (decimal_nonempty number first) in
    let t = there (decimal count) (decimal_nonempty count second) in
    let a = within_back 0 2_147_483_647 number (omega arith) (omega arith) r.0 in
    let b = within_back 0 50_000 count (omega arith) (omega arith) r.1 in
    (λ i. need (need (s i) (λ x. need (need (t i) (λ y. Some (y ∷ []))) (λ ys. Some (x ∷ ys)))) (λ xs. makes_sample xs []))
    ∙ (λ i. need (a i) (λ m. need (b i) (λ k. Some (Sample m k))))

-- ---- a value in its option's word

has_equals : (name value : Text) → list_any is_equals (name ++ 61 ∷ value) ≡ true
has_equals [] value = refl
has_equals (x ∷ name) value = go (is_equals x) (has_equals name value)
  where
    go : (b : Bool) → list_any is_equals (name ++ 61 ∷ value) ≡ true → (b || list_any is_equals (name ++ 61 ∷ value)) ≡ true
    go true e = refl
    go false e = e

place_of_equals : (name value : Text) → list_any is_equals name ≡ false → position_or_len is_equals (name ++ 61 ∷ value) ≡ length name
place_of_equals [] value e = refl
place_of_equals (x ∷ name) value e = go (is_equals x) e (λ rest. place_of_equals name value rest)
  where
    go : (b : Bool) → (b || list_any is_equals name) ≡ false → (list_any is_equals name ≡ false → position_or_len is_equals (name ++ 61 ∷ value) ≡ length name)
        → cond (not b) (1 + position_or_len is_equals (name ++ 61 ∷ value)) 0 ≡ suc (length name)
    go true e rec = absurd (true≢false e)
    go false e rec = ap (λ n. 1 + n) (rec e) ∙ one_more (length name)
      where
        one_more : (n : ℕ) → 1 + n ≡ suc n
        one_more n = omega arith

front_of : (name value : Text) → take (length name) (name ++ 61 ∷ value) ≡ name
front_of [] value = refl
front_of (x ∷ name) value = ap (λ t. x ∷ t) (front_of name value)

back_of : (name value : Text) → drop (suc (length name)) (name ++ 61 ∷ value) ≡ value
back_of [] value = refl
back_of (x ∷ name) value = back_of name value

same_kind : (name value : Text) → 0 < length name → list_any is_equals name ≡ false → kind_of (with_value name value) ≡ full name value
same_kind [] value some e = absurd (omega arith)
same_kind (x ∷ name) value some e =
    let place = place_of_equals (x ∷ name) value e in
    let next : length (x ∷ name) + 1 ≡ suc (length (x ∷ name)) = omega arith in
    ap (λ b. cond b (full (before_first is_equals (x ∷ name ++ 61 ∷ value)) (after_first is_equals (x ∷ name ++ 61 ∷ value))) (named (x ∷ name ++ 61 ∷ value))) (has_equals (x ∷ name) value)
    ∙ (λ i. full (take (place i) (x ∷ name ++ 61 ∷ value)) (drop (place i + 1) (x ∷ name ++ 61 ∷ value)))
    ∙ (λ i. full (front_of (x ∷ name) value i) (drop (next i) (x ∷ name ++ 61 ∷ value)))
    ∙ ap (full (x ∷ name)) (back_of (x ∷ name) value)

alone_kind : (name : Text) → 0 < length name → list_any is_equals name ≡ false → kind_of (dashed name) ≡ named name
alone_kind [] some e = absurd (omega arith)
alone_kind (x ∷ name) some e = ap (λ b. cond b (full (before_first is_equals (x ∷ name)) (after_first is_equals (x ∷ name))) (named (x ∷ name))) e

pub in_the_word : (name value : Text) (words : List Text) → 0 < length name → list_any is_equals name ≡ false
    → parts_of None (with_value name value ∷ words) ≡ parts_of None (dashed name ∷ value ∷ words)
in_the_word name value words some e = ap (λ k. parts_from k (with_value name value) words (λ due. parts_of due words)) (same_kind name value some e)
    ∙ sym (ap (λ k. parts_from k (dashed name) (value ∷ words) (λ due. parts_of due (value ∷ words))) (alone_kind name some e))
