-- Words that stand in a table.
use Rattle.std.proofs.Common.{◌≡◌, ℕ, ◌&&◌, ◌||◌, Bool, true, false, nat_eq, List, [], ◌∷◌, length, map, refl, sym, ap, ◌∙◌}
use Rattle.std.specs.Prelude.{encode_utf8_all}
use Rattle.std.specs.List.{list_any, list_all}
use Rattle.std.proofs.lemmas.Str.{encodes_same}
use Rattle.std.specs.Cmp.Lexicographic.{pointwise}
use Rattle.std.proofs.lemmas.Bool.{false≢true, and_parts, eqb-true, eq-eqb}
use Rattle.sn_lexer.specs.Spelling.{is_among, keywords, is_keyword, lone_symbols, paired_symbols, is_symbol}

-- lists that are equal by test are one
pub same_words : (xs ys : List ℕ) → pointwise nat_eq xs ys ≡ true → xs ≡ ys
same_words [] [] h = refl
same_words [] (y ∷ ys) h = absurd (false≢true h)
same_words (x ∷ xs) [] h = absurd (false≢true h)
same_words (x ∷ xs) (y ∷ ys) h =
    let parts = and_parts (nat_eq x y) (pointwise nat_eq xs ys) h in
    let head = eqb-true x y parts.0 in
    let tail = same_words xs ys parts.1 in
    λ i. head i ∷ tail i

-- what holds of each entry holds of a word in the table
pub among_then : (P : List ℕ → Bool) (table : List (List ℕ)) (word : List ℕ) → is_among table word ≡ true → list_all P table ≡ true → P word ≡ true
among_then P [] word here all = absurd (false≢true here)
among_then P (entry ∷ table) word here all =
    let parts = and_parts (P entry) (list_all P table) all in
    elim (pointwise nat_eq entry word) as (λ b. pointwise nat_eq entry word ≡ b → (b || is_among table word) ≡ true → P word ≡ true) [
      | true ↦ λ e h. ap P (sym (same_words entry word e)) ∙ parts.0
      | false ↦ λ e h. among_then P table word h parts.1
    ] refl here

-- no word for which a test fails that holds of each entry
pub among_not : (P : List ℕ → Bool) (table : List (List ℕ)) (word : List ℕ) → list_all P table ≡ true → P word ≡ false → is_among table word ≡ false
among_not P table word all fails = by (is_among table word) refl
  where
    by : (b : Bool) → is_among table word ≡ b → is_among table word ≡ false
    by true e = absurd (false≢true (sym fails ∙ among_then P table word e all))
    by false e = e

and_true : (b : Bool) → (b && true) ≡ b
and_true true = refl
and_true false = refl

or_false : (b : Bool) → (b || false) ≡ b
or_false true = refl
or_false false = refl

-- a table of single characters
singles_are : (c : ℕ) (cs : List ℕ) → is_among (map (λ x. x ∷ []) cs) (c ∷ []) ≡ list_any (λ x. nat_eq x c) cs
singles_are c [] = refl
singles_are c (x ∷ cs) = λ i. and_true (nat_eq x c) i || singles_are c cs i

-- a table of pairs
abbrev pub pair_word : ℕ × ℕ → List ℕ
pair_word p = p.0 ∷ p.1 ∷ []

pairs_are : (a b : ℕ) (ps : List (ℕ × ℕ)) → is_among (map pair_word ps) (a ∷ b ∷ []) ≡ list_any (λ p. nat_eq p.0 a && nat_eq p.1 b) ps
pairs_are a b [] = refl
pairs_are a b (p ∷ ps) = λ i. (nat_eq p.0 a && and_true (nat_eq p.1 b) i) || pairs_are a b ps i

abbrev symbol_pairs : List (ℕ × ℕ)
symbol_pairs = (91, 124) ∷ (124, 93) ∷ (61, 61) ∷ (33, 61) ∷ (60, 61) ∷ (62, 61) ∷ (38, 38) ∷ (124, 124) ∷ (33, 33) ∷ (42, 42) ∷ (46, 46) ∷ (45, 62) ∷ []

has_length : ℕ → List ℕ → Bool
has_length n word = nat_eq (length word) n

-- a symbol of one character
pub lone_is : (c : ℕ) → is_symbol (c ∷ []) ≡ list_any (λ x. nat_eq x c) lone_symbols
unfolding is_symbol has_length
lone_is c =
    let no_pair : is_among paired_symbols (c ∷ []) ≡ false = among_not (has_length 2) paired_symbols (c ∷ []) refl refl in
    ap (λ b. is_among (map (λ x. x ∷ []) lone_symbols) (c ∷ []) || b) no_pair ∙ or_false _ ∙ singles_are c lone_symbols

-- a symbol of two characters
pub pair_is : (a b : ℕ) → is_symbol (a ∷ b ∷ []) ≡ list_any (λ p. nat_eq p.0 a && nat_eq p.1 b) symbol_pairs
unfolding is_symbol has_length
pair_is a b =
    let no_single : is_among (map (λ x. x ∷ []) lone_symbols) (a ∷ b ∷ []) ≡ false = among_not (has_length 1) (map (λ x. x ∷ []) lone_symbols) (a ∷ b ∷ []) refl refl in
    ap (λ t. t || is_among paired_symbols (a ∷ b ∷ [])) no_single ∙ pairs_are a b symbol_pairs

-- a list equals itself by test
pub word_same : (xs : List ℕ) → pointwise nat_eq xs xs ≡ true
word_same [] = refl
word_same (x ∷ xs) = λ i. eq-eqb x x refl i && word_same xs i

same_tests : (a b : Bool) → (a ≡ true → b ≡ true) → (b ≡ true → a ≡ true) → a ≡ b
same_tests true true f g = refl
same_tests true false f g = sym (f refl)
same_tests false true f g = g refl
same_tests false false f g = refl

is_plain : List ℕ → Bool
is_plain word = pointwise nat_eq (encode_utf8_all word) word

-- a word's bytes stand in a table of plain words where the word does
among_bytes : (table : List (List ℕ)) (word : List ℕ) → list_all is_plain table ≡ true → is_among table (encode_utf8_all word) ≡ is_among table word
unfolding is_plain
among_bytes [] word plain = refl
among_bytes (entry ∷ table) word plain =
    let parts = and_parts (is_plain entry) (list_all is_plain table) plain in
    let bytes = same_words (encode_utf8_all entry) entry parts.0 in
    let there : pointwise nat_eq entry (encode_utf8_all word) ≡ true → pointwise nat_eq entry word ≡ true =
    λ h. let one = encodes_same entry word (bytes ∙ same_words entry (encode_utf8_all word) h) in
    ap (pointwise nat_eq entry) (sym one) ∙ word_same entry in
    let back : pointwise nat_eq entry word ≡ true → pointwise nat_eq entry (encode_utf8_all word) ≡ true =
    λ h. let one = ap encode_utf8_all (sym (same_words entry word h)) ∙ bytes in
    ap (pointwise nat_eq entry) one ∙ word_same entry in
    λ i. same_tests _ _ there back i || among_bytes table word parts.1 i

pub keyword_bytes : (word : List ℕ) → is_among keywords (encode_utf8_all word) ≡ is_keyword word
unfolding is_keyword is_plain lib.Utf8.encode
keyword_bytes word = among_bytes keywords word refl
