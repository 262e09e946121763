-- Two texts that may stand side by side are one text, and what a text begins with may be said less exactly.
use Rattle.std.proofs.Common.{◌≡◌, ℕ, ◌+◌, ◌<◌, ◌≤◌, ◌==◌, ◌||◌, ◌&&◌, Bool, true, false, not, nat_lt, List, [], ◌∷◌, ◌++◌, length, length-append, append_assoc, map, refl, sym, ap, ◌∙◌, subst, inr, arith}
use Rattle.std.specs.Prelude.{encode_utf8_all}
use Rattle.std.specs.Char.{is_ascii_digit, is_ascii_alphanumeric}
use Rattle.std.specs.List.{list_any, list_all}
use Rattle.std.specs.Str.{all_scalars}
use Rattle.std.proofs.lemmas.Bool.{false≢true, and_parts, and_from, or_from, or_right, not-true, ltb-true, eqb-true, ne_eqb}
use Rattle.std.proofs.lemmas.Bool.Decides.{nat_tests}
use Rattle.std.proofs.lemmas.Str.{encodes-append}
use Rattle.unicode_ident.proofs.IdentLemmas.{is_xid_continue-ascii}
use Rattle.sn_ast.specs.declared.terminal.Terminal.{Terminal}
use Rattle.sn_lexer.specs.Fronts.{BeginsNoTag}
use Rattle.sn_lexer.specs.Gaps.{is_blank, opens_comment}
use Rattle.sn_lexer.specs.Lexes.{width}
use Rattle.sn_lexer.specs.Spelling.{is_among, is_symbol, starts_name, lone_symbols, paired_symbols}
use Rattle.sn_lexer.proofs.Heads.{mark_is, symbol_second, starts_above}
use Rattle.sn_lexer.proofs.Symbols.{no_pair_at}
use Rattle.sn_lexer.proofs.Tables.{among_then, pair_is}
use Rattle.sn_lexer.proofs.Tags.{no_tag_open, no_tag_name}
use Rattle.sn_lexer.proofs.WordKinds.{fails, digit_above}
use Rattle.sn_roundtrip.proofs.Spans.{Heads, Begin, Calm, Mild, Exactly, End, Free, Whole, After, is_calm, Begins, Follows, parts_names, adjoin, is_pair, Stands, Told, Span}

pub scalars_append : (xs ys : List ℕ) → all_scalars xs ≡ true → all_scalars ys ≡ true → all_scalars (xs ++ ys) ≡ true
scalars_append [] ys p q = q
scalars_append (x ∷ xs) ys p q = and_from _ _ (and_parts _ _ p).0 (scalars_append xs ys (and_parts _ _ p).1 q)

-- what holds of each number of a list holds of one in it
any_then : (P : ℕ → Bool) (table : List ℕ) (c : ℕ) → list_any (λ d. d == c) table ≡ true → list_all P table ≡ true → P c ≡ true
any_then P [] c here all = absurd (false≢true here)
any_then P (d ∷ table) c here all =
    let parts = and_parts (P d) (list_all P table) all in
    elim (d == c) as (λ b. (d == c) ≡ b → (b || list_any (λ x. x == c) table) ≡ true → P c ≡ true) [
      | true ↦ λ e h. ap P (sym (eqb-true d c e)) ∙ parts.0
      | false ↦ λ e h. any_then P table c h parts.1
    ] refl here

-- what holds of each pair of the table holds of a symbol of two characters
pub pair_then : (P : List ℕ → Bool) (a b : ℕ) → is_symbol (a ∷ b ∷ []) ≡ true → list_all P (map (λ c. c ∷ []) lone_symbols) ≡ true → list_all P paired_symbols ≡ true → P (a ∷ b ∷ []) ≡ true
unfolding is_symbol
pair_then P a b h lone paired =
    elim (is_among (map (λ c. c ∷ []) lone_symbols) (a ∷ b ∷ [])) as (λ t. is_among (map (λ c. c ∷ []) lone_symbols) (a ∷ b ∷ []) ≡ t → (t || is_among paired_symbols (a ∷ b ∷ [])) ≡ true → P (a ∷ b ∷ []) ≡ true) [
      | true ↦ λ e s. among_then P (map (λ c. c ∷ []) lone_symbols) (a ∷ b ∷ []) e lone
      | false ↦ λ e s. among_then P paired_symbols (a ∷ b ∷ []) s paired
    ] refl h

abbrev is_calm_mark : ℕ → Bool
is_calm_mark c = list_any (λ d. d == c) (34 ∷ 40 ∷ 45 ∷ 60 ∷ 91 ∷ 123 ∷ [])

abbrev second_not_calm : List ℕ → Bool
second_not_calm (a ∷ b ∷ cs) = not (is_calm_mark b)
second_not_calm _ = true

-- `!` ends the pair `!!` alone
abbrev second_not_bang : List ℕ → Bool
second_not_bang (a ∷ b ∷ cs) = not (b == 33) || (a == 33)
second_not_bang _ = true

no_calm : (c : ℕ) → is_calm_mark c ≡ false → is_ascii_digit c ≡ false → starts_name c ≡ false → is_calm c ≡ false
no_calm c mark digit starts = or_from _ _ mark (or_from _ _ digit starts)

calm_ends_none : (a c : ℕ) → is_calm c ≡ true → is_symbol (a ∷ c ∷ []) ≡ false
calm_ends_none a c calm = fails (is_symbol (a ∷ c ∷ [])) (λ h.
    let second = symbol_second a c [] h in
    let plain = not-true (is_calm_mark c) (pair_then second_not_calm a c h refl refl) in
    false≢true (sym (no_calm c plain second.digit second.starts) ∙ calm))

bang_ends_none : (a c : ℕ) → c ≡ 33 → (a == 33) ≡ false → is_symbol (a ∷ c ∷ []) ≡ false
bang_ends_none a c bang other = fails (is_symbol (a ∷ c ∷ [])) (λ h.
    let both = subst (λ x. (not (x == 33) || (a == 33)) ≡ true) bang (pair_then second_not_bang a c h refl refl) in
    false≢true (sym other ∙ both))

calm_no_slash : is_calm 47 ≡ false
calm_no_slash = no_calm 47 refl refl (mark_is 47 refl).starts

calm_no_star : is_calm 42 ≡ false
calm_no_star = no_calm 42 refl refl (mark_is 42 refl).starts

-- neither `/` nor `*`
abbrev is_opener : ℕ → Bool
is_opener c = (c == 47) || (c == 42)

calm_no_opener : (c : ℕ) → is_calm c ≡ true → is_opener c ≡ false
calm_no_opener c calm = or_from _ _
    (fails (c == 47) (λ h. false≢true (sym calm_no_slash ∙ ap is_calm (sym (eqb-true c 47 h)) ∙ calm)))
    (fails (c == 42) (λ h. false≢true (sym calm_no_star ∙ ap is_calm (sym (eqb-true c 42 h)) ∙ calm)))

no_comment_at : (a c : ℕ) (rest : List ℕ) → is_opener c ≡ false → opens_comment (a ∷ c ∷ rest) ≡ false
no_comment_at a c rest plain = by (a == 47)
  where
    by : (b : Bool) → (b && is_opener c) ≡ false
    by true = plain
    by false = refl

after_follows : (a c : ℕ) (rest : List ℕ) → is_symbol (a ∷ c ∷ []) ≡ false → BeginsNoTag (a ∷ c ∷ rest) → opens_comment (a ∷ c ∷ rest) ≡ false → Follows (After a) (c ∷ rest)
after_follows a c rest no_symbol no_tag plain = (no_pair_at a c (c ∷ rest) rest refl no_symbol, no_tag, plain)

calm_follows : (a c : ℕ) (rest : List ℕ) → (a == 60) ≡ false → is_calm c ≡ true → Follows (After a) (c ∷ rest)
calm_follows a c rest other calm =
    after_follows a c rest (calm_ends_none a c calm) (no_tag_open (a ∷ c ∷ rest) other) (no_comment_at a c rest (calm_no_opener c calm))

bang_follows : (a c : ℕ) (rest : List ℕ) → (a == 60) ≡ false → (a == 33) ≡ false → c ≡ 33 → Follows (After a) (c ∷ rest)
bang_follows a c rest other no_bang bang =
    after_follows a c rest (bang_ends_none a c bang no_bang) (no_tag_open (a ∷ c ∷ rest) other)
    (no_comment_at a c rest (ap is_opener bang))

mild_follows : (a c : ℕ) (rest : List ℕ) → (a == 60) ≡ false → (a == 33) ≡ false → ((c == 33) || is_calm c) ≡ true → Follows (After a) (c ∷ rest)
mild_follows a c rest other no_bang mild =
    elim (c == 33) as (λ b. (c == 33) ≡ b → (b || is_calm c) ≡ true → Follows (After a) (c ∷ rest)) [
      | true ↦ λ bang h. bang_follows a c rest other no_bang (eqb-true c 33 bang)
      | false ↦ λ no_mark calm. calm_follows a c rest other calm
    ] refl mild

blank_below : (c : ℕ) → is_blank c ≡ true → c ≤ 32
blank_below c h = grind (arith, nat_tests)

blank_ends_none : (a c : ℕ) → is_blank c ≡ true → is_symbol (a ∷ c ∷ []) ≡ false
blank_ends_none a c blank = fails (is_symbol (a ∷ c ∷ [])) (λ h. false≢true (sym (symbol_second a c [] h).blank ∙ blank))

blank_no_opener : (c : ℕ) → is_blank c ≡ true → is_opener c ≡ false
blank_no_opener c blank = let low = blank_below c blank in grind (arith, nat_tests)

blank_no_tag : (a c : ℕ) (rest : List ℕ) → is_blank c ≡ true → BeginsNoTag (a ∷ c ∷ rest)
blank_no_tag a c rest blank =
    let low = blank_below c blank in
    let no_start = fails (starts_name c) (λ h. let high = starts_above c h in omega arith) in
    let no_mark = ne_eqb c 35 (λ e. omega arith) in
    elim (a == 60) as (λ b. (a == 60) ≡ b → BeginsNoTag (a ∷ c ∷ rest)) [
      | true ↦ λ angle. no_tag_name (a ∷ c ∷ rest) (c ∷ rest) (c ∷ rest) (ap (λ x. x ∷ c ∷ rest) (eqb-true a 60 angle)) (inr (refl, no_mark)) no_start
      | false ↦ λ other. no_tag_open (a ∷ c ∷ rest) other
    ] refl

blank_follows : (a c : ℕ) (rest : List ℕ) → is_blank c ≡ true → Follows (After a) (c ∷ rest)
blank_follows a c rest blank =
    after_follows a c rest (blank_ends_none a c blank) (blank_no_tag a c rest blank) (no_comment_at a c rest (blank_no_opener c blank))

exact_follows : (a c : ℕ) (rest : List ℕ) → adjoin (After a) (Exactly c) ≡ true → Follows (After a) (c ∷ rest)
exact_follows a c rest h =
    elim (is_blank c) as (λ b. is_blank c ≡ b → (b || (not (a == 60) && (not (is_pair a c) && not (opens_comment (a ∷ c ∷ []))))) ≡ true → Follows (After a) (c ∷ rest)) [
      | true ↦ λ blank t. blank_follows a c rest blank
      | false ↦ λ solid t.
          let one = and_parts _ _ t in
          let two = and_parts _ _ one.1 in
          after_follows a c rest (pair_is a c ∙ not-true _ two.0) (no_tag_open (a ∷ c ∷ rest) (not-true _ one.0)) (not-true _ two.1)
    ] refl h

-- neither a digit nor a letter
abbrev is_outside : ℕ → Bool
is_outside c = nat_lt c 128 && (not (is_ascii_digit c) && not (is_ascii_alphanumeric c || (c == 95)))

outside_follows : (c : ℕ) (rest : List ℕ) → is_outside c ≡ true → Follows Whole (c ∷ rest)
outside_follows c rest h =
    let one = and_parts (nat_lt c 128) _ h in
    let two = and_parts (not (is_ascii_digit c)) (not (is_ascii_alphanumeric c || (c == 95))) one.1 in
    let low : c < 128 = ltb-true c 128 one.0 in
    (is_xid_continue-ascii c low ∙ not-true _ two.1, not-true _ two.0)

parts_outside : (c : ℕ) → parts_names c ≡ true → is_outside c ≡ true
parts_outside c h =
    elim (is_blank c) as (λ b. is_blank c ≡ b → (b || list_any (λ d. d == c) (33 ∷ 34 ∷ 40 ∷ 41 ∷ 44 ∷ 59 ∷ 61 ∷ 64 ∷ 91 ∷ 93 ∷ 123 ∷ 124 ∷ 125 ∷ [])) ≡ true → is_outside c ≡ true) [
      | true ↦ λ blank t. let low = blank_below c blank in grind (arith, nat_tests)
      | false ↦ λ solid t. any_then is_outside (33 ∷ 34 ∷ 40 ∷ 41 ∷ 44 ∷ 59 ∷ 61 ∷ 64 ∷ 91 ∷ 93 ∷ 123 ∷ 124 ∷ 125 ∷ []) c t refl
    ] refl h

-- what may stand side by side follows well
pub follows : (e : End) (b : Begin) (cs rest : List ℕ) → adjoin e b ≡ true → Begins b cs → Follows e (cs ++ rest)
follows e b [] rest h begins = absurd begins
follows Free b (c ∷ cs) rest h begins = tt
follows Whole Calm (c ∷ cs) rest h begins = absurd (false≢true h)
follows Whole Mild (c ∷ cs) rest h begins = absurd (false≢true h)
follows Whole (Exactly d) (c ∷ cs) rest h begins = outside_follows c (cs ++ rest) (parts_outside c (ap parts_names begins ∙ h))
follows (After a) Calm (c ∷ cs) rest h begins = calm_follows a c (cs ++ rest) (not-true (a == 60) h) begins
follows (After a) Mild (c ∷ cs) rest h begins =
    let parts = and_parts (not (a == 60)) (not (a == 33)) h in
    mild_follows a c (cs ++ rest) (not-true (a == 60) parts.0) (not-true (a == 33) parts.1) begins
follows (After a) (Exactly d) (c ∷ cs) rest h begins = exact_follows a c (cs ++ rest) (subst (λ x. adjoin (After a) (Exactly x) ≡ true) (sym begins) h)

pub width_append : (xs ys : List ℕ) → width (xs ++ ys) ≡ width xs + width ys
width_append xs ys = ap length (encodes-append xs ys) ∙ length-append (encode_utf8_all xs) (encode_utf8_all ys)

-- what follows a piece stands behind its bytes
pub stands_behind : (all : List ℕ) (p : ℕ) (piece text more : List ℕ) → encode_utf8_all piece ≡ text → Stands all p (piece ++ more) → Stands all (p + length text) more
stands_behind all p piece text more encoded s =
    let wide = width_append s.front piece in
    let here = s.place in
    let size : width piece ≡ length text = ap length encoded in
    record {
      front = s.front ++ piece;
      is = s.is ∙ sym (append_assoc s.front piece more);
      place = omega arith;
    }

pub begins_append : (b : Begin) (xs ys : List ℕ) → Begins b xs → Begins b (xs ++ ys)
begins_append b [] ys h = absurd h
begins_append Calm (x ∷ xs) ys h = h
begins_append Mild (x ∷ xs) ys h = h
begins_append (Exactly d) (x ∷ xs) ys h = h

pub encoded_append : (xs ys s t : List ℕ) → encode_utf8_all xs ≡ s → encode_utf8_all ys ≡ t → encode_utf8_all (xs ++ ys) ≡ s ++ t
encoded_append xs ys s t p q = encodes-append xs ys ∙ (λ i. p i ++ q i)

pub tells_both : {b c : Begin} {e f : End} {s t : List ℕ} (x : Span b e s) (y : Span c f t) → adjoin e c ≡ true →
    (all : List ℕ) (p : ℕ) (rest : List ℕ) (us : List Terminal) → Stands all p ((x.piece ++ y.piece) ++ rest) → Follows f rest → Told all rest us →
    Told all ((x.piece ++ y.piece) ++ rest) (x.said p (y.said (p + length s) us))
tells_both {c} {e} {s} x y beside all p rest us stands ends told =
    let assoc = append_assoc x.piece y.piece rest in
    let here = subst (Stands all p) assoc stands in
    let behind = stands_behind all p x.piece s (y.piece ++ rest) x.encoded here in
    let second = y.tells all (p + length s) rest us behind ends told in
    let whole = x.tells all p (y.piece ++ rest) (y.said (p + length s) us) here (follows e c y.piece rest beside y.begins) second in
    subst (λ cs. Told all cs (x.said p (y.said (p + length s) us))) (sym assoc) whole

pub heads_both : (b : Begin) (said : ℕ → List Terminal → List Terminal) (more : ℕ → List Terminal → List Terminal) → Heads b said → Heads b (λ p us. said p (more p us))
heads_both Calm said more h = λ p us. h p (more p us)
heads_both Mild said more h = λ p us. h p (more p us)
heads_both (Exactly c) said more h = λ no p us. h no p (more p us)

abbrev pub before : {b c : Begin} {e f : End} {s t : List ℕ} → Span b e s → Span c f t → adjoin e c ≡ true → Span b f (s ++ t)
before {b} {c} {e} {f} {s} {t} x y beside = record {
  piece = x.piece ++ y.piece;
  scalar = scalars_append x.piece y.piece x.scalar y.scalar;
  encoded = encoded_append x.piece y.piece s t x.encoded y.encoded;
  begins = begins_append b x.piece y.piece x.begins;
  said = λ p us. x.said p (y.said (p + length s) us);
  heads = heads_both b x.said (λ p us. y.said (p + length s) us) x.heads;
  tells = tells_both x y beside;
}

pub exactly_calm : (c : ℕ) (cs : List ℕ) → is_calm c ≡ true → Begins (Exactly c) cs → Begins Calm cs
exactly_calm c [] calm h = h
exactly_calm c (d ∷ cs) calm h = ap is_calm h ∙ calm

pub calm_mild : (cs : List ℕ) → Begins Calm cs → Begins Mild cs
calm_mild [] h = h
calm_mild (d ∷ cs) h = or_right _ _ h

pub exactly_mild : (c : ℕ) (cs : List ℕ) → ((c == 33) || is_calm c) ≡ true → Begins (Exactly c) cs → Begins Mild cs
exactly_mild c [] mild h = h
exactly_mild c (d ∷ cs) mild h = ap (λ x. (x == 33) || is_calm x) h ∙ mild

-- what begins calmly begins with no blank
abbrev above : ℕ → Bool
above c = nat_lt 33 c

mark_above : (c : ℕ) → is_calm_mark c ≡ true → 33 < c
mark_above c h = ltb-true 33 c (any_then above (34 ∷ 40 ∷ 45 ∷ 60 ∷ 91 ∷ 123 ∷ []) c h refl)

pub calm_no_blank : (c : ℕ) → is_calm c ≡ true → is_blank c ≡ false
calm_no_blank c calm = fails (is_blank c) (λ h.
    let low = blank_below c h in
    false≢true (sym (no_calm c
    (fails (is_calm_mark c) (λ m. let high = mark_above c m in omega arith))
    (fails (is_ascii_digit c) (λ d. let high = digit_above c d in omega arith))
    (fails (starts_name c) (λ n. let high = starts_above c n in omega arith))) ∙ calm))

pub mild_no_blank : (c : ℕ) → ((c == 33) || is_calm c) ≡ true → is_blank c ≡ false
mild_no_blank c mild =
    elim (c == 33) as (λ b. (c == 33) ≡ b → (b || is_calm c) ≡ true → is_blank c ≡ false) [
      | true ↦ λ bang h. ap is_blank (eqb-true c 33 bang)
      | false ↦ λ other h. calm_no_blank c h
    ] refl mild

abbrev pub calmly : {c : ℕ} {e : End} {t : List ℕ} → is_calm c ≡ true → Span (Exactly c) e t → Span Calm e t
calmly {c} calm x = record {
  piece = x.piece;
  scalar = x.scalar;
  encoded = x.encoded;
  begins = exactly_calm c x.piece calm x.begins;
  said = λ p us. x.said p us;
  heads = x.heads (calm_no_blank c calm);
  tells = x.tells;
}

abbrev pub mildly : {e : End} {t : List ℕ} → Span Calm e t → Span Mild e t
mildly x = record {
  piece = x.piece;
  scalar = x.scalar;
  encoded = x.encoded;
  begins = calm_mild x.piece x.begins;
  said = λ p us. x.said p us;
  heads = x.heads;
  tells = x.tells;
}

abbrev pub mildly_exact : {c : ℕ} {e : End} {t : List ℕ} → ((c == 33) || is_calm c) ≡ true → Span (Exactly c) e t → Span Mild e t
mildly_exact {c} mild x = record {
  piece = x.piece;
  scalar = x.scalar;
  encoded = x.encoded;
  begins = exactly_mild c x.piece mild x.begins;
  said = λ p us. x.said p us;
  heads = x.heads (mild_no_blank c mild);
  tells = x.tells;
}

abbrev pub wholly : {b : Begin} {t : List ℕ} → Span b Free t → Span b Whole t
wholly x = record {
  piece = x.piece;
  scalar = x.scalar;
  encoded = x.encoded;
  begins = x.begins;
  said = λ p us. x.said p us;
  heads = heads_both _ x.said (λ p us. us) x.heads;
  tells = λ all p rest us stands ends told. x.tells all p rest us stands tt told;
}
