-- The characters of a printed line.
use Rattle.std.proofs.Common.{◌≡◌, ℕ, ◌&&◌, ◌||◌, ◌==◌, Bool, true, false, not, List, [], ◌∷◌, ◌++◌, refl, ap, ◌∙◌, subst, arith}
use Rattle.std.specs.Prelude.{encode_utf8_all, if◌then◌else◌}
use Rattle.std.specs.List.{list_all}
use Rattle.std.specs.Str.{all_scalars}
use Rattle.std.proofs.Math.Utf8.{scalar}
use Rattle.std.proofs.lemmas.Bool.{false≢true, and_parts, and_from, eqb-true}
use Rattle.std.proofs.lemmas.Bool.Decides.{nat_tests}
use Rattle.std.proofs.lemmas.List.Folds.{list_all-append}
use Rattle.ucd_table.specs.Rows.{Range, in_ranges}
use Rattle.ucd_table.proofs.Facts.{Stepped-everywhere}
use Rattle.ucd_table.proofs.Stepped.{Stepped, of_ranges, zip_stepped}
use Rattle.ucd_table.proofs.StepsLemmas.{rises_from}
use Rattle.ucd_derived.proofs.BinaryLemmas.{is_xid_continue_stepped}
use Rattle.unicode_ident.specs.Ident.{is_xid_start, is_xid_continue}
use Rattle.unicode_ident.proofs.Computing.{unicode_ident}
use Rattle.unicode_ident.proofs.IdentLemmas.{is_xid_start-is_xid_continue}
use Rattle.sn_lexer.specs.Spelling.{starts_name, is_name, behind_mark, is_printable}
use Rattle.sn_lexer.proofs.Heads.{is_ascii}
use Rattle.sn_lexer.proofs.Plain.{ascii_bytes}
use Rattle.sn_record_roundtrip.specs.ReadsBack.{is_no_line_feed}

-- a character, and no line feed
abbrev pub is_inline : ℕ → Bool
is_inline c = scalar c && is_no_line_feed c

-- what holds of each of a list, where what follows from it is asked for
pub all_weaker : (p q : ℕ → Bool) → ((c : ℕ) → p c ≡ true → q c ≡ true) → (cs : List ℕ) → list_all p cs ≡ true → list_all q cs ≡ true
all_weaker p q weaker [] h = refl
all_weaker p q weaker (c ∷ cs) h =
    let parts = and_parts (p c) (list_all p cs) h in
    and_from _ _ (weaker c parts.0) (all_weaker p q weaker cs parts.1)

pub all_append : (p : ℕ → Bool) (xs ys : List ℕ) → list_all p xs ≡ true → list_all p ys ≡ true → list_all p (xs ++ ys) ≡ true
all_append p xs ys first second = list_all-append p xs ys ∙ and_from _ _ first second

printable_inline_at : (c : ℕ) → is_printable c ≡ true → is_inline c ≡ true
printable_inline_at c h = grind (arith, nat_tests)

printable_ascii_at : (c : ℕ) → is_printable c ≡ true → is_ascii c ≡ true
printable_ascii_at c h = grind (arith, nat_tests)

-- printable characters are inline, and their own bytes
pub printable_inline : (cs : List ℕ) → list_all is_printable cs ≡ true → list_all is_inline cs ≡ true
printable_inline = all_weaker is_printable is_inline printable_inline_at

pub printable_bytes : (cs : List ℕ) → list_all is_printable cs ≡ true → encode_utf8_all cs ≡ cs
printable_bytes cs h = ascii_bytes cs (all_weaker is_printable is_ascii printable_ascii_at cs h)

abbrev inline_ranges : List Range
inline_ranges = (0, 9) ∷ (11, 0xD7FF) ∷ (0xE000, 0x10FFFF) ∷ []

unfoldable inline_stepped : Stepped (in_ranges inline_ranges)
unfolding rises_from
inline_stepped = of_ranges inline_ranges refl

continues_within : (c : ℕ) → is_xid_continue c ≡ true → in_ranges inline_ranges c ≡ true
unfolding unicode_ident inline_stepped
continues_within c continues =
    let both = zip_stepped (λ a b. not a || b) is_xid_continue (in_ranges inline_ranges) is_xid_continue_stepped inline_stepped in
    subst (λ a. (not a || in_ranges inline_ranges c) ≡ true) continues (Stepped-everywhere _ both refl c)

within_inline : (c : ℕ) → in_ranges inline_ranges c ≡ true → is_inline c ≡ true
unfolding in_ranges
within_inline c h = grind (arith, nat_tests)

-- what a name has is inline
continues_inline : (c : ℕ) → is_xid_continue c ≡ true → is_inline c ≡ true
continues_inline c h = within_inline c (continues_within c h)

starts_inline : (c : ℕ) → starts_name c ≡ true → is_inline c ≡ true
starts_inline c h =
    elim (is_xid_start c) as (λ b. is_xid_start c ≡ b → (b || (c == 95)) ≡ true → is_inline c ≡ true) [
      | true ↦ λ starts _. continues_inline c (is_xid_start-is_xid_continue c starts)
      | false ↦ λ _ line. grind (arith, nat_tests)
    ] refl h

pub name_inline : (word : List ℕ) → is_name word ≡ true → list_all is_inline word ≡ true
name_inline [] h = absurd (false≢true h)
name_inline (c ∷ cs) h =
    let parts = and_parts (starts_name c) (list_all is_xid_continue cs) h in
    and_from _ _ (starts_inline c parts.0) (all_weaker is_xid_continue is_inline continues_inline cs parts.1)

-- so is what a tag's name has
pub tag_inline : (word : List ℕ) → behind_mark is_name word ≡ true → list_all is_inline word ≡ true
tag_inline [] h = absurd (false≢true h)
tag_inline (c ∷ cs) h =
    elim (c == 35) as (λ b. (c == 35) ≡ b → (if b then is_name cs else is_name (c ∷ cs)) ≡ true → list_all is_inline (c ∷ cs) ≡ true) [
      | true ↦ λ mark named. and_from _ _ (ap is_inline (eqb-true c 35 mark)) (name_inline cs named)
      | false ↦ λ _ named. name_inline (c ∷ cs) named
    ] refl h

-- what is inline is characters, and no line feed
pub inline_scalars : (cs : List ℕ) → list_all is_inline cs ≡ true → all_scalars cs ≡ true
inline_scalars [] h = refl
inline_scalars (c ∷ cs) h =
    let parts = and_parts (is_inline c) (list_all is_inline cs) h in
    and_from _ _ (and_parts (scalar c) (is_no_line_feed c) parts.0).0 (inline_scalars cs parts.1)

pub inline_one_line : (cs : List ℕ) → list_all is_inline cs ≡ true → list_all is_no_line_feed cs ≡ true
inline_one_line = all_weaker is_inline is_no_line_feed (λ c h. (and_parts (scalar c) (is_no_line_feed c) h).1)
