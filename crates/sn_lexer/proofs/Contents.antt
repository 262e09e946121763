-- A text's content is written in one way.
use Rattle.std.proofs.Common.{◌≡◌, ℕ, ◌&&◌, ◌||◌, ◌==◌, Bool, true, false, not, List, [], ◌∷◌, ◌++◌, append_assoc, refl, sym, ap, ◌∙◌, arith}
use Rattle.std.specs.Prelude.{if◌then◌else◌}
use Rattle.std.specs.List.{list_all, flat_map}
use Rattle.std.proofs.lemmas.Bool.{false≢true, and_parts, not-true, eqb-true}
use Rattle.std.proofs.lemmas.Bool.Decides.{nat_tests}
use Rattle.sn_lexer.specs.Spelling.{is_printable, is_escapable, escaped}
use Rattle.sn_lexer.specs.Lexes.{IsTextUpTo, IsBadEscape, leaves_open, ends_text}

abbrev pub begins_escapable : List ℕ → Bool
begins_escapable [] = false
begins_escapable (c ∷ cs) = is_escapable c

-- one more character of a text is in front
abbrev pub goes_on : List ℕ → Bool
goes_on [] = false
goes_on (c ∷ cs) = if is_escapable c then (c == 92) && begins_escapable cs else is_printable c

pub goes : (c : ℕ) (cs : List ℕ) → is_printable c ≡ true → goes_on (escaped c ++ cs) ≡ true
goes c cs printable =
    elim (is_escapable c) as (λ b. is_escapable c ≡ b → goes_on ((if b then 92 ∷ c ∷ [] else c ∷ []) ++ cs) ≡ true) [
      | true ↦ λ e. e
      | false ↦ λ e. rw e printable
    ] refl

-- the first character that was written
escaped_once : (c d : ℕ) (xs ys : List ℕ) → escaped c ++ xs ≡ escaped d ++ ys → (c ≡ d) × (xs ≡ ys)
escaped_once c d xs ys =
    elim (is_escapable c) as (λ b. is_escapable c ≡ b → ((if b then 92 ∷ c ∷ [] else c ∷ []) ++ xs) ≡ escaped d ++ ys → (c ≡ d) × (xs ≡ ys)) [
      | true ↦ λ e.
          elim (is_escapable d) as (λ b. is_escapable d ≡ b → (92 ∷ c ∷ xs) ≡ ((if b then 92 ∷ d ∷ [] else d ∷ []) ++ ys) → (c ≡ d) × (xs ≡ ys)) [
            | true ↦ λ f same. (cc, cc)
            | false ↦ λ f same. let backslash : 92 ≡ d = cc in absurd (false≢true (sym f ∙ ap is_escapable (sym backslash)))
          ] refl
      | false ↦ λ e.
          elim (is_escapable d) as (λ b. is_escapable d ≡ b → (c ∷ xs) ≡ ((if b then 92 ∷ d ∷ [] else d ∷ []) ++ ys) → (c ≡ d) × (xs ≡ ys)) [
            | true ↦ λ f same. let backslash : c ≡ 92 = cc in absurd (false≢true (sym e ∙ ap is_escapable backslash))
            | false ↦ λ f same. (cc, cc)
          ] refl
    ] refl

abbrev pub written : List ℕ → List ℕ
written content = flat_map escaped content

-- two contents that go no further are one
pub content_once : (content other rest more : List ℕ) → list_all is_printable content ≡ true → list_all is_printable other ≡ true → goes_on rest ≡ false → goes_on more ≡ false → written content ++ rest ≡ written other ++ more → (content ≡ other) × (rest ≡ more)
content_once [] [] rest more p q stops stops' same = (refl, same)
content_once [] (d ∷ other) rest more p q stops stops' same =
    let one = same ∙ append_assoc (escaped d) (written other) more in
    let goes_further = goes d (written other ++ more) (and_parts (is_printable d) (list_all is_printable other) q).0 in
    absurd (false≢true (sym stops ∙ ap goes_on one ∙ goes_further))
content_once (c ∷ content) [] rest more p q stops stops' same =
    let one = sym same ∙ append_assoc (escaped c) (written content) rest in
    let goes_further = goes c (written content ++ rest) (and_parts (is_printable c) (list_all is_printable content) p).0 in
    absurd (false≢true (sym stops' ∙ ap goes_on one ∙ goes_further))
content_once (c ∷ content) (d ∷ other) rest more p q stops stops' same =
    let one = sym (append_assoc (escaped c) (written content) rest) ∙ same ∙ append_assoc (escaped d) (written other) more in
    let parts = escaped_once c d (written content ++ rest) (written other ++ more) one in
    let tails = content_once content other rest more (and_parts (is_printable c) (list_all is_printable content) p).1 (and_parts (is_printable d) (list_all is_printable other) q).1 stops stops' parts.1 in
    ((λ i. parts.0 i ∷ tails.0 i), tails.1)

-- one more character
pub written_push : (content : List ℕ) (c : ℕ) (rest : List ℕ) → written content ++ (escaped c ++ rest) ≡ written (content ++ c ∷ []) ++ rest
written_push [] c rest = sym (append_assoc (escaped c) [] rest)
written_push (d ∷ content) c rest =
    append_assoc (escaped d) (written content) (escaped c ++ rest) ∙ ap (λ xs. escaped d ++ xs) (written_push content c rest) ∙ sym (append_assoc (escaped d) (written (content ++ c ∷ [])) rest)

pub all_push : (test : ℕ → Bool) (cs : List ℕ) (c : ℕ) → list_all test cs ≡ true → test c ≡ true → list_all test (cs ++ c ∷ []) ≡ true
all_push test [] c all one = rw one refl
all_push test (d ∷ cs) c all one =
    let parts = and_parts (test d) (list_all test cs) all in
    λ i. parts.0 i && all_push test cs c parts.1 one i

-- content and one more character
pub text_more : (cs : List ℕ) (c : ℕ) (rest next : List ℕ) → IsTextUpTo cs rest → is_printable c ≡ true → rest ≡ escaped c ++ next → IsTextUpTo cs next
text_more cs c rest next text printable is = record {
  content = text.content ++ c ∷ [];
  printable = all_push is_printable text.content c text.printable printable;
  front = text.front ∙ ap (λ xs. 34 ∷ (written text.content ++ xs)) is ∙ ap (λ xs. 34 ∷ xs) (written_push text.content c next);
}

-- where a text ends or is wrong, it goes no further
unprintable : (c : ℕ) → is_printable c ≡ false → is_escapable c ≡ false
unprintable c h = grind (arith, nat_tests)

ends_stops : (cs : List ℕ) → ends_text cs ≡ true → begins_escapable cs ≡ false
ends_stops [] h = refl
ends_stops (c ∷ cs) h = unprintable c (not-true (is_printable c) h)

pub open_stops : (rest : List ℕ) → leaves_open rest ≡ true → goes_on rest ≡ false
open_stops [] h = refl
open_stops (c ∷ cs) h =
    elim (is_printable c) as (λ b. is_printable c ≡ b → (not b || ((c == 92) && ends_text cs)) ≡ true → goes_on (c ∷ cs) ≡ false) [
      | true ↦ λ e behind.
          let parts = and_parts (c == 92) (ends_text cs) behind in
          let backslash = eqb-true c 92 parts.0 in
          let stops = ends_stops cs parts.1 in
          rw (backslash, stops) refl
      | false ↦ λ e bad. let plain = unprintable c e in rw (plain, e) refl
    ] refl h

pub wrong_stops : (rest : List ℕ) → IsBadEscape rest → goes_on rest ≡ false
wrong_stops rest bad = ap goes_on bad.front ∙ bad.needless
