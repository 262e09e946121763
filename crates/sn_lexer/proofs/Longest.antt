-- The words that are the longest in front of characters: what was read goes on as far as it may.
use Rattle.std.proofs.Common.{◌≡◌, ℕ, ◌≤◌, ◌==◌, true, false, List, [], ◌∷◌, ◌++◌, length, length-append, append_assoc, refl, sym, ap, ◌∙◌, subst, inl, inr, arith}
use Rattle.std.specs.Prelude.{◌⊎◌}
use Rattle.std.specs.List.{list_all}
use Rattle.std.specs.Char.{is_ascii_digit}
use Rattle.std.proofs.lemmas.Bool.{false≢true, and_parts, eqb-true}
use Rattle.unicode_ident.specs.Ident.{is_xid_continue}
use Rattle.sn_lexer.specs.declared.token.TokenKind.{TokenKind}
use Rattle.sn_lexer.specs.Spelling.{Spells, IsTag, starts_name, is_name, is_numeral, is_symbol, is_identifier, is_tag_name, is_printable, quoted}
use Rattle.sn_lexer.specs.Lexes.{IsLongest}
use Rattle.sn_lexer.specs.Fronts.{Stops, BeginsNoTag}
use Rattle.sn_lexer.proofs.Heads.{IsMark, symbol_head, symbol_second, symbol_filled, symbol_short, starts_name_ascii, angle_stops}
use Rattle.sn_lexer.proofs.WordKinds.{name_at, numeral_at, text_at, mark_at, name_starts, tag_name_filled, fails}
use Rattle.sn_lexer.proofs.TagNames.{plain_of, plain_name, marks_alike, unmarked}
use Rattle.sn_lexer.proofs.Runs.{run_longest}
use Rattle.sn_lexer.proofs.Contents.{written, content_once}

name_continues : (c : ℕ) (cs : List ℕ) → is_name (c ∷ cs) ≡ true → list_all is_xid_continue cs ≡ true
name_continues c cs h = (and_parts (starts_name c) (list_all is_xid_continue cs) h).1

-- no name in front is longer than one that no character continues
pub longest_name : (name rest other more : List ℕ) → is_name name ≡ true → is_name other ≡ true → Stops is_xid_continue rest → name ++ rest ≡ other ++ more → length other ≤ length name
longest_name [] rest other more named named' stops same = absurd (false≢true named)
longest_name (c ∷ name) rest [] more named named' stops same = omega arith
longest_name (c ∷ name) rest (d ∷ other) more named named' stops same =
    let tail : name ++ rest ≡ other ++ more = cc in
    let shorter = run_longest is_xid_continue name rest other more (name_continues d other named') stops tail in
    omega arith

pub name_longest : (name rest : List ℕ) → is_name name ≡ true → Stops is_xid_continue rest → IsLongest name (name ++ rest)
name_longest [] rest named stops kind other more s same = absurd (false≢true named)
name_longest (c ∷ name) rest named stops kind [] more s same = omega arith
name_longest (c ∷ name) rest named stops kind (d ∷ other) more s same =
    let head : c ≡ d = cc in
    let starts = ap starts_name (sym head) ∙ name_starts c name named in
    longest_name (c ∷ name) rest (d ∷ other) more named (name_at kind d other s starts) stops same

pub numeral_longest : (digits rest : List ℕ) → is_numeral digits ≡ true → Stops is_ascii_digit rest → IsLongest digits (digits ++ rest)
numeral_longest [] rest numeral stops kind other more s same = absurd (false≢true numeral)
numeral_longest (c ∷ digits) rest numeral stops kind [] more s same = omega arith
numeral_longest (c ∷ digits) rest numeral stops kind (d ∷ other) more s same =
    let head : c ≡ d = cc in
    let digit = ap is_ascii_digit (sym head) ∙ (and_parts (is_ascii_digit c) (list_all is_ascii_digit digits) numeral).0 in
    run_longest is_ascii_digit (c ∷ digits) rest (d ∷ other) more (numeral_at kind d other s digit) stops same

-- a text ends at the first quote that is not escaped
pub text_longest : (content rest : List ℕ) → list_all is_printable content ≡ true → IsLongest (quoted content) (quoted content ++ rest)
text_longest content rest printable kind [] more s same = omega arith
text_longest content rest printable kind (c ∷ other) more s same =
    let head : 34 ≡ c = cc in
    let tail : (written content ++ 34 ∷ []) ++ rest ≡ other ++ more = cc in
    let text = text_at kind other (subst (λ x. Spells kind (x ∷ other)) (sym head) s) in
    let inner : other ≡ written text.content ++ 34 ∷ [] = let e = text.written in cc in
    let both = sym (append_assoc (written content) (34 ∷ []) rest) ∙ tail ∙ ap (λ xs. xs ++ more) inner ∙ append_assoc (written text.content) (34 ∷ []) more in
    let parts = content_once content text.content (34 ∷ rest) (34 ∷ more) printable text.printable refl refl both in
    let long = ap length inner ∙ ap (λ xs. length (written xs ++ 34 ∷ [])) (sym parts.0) in
    omega (arith, long)

angle_no_start : starts_name 60 ≡ false
angle_no_start = starts_name_ascii 60 (omega arith)

-- what begins with `<` is a tag or a symbol
angle_at : (kind : TokenKind) (cs : List ℕ) → Spells kind (60 ∷ cs) → IsTag (60 ∷ cs) ⊎ (is_symbol (60 ∷ cs) ≡ true)
angle_at kind cs s = mark_at kind 60 cs s angle_no_start refl (λ e. omega arith)

-- a tag is longer than a symbol
pub tag_longest : (name rest : List ℕ) → is_tag_name name ≡ true → IsLongest (60 ∷ (name ++ 62 ∷ [])) (60 ∷ (name ++ 62 ∷ rest))
tag_longest name rest named kind [] more s same = omega arith
tag_longest name rest named kind (c ∷ other) more s same =
    let head : 60 ≡ c = cc in
    let tail : name ++ 62 ∷ rest ≡ other ++ more = cc in
    let filled = tag_name_filled name named in
    let long = length-append name (62 ∷ []) in
    elim (angle_at kind other (subst (λ x. Spells kind (x ∷ other)) (sym head) s)) [
      | inl tag ↦
          let inner : other ≡ tag.name ++ 62 ∷ [] = let e = tag.written in cc in
          let both = tail ∙ ap (λ xs. xs ++ more) inner ∙ append_assoc tag.name (62 ∷ []) more in
          let alike = marks_alike is_identifier is_identifier name (62 ∷ rest) tag.name (62 ∷ more) named tag.named both in
          let shorter = longest_name (plain_of name) (62 ∷ rest) (plain_of tag.name) (62 ∷ more) (plain_name name named) (plain_name tag.name tag.named) angle_stops alike.fronts in
          let lengths = alike.lengths in
          let size = ap length inner ∙ length-append tag.name (62 ∷ []) in
          omega arith
      | inr symbol ↦ let short = symbol_short (60 ∷ other) symbol in omega arith
    ]

-- the longest symbol, where no tag is in front
pub symbol_longest : (word rest : List ℕ) → is_symbol word ≡ true → ((other more : List ℕ) → is_symbol other ≡ true → word ++ rest ≡ other ++ more → length other ≤ length word) → BeginsNoTag (word ++ rest) → IsLongest word (word ++ rest)
symbol_longest [] rest symbol longest no_tag kind other more s same = absurd (symbol_filled symbol)
symbol_longest (c ∷ word) rest symbol longest no_tag kind [] more s same = omega arith
symbol_longest (c ∷ word) rest symbol longest no_tag kind (d ∷ other) more s same =
    let head : c ≡ d = cc in
    let mark = subst IsMark head (symbol_head c word symbol) in
    elim (mark_at kind d other s mark.starts mark.digit mark.quote) [
      | inl tag ↦ absurd (no_tag (d ∷ other) more tag same)
      | inr is_one ↦ longest (d ∷ other) more is_one same
    ]

pub cons_parts : (c d : ℕ) (xs ys : List ℕ) → c ∷ xs ≡ d ∷ ys → (c ≡ d) × (xs ≡ ys)
cons_parts c d xs ys same = (cc, cc)

tag_second : (d : ℕ) (rest name more : List ℕ) → starts_name d ≡ false → (d == 35) ≡ false → is_tag_name name ≡ true → d ∷ rest ≡ (name ++ 62 ∷ []) ++ more → ⊥
tag_second d rest [] more no_start no_mark named same = false≢true named
tag_second d rest (e ∷ name) more no_start no_mark named same =
    let head : d ≡ e = cc in
    let plain = sym (unmarked is_identifier e name (ap (λ x. x == 35) (sym head) ∙ no_mark)) ∙ named in
    false≢true (sym no_start ∙ ap starts_name head ∙ name_starts e name (and_parts (is_name (e ∷ name)) _ plain).0)

no_angle_mark : is_symbol (60 ∷ 35 ∷ []) ≡ false
unfolding is_symbol
no_angle_mark = refl

no_marked_pair : (c d : ℕ) → c ≡ 60 → is_symbol (c ∷ d ∷ []) ≡ true → (d == 35) ≡ false
no_marked_pair c d angle symbol =
    fails (d == 35) (λ h. false≢true (sym no_angle_mark ∙ (λ i. is_symbol (sym angle i ∷ sym (eqb-true d 35 h) i ∷ [])) ∙ symbol))

-- no tag begins with a symbol of two characters
pub pair_no_tag : (c d : ℕ) (rest : List ℕ) → is_symbol (c ∷ d ∷ []) ≡ true → BeginsNoTag (c ∷ d ∷ rest)
pair_no_tag c d rest symbol word more tag same =
    let parts = cons_parts c 60 (d ∷ rest) ((tag.name ++ 62 ∷ []) ++ more) (same ∙ ap (λ xs. xs ++ more) tag.written) in
    tag_second d rest tag.name more (symbol_second c d [] symbol).starts (no_marked_pair c d parts.0 symbol) tag.named parts.1
