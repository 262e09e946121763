-- Names and tags in front.
use Rattle.std.proofs.Common.{◌≡◌, ℕ, ◌-◌, ◌≤◌, true, List, [], ◌∷◌, ◌++◌, append_assoc, length, take, refl, sym, ap, ◌∙◌, subst, inl, inr, arith}
use Rattle.std.specs.Prelude.{encode_utf8_all}
use Rattle.std.specs.Str.{IsUtf8, chars}
use Rattle.std.proofs.lemmas.Bool.{false≢true}
use Rattle.sn_lexer.specs.declared.token.TokenKind.{TokenKind}
use Rattle.unicode_ident.specs.Ident.{is_xid_continue}
use Rattle.sn_lexer.specs.Spelling.{starts_name, is_name, behind_mark}
use Rattle.sn_lexer.specs.Fronts.{Stops, BeginsNot, IsNameUpTo, SkipsMark}
use Rattle.sn_lexer.proofs.Heads.{angle_stops}
use Rattle.sn_lexer.proofs.WordKinds.{name_starts}
use Rattle.sn_lexer.proofs.Runs.{same_front}
use Rattle.sn_lexer.proofs.TagNames.{plain_of, plain_passes, name_behind, marks_alike, skips_mark}
use Rattle.sn_lexer.proofs.Longest.{cons_parts, longest_name}
use Rattle.sn_lexer.proofs.Widths.{rest_shorter, word_bytes}
use Rattle.sn_record_tokens.specs.declared.token.Token.TheVariants.{Name, Tag}
use Rattle.sn_record_tokens.specs.Tokens.{IsToken}
use Rattle.sn_record_tokens.specs.Reading.{BeginsNo}

pub name_fits : (kind : TokenKind) (text rest : List ℕ) → IsUtf8 text → IsUtf8 rest → IsNameUpTo kind (chars text) (chars rest) → length rest ≤ length text
name_fits kind text rest utf8 rest_utf8 n = rest_shorter text rest n.name utf8 rest_utf8 n.front

pub name_copied : (kind : TokenKind) (text rest bytes : List ℕ) → IsUtf8 text → IsUtf8 rest → IsNameUpTo kind (chars text) (chars rest) → bytes ≡ take (length text - length rest) text → IsToken (Name bytes) (chars text) (chars rest)
name_copied kind text rest bytes utf8 rest_utf8 n is = record {
  word = n.name;
  spelled = record { name = n.named; bytes_are = is ∙ word_bytes text rest n.name utf8 rest_utf8 n.front };
  front = n.front;
  whole = n.stops;
}

starts_not : (cs name rest : List ℕ) → Stops starts_name cs → is_name name ≡ true → cs ≡ name ++ rest → ⊥
starts_not cs [] rest stops named is = false≢true named
starts_not [] (d ∷ name) rest stops named is = cc
starts_not (c ∷ cs) (d ∷ name) rest stops named is =
    let head : c ≡ d = cc in
    false≢true (sym stops ∙ ap starts_name head ∙ name_starts d name named)

pub no_name : (cs : List ℕ) → Stops starts_name cs → BeginsNo Name cs
no_name cs stops bytes rest t = starts_not cs t.word rest stops t.spelled.name t.front

-- a name in front is one
pub name_once : (bytes others cs rest more : List ℕ) → IsToken (Name bytes) cs rest → IsToken (Name others) cs more → (bytes ≡ others) × (rest ≡ more)
name_once bytes others cs rest more t u =
    let both = sym t.front ∙ u.front in
    let below = longest_name t.word rest u.word more t.spelled.name u.spelled.name t.whole both in
    let above = longest_name u.word more t.word rest u.spelled.name t.spelled.name u.whole (sym both) in
    let parts = same_front t.word rest u.word more (omega arith) both in
    (t.spelled.bytes_are ∙ ap encode_utf8_all parts.0 ∙ sym u.spelled.bytes_are, parts.1)

-- a tag's whole name in front
pub record IsTagUpTo (cs rest : List ℕ) : Type 0 where
  pub name : List ℕ
  pub named : behind_mark is_name name ≡ true
  pub front : cs ≡ name ++ rest
  pub stops : Stops is_xid_continue rest

pub tag_up_to : (kind : TokenKind) (inside name rest : List ℕ) → SkipsMark inside name → IsNameUpTo kind name rest → IsTagUpTo inside rest
tag_up_to kind inside name rest (inl marked) n = record {
  name = 35 ∷ n.name;
  named = n.named;
  front = marked ∙ ap (λ xs. 35 ∷ xs) n.front;
  stops = n.stops;
}
tag_up_to kind inside name rest (inr plain) n = record {
  name = n.name;
  named = name_behind is_name n.name n.named n.named;
  front = plain.0 ∙ n.front;
  stops = n.stops;
}

pub tag_fits : (inside behind : List ℕ) → IsUtf8 inside → IsUtf8 behind → IsTagUpTo (chars inside) (chars behind) → length behind ≤ length inside
tag_fits inside behind utf8 behind_utf8 t = rest_shorter inside behind t.name utf8 behind_utf8 t.front

pub tag_copied : (cs inside behind rest bytes : List ℕ) → IsUtf8 inside → IsUtf8 behind → cs ≡ 60 ∷ chars inside → IsTagUpTo (chars inside) (chars behind) → chars behind ≡ 62 ∷ rest → bytes ≡ take (length inside - length behind) inside → IsToken (Tag bytes) cs rest
tag_copied cs inside behind rest bytes utf8 behind_utf8 opens t closes is = record {
  word = 60 ∷ (t.name ++ 62 ∷ []);
  spelled = record {
    inside = t.name;
    name = record { named = t.named; bytes_are = is ∙ word_bytes inside behind t.name utf8 behind_utf8 t.front };
    written = refl;
  };
  front = opens ∙ ap (λ xs. 60 ∷ xs) (t.front ∙ ap (λ xs. t.name ++ xs) closes ∙ sym (append_assoc t.name (62 ∷ []) rest));
  whole = tt;
}

-- a tag's whole name in front is one
tag_name_once : (name rest other more : List ℕ) → behind_mark is_name name ≡ true → behind_mark is_name other ≡ true → Stops is_xid_continue rest → Stops is_xid_continue more → name ++ rest ≡ other ++ more → (name ≡ other) × (rest ≡ more)
tag_name_once name rest other more named named' stops stops' same =
    let alike = marks_alike is_name is_name name rest other more named named' same in
    let plain = plain_passes is_name name named in
    let plain' = plain_passes is_name other named' in
    let below = longest_name (plain_of name) rest (plain_of other) more plain plain' stops alike.fronts in
    let above = longest_name (plain_of other) more (plain_of name) rest plain' plain stops' (sym alike.fronts) in
    let lengths = alike.lengths in
    same_front name rest other more (omega arith) same

-- what follows `<` in a tag
angle_front : (bytes cs rest : List ℕ) (t : IsToken (Tag bytes) cs rest) → cs ≡ 60 ∷ (t.spelled.inside ++ 62 ∷ rest)
angle_front bytes cs rest t = t.front ∙ ap (λ xs. xs ++ rest) t.spelled.written ∙ ap (λ xs. 60 ∷ xs) (append_assoc t.spelled.inside (62 ∷ []) rest)

behind_angle : (bytes cs inside rest : List ℕ) → cs ≡ 60 ∷ inside → (t : IsToken (Tag bytes) cs rest) → inside ≡ t.spelled.inside ++ 62 ∷ rest
behind_angle bytes cs inside rest opens t = (cons_parts 60 60 inside (t.spelled.inside ++ 62 ∷ rest) (sym opens ∙ angle_front bytes cs rest t)).1

pub no_tag_open : (cs : List ℕ) → BeginsNot 60 cs → BeginsNo Tag cs
no_tag_open cs other bytes rest t =
    let angle = subst (BeginsNot 60) (angle_front bytes cs rest t) other in
    false≢true (sym angle)

pub no_tag_name : (cs inside name : List ℕ) → cs ≡ 60 ∷ inside → SkipsMark inside name → Stops starts_name name → BeginsNo Tag cs
no_tag_name cs inside name opens skips stops bytes rest t =
    let word = t.spelled.inside in
    let front = skips_mark is_name inside name word (62 ∷ rest) skips t.spelled.name.named (behind_angle bytes cs inside rest opens t) in
    starts_not name (plain_of word) (62 ∷ rest) stops (plain_passes is_name word t.spelled.name.named) front

pub no_tag_close : (cs inside behind : List ℕ) → cs ≡ 60 ∷ inside → IsTagUpTo inside behind → BeginsNot 62 behind → BeginsNo Tag cs
no_tag_close cs inside behind opens u other bytes rest t =
    let both = sym u.front ∙ behind_angle bytes cs inside rest opens t in
    let parts = tag_name_once u.name behind t.spelled.inside (62 ∷ rest) u.named t.spelled.name.named u.stops angle_stops both in
    let angle = subst (BeginsNot 62) parts.1 other in
    false≢true (sym angle)

-- a tag in front is one
pub tag_once : (bytes others cs rest more : List ℕ) → IsToken (Tag bytes) cs rest → IsToken (Tag others) cs more → (bytes ≡ others) × (rest ≡ more)
tag_once bytes others cs rest more t u =
    let word = t.spelled.inside in
    let both = behind_angle others cs (word ++ 62 ∷ rest) more (angle_front bytes cs rest t) u in
    let parts = tag_name_once word (62 ∷ rest) u.spelled.inside (62 ∷ more) t.spelled.name.named u.spelled.name.named angle_stops angle_stops both in
    (t.spelled.name.bytes_are ∙ ap encode_utf8_all parts.0 ∙ sym u.spelled.name.bytes_are, let e = parts.1 in cc)
