-- Whether a tag is in front.
use Rattle.std.proofs.Common.{◌≡◌, ℕ, ◌==◌, Bool, true, false, not, List, [], ◌∷◌, ◌++◌, append_assoc, refl, sym, ap, ◌∙◌, subst, inl, inr, arith}
use Rattle.std.specs.Prelude.{if◌then◌else◌}
use Rattle.std.proofs.lemmas.Bool.{false≢true, and_parts}
use Rattle.sn_lexer.specs.declared.token.TokenKind.{TokenKind}
use Rattle.sn_lexer.specs.declared.token.TokenKind.TheVariants.{Ident, Keyword, Tag}
use Rattle.sn_lexer.specs.Spelling.{IsTag, starts_name, is_name, is_keyword, is_identifier}
use Rattle.sn_lexer.specs.Lexes.{IsToken}
use Rattle.sn_lexer.specs.Fronts.{Stops, BeginsNot, BeginsNoTag, IsNameUpTo, SkipsMark}
use Rattle.sn_lexer.proofs.Heads.{angle_stops}
use Rattle.sn_lexer.proofs.WordKinds.{name_starts}
use Rattle.sn_lexer.proofs.Runs.{same_front}
use Rattle.sn_lexer.proofs.TagNames.{plain_of, plain_passes, plain_name, identifier_tag, skips_mark}
use Rattle.sn_lexer.proofs.Longest.{cons_parts, longest_name}
use Rattle.sn_lexer.proofs.Tokens.{tag_token}

-- what follows `<` in a tag
tag_inside : (inside word more : List ℕ) (tag : IsTag word) → 60 ∷ inside ≡ word ++ more → inside ≡ tag.name ++ 62 ∷ more
tag_inside inside word more tag same =
    (cons_parts 60 60 inside ((tag.name ++ 62 ∷ []) ++ more) (same ∙ ap (λ xs. xs ++ more) tag.written)).1 ∙ append_assoc tag.name (62 ∷ []) more

-- and what follows the mark
behind_angle : (cs inside name : List ℕ) → cs ≡ 60 ∷ inside → SkipsMark inside name → (word more : List ℕ) (tag : IsTag word) → cs ≡ word ++ more → name ≡ plain_of tag.name ++ 62 ∷ more
behind_angle cs inside name opens skips word more tag same =
    skips_mark is_identifier inside name tag.name (62 ∷ more) skips tag.named (tag_inside inside word more tag (sym opens ∙ same))

pub no_tag_open : (cs : List ℕ) → BeginsNot 60 cs → BeginsNoTag cs
no_tag_open [] other word more tag same = let e = same ∙ ap (λ xs. xs ++ more) tag.written in cc
no_tag_open (c ∷ cs) other word more tag same =
    let angle = (cons_parts c 60 cs ((tag.name ++ 62 ∷ []) ++ more) (same ∙ ap (λ xs. xs ++ more) tag.written)).0 in
    false≢true (sym other ∙ ap (λ x. x == 60) angle)

pub no_tag_name : (cs inside name : List ℕ) → cs ≡ 60 ∷ inside → SkipsMark inside name → Stops starts_name name → BeginsNoTag cs
no_tag_name cs inside name opens skips stops word more tag same =
    no_name name (plain_of tag.name) more stops (plain_name tag.name tag.named) (behind_angle cs inside name opens skips word more tag same)
  where
    no_name : (inside name more : List ℕ) → Stops starts_name inside → is_name name ≡ true → inside ≡ name ++ 62 ∷ more → ⊥
    no_name inside [] more stops named same = false≢true named
    no_name [] (d ∷ name) more stops named same = cc
    no_name (c ∷ inside) (d ∷ name) more stops named same =
        let head : c ≡ d = cc in
        false≢true (sym stops ∙ ap starts_name head ∙ name_starts d name named)

-- the name that was read is the tag's
tag_name : (kind : TokenKind) (cs inside name rest : List ℕ) → cs ≡ 60 ∷ inside → SkipsMark inside name → (n : IsNameUpTo kind name rest) → (word more : List ℕ) (tag : IsTag word) → cs ≡ word ++ more → (n.name ≡ plain_of tag.name) × (rest ≡ 62 ∷ more)
tag_name kind cs inside name rest opens skips n word more tag same =
    let both = sym n.front ∙ behind_angle cs inside name opens skips word more tag same in
    let named = plain_name tag.name tag.named in
    let below = longest_name n.name rest (plain_of tag.name) (62 ∷ more) n.named named n.stops both in
    let above = longest_name (plain_of tag.name) (62 ∷ more) n.name rest named n.named angle_stops (sym both) in
    same_front n.name rest (plain_of tag.name) (62 ∷ more) (omega arith) both

keyword_is : (kind : TokenKind) (b : Bool) → kind ≡ (if b then Keyword else Ident) → (kind ≡ Ident → ⊥) → b ≡ true
keyword_is kind true is other = refl
keyword_is kind false is other = absurd (other is)

ident_is : (b : Bool) → Ident ≡ (if b then Keyword else Ident) → b ≡ false
ident_is true is = cc
ident_is false is = refl

pub no_tag_keyword : (kind : TokenKind) (cs inside name rest : List ℕ) → cs ≡ 60 ∷ inside → SkipsMark inside name → IsNameUpTo kind name rest → (kind ≡ Ident → ⊥) → BeginsNoTag cs
no_tag_keyword kind cs inside name rest opens skips n other word more tag same =
    let one = (tag_name kind cs inside name rest opens skips n word more tag same).0 in
    let keyword = ap is_keyword (sym one) ∙ keyword_is kind (is_keyword n.name) n.kind_is other in
    let plain = (and_parts (is_name (plain_of tag.name)) (not (is_keyword (plain_of tag.name))) (plain_passes is_identifier tag.name tag.named)).1 in
    false≢true (ap not (sym keyword) ∙ plain)

pub no_tag_close : (kind : TokenKind) (cs inside name rest : List ℕ) → cs ≡ 60 ∷ inside → SkipsMark inside name → IsNameUpTo kind name rest → BeginsNot 62 rest → BeginsNoTag cs
no_tag_close kind cs inside name rest opens skips n other word more tag same =
    let closes = (tag_name kind cs inside name rest opens skips n word more tag same).1 in
    let differs = subst (BeginsNot 62) closes other in
    false≢true (sym differs)

pub tag_closed : (cs inside name middle rest : List ℕ) → cs ≡ 60 ∷ inside → SkipsMark inside name → IsNameUpTo Ident name middle → middle ≡ 62 ∷ rest → IsToken Tag cs rest
tag_closed cs inside name middle rest opens skips n closes =
    let no_keyword = ident_is (is_keyword n.name) n.kind_is in
    let named = n.named in
    let identifier : is_identifier n.name ≡ true = rw (named, no_keyword) refl in
    let front = n.front ∙ ap (λ xs. n.name ++ xs) closes in
    elim skips [
      | inl marked ↦ tag_token (35 ∷ n.name) cs rest identifier (opens ∙ ap (λ xs. 60 ∷ xs) (marked ∙ ap (λ xs. 35 ∷ xs) front))
      | inr plain ↦ tag_token n.name cs rest (identifier_tag n.name identifier) (opens ∙ ap (λ xs. 60 ∷ xs) (plain.0 ∙ front))
    ]
