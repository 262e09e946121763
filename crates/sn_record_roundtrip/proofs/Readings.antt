-- Texts that are read as tokens wherever they stand, and how they are put together.
use Rattle.std.proofs.Common.{◌≡◌, ℕ, true, List, [], ◌∷◌, ◌++◌, append_assoc, codes, refl, sym, ◌∙◌, subst, arith}
use Rattle.std.specs.Prelude.{encode_utf8_all}
use Rattle.std.specs.Char.{is_ascii_digit}
use Rattle.std.specs.List.{list_all}
use Rattle.std.proofs.lemmas.Str.{encodes-append}
use Rattle.unicode_ident.specs.Ident.{is_xid_continue}
use Rattle.unicode_ident.proofs.IdentLemmas.{is_xid_continue-ascii}
use Rattle.sn_lexer.specs.Fronts.{Stops}
use Rattle.sn_lexer.specs.Spelling.{is_printable}
use Rattle.sn_record_tokens.specs.declared.token.Mark.{Mark as MarkKind}
use Rattle.sn_record_tokens.specs.declared.token.Mark.TheVariants.{OpenRecord, CloseRecord, OpenList, CloseList, Comma, Equals}
use Rattle.sn_record_tokens.specs.declared.token.Token.{Token}
use Rattle.sn_record_tokens.specs.declared.token.Token.TheVariants.{Mark}
use Rattle.sn_record_tokens.specs.Tokens.{mark_word, Spells, IsWhole, IsToken, Tokens}
use Rattle.sn_record_tokens.specs.Tokens.Tokens.{blank as blank_before, token as token_before}
use Rattle.sn_record_roundtrip.proofs.Characters.{is_inline, all_append, printable_inline, printable_bytes}

-- What may follow a name and a number.
pub record Closes (rest : List ℕ) : Type 0 where
  pub name : Stops is_xid_continue rest
  pub number : Stops is_ascii_digit rest

-- A text that is read as tokens: `says us` are those, before us.
pub record Reads (text : List ℕ) : Type 0 where
  pub piece : List ℕ
  pub encoded : encode_utf8_all piece ≡ text
  pub inline : list_all is_inline piece ≡ true
  pub says : List Token → List Token
  pub tells : (rest : List ℕ) (us : List Token) → Closes rest → Tokens rest us → Tokens (piece ++ rest) (says us)

-- One that begins with a mark, so it may follow any other.
pub record Marked (text : List ℕ) : Type 0 where
  pub reads : Reads text
  pub closes : (rest : List ℕ) → Closes (reads.piece ++ rest)

-- a word that is a token, before other tokens
pub word_before : (first : Token) (word rest : List ℕ) (us : List Token) → Spells first word → IsWhole first rest → Tokens rest us → Tokens (word ++ rest) (first ∷ us)
word_before first word rest us spelled whole told =
    let here : IsToken first (word ++ rest) rest = record { word = word; spelled = spelled; front = refl; whole = whole } in
    token_before here told

pub encoded_append : (xs ys s t : List ℕ) → encode_utf8_all xs ≡ s → encode_utf8_all ys ≡ t → encode_utf8_all (xs ++ ys) ≡ s ++ t
encoded_append xs ys s t first second = encodes-append xs ys ∙ (λ i. first i ++ second i)

-- the same text, put otherwise
abbrev pub same_text : {s t : List ℕ} → s ≡ t → Reads s → Reads t
same_text same x = record { piece = x.piece; encoded = x.encoded ∙ same; inline = x.inline; says = λ us. x.says us; tells = x.tells }

abbrev pub same_marked : {s t : List ℕ} → s ≡ t → Marked s → Marked t
same_marked same x = record { reads = same_text same x.reads; closes = x.closes }

pub nothing_tells : (rest : List ℕ) (us : List Token) → Closes rest → Tokens rest us → Tokens rest us
nothing_tells rest us closes told = told

abbrev pub nothing : Reads []
nothing = record { piece = []; encoded = refl; inline = refl; says = λ us. us; tells = nothing_tells }

pub both_tell : {s t : List ℕ} (x : Reads s) (y : Marked t) (rest : List ℕ) (us : List Token) → Closes rest → Tokens rest us → Tokens ((x.piece ++ y.reads.piece) ++ rest) (x.says (y.reads.says us))
both_tell x y rest us closes told =
    subst (λ cs. Tokens cs (x.says (y.reads.says us))) (sym (append_assoc x.piece y.reads.piece rest))
    (x.tells (y.reads.piece ++ rest) (y.reads.says us) (y.closes rest) (y.reads.tells rest us closes told))

-- one text before another
abbrev pub before : {s t : List ℕ} → Reads s → Marked t → Reads (s ++ t)
before {s} {t} x y = record {
  piece = x.piece ++ y.reads.piece;
  encoded = encoded_append x.piece y.reads.piece s t x.encoded y.reads.encoded;
  inline = all_append is_inline x.piece y.reads.piece x.inline y.reads.inline;
  says = λ us. x.says (y.reads.says us);
  tells = both_tell x y;
}

-- marks are printable, and end a name and a number
pub mark_printable : (m : MarkKind) → list_all is_printable (mark_word m) ≡ true
mark_printable OpenRecord = refl
mark_printable CloseRecord = refl
mark_printable OpenList = refl
mark_printable CloseList = refl
mark_printable Comma = refl
mark_printable Equals = refl

mark_closes : (m : MarkKind) (rest : List ℕ) → Closes (mark_word m ++ rest)
mark_closes OpenRecord rest = record { name = is_xid_continue-ascii 123 (omega arith); number = refl }
mark_closes CloseRecord rest = record { name = is_xid_continue-ascii 125 (omega arith); number = refl }
mark_closes OpenList rest = record { name = is_xid_continue-ascii 91 (omega arith); number = refl }
mark_closes CloseList rest = record { name = is_xid_continue-ascii 93 (omega arith); number = refl }
mark_closes Comma rest = record { name = is_xid_continue-ascii 44 (omega arith); number = refl }
mark_closes Equals rest = record { name = is_xid_continue-ascii 61 (omega arith); number = refl }

pub opened_closes : (m : MarkKind) (piece rest : List ℕ) → Closes ((mark_word m ++ piece) ++ rest)
opened_closes m piece rest = subst Closes (sym (append_assoc (mark_word m) piece rest)) (mark_closes m (piece ++ rest))

pub opened_tells : (m : MarkKind) {t : List ℕ} (x : Reads t) (rest : List ℕ) (us : List Token) → Closes rest → Tokens rest us → Tokens ((mark_word m ++ x.piece) ++ rest) (Mark m ∷ x.says us)
opened_tells m x rest us closes told =
    subst (λ cs. Tokens cs (Mark m ∷ x.says us)) (sym (append_assoc (mark_word m) x.piece rest))
    (word_before (Mark m) (mark_word m) (x.piece ++ rest) (x.says us) refl tt (x.tells rest us closes told))

-- a mark before a text
abbrev pub opened : (m : MarkKind) {t : List ℕ} → Reads t → Marked (mark_word m ++ t)
opened m {t} x = record {
  reads = record {
    piece = mark_word m ++ x.piece;
    encoded = encoded_append (mark_word m) x.piece (mark_word m) t (printable_bytes (mark_word m) (mark_printable m)) x.encoded;
    inline = all_append is_inline (mark_word m) x.piece (printable_inline (mark_word m) (mark_printable m)) x.inline;
    says = λ us. Mark m ∷ x.says us;
    tells = opened_tells m x;
  };
  closes = opened_closes m x.piece;
}

pub spaced_tells : {t : List ℕ} (x : Reads t) (rest : List ℕ) (us : List Token) → Closes rest → Tokens rest us → Tokens (32 ∷ (x.piece ++ rest)) (x.says us)
spaced_tells x rest us closes told = blank_before refl (x.tells rest us closes told)

-- a blank before a text
abbrev pub spaced : {t : List ℕ} → Reads t → Reads (codes " " ++ t)
spaced {t} x = record {
  piece = 32 ∷ x.piece;
  encoded = encoded_append (32 ∷ []) x.piece (32 ∷ []) t (printable_bytes (32 ∷ []) refl) x.encoded;
  inline = all_append is_inline (32 ∷ []) x.piece refl x.inline;
  says = λ us. x.says us;
  tells = spaced_tells x;
}

-- a comma and a blank before a text
abbrev pub led : {t : List ℕ} → Reads t → Marked (codes ", " ++ t)
led x = opened Comma (spaced x)
