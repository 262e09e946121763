-- What is passed in front, and what was passed so far.
use Rattle.std.proofs.Common.{◌≡◌, ℕ, ◌<◌, ◌==◌, true, false, List, [], ◌∷◌, ◌++◌, append_assoc, append-nil, length, length-append, refl, sym, ap, ◌∙◌, subst, inl, inr, arith}
use Rattle.std.specs.Prelude.{Some, if◌then◌else◌}
use Rattle.std.specs.Str.{IsUtf8, chars}
use Rattle.sn_lexer.specs.declared.token.TokenKind.{TokenKind}
use Rattle.sn_lexer.specs.declared.token.Token.{Token}
use Rattle.sn_lexer.specs.declared.token.LexFault.{LexFault}
use Rattle.sn_lexer.specs.declared.token.LexFault.TheVariants.{BadUtf8, BadChar, NumberTooWide, TextOpen, Memory}
use Rattle.sn_lexer.specs.Spelling.{Spells}
use Rattle.sn_lexer.specs.Gaps.{is_blank, from_line_end, closes_comment, after_first, after_closing, IsGap}
use Rattle.sn_lexer.specs.Gaps.IsGap.{blank, line_comment, block_comment}
use Rattle.sn_lexer.specs.Lexes.{place, IsToken, token_at, Lexes, Refuses}
use Rattle.sn_lexer.specs.Lexes.Lexes.{end, gap, token}
use Rattle.sn_lexer.specs.Lexes.Refuses.{here, after_gap, after_token}
use Rattle.sn_lexer.specs.Fronts.{Advances, IsStopped}
use Rattle.sn_lexer.specs.Fronts.Advances.{past_gap, past_token}
use Rattle.sn_lexer.specs.Answer.{IsFault}
use Rattle.sn_lexer.proofs.WordKinds.{no_empty}

pub blank_gap : (cs : List ℕ) (c : ℕ) (rest : List ℕ) → cs ≡ c ∷ rest → is_blank c ≡ true → IsGap cs rest
blank_gap cs c rest is one = subst (λ xs. IsGap xs rest) (sym is) (blank one)

pub passes_token : (total : ℕ) (kind : TokenKind) (cs rest : List ℕ) (before after : List Token) (start finish : ℕ) → IsToken kind cs rest → start ≡ place total cs → finish ≡ place total rest → after ≡ before ++ record { kind = kind; start = start; end = finish } ∷ [] → Advances total cs before after rest
passes_token total kind cs rest before after start finish t start_is finish_is is =
    let pushed : ◌≡◌ {A = Token} (record { kind = kind; start = start; end = finish }) (token_at total kind cs rest) = λ i. record { kind = kind; start = start_is i; end = finish_is i } in
    past_token kind t (is ∙ ap (λ x. before ++ x ∷ []) pushed)

-- at least one character stands before the rest
pub record IsPassed (cs rest : List ℕ) : Type 0 where
  pub word : List ℕ
  pub front : cs ≡ word ++ rest
  pub filled : 0 < length word

record IsEnd (cs rest : List ℕ) : Type 0 where
  pub word : List ℕ
  pub front : cs ≡ word ++ rest

end_behind : (c : ℕ) (cs rest : List ℕ) → IsEnd cs rest → IsEnd (c ∷ cs) rest
end_behind c cs rest e = record { word = c ∷ e.word; front = ap (λ xs. c ∷ xs) e.front }

line_end : (cs : List ℕ) → IsEnd cs (from_line_end cs)
line_end [] = record { word = []; front = refl }
line_end (c ∷ cs) =
    elim (c == 10) as (λ b. IsEnd (c ∷ cs) (if b then c ∷ cs else from_line_end cs)) [
      | true ↦ record { word = []; front = refl }
      | false ↦ end_behind c cs (from_line_end cs) (line_end cs)
    ]

first_end : (cs : List ℕ) → IsEnd cs (after_first cs)
first_end [] = record { word = []; front = refl }
first_end (c ∷ cs) = record { word = c ∷ []; front = refl }

closing_end : (cs rest : List ℕ) → after_closing cs ≡ Some rest → IsEnd cs rest
closing_end [] rest closed = cc
closing_end (c ∷ cs) rest closed =
    elim (closes_comment (c ∷ cs)) as (λ b. (if b then Some (after_first cs) else after_closing cs) ≡ Some rest → IsEnd (c ∷ cs) rest) [
      | true ↦ λ e. let same : after_first cs ≡ rest = cc in end_behind c cs rest (subst (IsEnd cs) same (first_end cs))
      | false ↦ λ e. end_behind c cs rest (closing_end cs rest e)
    ] closed

passed_of : (c : ℕ) (cs rest : List ℕ) → IsEnd cs rest → IsPassed (c ∷ cs) rest
passed_of c cs rest e = record { word = c ∷ e.word; front = ap (λ xs. c ∷ xs) e.front; filled = omega arith }

pub gap_passed : (cs rest : List ℕ) → IsGap cs rest → IsPassed cs rest
gap_passed [] rest g = elim g [ ]
gap_passed (c ∷ cs) rest (blank b) = passed_of c cs rest record { word = []; front = refl }
gap_passed (c ∷ d ∷ cs) rest (line_comment past) = passed_of c (d ∷ cs) rest (end_behind d cs rest (subst (IsEnd cs) (sym past) (line_end cs)))
gap_passed (c ∷ d ∷ cs) rest (block_comment closed) = passed_of c (d ∷ cs) rest (end_behind d cs rest (closing_end cs rest closed))

pub word_filled : (kind : TokenKind) (word : List ℕ) → Spells kind word → 0 < length word
word_filled kind [] s = absurd (no_empty kind s)
word_filled kind (c ∷ word) s = omega arith

pub token_passed : (kind : TokenKind) (cs rest : List ℕ) → IsToken kind cs rest → IsPassed cs rest
token_passed kind cs rest t = record { word = t.word; front = t.leads.front; filled = word_filled kind t.word t.leads.spelled }

passed_shorter : (cs rest : List ℕ) → IsPassed cs rest → length rest < length cs
passed_shorter cs rest p =
    let filled = p.filled in
    let long = ap length p.front ∙ length-append p.word rest in
    omega arith

pub advances_shorter : (total : ℕ) (cs rest : List ℕ) (before after : List Token) → Advances total cs before after rest → length rest < length cs
advances_shorter total cs rest before after (past_gap g e) = passed_shorter cs rest (gap_passed cs rest g)
advances_shorter total cs rest before after (past_token kind t e) = passed_shorter cs rest (token_passed kind cs rest t)

-- what the rest is read as, the whole is read as behind the tokens so far
pub record Reaches (total : ℕ) (all : List ℕ) (tokens : List Token) (rest : List ℕ) : Type 0 where
  pub lexes : (more : List Token) → Lexes total rest more → Lexes total all (tokens ++ more)
  pub refuses : (fault : LexFault) → Refuses total rest fault → Refuses total all fault

pub at_start : (total : ℕ) (all : List ℕ) (tokens : List Token) → tokens ≡ [] → Reaches total all tokens all
at_start total all tokens is = record {
  lexes = λ more h. subst (λ ts. Lexes total all (ts ++ more)) (sym is) h;
  refuses = λ fault h. h;
}

pub goes_on : (total : ℕ) (all cs rest : List ℕ) (before after : List Token) → Reaches total all before cs → Advances total cs before after rest → Reaches total all after rest
goes_on total all cs rest before after r (past_gap g is) = record {
  lexes = λ more h. subst (λ ts. Lexes total all (ts ++ more)) (sym is) (r.lexes more (gap g h));
  refuses = λ fault h. r.refuses fault (after_gap g h);
}
goes_on total all cs rest before after r (past_token kind t is) =
    let one = token_at total kind cs rest in
    record {
      lexes = λ more h. subst (Lexes total all) (sym (ap (λ ts. ts ++ more) is ∙ append_assoc before (one ∷ []) more)) (r.lexes (one ∷ more) (token kind t h));
      refuses = λ fault h. r.refuses fault (after_token kind t h);
    }

pub at_end : (total : ℕ) (all rest : List ℕ) (before tokens : List Token) → Reaches total all before rest → rest ≡ [] → tokens ≡ before → Lexes total all tokens
at_end total all rest before tokens r ends is =
    subst (Lexes total all) (append-nil before ∙ sym is) (r.lexes [] (subst (λ xs. Lexes total xs []) (sym ends) end))

-- a refusal names a character, a number, a text or a comment
no_bad_utf8 : (total : ℕ) (cs : List ℕ) (at : ℕ) → Refuses total cs (BadUtf8 at) → ⊥
no_bad_utf8 total cs at (here w) = elim w [ ]
no_bad_utf8 total cs at (after_gap g h) = no_bad_utf8 total _ at h
no_bad_utf8 total cs at (after_token kind t h) = no_bad_utf8 total _ at h

pub fault_is : (source : List ℕ) (fault : LexFault) → IsUtf8 source → Refuses (length source) (chars source) fault → IsFault source fault
fault_is source (BadUtf8 at) utf8 h = absurd (no_bad_utf8 (length source) (chars source) at h)
fault_is source (BadChar at) utf8 h = record { utf8 = utf8; refuses = h }
fault_is source (NumberTooWide at) utf8 h = record { utf8 = utf8; refuses = h }
fault_is source (TextOpen at) utf8 h = record { utf8 = utf8; refuses = h }
fault_is source Memory utf8 h = tt

pub stopped_is : (total : ℕ) (source cs : List ℕ) (tokens : List Token) (fault : LexFault) → total ≡ length source → IsUtf8 source → Reaches total (chars source) tokens cs → IsStopped total cs fault → IsFault source fault
stopped_is total source cs tokens fault is utf8 r (inl memory) = subst (IsFault source) (sym memory) tt
stopped_is total source cs tokens fault is utf8 r (inr wrong) = fault_is source fault utf8 (subst (λ n. Refuses n (chars source) fault) is (r.refuses fault (here wrong)))
