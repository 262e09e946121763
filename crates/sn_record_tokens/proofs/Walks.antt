-- What is passed in front, and what was passed so far.
use Rattle.std.proofs.Common.{◌≡◌, ℕ, ◌<◌, true, false, List, [], ◌∷◌, ◌++◌, append_assoc, append-nil, length, length-append, refl, sym, ap, ◌∙◌, subst, arith}
use Rattle.std.specs.Prelude.{Result, Err}
use Rattle.std.proofs.lemmas.Bool.{false≢true}
use Rattle.sn_record_tokens.specs.declared.token.Token.{Token}
use Rattle.sn_record_tokens.specs.declared.token.Token.TheVariants.{Mark, Name, Tag, Number, Text}
use Rattle.sn_record_tokens.specs.declared.token.TokenFault.{TokenFault}
use Rattle.sn_record_tokens.specs.declared.token.TokenFault.TheVariants.{Wrong}
use Rattle.sn_record_tokens.specs.Tokens.{is_blank, Spells, IsWhole, IsToken, Tokens}
use Rattle.sn_record_tokens.specs.Tokens.Tokens.{end, blank, token}
use Rattle.sn_record_tokens.specs.Reading.{BeginsNo, Advances, IsFault}
use Rattle.sn_record_tokens.specs.Reading.Advances.{past_blank, past_token}
use Rattle.sn_record_tokens.proofs.Once.{first_once, no_token_at_end, blank_no_token}

-- where no token of any form is in front, none is
pub no_token : (cs : List ℕ) → BeginsNo Mark cs → BeginsNo Number cs → BeginsNo Text cs → BeginsNo Tag cs → BeginsNo Name cs → BeginsNo (λ token. token) cs
no_token cs no_mark no_number no_text no_tag no_name (Mark kind) rest t = no_mark kind rest t
no_token cs no_mark no_number no_text no_tag no_name (Name bytes) rest t = no_name bytes rest t
no_token cs no_mark no_number no_text no_tag no_name (Tag bytes) rest t = no_tag bytes rest t
no_token cs no_mark no_number no_text no_tag no_name (Number n) rest t = no_number n rest t
no_token cs no_mark no_number no_text no_tag no_name (Text bytes) rest t = no_text bytes rest t

-- and then such a line has no tokens
pub no_tokens : (c : ℕ) (cs inside : List ℕ) → cs ≡ c ∷ inside → is_blank c ≡ false → BeginsNo (λ token. token) cs → (tokens : List Token) → Tokens cs tokens → ⊥
no_tokens c [] inside is solid none tokens h = cc
no_tokens c (d ∷ cs) inside is solid none tokens (blank b h) =
    let head : d ≡ c = cc in
    false≢true (sym solid ∙ ap is_blank (sym head) ∙ b)
no_tokens c (d ∷ cs) inside is solid none tokens (token {rest = rest} {first = t} h k) = none t rest h

ends_whole : (t : Token) → IsWhole t []
ends_whole (Mark kind) = tt
ends_whole (Name bytes) = tt
ends_whole (Tag bytes) = tt
ends_whole (Number n) = tt
ends_whole (Text bytes) = tt

word_filled : (t : Token) (word : List ℕ) → Spells t word → 0 < length word
word_filled t [] s = absurd (no_token_at_end t [] record { word = []; spelled = s; front = refl; whole = ends_whole t })
word_filled t (c ∷ word) s = omega arith

token_shorter : (t : Token) (cs rest : List ℕ) → IsToken t cs rest → length rest < length cs
token_shorter t cs rest h =
    let filled = word_filled t h.word h.spelled in
    let long = ap length h.front ∙ length-append h.word rest in
    omega arith

pub advances_shorter : (cs rest : List ℕ) (before after : List Token) → Advances cs before after rest → length rest < length cs
advances_shorter cs rest before after (past_blank b is e) = let long = ap length is in omega arith
advances_shorter cs rest before after (past_token {token = t} h e) = token_shorter t cs rest h

-- the rest has tokens where the whole has, and the whole has those so far and then the rest's
pub record Reaches (all : List ℕ) (found : List Token) (rest : List ℕ) : Type 0 where
  pub whole : (more : List Token) → Tokens rest more → Tokens all (found ++ more)
  pub left : (tokens : List Token) → Tokens all tokens → (more : List Token) × Tokens rest more

pub at_start : (all : List ℕ) (found : List Token) → found ≡ [] → Reaches all found all
at_start all found is = record {
  whole = λ more h. subst (λ ts. Tokens all (ts ++ more)) (sym is) h;
  left = λ tokens h. (tokens, h);
}

blank_left : (c : ℕ) (cs : List ℕ) → is_blank c ≡ true → (tokens : List Token) → Tokens (c ∷ cs) tokens → (more : List Token) × Tokens cs more
blank_left c cs b tokens (blank b' h) = (tokens, h)
blank_left c cs b tokens (token {rest = rest} {first = t} h k) = absurd (blank_no_token c cs b t rest h)

token_left : (t : Token) (cs rest : List ℕ) → IsToken t cs rest → (tokens : List Token) → Tokens cs tokens → (more : List Token) × Tokens rest more
token_left t [] rest h tokens k = absurd (no_token_at_end t rest h)
token_left t (c ∷ cs) rest h tokens (blank b k) = absurd (blank_no_token c cs b t rest h)
token_left t (c ∷ cs) rest h (u ∷ tokens) (token {rest = other} k ks) =
    (tokens, subst (λ xs. Tokens xs tokens) (sym (first_once t u (c ∷ cs) rest other h k).1) ks)

pub goes_on : (all cs rest : List ℕ) (before after : List Token) → Reaches all before cs → Advances cs before after rest → Reaches all after rest
goes_on all cs rest before after r (past_blank {c = c} b is e) = record {
  whole = λ more h. subst (λ ts. Tokens all (ts ++ more)) (sym e) (r.whole more (subst (λ xs. Tokens xs more) (sym is) (blank b h)));
  left = λ tokens h. let l = r.left tokens h in blank_left c rest b l.0 (subst (λ xs. Tokens xs l.0) is l.1);
}
goes_on all cs rest before after r (past_token {token = t} h e) = record {
  whole = λ more k. subst (Tokens all) (sym (ap (λ ts. ts ++ more) e ∙ append_assoc before (t ∷ []) more)) (r.whole (t ∷ more) (token h k));
  left = λ tokens k. let l = r.left tokens k in token_left t cs rest h l.0 l.1;
}

pub at_end : (all rest : List ℕ) (before found : List Token) → Reaches all before rest → rest ≡ [] → found ≡ before → Tokens all found
at_end all rest before found r ends is =
    subst (Tokens all) (append-nil before ∙ sym is) (r.whole [] (subst (λ xs. Tokens xs []) (sym ends) end))

-- where the rest is wrong, the whole has no tokens
pub stopped : (all rest : List ℕ) (found : List Token) (fault : TokenFault) (result : Result (List Token) TokenFault) → Reaches all found rest → IsFault rest fault → result ≡ Err fault → result ≡ Err Wrong → (tokens : List Token) → Tokens all tokens → ⊥
stopped all rest found fault result r is_fault is wrong tokens h =
    let same : fault ≡ Wrong = cc in
    let none : (more : List Token) → Tokens rest more → ⊥ = subst (IsFault rest) same is_fault in
    let l = r.left tokens h in
    none l.0 l.1
