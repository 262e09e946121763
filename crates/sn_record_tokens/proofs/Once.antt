-- What stands first in characters is one thing, and so a line has one list of tokens.
use Rattle.std.proofs.Common.{◌≡◌, ℕ, ◌||◌, ◌==◌, true, false, List, [], ◌∷◌, ◌++◌, refl, sym, ap, ◌∙◌, subst, inl, inr, arith}
use Rattle.std.specs.Prelude.{ℤ, if◌then◌else◌}
use Rattle.std.specs.Char.{is_ascii_digit}
use Rattle.std.proofs.lemmas.Bool.{false≢true}
use Rattle.std.proofs.lemmas.Bool.Decides.{nat_tests}
use Rattle.sn_lexer.specs.Spelling.{starts_name, is_name}
use Rattle.sn_lexer.proofs.Contents.{written}
use Rattle.sn_lexer.proofs.Heads.{starts_name_ascii, starts_above}
use Rattle.sn_lexer.proofs.WordKinds.{name_starts, digit_below, fails}
use Rattle.sn_record_tokens.specs.declared.token.Mark.{Mark as MarkKind}
use Rattle.sn_record_tokens.specs.declared.token.Mark.TheVariants as kind
use Rattle.sn_record_tokens.specs.declared.token.Token.{Token}
use Rattle.sn_record_tokens.specs.declared.token.Token.TheVariants.{Mark, Name, Tag, Number, Text}
use Rattle.sn_record_tokens.specs.Tokens.{is_blank, mark_word, IsToken, Tokens}
use Rattle.sn_record_tokens.specs.Tokens.Tokens.{end, blank, token}
use Rattle.sn_record_tokens.specs.Reading.{IsSized}
use Rattle.sn_record_tokens.proofs.Names.{name_once, tag_once}
use Rattle.sn_record_tokens.proofs.Numbers.{number_sized, number_once, sized_digit, no_size_at_end}
use Rattle.sn_record_tokens.proofs.Texts.{text_once}

-- the sorts of tokens, and none
data Sort : Type 0 where
  nothing : Sort
  mark : Sort
  name : Sort
  tag : Sort
  number : Sort
  text : Sort

abbrev sort_of : Token → Sort
sort_of (Mark kind) = mark
sort_of (Name bytes) = name
sort_of (Tag bytes) = tag
sort_of (Number n) = number
sort_of (Text bytes) = text

-- which sort may begin here
abbrev sort_at : List ℕ → Sort
sort_at [] = nothing
sort_at (c ∷ cs) =
    if starts_name c then name else (if is_ascii_digit c || (c == 45) then number else (if c == 60 then tag else (if c == 34 then text else (if is_blank c then nothing else mark))))

mark_sort : (kind : MarkKind) (rest : List ℕ) → sort_at (mark_word kind ++ rest) ≡ mark
mark_sort kind.OpenRecord rest = let other = starts_name_ascii 123 (omega arith) in rw other refl
mark_sort kind.CloseRecord rest = let other = starts_name_ascii 125 (omega arith) in rw other refl
mark_sort kind.OpenList rest = let other = starts_name_ascii 91 (omega arith) in rw other refl
mark_sort kind.CloseList rest = let other = starts_name_ascii 93 (omega arith) in rw other refl
mark_sort kind.Comma rest = let other = starts_name_ascii 44 (omega arith) in rw other refl
mark_sort kind.Equals rest = let other = starts_name_ascii 61 (omega arith) in rw other refl

name_sort : (word rest : List ℕ) → is_name word ≡ true → sort_at (word ++ rest) ≡ name
name_sort [] rest named = absurd (false≢true named)
name_sort (c ∷ word) rest named = let starts = name_starts c word named in rw starts refl

angle_sort : (cs : List ℕ) → sort_at (60 ∷ cs) ≡ tag
angle_sort cs = let other = starts_name_ascii 60 (omega arith) in rw other refl

quote_sort : (cs : List ℕ) → sort_at (34 ∷ cs) ≡ text
quote_sort cs = let other = starts_name_ascii 34 (omega arith) in rw other refl

minus_sort : (cs : List ℕ) → sort_at (45 ∷ cs) ≡ number
minus_sort cs = let other = starts_name_ascii 45 (omega arith) in rw other refl

digit_sort : (c : ℕ) (cs : List ℕ) → is_ascii_digit c ≡ true → sort_at (c ∷ cs) ≡ number
digit_sort c cs digit =
    let high = digit_below c digit in
    let other = fails (starts_name c) (λ h. let low = starts_above c h in omega arith) in
    rw (other, digit) refl

sized_sort : (n : ℤ) (cs rest : List ℕ) → IsSized false n cs rest → sort_at cs ≡ number
sized_sort n [] rest s = absurd (no_size_at_end false [] refl n rest s)
sized_sort n (c ∷ cs) rest s = digit_sort c cs (sized_digit false n c cs rest s)

-- the first character tells the token's sort
sorted : (t : Token) (cs rest : List ℕ) → IsToken t cs rest → sort_at cs ≡ sort_of t
sorted (Mark kind) cs rest t = ap sort_at (t.front ∙ ap (λ xs. xs ++ rest) t.spelled) ∙ mark_sort kind rest
sorted (Name bytes) cs rest t = ap sort_at t.front ∙ name_sort t.word rest t.spelled.name
sorted (Tag bytes) cs rest t = ap sort_at (t.front ∙ ap (λ xs. xs ++ rest) t.spelled.written) ∙ angle_sort ((t.spelled.inside ++ 62 ∷ []) ++ rest)
sorted (Number n) cs rest t = elim (number_sized n cs rest t) [
  | inl m ↦ ap sort_at m.1 ∙ minus_sort m.0
  | inr s ↦ sized_sort n cs rest s
]
sorted (Text bytes) cs rest t = ap sort_at (t.front ∙ ap (λ xs. xs ++ rest) t.spelled.written) ∙ quote_sort ((written bytes ++ 34 ∷ []) ++ rest)

-- the mark that a word is
abbrev mark_at : List ℕ → MarkKind
mark_at [] = kind.Equals
mark_at (c ∷ cs) =
    if c == 123 then kind.OpenRecord else (if c == 125 then kind.CloseRecord else (if c == 91 then kind.OpenList else (if c == 93 then kind.CloseList else (if c == 44 then kind.Comma else kind.Equals))))

mark_found : (sign : MarkKind) (rest : List ℕ) → mark_at (mark_word sign ++ rest) ≡ sign
mark_found kind.OpenRecord rest = refl
mark_found kind.CloseRecord rest = refl
mark_found kind.OpenList rest = refl
mark_found kind.CloseList rest = refl
mark_found kind.Comma rest = refl
mark_found kind.Equals rest = refl

behind : List ℕ → List ℕ
behind [] = []
behind (c ∷ cs) = cs

mark_behind : (sign : MarkKind) (rest : List ℕ) → behind (mark_word sign ++ rest) ≡ rest
unfolding behind
mark_behind kind.OpenRecord rest = refl
mark_behind kind.CloseRecord rest = refl
mark_behind kind.OpenList rest = refl
mark_behind kind.CloseList rest = refl
mark_behind kind.Comma rest = refl
mark_behind kind.Equals rest = refl

mark_once : (a b : MarkKind) (cs rest more : List ℕ) → IsToken (Mark a) cs rest → IsToken (Mark b) cs more → (a ≡ b) × (rest ≡ more)
mark_once a b cs rest more t u =
    let first = t.front ∙ ap (λ xs. xs ++ rest) t.spelled in
    let second = u.front ∙ ap (λ xs. xs ++ more) u.spelled in
    let both = sym first ∙ second in
    (sym (mark_found a rest) ∙ ap mark_at both ∙ mark_found b more, sym (mark_behind a rest) ∙ ap behind both ∙ mark_behind b more)

same_sort : (t u : Token) (cs rest more : List ℕ) → sort_of t ≡ sort_of u → IsToken t cs rest → IsToken u cs more → (t ≡ u) × (rest ≡ more)
same_sort (Mark a) (Mark b) cs rest more same t u = let parts = mark_once a b cs rest more t u in (ap Mark parts.0, parts.1)
same_sort (Name a) (Name b) cs rest more same t u = let parts = name_once a b cs rest more t u in (ap Name parts.0, parts.1)
same_sort (Tag a) (Tag b) cs rest more same t u = let parts = tag_once a b cs rest more t u in (ap Tag parts.0, parts.1)
same_sort (Number n) (Number m) cs rest more same t u = let parts = number_once n m cs rest more t u in (ap Number parts.0, parts.1)
same_sort (Text a) (Text b) cs rest more same t u = let parts = text_once a b cs rest more t u in (ap Text parts.0, parts.1)
same_sort t u cs rest more same h k = absurd (cc)

-- the token in front is one
pub first_once : (t u : Token) (cs rest more : List ℕ) → IsToken t cs rest → IsToken u cs more → (t ≡ u) × (rest ≡ more)
first_once t u cs rest more h k = same_sort t u cs rest more (sym (sorted t cs rest h) ∙ sorted u cs more k) h k

some_sort : (t : Token) → nothing ≡ sort_of t → ⊥
some_sort (Mark kind) e = cc
some_sort (Name bytes) e = cc
some_sort (Tag bytes) e = cc
some_sort (Number n) e = cc
some_sort (Text bytes) e = cc

pub no_token_at_end : (t : Token) (rest : List ℕ) → IsToken t [] rest → ⊥
no_token_at_end t rest h = some_sort t (sorted t [] rest h)

blank_sort : (c : ℕ) (cs : List ℕ) → is_blank c ≡ true → sort_at (c ∷ cs) ≡ nothing
blank_sort c cs h =
    let other = fails (starts_name c) (λ s. let low = starts_above c s in grind (arith, nat_tests)) in
    let digit : (is_ascii_digit c || (c == 45)) ≡ false = grind (arith, nat_tests) in
    let angle : (c == 60) ≡ false = grind (arith, nat_tests) in
    let quote : (c == 34) ≡ false = grind (arith, nat_tests) in
    rw (other, digit, angle, quote, h) refl

-- a blank begins no token
pub blank_no_token : (c : ℕ) (cs : List ℕ) → is_blank c ≡ true → (t : Token) (rest : List ℕ) → IsToken t (c ∷ cs) rest → ⊥
blank_no_token c cs h t rest k = some_sort t (sym (blank_sort c cs h) ∙ sorted t (c ∷ cs) rest k)

-- a line has one list of tokens
pub Tokens_once : (cs : List ℕ) (tokens others : List Token) → Tokens cs tokens → Tokens cs others → tokens ≡ others
Tokens_once [] [] [] end end = refl
Tokens_once [] tokens others end (token {rest = rest} {first = t} h k) = absurd (no_token_at_end t rest h)
Tokens_once [] tokens others (token {rest = rest} {first = t} h k) l = absurd (no_token_at_end t rest h)
Tokens_once (c ∷ cs) tokens others (blank b h) (blank b' k) = Tokens_once cs tokens others h k
Tokens_once (c ∷ cs) tokens others (blank b h) (token {rest = rest} {first = t} u k) = absurd (blank_no_token c cs b t rest u)
Tokens_once (c ∷ cs) tokens others (token {rest = rest} {first = t} u h) (blank b k) = absurd (blank_no_token c cs b t rest u)
Tokens_once (c ∷ cs) (t ∷ tokens) (o ∷ others) (token {rest = rest} h hs) (token {rest = more} k ks) =
    let same = first_once t o (c ∷ cs) rest more h k in
    let tails = Tokens_once rest tokens others hs (subst (λ xs. Tokens xs others) (sym same.1) ks) in
    λ i. same.0 i ∷ tails i
