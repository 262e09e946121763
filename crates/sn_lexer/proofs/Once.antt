-- A source has one answer: its tokens, or one refusal.
use Rattle.std.proofs.Common.{◌≡◌, ℕ, List, [], ◌∷◌, length, refl, sym, subst, inl, inr}
use Rattle.std.specs.Prelude.{Result, Ok, Err, MatchResult, ◌⊎◌}
use Rattle.std.specs.Str.{chars}
use Rattle.sn_lexer.specs.declared.token.TokenKind.{TokenKind}
use Rattle.sn_lexer.specs.declared.token.Token.{Token}
use Rattle.sn_lexer.specs.declared.token.LexFault.{LexFault}
use Rattle.sn_lexer.specs.declared.token.LexFault.TheVariants.{BadUtf8, BadChar, NumberTooWide, TextOpen, Memory}
use Rattle.sn_lexer.specs.Gaps.{IsGap}
use Rattle.sn_lexer.specs.Lexes.{IsToken, IsWrong, token_at, Lexes, Refuses}
use Rattle.sn_lexer.specs.Lexes.Lexes.{end, gap as gap_then, token as token_then}
use Rattle.sn_lexer.specs.Lexes.Refuses.{here, after_gap, after_token}
use Rattle.sn_lexer.specs.Answer.{LexesAs, IsRefused, IsFault}
use Rattle.sn_lexer.proofs.Pieces.{first_once, nothing_first}
use Rattle.sn_lexer.proofs.Pieces.Piece.{gap, word, fault}

module _ (total : ℕ) (cs : List ℕ) where
  pub same_gap : (rest next : List ℕ) → IsGap cs rest → IsGap cs next → rest ≡ next
  same_gap rest next g h = let e = first_once total cs (gap rest) (gap next) g h in cc

  pub gap_no_token : (rest next : List ℕ) (kind : TokenKind) → IsGap cs rest → IsToken kind cs next → ⊥
  gap_no_token rest next kind g t = let e = first_once total cs (gap rest) (word kind next) g t in cc

  pub same_token : (kind other : TokenKind) (rest next : List ℕ) → IsToken kind cs rest → IsToken other cs next → (kind ≡ other) × (rest ≡ next)
  same_token kind other rest next t u = let e = first_once total cs (word kind rest) (word other next) t u in (cc, cc)

  pub wrong_no_gap : (f : LexFault) (rest : List ℕ) → IsWrong total cs f → IsGap cs rest → ⊥
  wrong_no_gap f rest w g = let e = first_once total cs (fault f) (gap rest) w g in cc

  pub wrong_no_token : (f : LexFault) (kind : TokenKind) (rest : List ℕ) → IsWrong total cs f → IsToken kind cs rest → ⊥
  wrong_no_token f kind rest w t = let e = first_once total cs (fault f) (word kind rest) w t in cc

  pub same_wrong : (f g : LexFault) → IsWrong total cs f → IsWrong total cs g → f ≡ g
  same_wrong f g v w = let e = first_once total cs (fault f) (fault g) v w in cc

-- the tokens are one list
pub lexes_once : (total : ℕ) (cs : List ℕ) (tokens others : List Token) → Lexes total cs tokens → Lexes total cs others → tokens ≡ others
lexes_once total [] [] [] end end = refl
lexes_once total [] [] others end (gap_then {rest = next} g k) = absurd (nothing_first total (gap next) g)
lexes_once total [] [] (o ∷ others) end (token_then {rest = next} kind t k) = absurd (nothing_first total (word kind next) t)
lexes_once total [] tokens [] (gap_then {rest = rest} g h) end = absurd (nothing_first total (gap rest) g)
lexes_once total cs tokens others (gap_then {rest = rest} g h) (gap_then {rest = next} g' k) =
    lexes_once total rest tokens others h (subst (λ xs. Lexes total xs others) (sym (same_gap total cs rest next g g')) k)
lexes_once total cs tokens (o ∷ others) (gap_then {rest = rest} g h) (token_then {rest = next} kind t k) = absurd (gap_no_token total cs rest next kind g t)
lexes_once total [] (o ∷ tokens) [] (token_then {rest = rest} kind t h) end = absurd (nothing_first total (word kind rest) t)
lexes_once total cs (o ∷ tokens) others (token_then {rest = rest} kind t h) (gap_then {rest = next} g k) = absurd (gap_no_token total cs next rest kind g t)
lexes_once total cs (o ∷ tokens) (p ∷ others) (token_then {rest = rest} kind t h) (token_then {rest = next} other u k) =
    let same = same_token total cs kind other rest next t u in
    let tails = lexes_once total rest tokens others h (subst (λ xs. Lexes total xs others) (sym same.1) k) in
    λ i. token_at total (same.0 i) cs (same.1 i) ∷ tails i

-- and the refusal is one fault
pub refuses_once : (total : ℕ) (cs : List ℕ) (f g : LexFault) → Refuses total cs f → Refuses total cs g → f ≡ g
refuses_once total cs f g (here v) (here w) = same_wrong total cs f g v w
refuses_once total cs f g (here v) (after_gap {rest = next} gp k) = absurd (wrong_no_gap total cs f next v gp)
refuses_once total cs f g (here v) (after_token {rest = next} kind t k) = absurd (wrong_no_token total cs f kind next v t)
refuses_once total cs f g (after_gap {rest = rest} gp h) (here w) = absurd (wrong_no_gap total cs g rest w gp)
refuses_once total cs f g (after_gap {rest = rest} gp h) (after_gap {rest = next} gp' k) =
    refuses_once total rest f g h (subst (λ xs. Refuses total xs g) (sym (same_gap total cs rest next gp gp')) k)
refuses_once total cs f g (after_gap {rest = rest} gp h) (after_token {rest = next} kind t k) = absurd (gap_no_token total cs rest next kind gp t)
refuses_once total cs f g (after_token {rest = rest} kind t h) (here w) = absurd (wrong_no_token total cs g kind rest w t)
refuses_once total cs f g (after_token {rest = rest} kind t h) (after_gap {rest = next} gp k) = absurd (gap_no_token total cs next rest kind gp t)
refuses_once total cs f g (after_token {rest = rest} kind t h) (after_token {rest = next} other u k) =
    refuses_once total rest f g h (subst (λ xs. Refuses total xs g) (sym (same_token total cs kind other rest next t u).1) k)

-- no source has both
pub lexes_or_refuses : (total : ℕ) (cs : List ℕ) (tokens : List Token) (f : LexFault) → Lexes total cs tokens → Refuses total cs f → ⊥
lexes_or_refuses total [] [] f end (here w) = nothing_first total (fault f) w
lexes_or_refuses total [] [] f end (after_gap {rest = next} g k) = nothing_first total (gap next) g
lexes_or_refuses total [] [] f end (after_token {rest = next} kind t k) = nothing_first total (word kind next) t
lexes_or_refuses total cs tokens f (gap_then {rest = rest} g h) (here w) = wrong_no_gap total cs f rest w g
lexes_or_refuses total cs tokens f (gap_then {rest = rest} g h) (after_gap {rest = next} g' k) =
    lexes_or_refuses total rest tokens f h (subst (λ xs. Refuses total xs f) (sym (same_gap total cs rest next g g')) k)
lexes_or_refuses total cs tokens f (gap_then {rest = rest} g h) (after_token {rest = next} kind t k) = gap_no_token total cs rest next kind g t
lexes_or_refuses total cs (o ∷ tokens) f (token_then {rest = rest} kind t h) (here w) = wrong_no_token total cs f kind rest w t
lexes_or_refuses total cs (o ∷ tokens) f (token_then {rest = rest} kind t h) (after_gap {rest = next} g k) = gap_no_token total cs next rest kind g t
lexes_or_refuses total cs (o ∷ tokens) f (token_then {rest = rest} kind t h) (after_token {rest = next} other u k) =
    lexes_or_refuses total rest tokens f h (subst (λ xs. Refuses total xs f) (sym (same_token total cs kind other rest next t u).1) k)

-- an answer that is right is the only one, unless memory was wanted
pub only_tokens : (source : List ℕ) (result : Result (List Token) LexFault) → MatchResult result (LexesAs source) (IsFault source) → (tokens : List Token) → LexesAs source tokens → MatchResult result (λ found. found ≡ tokens) (λ f. f ≡ Memory)
only_tokens source (Ok found) answer tokens l = lexes_once (length source) (chars source) found tokens answer.lexes l.lexes
only_tokens source (Err (BadUtf8 at)) answer tokens l = absurd (answer.0 l.utf8)
only_tokens source (Err (BadChar at)) answer tokens l = absurd (lexes_or_refuses (length source) (chars source) tokens _ l.lexes answer.refuses)
only_tokens source (Err (NumberTooWide at)) answer tokens l = absurd (lexes_or_refuses (length source) (chars source) tokens _ l.lexes answer.refuses)
only_tokens source (Err (TextOpen at)) answer tokens l = absurd (lexes_or_refuses (length source) (chars source) tokens _ l.lexes answer.refuses)
only_tokens source (Err Memory) answer tokens l = refl

pub only_refusal : (source : List ℕ) (result : Result (List Token) LexFault) → MatchResult result (LexesAs source) (IsFault source) → (f : LexFault) → IsRefused source f → MatchResult result (λ found. ⊥) (λ g. (g ≡ f) ⊎ (g ≡ Memory))
only_refusal source (Ok found) answer f r = lexes_or_refuses (length source) (chars source) found f answer.lexes r.refuses
only_refusal source (Err (BadUtf8 at)) answer f r = absurd (answer.0 r.utf8)
only_refusal source (Err (BadChar at)) answer f r = inl (refuses_once (length source) (chars source) _ f answer.refuses r.refuses)
only_refusal source (Err (NumberTooWide at)) answer f r = inl (refuses_once (length source) (chars source) _ f answer.refuses r.refuses)
only_refusal source (Err (TextOpen at)) answer f r = inl (refuses_once (length source) (chars source) _ f answer.refuses r.refuses)
only_refusal source (Err Memory) answer f r = inr refl
