-- A source gives one list of tokens, or one refusal.
use Rattle.std.proofs.Common.{◌≡◌, ◌∙◌, ℕ, List, length, refl, sym, ap}
use Rattle.std.specs.Prelude.{◌≢◌}
use Rattle.std.specs.Str.{chars}
use Rattle.sn_lexer.specs.declared.token.Token.{Token}
use Rattle.sn_lexer.specs.declared.token.LexFault.{LexFault}
use Rattle.sn_lexer.specs.declared.token.LexFault.TheVariants.{BadUtf8, BadChar, NumberTooWide, TextOpen, Memory}
use Rattle.sn_lexer.specs.Answer.{LexesAs, IsRefused, IsFault}
use Rattle.sn_lexer.proofs.Once.{lexes_once, refuses_once, lexes_or_refuses}

pub same_tokens : (source : List ℕ) (tokens others : List Token) → LexesAs source tokens → LexesAs source others → tokens ≡ others
same_tokens source tokens others l k = lexes_once (length source) (chars source) tokens others l.lexes k.lexes

-- what is refused is no well-formed text, or a text with one refusal
pub data Refusal (source : List ℕ) : LexFault → Type 0 where
  no_text : {at : ℕ} → IsFault source (BadUtf8 at) → Refusal source (BadUtf8 at)
  text : {fault : LexFault} → IsRefused source fault → Refusal source fault

pub refusal_of : (source : List ℕ) (fault : LexFault) → IsFault source fault → fault ≢ Memory → Refusal source fault
refusal_of source (BadUtf8 at) f n = Refusal.no_text f
refusal_of source (BadChar at) f n = Refusal.text f
refusal_of source (NumberTooWide at) f n = Refusal.text f
refusal_of source (TextOpen at) f n = Refusal.text f
refusal_of source Memory f n = absurd (n refl)

one_refusal : (source : List ℕ) (fault other : LexFault) → Refusal source fault → Refusal source other → fault ≡ other
one_refusal source fault other (Refusal.no_text f) (Refusal.no_text g) = ap BadUtf8 (f.1 ∙ sym g.1)
one_refusal source fault other (Refusal.no_text f) (Refusal.text r) = absurd (f.0 r.utf8)
one_refusal source fault other (Refusal.text r) (Refusal.no_text f) = absurd (f.0 r.utf8)
one_refusal source fault other (Refusal.text r) (Refusal.text s) = refuses_once (length source) (chars source) fault other r.refuses s.refuses

pub same_refusal : (source : List ℕ) (fault other : LexFault) → IsFault source fault → IsFault source other → fault ≢ Memory → other ≢ Memory → fault ≡ other
same_refusal source fault other f g n k = one_refusal source fault other (refusal_of source fault f n) (refusal_of source other g k)

pub tokens_or_refusal : (source : List ℕ) (tokens : List Token) (fault : LexFault) → LexesAs source tokens → IsFault source fault → fault ≡ Memory
tokens_or_refusal source tokens (BadUtf8 at) l f = absurd (f.0 l.utf8)
tokens_or_refusal source tokens (BadChar at) l f = absurd (lexes_or_refuses (length source) (chars source) tokens _ l.lexes f.refuses)
tokens_or_refusal source tokens (NumberTooWide at) l f = absurd (lexes_or_refuses (length source) (chars source) tokens _ l.lexes f.refuses)
tokens_or_refusal source tokens (TextOpen at) l f = absurd (lexes_or_refuses (length source) (chars source) tokens _ l.lexes f.refuses)
tokens_or_refusal source tokens Memory l f = refl
