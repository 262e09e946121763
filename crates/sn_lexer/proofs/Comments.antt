-- A comment in front.
use Rattle.std.proofs.Common.{◌≡◌, ℕ, List, ◌∷◌, sym, ap, ◌∙◌, subst}
use Rattle.std.specs.Prelude.{Some, None}
use Rattle.sn_lexer.specs.declared.token.LexFault.TheVariants.{TextOpen}
use Rattle.sn_lexer.specs.Gaps.{from_line_end, after_closing, IsGap}
use Rattle.sn_lexer.specs.Gaps.IsGap.{line_comment, block_comment}
use Rattle.sn_lexer.specs.Lexes.{place, IsWrong}
use Rattle.sn_lexer.specs.Lexes.IsWrong.{open_comment}

opened : (cs opening inside : List ℕ) (c d : ℕ) → cs ≡ 47 ∷ opening → opening ≡ c ∷ inside → c ≡ d → cs ≡ 47 ∷ d ∷ inside
opened cs opening inside c d is is_inner same = is ∙ ap (λ xs. 47 ∷ xs) (is_inner ∙ ap (λ x. x ∷ inside) same)

pub line_gap : (cs opening line rest : List ℕ) (c : ℕ) → cs ≡ 47 ∷ opening → opening ≡ c ∷ line → c ≡ 47 → rest ≡ from_line_end line → IsGap cs rest
line_gap cs opening line rest c is is_inner same past =
    subst (λ xs. IsGap xs rest) (sym (opened cs opening line c 47 is is_inner same)) (line_comment past)

pub block_gap : (cs opening inside rest : List ℕ) (c : ℕ) → cs ≡ 47 ∷ opening → opening ≡ c ∷ inside → c ≡ 42 → after_closing inside ≡ Some rest → IsGap cs rest
block_gap cs opening inside rest c is is_inner same closed =
    subst (λ xs. IsGap xs rest) (sym (opened cs opening inside c 42 is is_inner same)) (block_comment closed)

pub comment_open : (total : ℕ) (cs opening inside : List ℕ) (c : ℕ) → cs ≡ 47 ∷ opening → opening ≡ c ∷ inside → c ≡ 42 → after_closing inside ≡ None → IsWrong total cs (TextOpen (place total cs))
comment_open total cs opening inside c is is_inner same closed =
    subst (λ xs. IsWrong total xs (TextOpen (place total xs))) (sym (opened cs opening inside c 42 is is_inner same)) (open_comment closed)
