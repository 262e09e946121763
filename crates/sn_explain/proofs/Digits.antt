-- What one more digit does to a number.
use Rattle.std.proofs.Common.{◌≡◌, ◌<◌, ◌+◌, ◌-◌, ◌*◌, ℕ, List, [], ◌∷◌, ◌++◌, length, take, get_or, ap, ◌∙◌}
use Rattle.std.proofs.lemmas.List.Sums.{fold_more}
use Rattle.std.proofs.lemmas.List.{take_more, map-append}
use Rattle.sn_explain.specs.Numbers.{number_of}
use Rattle.sn_explain.specs.Rendered.{margin}

pub one_digit_more : (text : List ℕ) (i : ℕ) → i < length text → number_of (take (i + 1) text) ≡ number_of (take i text) * 10 + (get_or text i 0 - 48)
one_digit_more text i within = fold_more (λ n digit. n * 10 + (digit - 48)) 0 text i 0 within

-- one blank more stands under one digit more
pub margin_more : (digits : List ℕ) (i : ℕ) → i < length digits → margin (take (i + 1) digits) ≡ margin (take i digits) ++ 32 ∷ []
margin_more digits i within = ap margin (take_more digits i 0 within) ∙ map-append (λ _. 32) (take i digits) (get_or digits i 0 ∷ [])
