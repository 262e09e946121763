-- The longest symbol in front.
use Rattle.std.proofs.Common.{◌≡◌, ℕ, true, false, List, [], ◌∷◌, ◌++◌, length, sym, ap, ◌∙◌, arith}
use Rattle.std.proofs.lemmas.Bool.{false≢true}
use Rattle.sn_lexer.specs.Spelling.{is_symbol}
use Rattle.sn_lexer.specs.Fronts.{BeginsNoSymbol, IsSymbolUpTo}
use Rattle.sn_lexer.proofs.Heads.{symbol_filled, symbol_short}

-- the first two characters are no symbol
abbrev pub NoPair : ℕ → List ℕ → Type 0
NoPair a rest = (b : ℕ) (more : List ℕ) → rest ≡ b ∷ more → is_symbol (a ∷ b ∷ []) ≡ false

pub no_pair_at_end : (a : ℕ) (rest : List ℕ) → rest ≡ [] → NoPair a rest
no_pair_at_end a rest ends b more is = cc

pub no_pair_at : (a c : ℕ) (rest after : List ℕ) → rest ≡ c ∷ after → is_symbol (a ∷ c ∷ []) ≡ false → NoPair a rest
no_pair_at a c rest after is no_symbol b more same = let head : c ≡ b = cc in rw (← head) no_symbol

pub pair_symbol : (cs : List ℕ) (a b : ℕ) (inner rest : List ℕ) → cs ≡ a ∷ inner → inner ≡ b ∷ rest → is_symbol (a ∷ b ∷ []) ≡ true → IsSymbolUpTo cs rest
pair_symbol cs a b inner rest is is_inner symbol = record {
  word = a ∷ b ∷ [];
  symbol = symbol;
  front = is ∙ ap (λ xs. a ∷ xs) is_inner;
  longest = λ other more symbol same. symbol_short other symbol;
}

-- a symbol in front is the first character alone
only_first : (a : ℕ) (rest other more : List ℕ) → NoPair a rest → is_symbol other ≡ true → a ∷ rest ≡ other ++ more → other ≡ a ∷ []
only_first a rest [] more no_pair symbol same = absurd (symbol_filled symbol)
only_first a rest (b ∷ []) more no_pair symbol same = let head : a ≡ b = cc in ap (λ x. x ∷ []) (sym head)
only_first a rest (b ∷ d ∷ []) more no_pair symbol same =
    let head : a ≡ b = cc in
    let tail : rest ≡ d ∷ more = cc in
    absurd (false≢true (sym (no_pair d more tail) ∙ ap (λ x. is_symbol (x ∷ d ∷ [])) head ∙ symbol))
only_first a rest (b ∷ d ∷ e ∷ other) more no_pair symbol same =
    let short = symbol_short (b ∷ d ∷ e ∷ other) symbol in absurd (omega arith)

pub lone_symbol : (cs : List ℕ) (a : ℕ) (rest : List ℕ) → cs ≡ a ∷ rest → is_symbol (a ∷ []) ≡ true → NoPair a rest → IsSymbolUpTo cs rest
lone_symbol cs a rest is symbol no_pair = record {
  word = a ∷ [];
  symbol = symbol;
  front = is;
  longest = λ other more symbol same. let one = ap length (only_first a rest other more no_pair symbol (sym is ∙ same)) in omega arith;
}

pub no_symbol : (cs : List ℕ) (a : ℕ) (rest : List ℕ) → cs ≡ a ∷ rest → is_symbol (a ∷ []) ≡ false → NoPair a rest → BeginsNoSymbol cs
no_symbol cs a rest is plain no_pair word more symbol same =
    let one = only_first a rest word more no_pair symbol (sym is ∙ same) in
    false≢true (sym plain ∙ ap is_symbol (sym one) ∙ symbol)

pub no_symbol_at_end : (cs : List ℕ) → cs ≡ [] → BeginsNoSymbol cs
no_symbol_at_end cs ends [] more symbol same = symbol_filled symbol
no_symbol_at_end cs ends (c ∷ word) more symbol same = cc
