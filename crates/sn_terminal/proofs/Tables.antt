-- The words of keywords and symbols: each spells one, and each word of these kinds is one's.
use Rattle.std.proofs.Common.{◌≡◌, ◌≢◌, ℕ, Bool, true, false, ◌||◌, nat_eq, List, [], ◌∷◌, map, cond, Bor, refl, sym, ap, ◌∙◌, subst}
use Rattle.std.specs.Prelude.{Option, Some, None}
use Rattle.std.specs.Option.{option_map}
use Rattle.std.specs.List.{find}
use Rattle.std.specs.Cmp.Lexicographic.{pointwise}
use Rattle.std.proofs.lemmas.Bool.{false≢true}
use Rattle.sn_ast.specs.declared.terminal.Keyword.{Keyword}
use Rattle.sn_ast.specs.declared.terminal.Keyword.TheVariants.{Box, Net, Connect, «Type» as TypeWord, TypeSig, If, Then, Else, Let, In, Out, Fun}
use Rattle.sn_ast.specs.declared.terminal.Symbol.{Symbol}
use Rattle.sn_ast.specs.declared.terminal.Symbol.TheVariants.{OpenParen, CloseParen, OpenBrace, CloseBrace, OpenBracket, CloseBracket, OpenSync, CloseSync, Comma, Semicolon, Colon, Assign, Equal, NotEqual, Less, LessEqual, Greater, GreaterEqual, Plus, Minus, Star, Slash, Percent, AndAnd, BarBar, Bar, Bang, BangBang, StarStar, Dots, Arrow, Question, At}
use Rattle.sn_lexer.specs.Spelling.{is_among, is_keyword, is_symbol, lone_symbols, paired_symbols}
use Rattle.sn_lexer.proofs.Tables.{same_words}
use Rattle.sn_terminal.specs.Words.{keyword_word, symbol_word}

-- the entry of a table has the word
abbrev pub has_word : {K : Type 0} → List ℕ → List ℕ × K → Bool
has_word word entry = pointwise nat_eq entry.0 word

abbrev pub entries : {K : Type 0} → (K → List ℕ) → List K → List (List ℕ × K)
entries word_of ks = map (λ k. (word_of k, k)) ks

-- the entry that is found has the word
pub found : {K : Type 0} (word_of : K → List ℕ) (ks : List K) (word : List ℕ) (e : List ℕ × K) → find (has_word word) (entries word_of ks) ≡ Some e → word ≡ word_of e.1
found word_of [] word e h = absurd cc
found word_of (k ∷ ks) word e h =
    elim (pointwise nat_eq (word_of k) word) as (λ b. pointwise nat_eq (word_of k) word ≡ b → cond b (Some (word_of k, k)) (find (has_word word) (entries word_of ks)) ≡ Some e → word ≡ word_of e.1) [
      | true ↦ λ t one. let here : (word_of k, k) ≡ e = cc in sym (same_words (word_of k) word t) ∙ ap (λ x. word_of x.1) here
      | false ↦ λ t rest. found word_of ks word e rest
    ] refl h

-- the same for a table that borrows its words
abbrev pub plain : {K : Type 0} → Bor (List ℕ) × K → List ℕ × K
plain entry = (entry.0.now, entry.1)

find_plain : {K : Type 0} (word : List ℕ) (es : List (Bor (List ℕ) × K)) → option_map plain (find (λ e. has_word word (plain e)) es) ≡ find (has_word word) (map plain es)
find_plain word [] = refl
find_plain word (e ∷ es) = by (has_word word (plain e)) (find_plain word es)
  where
    by : (b : Bool) → option_map plain (find (λ x. has_word word (plain x)) es) ≡ find (has_word word) (map plain es) →
        option_map plain (cond b (Some e) (find (λ x. has_word word (plain x)) es)) ≡ cond b (Some (plain e)) (find (has_word word) (map plain es))
    by true rest = refl
    by false rest = rest

-- what a search in a table that borrows its words found, and that it found nothing
module _ {K : Type 0} (word : List ℕ) (es : List (Bor (List ℕ) × K)) (table : List (List ℕ × K)) (answer : Option (Bor (Bor (List ℕ) × K))) where
  pub found_entry : option_map (λ e. e.now) answer ≡ find (λ e. has_word word (plain e)) es → map plain es ≡ table →
      (entry : Bor (Bor (List ℕ) × K)) → answer ≡ Some entry → find (has_word word) table ≡ Some (plain entry.now)
  found_entry is all entry some =
      sym (ap (find (has_word word)) all) ∙ sym (find_plain word es) ∙ ap (option_map plain) (sym is ∙ ap (option_map (λ e. e.now)) some)

  pub found_nothing : option_map (λ e. e.now) answer ≡ find (λ e. has_word word (plain e)) es → map plain es ≡ table → answer ≡ None → find (has_word word) table ≡ None
  found_nothing is all none =
      sym (ap (find (has_word word)) all) ∙ sym (find_plain word es) ∙ ap (option_map plain) (sym is ∙ ap (option_map (λ e. e.now)) none)

-- a word in a table is that of an entry
pub one_of : {K : Type 0} (word_of : K → List ℕ) (ks : List K) (word : List ℕ) → is_among (map word_of ks) word ≡ true → (k : K) × (word ≡ word_of k)
one_of {K} word_of [] word h = absurd (false≢true h)
one_of {K} word_of (k ∷ ks) word h =
    elim (pointwise nat_eq (word_of k) word) as (λ b. pointwise nat_eq (word_of k) word ≡ b → (b || is_among (map word_of ks) word) ≡ true → (j : K) × (word ≡ word_of j)) [
      | true ↦ λ t here. (k, sym (same_words (word_of k) word t))
      | false ↦ λ t rest. one_of word_of ks word rest
    ] refl h

abbrev pub every_keyword : List Keyword
every_keyword = Box ∷ Net ∷ Connect ∷ TypeWord ∷ TypeSig ∷ If ∷ Then ∷ Else ∷ Let ∷ In ∷ Out ∷ Fun ∷ []

abbrev pub keyword_table : List (List ℕ × Keyword)
keyword_table = entries keyword_word every_keyword

keyword_known : (k : Keyword) → find (has_word (keyword_word k)) keyword_table ≡ Some (keyword_word k, k)
keyword_known Box = refl
keyword_known Net = refl
keyword_known Connect = refl
keyword_known TypeWord = refl
keyword_known TypeSig = refl
keyword_known If = refl
keyword_known Then = refl
keyword_known Else = refl
keyword_known Let = refl
keyword_known In = refl
keyword_known Out = refl
keyword_known Fun = refl

pub keyword_found : (word : List ℕ) (e : List ℕ × Keyword) → find (has_word word) keyword_table ≡ Some e → word ≡ keyword_word e.1
keyword_found word e h = found keyword_word every_keyword word e h

pub no_keyword : (word : List ℕ) → find (has_word word) keyword_table ≡ None → (k : Keyword) → word ≢ keyword_word k
no_keyword word h k same = let known = keyword_known k in let none = subst (λ w. find (has_word w) keyword_table ≡ None) same h in cc

pub keyword_once : (j k : Keyword) → keyword_word j ≡ keyword_word k → j ≡ k
keyword_once j k same =
    let one = sym (keyword_known j) ∙ ap (λ w. find (has_word w) keyword_table) same ∙ keyword_known k in let left : List ℕ × Keyword = (keyword_word j, j) in let right : List ℕ × Keyword = (keyword_word k, k) in let pair : left ≡ right = cc in ap (λ e. e.1) pair

pub keyword_is : (word : List ℕ) → is_keyword word ≡ true → (k : Keyword) × (word ≡ keyword_word k)
unfolding is_keyword
keyword_is word h = one_of keyword_word every_keyword word h

abbrev pub every_symbol : List Symbol
every_symbol = OpenParen ∷ CloseParen ∷ OpenBrace ∷ CloseBrace ∷ OpenBracket ∷ CloseBracket ∷ OpenSync ∷ CloseSync ∷ Comma ∷ Semicolon ∷ Colon ∷ Assign ∷ Equal ∷ NotEqual ∷ Less ∷ LessEqual ∷ Greater ∷ GreaterEqual ∷ Plus ∷ Minus ∷ Star ∷ Slash ∷ Percent ∷ AndAnd ∷ BarBar ∷ Bar ∷ Bang ∷ BangBang ∷ StarStar ∷ Dots ∷ Arrow ∷ Question ∷ At ∷ []

abbrev pub symbol_table : List (List ℕ × Symbol)
symbol_table = entries symbol_word every_symbol

symbol_known : (s : Symbol) → find (has_word (symbol_word s)) symbol_table ≡ Some (symbol_word s, s)
symbol_known OpenParen = refl
symbol_known CloseParen = refl
symbol_known OpenBrace = refl
symbol_known CloseBrace = refl
symbol_known OpenBracket = refl
symbol_known CloseBracket = refl
symbol_known OpenSync = refl
symbol_known CloseSync = refl
symbol_known Comma = refl
symbol_known Semicolon = refl
symbol_known Colon = refl
symbol_known Assign = refl
symbol_known Equal = refl
symbol_known NotEqual = refl
symbol_known Less = refl
symbol_known LessEqual = refl
symbol_known Greater = refl
symbol_known GreaterEqual = refl
symbol_known Plus = refl
symbol_known Minus = refl
symbol_known Star = refl
symbol_known Slash = refl
symbol_known Percent = refl
symbol_known AndAnd = refl
symbol_known BarBar = refl
symbol_known Bar = refl
symbol_known Bang = refl
symbol_known BangBang = refl
symbol_known StarStar = refl
symbol_known Dots = refl
symbol_known Arrow = refl
symbol_known Question = refl
symbol_known At = refl

pub symbol_found : (word : List ℕ) (e : List ℕ × Symbol) → find (has_word word) symbol_table ≡ Some e → word ≡ symbol_word e.1
symbol_found word e h = found symbol_word every_symbol word e h

pub no_symbol : (word : List ℕ) → find (has_word word) symbol_table ≡ None → (s : Symbol) → word ≢ symbol_word s
no_symbol word h s same = let known = symbol_known s in let none = subst (λ w. find (has_word w) symbol_table ≡ None) same h in cc

pub symbol_once : (r s : Symbol) → symbol_word r ≡ symbol_word s → r ≡ s
symbol_once r s same =
    let one = sym (symbol_known r) ∙ ap (λ w. find (has_word w) symbol_table) same ∙ symbol_known s in let left : List ℕ × Symbol = (symbol_word r, r) in let right : List ℕ × Symbol = (symbol_word s, s) in let pair : left ≡ right = cc in ap (λ e. e.1) pair

abbrev lone : List Symbol
lone = OpenParen ∷ CloseParen ∷ OpenBrace ∷ CloseBrace ∷ OpenBracket ∷ CloseBracket ∷ Comma ∷ Semicolon ∷ Colon ∷ Assign ∷ Less ∷ Greater ∷ Plus ∷ Minus ∷ Star ∷ Slash ∷ Percent ∷ Bar ∷ Bang ∷ Question ∷ At ∷ []

abbrev paired : List Symbol
paired = OpenSync ∷ CloseSync ∷ Equal ∷ NotEqual ∷ LessEqual ∷ GreaterEqual ∷ AndAnd ∷ BarBar ∷ BangBang ∷ StarStar ∷ Dots ∷ Arrow ∷ []

pub symbol_is : (word : List ℕ) → is_symbol word ≡ true → (s : Symbol) × (word ≡ symbol_word s)
unfolding is_symbol
symbol_is word h =
    elim (is_among (map (λ c. c ∷ []) lone_symbols) word) as (λ b. is_among (map (λ c. c ∷ []) lone_symbols) word ≡ b → (b || is_among paired_symbols word) ≡ true → (s : Symbol) × (word ≡ symbol_word s)) [
      | true ↦ λ one t. one_of symbol_word lone word one
      | false ↦ λ one two. one_of symbol_word paired word two
    ] refl h
