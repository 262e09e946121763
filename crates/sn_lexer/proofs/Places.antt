-- The tokens that were found, in the bytes of their source.
use Rattle.std.proofs.Common.{◌≡◌, ℕ, ◌+◌, ◌-◌, ◌≤◌, List, [], ◌∷◌, ◌++◌, append_assoc, length, length-append, take, drop, refl, sym, ap, ◌∙◌, subst, arith}
use Rattle.std.specs.Prelude.{encode_utf8_all}
use Rattle.std.specs.Str.{chars}
use Rattle.std.proofs.lemmas.Str.{encodes-chars, encodes-append, length-le-encodes}
use Rattle.std.proofs.lemmas.List.{take_at, drop_at}
use Rattle.sn_lexer.specs.declared.token.TokenKind.{TokenKind}
use Rattle.sn_lexer.specs.declared.token.Token.{Token}
use Rattle.sn_lexer.specs.Lexes.{width, place, IsToken, token_at, Lexes}
use Rattle.sn_lexer.specs.Lexes.Lexes.{end, gap, token}
use Rattle.sn_lexer.specs.Placed.{IsPlaced, ArePlaced}
use Rattle.sn_lexer.specs.Answer.{LexesAs}
use Rattle.sn_lexer.proofs.Passing.{gap_passed, token_passed, word_filled}

width-append : (xs ys : List ℕ) → width (xs ++ ys) ≡ width xs + width ys
width-append xs ys = ap length (encodes-append xs ys) ∙ length-append (encode_utf8_all xs) (encode_utf8_all ys)

-- the place of what follows a front is the front's width
place_behind : (total : ℕ) (front rest : List ℕ) → total ≡ width (front ++ rest) → place total rest ≡ width front
place_behind total front rest is = let both = width-append front rest in omega arith

-- the bytes between a front and a rest
bytes_between : (front word rest : List ℕ) → take (width word) (drop (width front) (encode_utf8_all (front ++ (word ++ rest)))) ≡ encode_utf8_all word
bytes_between front word rest =
    let all = encodes-append front (word ++ rest) ∙ ap (λ xs. encode_utf8_all front ++ xs) (encodes-append word rest) in
    ap (λ xs. take (width word) (drop (width front) xs)) all
    ∙ ap (take (width word)) (drop_at (encode_utf8_all front) (encode_utf8_all word ++ encode_utf8_all rest) (width front) refl)
    ∙ take_at (encode_utf8_all word) (encode_utf8_all rest) (width word) refl

module _ (all : List ℕ) where
  token_placed : (front cs rest : List ℕ) (kind : TokenKind) → all ≡ front ++ cs → IsToken kind cs rest → IsPlaced (encode_utf8_all all) (token_at (width all) kind cs rest)
  token_placed front cs rest kind is t =
      let whole = is ∙ ap (λ xs. front ++ xs) t.leads.front in
      let start = place_behind (width all) front cs (ap width is) in
      let finish = place_behind (width all) (front ++ t.word) rest (ap width (whole ∙ sym (append_assoc front t.word rest))) in
      let wide = width-append front t.word in
      let filled = word_filled kind t.word t.leads.spelled in
      let least = length-le-encodes t.word in
      let size : place (width all) rest - place (width all) cs ≡ width t.word = omega arith in
      let bytes = ap (λ xs. take (width t.word) (drop (width front) (encode_utf8_all xs))) whole ∙ bytes_between front t.word rest in
      record {
        rises = omega arith;
        ends = omega arith;
        word = t.word;
        spelled = t.leads.spelled;
        within = t.within;
        written = (λ i. take (size i) (drop (start i) (encode_utf8_all all))) ∙ bytes;
      }

  pub all_placed : (front cs : List ℕ) (from : ℕ) (tokens : List Token) → all ≡ front ++ cs → from ≤ width front → Lexes (width all) cs tokens → ArePlaced (encode_utf8_all all) from tokens
  all_placed front [] from [] is below end = tt
  all_placed front cs from tokens is below (gap {rest = rest} g h) =
      let passed = gap_passed cs rest g in
      let wide = width-append front passed.word in
      all_placed (front ++ passed.word) rest from tokens (is ∙ ap (λ xs. front ++ xs) passed.front ∙ sym (append_assoc front passed.word rest)) (omega arith) h
  all_placed front cs from (o ∷ tokens) is below (token {rest = rest} kind t h) =
      let passed = token_passed kind cs rest t in
      let whole = is ∙ ap (λ xs. front ++ xs) passed.front ∙ sym (append_assoc front passed.word rest) in
      let start = place_behind (width all) front cs (ap width is) in
      let finish = place_behind (width all) (front ++ passed.word) rest (ap width whole) in
      (omega arith, token_placed front cs rest kind is t, all_placed (front ++ passed.word) rest (place (width all) rest) tokens whole (omega arith) h)

pub source_placed : (source : List ℕ) (tokens : List Token) → LexesAs source tokens → ArePlaced source 0 tokens
source_placed source tokens l =
    let bytes = encodes-chars source l.utf8 in
    subst (λ xs. ArePlaced xs 0 tokens) bytes
    (all_placed (chars source) [] (chars source) 0 tokens refl (omega arith) (subst (λ n. Lexes n (chars source) tokens) (sym (ap length bytes)) l.lexes))
