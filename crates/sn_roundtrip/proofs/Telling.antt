-- A text that stands alone has tokens that say its terminals, and what the tokens of a source say are words.
use Rattle.std.proofs.Common.{◌≡◌, ℕ, ◌≤◌, true, List, [], ◌∷◌, ◌++◌, length, append_assoc, append-nil, refl, sym, ap, ◌∙◌, subst}
use Rattle.std.specs.Prelude.{encode_utf8_all}
use Rattle.std.specs.List.{list_all}
use Rattle.std.specs.Str.{IsUtf8, all_scalars, chars}
use Rattle.std.specs.Str.Parse.{digits_value}
use Rattle.std.proofs.lemmas.Bool.{and_parts, and_from}
use Rattle.std.proofs.lemmas.Str.{chars_from_encodes, encodes-chars, scalars-chars}
use Rattle.sn_ast.specs.declared.terminal.Terminal.{Terminal}
use Rattle.sn_lexer.specs.Answer.{LexesAs}
use Rattle.sn_lexer.specs.Lexes.{width, IsToken, token_at, Lexes}
use Rattle.sn_lexer.specs.Lexes.Lexes.{end, gap, token}
use Rattle.sn_lexer.specs.Placed.{spelling}
use Rattle.sn_lexer.specs.Spelling.{Spells, IsWithinLimit, is_printable}
use Rattle.sn_lexer.specs.declared.token.Token.{Token}
use Rattle.sn_lexer.specs.declared.token.TokenKind.{TokenKind}
use Rattle.sn_lexer.proofs.Passing.{gap_passed}
use Rattle.sn_terminal.specs.Words.{Says, name, tag, number, literal, keyword, symbol, Say}
use Rattle.sn_terminal.proofs.Bytes.{number_bytes, text_bytes, tag_bytes}
use Rattle.sn_terminal.proofs.Contents.{same_inside, written_once}
use Rattle.sn_roundtrip.proofs.Spans.{Begin, End, Follows, Stands, Told, Span}
use Rattle.sn_roundtrip.specs.Words.{IsWord, AreWords}
use Rattle.sn_roundtrip.proofs.Singles.{is_at}

pub told_text : {b : Begin} {e : End} {text : List ℕ} (s : Span b e text) → Follows e [] → (tokens : List Token) × LexesAs text tokens × Say text tokens (s.said 0 [])
told_text {text} s ends =
    let nil = append-nil s.piece in
    let none : Told s.piece [] [] = record { tokens = []; lexes = end; says = tt } in
    let stands : Stands s.piece 0 (s.piece ++ []) = record { front = []; is = sym nil; place = refl } in
    let told = subst (λ cs. Told s.piece cs (s.said 0 [])) nil (s.tells s.piece 0 [] [] stands ends none) in
    let utf8 : IsUtf8 text = (s.piece, (s.scalar, s.encoded)) in
    let same = chars_from_encodes s.piece text utf8 s.encoded in
    let lexes = subst (λ n. Lexes n (chars text) told.tokens) (ap length s.encoded) (subst (λ cs. Lexes (width s.piece) cs told.tokens) same told.lexes) in
    (told.tokens, record { utf8 = utf8; lexes = lexes }, subst (λ bytes. Say bytes told.tokens (s.said 0 [])) s.encoded told.says)

scalars_parts : (xs ys : List ℕ) → all_scalars (xs ++ ys) ≡ true → (all_scalars xs ≡ true) × (all_scalars ys ≡ true)
scalars_parts [] ys h = (refl, h)
scalars_parts (x ∷ xs) ys h =
    let parts = and_parts _ _ h in
    let rest = scalars_parts xs ys parts.1 in
    (and_from _ _ parts.0 rest.0, rest.1)

-- what the word of a token says is a word
word_is : (k : TokenKind) (word bytes : List ℕ) (at : ℕ) (x : Terminal) → Spells k word → IsWithinLimit k word → all_scalars word ≡ true → encode_utf8_all word ≡ bytes → Says k bytes at x → IsWord x
word_is k word bytes at x spelled within scalar encoded name = record { word = word; identifier = spelled; scalar = scalar; encoded = encoded }
word_is k word bytes at x spelled within scalar encoded (tag {name = text} is) =
    let outer = subst (λ w. all_scalars w ≡ true) spelled.written scalar in
    record {
      word = spelled.name;
      named = spelled.named;
      scalar = (scalars_parts spelled.name (62 ∷ []) outer).0;
      encoded = same_inside (encode_utf8_all spelled.name) text 60 62 (sym (tag_bytes word spelled) ∙ encoded ∙ is);
    }
word_is k word bytes at x spelled within scalar encoded number =
    (digits_value 10 bytes, refl, subst (λ ds. digits_value 10 ds ≤ 9223372036854775807) (sym (number_bytes word spelled) ∙ encoded) within)
word_is k word bytes at x spelled within scalar encoded (literal {content = content} is) =
    let same = written_once spelled.content content (same_inside _ _ 34 34 (sym (text_bytes word spelled) ∙ encoded ∙ is)) in
    subst (λ cs. list_all is_printable cs ≡ true) same spelled.printable
word_is k word bytes at x spelled within scalar encoded (keyword is) = tt
word_is k word bytes at x spelled within scalar encoded (symbol is) = tt

module _ (all : List ℕ) where
  token_word : (front cs rest : List ℕ) (k : TokenKind) (x : Terminal) (t : IsToken k cs rest) → all_scalars cs ≡ true → all ≡ front ++ cs →
      Says k (spelling (encode_utf8_all all) (token_at (width all) k cs rest)) (token_at (width all) k cs rest).start x → IsWord x
  token_word front cs rest k x t scalar is says =
      let opens = t.leads.front in
      let stands : Stands all (width front) (t.word ++ rest) = record { front = front; is = is ∙ ap (λ xs. front ++ xs) opens; place = refl } in
      let bytes = (is_at all k t.word rest (width front) stands).spelled in
      let same = ap (λ xs. spelling (encode_utf8_all all) (token_at (width all) k xs rest)) opens ∙ bytes in
      let here = (scalars_parts t.word rest (subst (λ xs. all_scalars xs ≡ true) opens scalar)).0 in
      word_is k t.word _ _ x t.leads.spelled t.within here (sym same) says

  lexed_words : (front cs : List ℕ) (tokens : List Token) (said : List Terminal) → all ≡ front ++ cs → all_scalars cs ≡ true → Lexes (width all) cs tokens → Say (encode_utf8_all all) tokens said → AreWords said
  lexed_words front cs [] [] is scalar h says = tt
  lexed_words front cs [] (x ∷ said) is scalar h says = absurd says
  lexed_words front cs (o ∷ tokens) [] is scalar h says = absurd says
  lexed_words front cs (o ∷ tokens) (x ∷ said) is scalar (gap {rest = rest} g h) says =
      let passed = gap_passed cs rest g in
      let whole = is ∙ ap (λ xs. front ++ xs) passed.front ∙ sym (append_assoc front passed.word rest) in
      let behind = (scalars_parts passed.word rest (subst (λ xs. all_scalars xs ≡ true) passed.front scalar)).1 in
      lexed_words (front ++ passed.word) rest (o ∷ tokens) (x ∷ said) whole behind h says
  lexed_words front cs (o ∷ tokens) (x ∷ said) is scalar (token {rest = rest} k t h) says =
      let opens = t.leads.front in
      let whole = is ∙ ap (λ xs. front ++ xs) opens ∙ sym (append_assoc front t.word rest) in
      let behind = (scalars_parts t.word rest (subst (λ xs. all_scalars xs ≡ true) opens scalar)).1 in
      (token_word front cs rest k x t scalar is says.0, lexed_words (front ++ t.word) rest tokens said whole behind h says.1)

pub are_words : (source : List ℕ) (tokens : List Token) (said : List Terminal) → LexesAs source tokens → Say source tokens said → AreWords said
are_words source tokens said l says =
    let bytes = encodes-chars source l.utf8 in
    lexed_words (chars source) [] (chars source) tokens said refl (scalars-chars source l.utf8)
    (subst (λ n. Lexes n (chars source) tokens) (sym (ap length bytes)) l.lexes)
    (subst (λ xs. Say xs tokens said) (sym bytes) says)
