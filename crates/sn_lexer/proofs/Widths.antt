-- Characters and their bytes.
use Rattle.std.proofs.Common.{◌≡◌, ℕ, ◌-◌, ◌≤◌, List, ◌++◌, length, length-append, take, ap, sym, ◌∙◌, arith}
use Rattle.std.specs.Prelude.{encode_utf8_all}
use Rattle.std.specs.Str.{IsUtf8, chars}
use Rattle.std.proofs.lemmas.Str.{encodes-chars, encodes-append}
use Rattle.std.proofs.lemmas.List.{take_at}
use Rattle.sn_lexer.specs.Lexes.{width}

pub width_chars : (bytes : List ℕ) → IsUtf8 bytes → width (chars bytes) ≡ length bytes
width_chars bytes utf8 = ap length (encodes-chars bytes utf8)

-- the bytes of a text with a word in front
pub bytes_front : (text rest word : List ℕ) → IsUtf8 text → IsUtf8 rest → chars text ≡ word ++ chars rest → text ≡ encode_utf8_all word ++ rest
bytes_front text rest word utf8 utf8' front =
    sym (encodes-chars text utf8) ∙ ap encode_utf8_all front ∙ encodes-append word (chars rest) ∙ ap (λ xs. encode_utf8_all word ++ xs) (encodes-chars rest utf8')

pub rest_shorter : (text rest word : List ℕ) → IsUtf8 text → IsUtf8 rest → chars text ≡ word ++ chars rest → length rest ≤ length text
rest_shorter text rest word utf8 utf8' front =
    let long = ap length (bytes_front text rest word utf8 utf8' front) ∙ length-append (encode_utf8_all word) rest in
    omega arith

pub word_bytes : (text rest word : List ℕ) → IsUtf8 text → IsUtf8 rest → chars text ≡ word ++ chars rest → take (length text - length rest) text ≡ encode_utf8_all word
word_bytes text rest word utf8 utf8' front =
    let bytes = bytes_front text rest word utf8 utf8' front in
    let long = ap length bytes ∙ length-append (encode_utf8_all word) rest in
    let size : length (encode_utf8_all word) ≡ length text - length rest = omega arith in
    ap (take (length text - length rest)) bytes ∙ take_at (encode_utf8_all word) rest (length text - length rest) size
