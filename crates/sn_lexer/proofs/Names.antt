-- The name in front.
use Rattle.std.proofs.Common.{◌≡◌, ℕ, ◌-◌, ◌≤◌, ◌&&◌, Bool, true, List, ◌∷◌, ◌++◌, length, take, sym, ap, ◌∙◌, subst}
use Rattle.std.specs.Prelude.{if◌then◌else◌}
use Rattle.std.specs.Str.{IsUtf8, chars}
use Rattle.unicode_ident.specs.Ident.{is_xid_continue}
use Rattle.sn_lexer.specs.declared.token.TokenKind.{TokenKind}
use Rattle.sn_lexer.specs.declared.token.TokenKind.TheVariants.{Ident, Keyword}
use Rattle.sn_lexer.specs.Spelling.{starts_name, keywords, is_among}
use Rattle.sn_lexer.specs.Fronts.{past, IsNameUpTo}
use Rattle.sn_lexer.proofs.Runs.{IsRun, run_past}
use Rattle.sn_lexer.proofs.Tables.{keyword_bytes}
use Rattle.sn_lexer.proofs.Widths.{rest_shorter, word_bytes}

module _ (text inside rest : List ℕ) (first : ℕ) (utf8 : IsUtf8 text) (rest_utf8 : IsUtf8 rest) (front : chars text ≡ first ∷ chars inside) (past_it : chars rest ≡ past is_xid_continue (chars inside)) where
  run : IsRun is_xid_continue (chars inside) (chars rest)
  run = subst (IsRun is_xid_continue (chars inside)) (sym past_it) (run_past is_xid_continue (chars inside))

  whole : chars text ≡ first ∷ (run.word ++ chars rest)
  whole = front ∙ ap (λ xs. first ∷ xs) run.front

  pub name_fits : length rest ≤ length text
  name_fits = rest_shorter text rest (first ∷ run.word) utf8 rest_utf8 whole

  pub name_front : (kind : TokenKind) (keyword : Bool) → starts_name first ≡ true → keyword ≡ is_among keywords (take (length text - length rest) text) → kind ≡ (if keyword then Keyword else Ident) → IsNameUpTo kind (chars text) (chars rest)
  name_front kind keyword starts tested kind_is =
      let same = tested ∙ ap (is_among keywords) (word_bytes text rest (first ∷ run.word) utf8 rest_utf8 whole) ∙ keyword_bytes (first ∷ run.word) in
      record {
        name = first ∷ run.word;
        named = λ i. starts i && run.passes i;
        kind_is = kind_is ∙ ap (λ b. if b then Keyword else Ident) same;
        front = whole;
        stops = run.stops;
      }
