use Rattle.std.proofs.Common.{sym, ◌∙◌, ap}
use Rattle.std.specs.Prelude.{if◌then◌else◌}
use Rattle.sn_lexer.specs.declared.token.TokenKind.TheVariants.{Ident, Keyword}
use Rattle.sn_lexer.proofs.Names.{name_fits, name_front}
use Rattle.sn_lexer.proofs.name.read_name.Goals as goal
use Rattle.sn_lexer.proofs.name.read_name.Goals.{then-is_keyword, else-is_keyword}

pub slice_bounds-name-count : goal.slice_bounds-name-count
slice_bounds-name-count c = name_fits _ _ _ _ c.utf8.text c.after_name-rest.utf8 c.in_ok-first.ensures c.after_name-rest.ensures

pub returns : goal.returns
returns c =
    let keyword = rw c.as_bytes.ensures.value at c.is_keyword.ensures in
    name_front _ _ _ _ c.utf8.text c.after_name-rest.utf8 c.in_ok-first.ensures c.after_name-rest.ensures _ _ (sym c.starts_name.ensures ∙ c.if-not-starts_name.false) keyword (elim c.if-is_keyword.branch [
      | then-is_keyword w ↦ w.kind-is ∙ ap (λ b. if b then Keyword else Ident) (sym w.if-is_keyword.true)
      | else-is_keyword w ↦ w.kind-is ∙ ap (λ b. if b then Keyword else Ident) (sym w.if-is_keyword.false)
    ])
