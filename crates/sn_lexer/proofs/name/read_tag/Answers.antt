use Rattle.std.proofs.Common.{rules, sym, ◌∙◌, subst}
use Rattle.std.specs.Str.{chars}
use denote.Enum.Bare.{same_true}
use Rattle.sn_lexer.specs.contracts.token.TokenKind.{the_type}
use Rattle.std.proofs.lemmas.Bool.{false≢true, not-false}
use Rattle.sn_lexer.specs.Fronts.{IsNameUpTo}
use Rattle.sn_lexer.proofs.Options.{MatchOption-weaker}
use Rattle.sn_lexer.proofs.Tags.{no_tag_name, no_tag_keyword, no_tag_close, tag_closed}
use Rattle.sn_lexer.proofs.name.read_tag.Goals as goal

pub returns-then-ne : goal.returns-then-ne
returns-then-ne c = no_tag_keyword _ _ _ _ _ c.in_ok-inside.ensures c.after_mark.ensures c.in_ok-kind.ensures (λ e. let is_not = rw e at c.ne.ensures in false≢true (sym is_not ∙ c.if-ne.true))

pub returns : goal.returns
returns c =
    let ident = same_true the_type (search rules) _ _ (not-false _ (sym c.if-ne.ensures)) in
    let name = subst (λ kind. IsNameUpTo kind (chars c.after_mark.result.now) (chars c.in_ok-kind.rest.now)) ident c.in_ok-kind.ensures in
    MatchOption-weaker c.after-2.result c.after-2.ensures
    (no_tag_close _ _ _ _ _ c.in_ok-inside.ensures c.after_mark.ensures c.in_ok-kind.ensures)
    (λ rest closes. tag_closed _ _ _ _ _ c.in_ok-inside.ensures c.after_mark.ensures name closes)
