use Rattle.std.proofs.Common.{sym, ◌∙◌}
use Rattle.std.specs.Str.{chars}
use Rattle.sn_lexer.proofs.Symbols.{NoPair, no_pair_at_end, no_pair_at, pair_symbol, lone_symbol, no_symbol, no_symbol_at_end}
use Rattle.sn_lexer.proofs.symbol.read_symbol.Goals as goal
use Rattle.sn_lexer.proofs.symbol.read_symbol.Goals.{in-Some+else-is_pair, in_default, After-is_lone}

pub returns-in_err-first : goal.returns-in_err-first
returns-in_err-first c = rw c.from_residual.ensures (no_symbol_at_end _ c.in_err-first.ensures)

pub returns-then-is_pair : goal.returns-then-is_pair
returns-then-is_pair c = pair_symbol _ _ _ _ _ c.in_ok-first.ensures c.in-Some.ensures (sym c.is_pair.ensures ∙ c.if-is_pair.true)

no_pair : (c : After-is_lone) → NoPair c.in_ok-first.first (chars c.in_ok-first.rest.now)
no_pair c = elim c.match-split_first.branch [
  | in-Some+else-is_pair w ↦ no_pair_at _ _ _ _ w.in-Some.ensures (sym w.is_pair.ensures ∙ w.if-is_pair.false)
  | in_default w ↦ no_pair_at_end _ _ w.in_default.ensures
]

pub returns-then-is_lone : goal.returns-then-is_lone
returns-then-is_lone c = lone_symbol _ _ _ c.in_ok-first.ensures (sym c.is_lone.ensures ∙ c.if-is_lone.true) (no_pair (goal.at.returns-then-is_lone c).After-is_lone)

pub returns-else-is_lone : goal.returns-else-is_lone
returns-else-is_lone c = no_symbol _ _ _ c.in_ok-first.ensures (sym c.is_lone.ensures ∙ c.if-is_lone.false) (no_pair (goal.at.returns-else-is_lone c).After-is_lone)
