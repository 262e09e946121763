use Rattle.std.proofs.Common.{ap, ◌∙◌}
use Rattle.std.specs.Option.{option_copied}
use Rattle.sn_json.proofs.Keys.{inside_by, none_opens}
use Rattle.sn_json.proofs.key.inside.Goals as goal

pub returns-in_err-opened : goal.returns-in_err-opened
returns-in_err-opened c = ap option_copied c.from_residual.ensures ∙ none_opens c.args.key.now c.in_err-opened.ensures

pub returns : goal.returns
returns c = inside_by _ _ _ (rw c.in_ok-opened.was at c.opened.ensures) c.closed.ensures
