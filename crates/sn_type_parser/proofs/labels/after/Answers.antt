use Rattle.std.proofs.Common.{◌≡◌}
use Rattle.sn_ast.specs.declared.terminal.Symbol.TheVariants.{Comma}
use Rattle.sn_ast.specs.declared.terminal.Terminal.TheVariants.{Symbol}
use Rattle.sn_type_parser.proofs.LabelSteps.{done_after, comma_step, no_more, is_not}
use Rattle.sn_type_parser.proofs.labels.after.Goals as goal

pub returns-then-closes : goal.returns-then-closes
returns-then-closes c = done_after c.args.bracket c.args.labels c.args.token (c.closes.ensures.0 c.if-closes.true)

pub returns-in-Comma : goal.returns-in-Comma
returns-in-Comma c = comma_step c.args.bracket c.args.labels c.args.token c.in-Symbol.symbol c.in-Symbol.at c.in-Symbol.is c.in-Comma.is

pub returns-in_default-symbol : goal.returns-in_default-symbol
returns-in_default-symbol c =
    let n = is_not c.if-closes.false c.closes.ensures in
    let s = c.in-Symbol in
    no_more c.args.bracket c.args.labels c.args.token n (λ at e. c.in_default-symbol.not-Comma (let i : Symbol s.symbol s.at ≡ Symbol Comma at = rw (← s.is) e in cc))
