use Rattle.std.proofs.Common.{◌≡◌, rules}
use Rattle.sn_ast.specs.declared.terminal.Symbol.TheVariants.{CloseBrace}
use Rattle.sn_parser.proofs.Steps.{close_from, close_to, no_close, no_outer}
use Rattle.sn_parser.proofs.machine.Around.close.Goals as goal

pub returns-then-ne : goal.returns-then-ne
returns-then-ne c = λ w all. no_close _ (search rules)

pub returns-in_default : goal.returns-in_default
returns-in_default c = λ w all.
    let i : c.args.symbol ≡ CloseBrace = search rules in
    rw (i, c.in_default.ensures) no_outer

pub returns : goal.returns
returns c = λ w all.
    let i : c.args.symbol ≡ CloseBrace = search rules in
    rw (i, c.in-Some.ensures) (close_from, close_to)
