use Rattle.std.proofs.Common.{◌≡◌, rules}
use Rattle.sn_ast.specs.declared.terminal.Symbol.TheVariants.{Semicolon}
use Rattle.sn_box_parser.proofs.Steps.{body_from, body_to, no_semicolon}
use Rattle.sn_box_parser.proofs.function.after_body.Goals as goal

pub returns-then-ne : goal.returns-then-ne
returns-then-ne c = λ at w t. no_semicolon _ (search rules)

pub returns : goal.returns
returns c = λ at w t.
    let i : c.args.symbol ≡ Semicolon = search rules in
    rw (i, c.in_ok-opened.ensures, c.with_body.ensures) (body_from, body_to)
