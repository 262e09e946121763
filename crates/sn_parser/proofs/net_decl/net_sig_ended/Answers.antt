use Rattle.std.proofs.Common.{◌≡◌, rules}
use Rattle.sn_ast.specs.declared.terminal.Symbol.TheVariants.{CloseParen}
use Rattle.sn_parser.proofs.Steps.{ending_from, ending_to, no_ending}
use Rattle.sn_parser.proofs.net_decl.net_sig_ended.Goals as goal

pub returns-then-ne : goal.returns-then-ne
returns-then-ne c = λ at w all. no_ending _ (search rules)

pub returns : goal.returns
returns c = λ at w all.
    let i : c.args.symbol ≡ CloseParen = search rules in
    rw i (ending_from, ending_to)
