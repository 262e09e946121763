use Rattle.std.proofs.Common.{◌∙◌, ap, Some}
use Rattle.sn_ast.specs.declared.terminal.Terminal.TheVariants.{Symbol}
use Rattle.sn_expr_parser.proofs.TagSteps.{innermost_steps}
use Rattle.sn_expr_parser.proofs.tags.up.Goals as goal

pub take_symbol-requires : goal.take_symbol-requires
take_symbol-requires c = λ at test middle i. c.in_ok-frame.ensures.other at test middle (c.in-Some.is ∙ ap Some i)

pub returns-in-Some : goal.returns-in-Some
returns-in-Some c =
    let f = c.in_ok-frame in
    innermost_steps c.args.frames f.frames c.args.whole f.whole f.frame c.in-Some.frame (Symbol c.args.symbol c.args.at) c.take_symbol.result f.ensures c.in-Some.is (c.take_symbol.ensures c.args.at)
