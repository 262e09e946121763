use Rattle.std.proofs.Common.{◌∙◌, ap, Some}
use Rattle.sn_ast.specs.declared.terminal.Terminal.TheVariants.{Symbol}
use Rattle.sn_expr_parser.proofs.BoxSteps.{innermost_steps}
use Rattle.sn_expr_parser.proofs.box_after.up_to_symbol.Goals as goal

pub take_symbol-requires : goal.take_symbol-requires
take_symbol-requires c = λ part i. c.in_ok-frame.ensures.other part (c.in-Some.is ∙ ap Some i)

pub returns-in-Some : goal.returns-in-Some
returns-in-Some c =
    let a = c.args in
    let f = c.in_ok-frame in
    innermost_steps a.frames f.frames a.whole f.whole f.frame c.in-Some.frame (Symbol a.symbol a.at) c.take_symbol.result f.ensures c.in-Some.is (c.take_symbol.ensures a.at)
