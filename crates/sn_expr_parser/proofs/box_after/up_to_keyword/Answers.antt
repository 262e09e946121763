use Rattle.std.proofs.Common.{◌∙◌, ap, Err, Some}
use Rattle.sn_ast.specs.declared.terminal.Terminal.TheVariants.{Keyword}
use Rattle.sn_expr_parser.specs.declared.boxes.BoxStop.TheVariants.{Refused}
use Rattle.sn_expr_parser.proofs.BoxSteps.{innermost_steps, top_steps, top_keyword}
use Rattle.sn_expr_parser.proofs.box_after.up_to_keyword.Goals as goal

pub take_keyword-requires : goal.take_keyword-requires
take_keyword-requires c = λ part i. c.in_ok-frame.ensures.other part (c.in-Some.is ∙ ap Some i)

pub returns-in-Some : goal.returns-in-Some
returns-in-Some c =
    let a = c.args in
    let f = c.in_ok-frame in
    λ at. innermost_steps a.frames f.frames a.whole f.whole f.frame c.in-Some.frame (Keyword a.keyword at) c.take_keyword.result f.ensures c.in-Some.is (c.take_keyword.ensures at)

pub returns-in-None : goal.returns-in-None
returns-in-None c =
    let a = c.args in
    let f = c.in_ok-frame in
    λ at. top_steps a.frames f.frames a.whole f.whole f.frame (Keyword a.keyword at) (Err Refused) f.ensures c.in-None.is (λ w t. top_keyword)
