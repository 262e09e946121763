use Rattle.sn_ast.specs.declared.terminal.Terminal.TheVariants.{Symbol}
use Rattle.sn_expr_parser.specs.TagResidual.{Tested, Up, no_test}
use Rattle.sn_expr_parser.proofs.TagSteps.{question_from, question_to, untested, through}
use Rattle.sn_expr_parser.proofs.tags.tested.Goals as goal

pub returns-in_default : goal.returns-in_default
returns-in_default c =
    let a = c.args in
    through (Tested a.frames a.test) (Up a.frames a.test) (Symbol a.symbol a.at) c.up.result (λ w t. (untested c.in_default.not-Question, λ u. no_test u)) c.up.ensures

pub returns : goal.returns
returns c = λ w t. rw (c.in-Question.is, c.in_ok-within.ensures) (question_from, question_to)
