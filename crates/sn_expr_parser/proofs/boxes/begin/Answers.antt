use Rattle.sn_ast.specs.declared.terminal.Keyword.TheVariants.{Let, If}
use Rattle.sn_ast.specs.declared.terminal.Terminal.TheVariants.{Keyword}
use Rattle.sn_expr_parser.specs.BoxResidual.{NextExpr, Next}
use Rattle.sn_expr_parser.specs.Levels.{fresh}
use Rattle.sn_expr_parser.proofs.BoxSteps.{let_from, let_to, if_from, if_to, expr_from, keyword_expr_from, expr_to, through}
use Rattle.sn_expr_parser.proofs.boxes.begin.Goals as goal

pub returns-in_default : goal.returns-in_default
returns-in_default c =
    let a = c.args in
    let n = c.in_default.not-Keyword in
    through (NextExpr a.frames) (Next a.frames fresh) a.token c.operand.result (λ w t. (expr_from (λ at. n Let at) (λ at. n If at), expr_to)) (rw c.new.ensures at c.operand.ensures)

pub returns-in-Let : goal.returns-in-Let
returns-in-Let c = λ w t. rw (c.in-Keyword.is, c.in-Let.is) (let_from, let_to)

pub returns-in_ok-within-in-If : goal.returns-in_ok-within-in-If
returns-in_ok-within-in-If c = λ w t. rw (c.in-Keyword.is, c.in-If.is, c.in_ok-within-in-If.ensures) (if_from, if_to)

pub returns-in_default-keyword : goal.returns-in_default-keyword
returns-in_default-keyword c =
    let a = c.args in
    let x = c.in-Keyword in
    let n = c.in_default-keyword in
    rw x.is (through (NextExpr a.frames) (Next a.frames fresh) (Keyword x.keyword x.at) c.word.result (λ w t. (keyword_expr_from n.not-Let n.not-If, expr_to)) (rw c.new-in_default-keyword.ensures at c.word.ensures))
