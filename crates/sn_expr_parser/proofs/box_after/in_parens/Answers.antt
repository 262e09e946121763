use Rattle.sn_expr_parser.proofs.BoxSteps.{close_from, close_to, semicolon_from, semicolon_to, no_step}
use Rattle.sn_expr_parser.proofs.box_after.in_parens.Goals as goal

pub returns-in_ok-sequence-in-CloseParen : goal.returns-in_ok-sequence-in-CloseParen
returns-in_ok-sequence-in-CloseParen c =
    λ at w t. rw (c.in-CloseParen.is, c.parens-part.ensures, c.in_ok-sequence-in-CloseParen.ensures) (close_from, close_to)

pub returns-in_ok-within-in-Semicolon : goal.returns-in_ok-within-in-Semicolon
returns-in_ok-within-in-Semicolon c =
    λ at w t. rw (c.in-Semicolon.is, c.in_ok-within-in-Semicolon.ensures, c.in_ok-so_far-in-Semicolon.ensures) (semicolon_from, semicolon_to)

pub returns-in_default : goal.returns-in_default
returns-in_default c = λ at w t. no_step c.in_default.not-CloseParen c.in_default.not-Semicolon
