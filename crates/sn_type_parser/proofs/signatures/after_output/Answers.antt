use Rattle.std.proofs.Common.{sym, ◌∙◌}
use Rattle.sn_type_parser.proofs.SigSteps.{arrow_ended, not_ended}
use Rattle.sn_type_parser.proofs.signatures.after_output.Goals as goal

pub returns-then-can_follow : goal.returns-then-can_follow
returns-then-can_follow c = arrow_ended c.args.input c.args.output c.args.symbol c.args.at (sym c.can_follow.ensures ∙ c.if-can_follow.true)

pub returns : goal.returns
returns c = not_ended c.args.input c.args.output c.args.symbol c.args.at (sym c.can_follow.ensures ∙ c.if-can_follow.false)
