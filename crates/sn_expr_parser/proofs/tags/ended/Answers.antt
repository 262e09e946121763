use Rattle.sn_expr_parser.proofs.TagSteps.{ended_steps}
use Rattle.sn_expr_parser.proofs.tags.ended.Goals as goal

pub returns-then-may_end : goal.returns-then-may_end
returns-then-may_end c = ended_steps c.args.part c.args.symbol c.args.at cc
