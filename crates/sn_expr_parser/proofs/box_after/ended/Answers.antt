use Rattle.sn_expr_parser.proofs.BoxSteps.{ended_steps}
use Rattle.sn_expr_parser.proofs.box_after.ended.Goals as goal

pub returns-then-may_end : goal.returns-then-may_end
returns-then-may_end c = ended_steps c.args.part c.args.symbol c.args.at cc
