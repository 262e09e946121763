use Rattle.std.proofs.Common.{sym, ◌∙◌}
use Rattle.sn_type_parser.proofs.TypeSteps.{ended, not_ended}
use Rattle.sn_type_parser.proofs.types.end.Goals as goal

pub returns-then-can_follow : goal.returns-then-can_follow
returns-then-can_follow c = ended c.args.parts c.args.symbol c.args.at c.requires (sym c.can_follow.ensures ∙ c.if-can_follow.true)

pub returns : goal.returns
returns c = not_ended c.args.parts c.args.symbol c.args.at c.requires (sym c.can_follow.ensures ∙ c.if-can_follow.false)
