use Rattle.std.proofs.Common.{sym, ◌∙◌}
use Rattle.sn_record.proofs.Scores.{is_match-Matches}
use Rattle.sn_pass.proofs.leaf.filter_record.Goals as goal

pub use_templates-requires-clause-matches : goal.use_templates-requires-clause-matches
use_templates-requires-clause-matches c = (is_match-Matches c.args.taken c.args.filter.now.pattern).0 (sym c.is_match.ensures ∙ c.if-not-is_match.false)

pub choose-requires-clause-matches : goal.choose-requires-clause-matches
choose-requires-clause-matches c = (is_match-Matches c.args.taken c.args.filter.now.pattern).0 (sym c.is_match.ensures ∙ c.if-not-is_match.false)
