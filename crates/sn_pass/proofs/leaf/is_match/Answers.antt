use Rattle.sn_record.proofs.Scores.{is_match-Matches}
use Rattle.sn_sync.proofs.Filling.{same_tests}
use Rattle.sn_pass.proofs.leaf.is_match.Goals as goal

pub returns : goal.returns
returns c = same_tests _ _ c.matches.ensures (is_match-Matches c.args.r.now c.args.variant.now)
