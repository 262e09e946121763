use Rattle.std.proofs.Common.{subst, IsTrue}
use Rattle.sn_net.specs.Filter.{is_from}
use Rattle.sn_net.proofs.MatchedTags.{tags_there}
use Rattle.sn_filter.proofs.template.value_of.Goals as goal

-- src/template.rt:44:54
pub eval-requires : goal.eval-requires
eval-requires c = tags_there c.args.pattern.now c.args.taken.now c.in-Compute.expr c.requires.matches (subst (λ part. IsTrue (is_from c.args.pattern.now part)) c.in-Compute.is c.requires.from)
