-- The tags that an expression over a matched pattern names are there.
use Rattle.std.proofs.Common.{IsTrue}
use Rattle.std.specs.FinMap.{contains_key}
use Rattle.sn_record.specs.LabelSet.{Labels}
use Rattle.sn_record.specs.Record.{Entries, Matches}
use Rattle.sn_tagexpr.specs.declared.expr.TagExpr.{TagExpr}
use Rattle.sn_tagexpr.specs.Evaluation.{every_tag}
use Rattle.sn_tagexpr.proofs.EveryTag.{every_tag-weaker}
use Rattle.sn_net.specs.Filter.{is_over, tag}

pub tags_there : (pattern : Labels) (r : Entries) (expr : TagExpr) → Matches r pattern → IsTrue (is_over pattern expr) → IsTrue (every_tag (λ id. contains_key r (tag id)) expr)
tags_there pattern r expr matches over = every_tag-weaker _ (λ id. contains_key r (tag id)) (λ id there. matches.within (tag id) there) expr over
