use Rattle.sn_feed.proofs.Ended.{refused_counts}
use Rattle.sn_feed.proofs.laws.a_refused_line_counts.Goals as goal

pub returns : goal.returns
returns c = λ run claim names bytes more given always some. refused_counts run claim names bytes more given always some
