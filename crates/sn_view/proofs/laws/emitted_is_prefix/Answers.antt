use Rattle.sn_live.specs.Parts.{part}
use Rattle.sn_live.proofs.Free.{part-Core}
use Rattle.sn_live.proofs.FreeLives.{part-Lives}
use Rattle.sn_live.proofs.Runs.{some_stream, out_is_prefix}
use Rattle.sn_view.specs.Seen.{tree_of, running}
use Rattle.sn_view.proofs.laws.emitted_is_prefix.Goals as goal

pub returns-clause-prefix : goal.returns-clause-prefix
returns-clause-prefix c = λ v ys h. out_is_prefix (part (tree_of v)) (part-Core (tree_of v)) (running v) ys h

pub returns-clause-some : goal.returns-clause-some
returns-clause-some c = λ v s. some_stream (part (tree_of v)) (part-Lives (tree_of v)) (running v) s
