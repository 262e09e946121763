use Rattle.sn_streams.proofs.Silence.{silent_tree}
use Rattle.sn_streams.proofs.laws.silence_is_kept.Goals as goal

pub returns : goal.returns
returns g c = λ t xss yss i h none. silent_tree t i xss yss h none
