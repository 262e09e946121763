use Rattle.std.proofs.Common.{map, sym, ap, ◌∙◌}
use Rattle.sn_pass.specs.Held.{kept_at}
use Rattle.sn_pass.specs.States.{held}
use Rattle.sn_pass.proofs.States.{no_branches}
use Rattle.sn_pass.proofs.kept.into_branches.Goals as goal

pub returns-in_default : goal.returns-in_default
returns-in_default c = λ i. ap (λ ks. kept_at (map held ks) i) c.new.ensures.items ∙ sym (no_branches i c.args.kept c.in_default.not-Branches)
