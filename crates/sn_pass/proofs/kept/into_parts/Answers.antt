use Rattle.std.proofs.Common.{sym, ◌∙◌}
use Rattle.sn_pass.proofs.States.{held-Fresh, no_parts}
use Rattle.sn_pass.proofs.kept.into_parts.Goals as goal

pub returns-in_default : goal.returns-in_default
returns-in_default c =
    let none = no_parts c.args.kept c.in_default.not-Parts in
    record { left = held-Fresh ∙ sym none.0; right = held-Fresh ∙ sym none.1 }
