use Rattle.std.proofs.Common.{List, sym, ap, ◌∙◌, subst}
use Rattle.sn_record.specs.LabelSet.{Labels}
use Rattle.sn_types.specs.RecordType.{IsMinimal, IsSubtype, minimal}
use Rattle.sn_types.proofs.Fewest.{minimal-apart, minimal-narrower, minimal-wider}
use Rattle.sn_types.proofs.record_type.RecordType.minimal.Goals as goal

pub returns-clause-narrower : goal.returns-clause-narrower
returns-clause-narrower c =
    let is = c.in_ok-variants.ensures ∙ ap minimal c.as_slice.ensures in
    subst (λ (vs : List Labels). IsSubtype vs c.args.self.now) (sym is) (minimal-narrower c.args.self.now)

pub returns-clause-wider : goal.returns-clause-wider
returns-clause-wider c =
    let is = c.in_ok-variants.ensures ∙ ap minimal c.as_slice.ensures in
    subst (IsSubtype c.args.self.now) (sym is) (minimal-wider c.args.self.now)

pub returns-clause-apart : goal.returns-clause-apart
returns-clause-apart c =
    let is = c.in_ok-variants.ensures ∙ ap minimal c.as_slice.ensures in
    subst IsMinimal (sym is) (minimal-apart c.args.self.now)
