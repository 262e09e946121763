use Rattle.std.proofs.Common.{◌≡◌, ap, ◌∙◌, subst}
use Rattle.std.specs.Prelude.{IfOk}
use Rattle.sn_record.specs.Record.{inherit}
use Rattle.sn_record.proofs.Records.{inherit-overlay}
use Rattle.sn_record.proofs.record.Record.union_left.Goals as goal

-- src/record.rt:142:5
pub returns : goal.returns
returns c =
    subst (λ x. IfOk c.inherit-2.result (λ both. both ≡ x))
    (ap (λ named. inherit c.args.other.now named c.args.self.now) c.new.ensures ∙ inherit-overlay c.args.other.now c.args.self.now)
    c.inherit-2.ensures
