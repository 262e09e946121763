use Rattle.std.proofs.Common.{◌≡◌, sym, ◌∙◌}
use Rattle.std.specs.List.{list_all}
use Rattle.sn_types.specs.RecordType.{has_fit}
use Rattle.sn_types.proofs.Subtypes.{list_all-IsSubtype}
use Rattle.sn_types.proofs.record_type.RecordType.is_subtype.Goals as goal

pub returns : goal.returns
returns c =
    let law = list_all-IsSubtype c.args.self.now c.args.y.now in
    let test : c.all_have_fits.result ≡ list_all (has_fit c.args.y.now) c.args.self.now =
    rw (sym c.as_slice.ensures, sym c.as_slice-2.ensures) c.all_have_fits.ensures in
    (λ holds. law.0 (sym test ∙ holds), λ subtype. test ∙ law.1 subtype)
