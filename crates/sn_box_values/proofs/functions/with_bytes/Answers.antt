use Rattle.std.proofs.Common.{◌≡◌, ◌++◌, ◌∙◌, IsTrue, length, sym, subst, ◌+◌}
use Rattle.sn_record.specs.declared.value.Value.TheVariants.{«Text»}
use Rattle.sn_record.specs.Value.{IsSound, is_printable}
use Rattle.sn_box_values.specs.Datum.{value_of}
use Rattle.sn_box_values.specs.Size.{IsSizeOf}
use Rattle.sn_box_values.proofs.Sizes.{sized_texts, printable_texts}
use Rattle.sn_box_values.proofs.functions.with_bytes.Goals as goal

pub within_limits-requires : goal.within_limits-requires
within_limits-requires c =
    let text = c.in-Text.text in
    let more = c.args.more.now in
    let was : value_of c.args.value ≡ «Text» text = sym c.in_ok-text.ensures.value ∙ c.in-Text.is in
    let sized : IsSizeOf («Text» text) c.size.result = subst (λ v. IsSizeOf v c.size.result) was c.size.ensures.sized in
    let sound : IsSound («Text» text) = subst IsSound was c.size.ensures.sound in
    let grown : text ++ more ≡ c.extend_from_slice.new.self = sym (c.in_ok-extend_from_slice-in-Text.ensures.ok) in
    record {
      sized = subst (λ t. IsSizeOf («Text» t) (record { levels = 0; weight = c.size.result.weight + length more })) grown (sized_texts text more c.size.result sized);
      printable = subst (λ t. IsTrue (is_printable («Text» t))) grown (printable_texts text more sound c.requires);
    }
