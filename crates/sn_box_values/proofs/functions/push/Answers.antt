use Rattle.std.proofs.Common.{◌≡◌, ◌∷◌, [], ◌++◌, ◌∙◌, IsTrue, ap, arith, max, sym, subst, ◌+◌}
use Rattle.sn_record.specs.declared.value.Value.TheVariants.{«List» as ListOf}
use Rattle.sn_record.specs.Value.{IsSound, is_printable}
use Rattle.sn_box_values.specs.Datum.{value_of}
use Rattle.sn_box_values.specs.Size.{IsSizeOf}
use Rattle.sn_box_values.proofs.Sizes.{sized_more, printable_more}
use Rattle.sn_box_values.proofs.functions.push.Goals as goal

pub within_limits-requires : goal.within_limits-requires
within_limits-requires c =
    let values = c.in-List.values in
    let value = value_of c.args.value in
    let size = c.size-size.result in
    let added = c.size-added.result in
    let was : value_of c.args.list ≡ ListOf values = sym c.in_ok-values.ensures.value ∙ c.in-List.is in
    let sized : IsSizeOf (ListOf values) size = subst (λ v. IsSizeOf v size) was c.size-size.ensures.sized in
    let sound : IsSound (ListOf values) = subst IsSound was c.size-size.ensures.sound in
    let one : c.in_ok-into_value-in-List.field-0 ≡ value = c.in_ok-into_value-in-List.ensures.value in
    let grown : values ++ value ∷ [] ≡ c.append.new.list = sym (c.in_ok-append-in-List.ensures.ok ∙ ap (λ v. values ++ v ∷ []) one) in
    let greater : c.max.result ≡ max size.levels (added.levels + 1) = omega (arith, c.max.ensures) in
    record {
      sized = subst (λ vs. IsSizeOf (ListOf vs) (record { levels = c.max.result; weight = size.weight + added.weight })) grown (sized_more values value size added c.max.result greater sized c.size-added.ensures.sized);
      printable = subst (λ vs. IsTrue (is_printable (ListOf vs))) grown (printable_more values value sound c.size-added.ensures.sound);
    }
