use Rattle.std.proofs.Common.{◌≡◌, ◌++◌, ◌∙◌, IsTrue, arith, max, sym, subst, ◌+◌, ◌-◌}
use Rattle.sn_record.specs.declared.value.Value.TheVariants.{«List» as ListOf}
use Rattle.sn_record.specs.Value.{IsSound, is_printable}
use Rattle.sn_box_values.specs.Datum.{value_of}
use Rattle.sn_box_values.specs.Size.{IsSizeOf}
use Rattle.sn_box_values.proofs.Sizes.{sized_lists, printable_lists}
use Rattle.sn_box_values.proofs.functions.with_values.Goals as goal

pub within_limits-requires : goal.within_limits-requires
within_limits-requires c =
    let values = c.in-List.values in
    let more = c.args.more.now in
    let size = c.size-size.result in
    let was : value_of c.args.value ≡ ListOf values = sym c.in_ok-values.ensures.value ∙ c.in-List.is in
    let sized : IsSizeOf (ListOf values) size = subst (λ v. IsSizeOf v size) was c.size-size.ensures.sized in
    let sound : IsSound (ListOf values) = subst IsSound was c.size-size.ensures.sound in
    let grown : values ++ more ≡ c.extend.new.values = sym c.in_ok-extend-in-List.ensures in
    let greater : c.max.result ≡ max size.levels c.args.added.levels = omega (arith, c.max.ensures) in
    record {
      sized = subst (λ vs. IsSizeOf (ListOf vs) (record { levels = c.max.result; weight = size.weight + c.args.added.weight - 1 })) grown (sized_lists values more size c.args.added c.max.result greater sized c.requires.sized);
      printable = subst (λ vs. IsTrue (is_printable (ListOf vs))) grown (printable_lists values more sound c.requires.sound);
    }
