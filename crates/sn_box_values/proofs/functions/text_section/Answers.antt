use Rattle.std.proofs.Common.{sym, subst, to_z, of_z, w64}
use Rattle.sn_record.specs.Value.{IsSound}
use Rattle.sn_record.specs.declared.value.Value.TheVariants.{«Text»}
use Rattle.sn_box_values.proofs.Sound.{sound_text_section}
use Rattle.sn_box_values.proofs.functions.text_section.Goals as goal

-- src/functions.rt:115:8
pub new-requires : goal.new-requires
new-requires c =
    let from = to_z w64 (of_z w64 c.args.from) in
    let to = to_z w64 (of_z w64 c.args.to) in
    subst (λ t. IsSound («Text» t)) (sym c.in_ok-part.ensures) (sound_text_section c.args.text.now c.in-Some.part.now from to c.requires c.in-Some.ensures)
