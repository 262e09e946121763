use Rattle.std.proofs.Common.{◌≡◌, ◌++◌, ◌∙◌, ap, sym, subst, to_z, of_z, w64}
use Rattle.sn_record.specs.Value.{IsSound}
use Rattle.sn_record.specs.declared.value.Value.TheVariants.{«List»}
use Rattle.sn_box_values.proofs.Sound.{sound_section}
use Rattle.sn_box_values.proofs.functions.list_section.Goals as goal

-- src/functions.rt:130:8
pub new-requires : goal.new-requires
new-requires c =
    let from = to_z w64 (of_z w64 c.args.from) in
    let to = to_z w64 (of_z w64 c.args.to) in
    let copied : c.extend.new.values ≡ c.in-Some.part.now = c.in_ok-extend.ensures ∙ ap (λ none. none ++ c.in-Some.part.now) c.new-copies.ensures in
    subst (λ vs. IsSound («List» vs)) (sym copied) (sound_section c.args.values.now c.in-Some.part.now from to c.requires c.in-Some.ensures)
