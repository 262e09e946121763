use Rattle.std.proofs.Common.{rules, sym, subst}
use Rattle.std.specs.List.{All}
use Rattle.std.proofs.lemmas.List.Elements.{All-get_or}
use Rattle.sn_record.specs.declared.value.Value.TheViews.{the_lemmas}
use Rattle.sn_record.specs.Value.{IsSound}
use Rattle.sn_box_values.proofs.Sound.{each_sound}
use Rattle.sn_box_values.proofs.size.+size_of.Goals as goal

-- src/size.rt:31:21
pub size_of-size-requires : goal.size_of-size-requires
size_of-size-requires t c =
    let items = c.as_slice-value-items.result.now in
    let all : All IsSound items = subst (All IsSound) (sym c.as_slice-value-items.ensures) (each_sound c.in-List.values (subst IsSound c.in-List.is c.requires)) in
    let one : IsSound c.value-item.result = subst IsSound (sym c.value-item.is) (All-get_or IsSound items c.loop-value.value-index c.value-item.result c.loop-value-test.true all) in
    (search (rules, the_lemmas), one)
