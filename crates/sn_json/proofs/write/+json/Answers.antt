use Rattle.std.proofs.Common.{◌≡◌, rules, map, sym, subst, true, IsUtf8}
use Rattle.sn_record.specs.Value.{every, is_printable}
use Rattle.sn_record.specs.declared.value.Value.{the_lemmas}
use Rattle.sn_json.proofs.Written.{element_printable, elements_printable, value_utf8}
use Rattle.sn_json.proofs.write.+json.Goals as goal

pub json_value-string_of-requires : goal.json_value-string_of-requires
json_value-string_of-requires t c = subst IsUtf8 (sym c.as_slice.ensures) (value_utf8 _ _ c.in-Text.is c.requires)

pub json_value-json_values-requires : goal.json_value-json_values-requires
json_value-json_values-requires t c =
    (search (rules, the_lemmas), subst (λ vs. every (map is_printable vs) ≡ true) (sym c.as_slice-in-List.ensures) (elements_printable _ _ c.in-List.is c.requires))

pub json_values-json_value-requires : goal.json_values-json_value-requires
json_values-json_value-requires t c =
    (search (rules, the_lemmas), subst (λ v. is_printable v ≡ true) (sym c.value-item.is) (element_printable _ _ _ c.loop-value-test.true c.requires))
