-- By which a proof tells ends apart.
use Rattle.std.specs.Prelude.{ℕ, List}
use Rattle.std.proofs.Common.{refl}
use Rattle.std.specs.Coded.{Coded, code_by, coded×, coded_list, coded_ℕ}
use Rattle.atomic_table.specs.Seated.{TableId, table_id_coded}
use Rattle.sn_links.specs.contracts.rule.Target as target
use Rattle.sn_links.specs.declared.rule.Target.{Target}
use Rattle.sn_links.specs.Ends.{Made, End}

abbrev made_code : Coded Made
made_code =
    code_by (Target × (ℕ × (TableId × TableId))) (coded× target.the_row.coded (coded× coded_ℕ (coded× table_id_coded table_id_coded)))
    (λ m. (m.target, (m.capacity, (m.jobs, m.results)))) (λ p. record { target = p.0; capacity = p.1.0; jobs = p.1.1.0; results = p.1.1.1 }) (λ _. refl)

abbrev pub end_code : Coded End
end_code =
    code_by (Made × List (List ℕ)) (coded× made_code (coded_list (coded_list coded_ℕ)))
    (λ e. (e.made, e.moved)) (λ p. record { made = p.0; moved = p.1 }) (λ _. refl)
