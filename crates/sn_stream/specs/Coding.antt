-- By which a proof tells ends apart.
use Rattle.std.specs.Prelude.{ℕ, List}
use Rattle.std.proofs.Common.{refl}
use Rattle.std.specs.Coded.{Coded, code_by, coded×, coded_list, coded_ℕ}
use Rattle.atomic_table.specs.Seated.{TableId, table_id_coded}
use Rattle.sn_model.specs.declared.run.Run.{Run}
use Rattle.sn_model.specs.contracts.run.Run as run
use Rattle.sn_net_histories.specs.declared.place.Place.{Place}
use Rattle.sn_net_histories.specs.contracts.place.Place as place
use Rattle.sn_stream.specs.contracts.item.StreamItem as item
use Rattle.sn_stream.specs.declared.item.StreamItem.{StreamItem}
use Rattle.sn_stream.specs.Ends.{Made, End}

abbrev made_code : Coded Made
made_code =
    code_by (Run × (Place × (ℕ × TableId))) (coded× run.the_row.coded (coded× place.the_row.coded (coded× coded_ℕ table_id_coded)))
    (λ m. (m.run, (m.place, (m.capacity, m.queue)))) (λ p. record { run = p.0; place = p.1.0; capacity = p.1.1.0; queue = p.1.1.1 }) (λ _. refl)

abbrev pub end_code : Coded End
end_code =
    code_by (Made × List StreamItem) (coded× made_code (coded_list item.the_row.coded))
    (λ e. (e.made, e.moved)) (λ p. record { made = p.0; moved = p.1 }) (λ _. refl)
