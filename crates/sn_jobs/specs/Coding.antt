-- By which a proof tells owners and hands apart.
use Rattle.std.specs.Prelude.{ℕ, List}
use Rattle.std.proofs.Common.{refl}
use Rattle.std.specs.Coded.{Coded, code_by, coded×, coded_list, coded_ℕ}
use Rattle.atomic_table.specs.Seated.{TableId, table_id_coded}
use Rattle.sn_model.specs.declared.run.Run.{Run}
use Rattle.sn_model.specs.contracts.run.Run as run
use Rattle.sn_boxrun.specs.contracts.job.Done as done
use Rattle.sn_boxrun.specs.contracts.job.Job as job
use Rattle.sn_boxrun.specs.declared.job.Done.{Done}
use Rattle.sn_boxrun.specs.declared.job.Job.{Job}
use Rattle.sn_jobs.specs.Ends.{Made, Owner, Hand}

abbrev made_code : Coded Made
made_code =
    code_by (Run × (ℕ × (TableId × TableId))) (coded× run.the_row.coded (coded× coded_ℕ (coded× table_id_coded table_id_coded)))
    (λ m. (m.run, (m.capacity, (m.jobs, m.results)))) (λ p. record { run = p.0; capacity = p.1.0; jobs = p.1.1.0; results = p.1.1.1 }) (λ _. refl)

abbrev pub owner_code : Coded Owner
owner_code =
    code_by (Made × (List Job × List Done)) (coded× made_code (coded× (coded_list job.the_row.coded) (coded_list done.the_row.coded)))
    (λ o. (o.made, (o.given, o.collected))) (λ p. record { made = p.0; given = p.1.0; collected = p.1.1 }) (λ _. refl)

abbrev pub hand_code : Coded Hand
hand_code =
    code_by (Made × (List Job × List Done)) (coded× made_code (coded× (coded_list job.the_row.coded) (coded_list done.the_row.coded)))
    (λ h. (h.made, (h.taken, h.answered))) (λ p. record { made = p.0; taken = p.1.0; answered = p.1.1 }) (λ _. refl)
