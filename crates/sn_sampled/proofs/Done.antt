-- The samples are never refused.
use Rattle.std.proofs.Common.{◌≡◌, ℕ, refl}
use Rattle.std.specs.Prelude.{Result, Ok, Err}
use Rattle.sn_output.specs.Printed.{ending}
use Rattle.sn_plain.specs.Answer.{FindsSample, IsAnswered, OfBuiltIn, Outside, ending_status}
use Rattle.sn_plain.specs.Runs.{Printout}
use Rattle.sn_plain.specs.Sample.{answers_to}
use Rattle.sn_stop.specs.declared.refusal.Refusal.{Refusal}
use Rattle.sn_stop.specs.declared.status.Status.{Status}
use Rattle.sn_words.specs.declared.command.Command.TheVariants.{Sample}
use Rattle.sn_outcomes.proofs.Commands.{finds_sample_once, tallied}
use Rattle.sn_outcomes.proofs.Done.{sample_done}
use Rattle.sn_sampled.proofs.Program.{the_program, source_accepted, samples_typed}

pub never_refused : (number count : ℕ) (refusal : Refusal) → FindsSample number count (Err refusal) → ⊥
never_refused number count refusal finds =
    let prints : FindsSample number count (Ok (tallied the_program number count)) =
    (the_program, source_accepted, record { typed = samples_typed number count; bytes_are = refl; ending_is = refl; unrefused = refl }) in
    let same : ◌≡◌ {A = Result Printout Refusal} (Err refusal) (Ok (tallied the_program number count)) =
    finds_sample_once number count (Err refusal) (Ok (tallied the_program number count)) finds prints in
    cc

pub samples_done : (outside : Outside) (number count : ℕ) (left : Status) → IsAnswered (Sample number count) outside left →
    OfBuiltIn (λ program. left ≡ ending_status (ending (answers_to program number count)))
samples_done outside number count left answered =
    (the_program, source_accepted, sample_done outside number count the_program left source_accepted (samples_typed number count) answered)
