-- Runs with workers beside those on one thread.
use Rattle.std.proofs.Common.{◌≡◌, ℕ, IsTrue, List, refl, ap, ◌∙◌}
use Rattle.std.specs.Prelude.{Result, Ok, Err, Option, None, Some, IfSome}
use mathlib.Core.List.{is_set as List-set}
use mathlib.Core.Logic.{∥∥₁_elim}
use mathlib.Core.Sum.{⊎_set}
use native.Mathlib.Nat.{ℕ_set}
use Rattle.sn_record.specs.Record.{Entries}
use Rattle.sn_record.specs.declared.item.Fault.{Fault}
use Rattle.sn_net.specs.declared.net.Net.{Net}
use Rattle.sn_net.specs.Net.{all_deterministic}
use Rattle.sn_model.specs.Meaning.{Setting}
use Rattle.sn_output.specs.Printed.{ending, printed}
use Rattle.sn_plain.specs.Answer.{Finds, IsAccepted}
use Rattle.sn_load.specs.Load.{Limits, setting}
use Rattle.sn_plain.specs.Runs.{OnOneThread, Printout, Prints, WithWorkers}
use Rattle.sn_load.specs.declared.load.Program.{Program}
use Rattle.sn_stop.specs.declared.refusal.Refusal.{Refusal}

bytes_set : IsSet (List ℕ)
bytes_set = List-set ℕ_set

end_set : IsSet (Option Fault)
end_set = hlevel (ℕ_set, ⊎_set)

-- how many there are
abbrev count_of : Option Refusal → ℕ
count_of None = 0
count_of (Some refusal) = 1

none_of : (o : Option Refusal) → count_of o ≡ 0 → o ≡ None
none_of None is = refl
none_of (Some refusal) is = cc

-- where each merge is in order, workers print what one thread does
in_order : (s : Setting) (net : Net) (records : List Entries) (names : List (List ℕ)) (p : Printout) → IsTrue (all_deterministic net) → WithWorkers s net records names p → OnOneThread s net records names p
in_order s net records names p all shown = record {
  bytes_are = ∥∥₁_elim shown (bytes_set _ _) (λ some. some.2.bytes_are ∙ ap (printed names) (some.1.only all));
  ending_is = ∥∥₁_elim shown (end_set _ _) (λ some. some.2.ending_is ∙ ap ending (some.1.only all));
  unrefused = none_of p.refused (∥∥₁_elim shown (ℕ_set _ _) (λ some. ap count_of some.2.unrefused));
}

prints_once : (limits : Limits) (program : Program) (more : List ℕ) (p : Printout) → IsTrue (all_deterministic program.claim.net) → Prints WithWorkers limits program more p → Prints OnOneThread limits program more p
prints_once limits program more p all prints = record {
  within = prints.within;
  input = prints.input;
  typed = prints.typed;
  shown = in_order (setting program limits) program.claim.net prints.input.records prints.input.names p all prints.shown;
}

if_prints : (limits : Limits) (program : Program) (input : Option (List ℕ)) (p : Printout) → IsTrue (all_deterministic program.claim.net)
    → IfSome input (λ more. Prints WithWorkers limits program more p) → IfSome input (λ more. Prints OnOneThread limits program more p)
if_prints limits program None p all prints = tt
if_prints limits program (Some more) p all prints = prints_once limits program more p all prints

pub run_is_once : (limits : Limits) (source input : Option (List ℕ)) → ((bytes : List ℕ) (program : Program) → source ≡ Some bytes → IsAccepted bytes program → IsTrue (all_deterministic program.claim.net))
    → (found : Result Printout Refusal) → Finds WithWorkers limits source input found → Finds OnOneThread limits source input found
run_is_once limits source input ordered (Err refusal) f = f
run_is_once limits None input ordered (Ok p) f = tt
run_is_once limits (Some bytes) input ordered (Ok p) (program, accepted, prints) = (program, accepted, if_prints limits program input p (ordered bytes program refl accepted) prints)
