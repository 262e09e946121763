-- What is found of a command goes by its source first: by its size, then by its refusal, and only then by its program.
use Rattle.std.proofs.Common.{ℕ, List, ◌≡◌, ◌<◌, ◌≤◌, refl, ap, subst, length, arith}
use Rattle.std.specs.Prelude.{Result, Ok, Err}
use Rattle.sn_outcomes.proofs.Loaded.{IsFound, found_once, program_found, refused_found}
use Rattle.sn_plain.specs.Answer.{IsAccepted, IsRefusedSource}
use Rattle.sn_plain.specs.Runs.{Printout}
use Rattle.sn_load.specs.declared.load.Program.{Program}
use Rattle.sn_load.specs.declared.load.TheConstants.{SOURCE_LIMIT}
use Rattle.sn_stop.specs.declared.refusal.Refusal.{Refusal}
use Rattle.sn_stop.specs.declared.refusal.Refusal.TheVariants.{TooLarge}
use Rattle.sn_stop.specs.declared.refusal.Which.TheVariants.{Source}

abbrev pub Found : Type 0
Found = Result Printout Refusal

-- what is found, where P says what may be found of a program
pub data Goes (bytes : List ℕ) (P : Program → Found → Type 0) : Found → Type 0 where
  large : SOURCE_LIMIT < length bytes → Goes bytes P (Err (TooLarge Source))
  refused : (refusal : Refusal) → length bytes ≤ SOURCE_LIMIT → IsFound bytes (Err refusal) → Goes bytes P (Err refusal)
  accepted : {found : Found} (program : Program) → length bytes ≤ SOURCE_LIMIT → IsFound bytes (Ok program) → P program found → Goes bytes P found

pub wrong_goes : (bytes : List ℕ) (P : Program → Found → Type 0) (refusal : Refusal) → IsRefusedSource refusal bytes → Goes bytes P (Err refusal)
wrong_goes bytes P refusal r = Goes.refused refusal r.0 (refused_found bytes refusal r.1)

pub program_goes : (bytes : List ℕ) (P : Program → Found → Type 0) (found : Found) (program : Program) → IsAccepted bytes program → P program found → Goes bytes P found
program_goes bytes P found program a p = Goes.accepted program a.within (program_found bytes program a.main) p

-- one thing, where one thing is found of a program
pub goes_once : (bytes : List ℕ) (P Q : Program → Found → Type 0) → ((program : Program) (found other : Found) → P program found → Q program other → found ≡ other)
    → (found other : Found) → Goes bytes P found → Goes bytes Q other → found ≡ other
goes_once bytes P Q one found other (Goes.large l) (Goes.large k) = refl
goes_once bytes P Q one found other (Goes.large l) (Goes.refused s w g) = absurd (omega arith)
goes_once bytes P Q one found other (Goes.large l) (Goes.accepted q w g k) = absurd (omega arith)
goes_once bytes P Q one found other (Goes.refused r w f) (Goes.large l) = absurd (omega arith)
goes_once bytes P Q one found other (Goes.refused r w f) (Goes.refused s v g) =
    let same = found_once bytes (Err r) (Err s) f g in
    let refusal : r ≡ s = cc in
    ap Err refusal
goes_once bytes P Q one found other (Goes.refused r w f) (Goes.accepted q v g k) = let same = found_once bytes (Err r) (Ok q) f g in absurd cc
goes_once bytes P Q one found other (Goes.accepted p w f d) (Goes.large l) = absurd (omega arith)
goes_once bytes P Q one found other (Goes.accepted p w f d) (Goes.refused s v g) = let same = found_once bytes (Ok p) (Err s) f g in absurd cc
goes_once bytes P Q one found other (Goes.accepted p w f d) (Goes.accepted q v g k) =
    let same = found_once bytes (Ok p) (Ok q) f g in
    let program : q ≡ p = cc in
    one p found other d (subst (λ x. Q x other) program k)

-- of an accepted program what is found is found of that program
pub goes_accepted : (bytes : List ℕ) (P : Program → Found → Type 0) (program : Program) (found : Found) → IsAccepted bytes program → Goes bytes P found → P program found
goes_accepted bytes P program found a (Goes.large l) = let within = a.within in absurd (omega arith)
goes_accepted bytes P program found a (Goes.refused r w f) = let same = found_once bytes (Ok program) (Err r) (program_found bytes program a.main) f in absurd cc
goes_accepted bytes P program found a (Goes.accepted q w f d) =
    let same = found_once bytes (Ok program) (Ok q) (program_found bytes program a.main) f in
    let one : q ≡ program = cc in
    subst (λ x. P x found) one d
