-- The bytes of a source give one program, each claim of which is accepted, or are refused for one thing.
use Rattle.std.proofs.Common.{ℕ, List, ◌≡◌, ap, subst}
use Rattle.std.specs.Prelude.{Result, Ok, Err}
use Rattle.sn_outcomes.proofs.Claims.{IsJudged, judged_once, types_judged, variants_judged}
use Rattle.sn_outcomes.proofs.Resolved.{AreParts, parts_once, resolved_parts, unresolved_parts, wrong_at, wrong_parts}
use Rattle.sn_outcomes.proofs.Sources.{deep_read}
use Rattle.sn_scope.specs.declared.resolved.Parts.{Parts}
use Rattle.sn_label_scope.specs.declared.fault.ScopeFault.TheVariants as scope
use Rattle.sn_load.specs.Scope.{IsProgram, WhyNoProgram}
use Rattle.sn_load.specs.declared.load.Program.{Program}
use Rattle.sn_stop.specs.declared.refusal.Refusal.{Refusal}
use Rattle.sn_stop.specs.declared.refusal.Refusal.TheVariants.{TooLarge, Source as SourceAt, NoMain, TooDeep, LargeTree, TooManyNames, IllTyped, Variants, Line, Trace}

-- what the bytes are found to be: refused before types are asked, or what the check of their claims finds
pub data IsFound (bytes : List ℕ) : Result Program Refusal → Type 0 where
  front : (refusal : Refusal) → AreParts bytes (Err refusal) → IsFound bytes (Err refusal)
  types : {found : Result Program Refusal} (parts : Parts) → AreParts bytes (Ok parts) → IsJudged parts found → IsFound bytes found

pub found_once : (bytes : List ℕ) (found other : Result Program Refusal) → IsFound bytes found → IsFound bytes other → found ≡ other
found_once bytes found other (IsFound.front r f) (IsFound.front s g) =
    let same = parts_once bytes (Err r) (Err s) f g in
    let refusal : r ≡ s = cc in
    ap Err refusal
found_once bytes found other (IsFound.front r f) (IsFound.types parts g t) = let same = parts_once bytes (Err r) (Ok parts) f g in absurd cc
found_once bytes found other (IsFound.types parts f t) (IsFound.front s g) = let same = parts_once bytes (Ok parts) (Err s) f g in absurd cc
found_once bytes found other (IsFound.types parts f t) (IsFound.types others g u) =
    let same = parts_once bytes (Ok parts) (Ok others) f g in
    let one : others ≡ parts = cc in
    judged_once parts found other t (subst (λ p. IsJudged p other) one u)

pub program_found : (bytes : List ℕ) (program : Program) → IsProgram bytes program → IsFound bytes (Ok program)
program_found bytes program p = IsFound.types p.parts (resolved_parts bytes p.parts p.resolved) (IsJudged.main p.so)

pub refused_found : (bytes : List ℕ) (refusal : Refusal) → WhyNoProgram bytes refusal → IsFound bytes (Err refusal)
refused_found bytes (TooLarge which) w = absurd w
refused_found bytes (SourceAt fault at) w = IsFound.front (SourceAt fault at) (wrong_at bytes fault at w)
refused_found bytes NoMain w = IsFound.front NoMain (unresolved_parts bytes scope.NoMain w)
refused_found bytes (TooDeep at) w = IsFound.front (TooDeep at) (wrong_parts bytes (TooDeep at) (deep_read bytes at w))
refused_found bytes (LargeTree at) w = IsFound.front (LargeTree at) (unresolved_parts bytes (scope.TooLarge at) w)
refused_found bytes TooManyNames w = IsFound.front TooManyNames (unresolved_parts bytes scope.TooManyNames w)
refused_found bytes (IllTyped fault at variant) w = IsFound.types w.parts (resolved_parts bytes w.parts w.resolved) (types_judged w.parts fault at variant w.so)
refused_found bytes (Variants at) w = IsFound.types w.parts (resolved_parts bytes w.parts w.resolved) (variants_judged w.parts at w.so)
refused_found bytes (Line fault) w = absurd w
refused_found bytes (Trace fault) w = absurd w

pub same_program : (bytes : List ℕ) (program other : Program) → IsProgram bytes program → IsProgram bytes other → program ≡ other
same_program bytes program other p q =
    let same = found_once bytes (Ok program) (Ok other) (program_found bytes program p) (program_found bytes other q) in
    cc

pub same_refusal : (bytes : List ℕ) (refusal other : Refusal) → WhyNoProgram bytes refusal → WhyNoProgram bytes other → refusal ≡ other
same_refusal bytes refusal other r s =
    let same = found_once bytes (Err refusal) (Err other) (refused_found bytes refusal r) (refused_found bytes other s) in
    cc

pub program_or_refusal : (bytes : List ℕ) (program : Program) (refusal : Refusal) → IsProgram bytes program → WhyNoProgram bytes refusal → ⊥
program_or_refusal bytes program refusal p r =
    let same = found_once bytes (Ok program) (Err refusal) (program_found bytes program p) (refused_found bytes refusal r) in
    absurd cc
