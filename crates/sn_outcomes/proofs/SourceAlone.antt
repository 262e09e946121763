-- A refusal of the source stands alone, whatever is told of the input.
use Rattle.std.proofs.Common.{ℕ, List, ◌≡◌, sym, inl, inr}
use Rattle.std.specs.Prelude.{Ok, Err, Option, Some}
use Rattle.sn_outcomes.proofs.Judging.{Found, Goes, goes_once, program_goes, wrong_goes}
use Rattle.sn_outcomes.specs.Told.{IsOfSource}
use Rattle.sn_plain.specs.Answer.{Finds}
use Rattle.sn_load.specs.Load.{Limits}
use Rattle.sn_plain.specs.Runs.{Manner}
use Rattle.sn_load.specs.declared.load.Program.{Program}
use Rattle.sn_stop.specs.declared.refusal.Refusal.{Refusal}
use Rattle.sn_stop.specs.declared.refusal.Refusal.TheVariants.{TooLarge, Source as SourceAt, NoMain, TooDeep, LargeTree, TooManyNames, IllTyped, Variants, Line, Trace}
use Rattle.sn_stop.specs.declared.refusal.Which.TheVariants.{Source, Input, Trace as TraceFile}

-- of a program anything may be found, or nothing
abbrev Anything : Program → Found → Type 0
Anything program found = Unit {0}

abbrev Nothing : Program → Found → Type 0
Nothing program found = ⊥

-- what the source alone says of what is found
judged : (shows : Manner) (limits : Limits) (bytes : List ℕ) (input : Option (List ℕ)) (found : Found) → Finds shows limits (Some bytes) input found → Goes bytes Anything found
judged shows limits bytes input (Err (TooLarge Source)) f = Goes.large f
judged shows limits bytes input (Err (TooLarge Input)) f = program_goes bytes Anything (Err (TooLarge Input)) f.0 f.1 tt
judged shows limits bytes input (Err (TooLarge TraceFile)) f = absurd f
judged shows limits bytes input (Err (Trace fault)) f = absurd f
judged shows limits bytes input (Err (SourceAt fault at)) f = wrong_goes bytes Anything (SourceAt fault at) f
judged shows limits bytes input (Err NoMain) f = wrong_goes bytes Anything NoMain f
judged shows limits bytes input (Err (TooDeep at)) f = wrong_goes bytes Anything (TooDeep at) f
judged shows limits bytes input (Err (LargeTree at)) f = wrong_goes bytes Anything (LargeTree at) f
judged shows limits bytes input (Err TooManyNames) (inl f) = wrong_goes bytes Anything TooManyNames f
judged shows limits bytes input (Err TooManyNames) (inr f) = program_goes bytes Anything (Err TooManyNames) f.0 f.1 tt
judged shows limits bytes input (Err (IllTyped fault at variant)) f = wrong_goes bytes Anything (IllTyped fault at variant) f
judged shows limits bytes input (Err (Variants at)) f = wrong_goes bytes Anything (Variants at) f
judged shows limits bytes input (Err (Line fault)) f = program_goes bytes Anything (Err (Line fault)) f.0 f.1 tt
judged shows limits bytes input (Ok p) f = program_goes bytes Anything (Ok p) f.0 f.1 tt

-- a refusal of the source is found of no program
refusal_of : (shows : Manner) (limits : Limits) (bytes : List ℕ) (input : Option (List ℕ)) (refusal : Refusal) → IsOfSource refusal → Finds shows limits (Some bytes) input (Err refusal) → Goes bytes Nothing (Err refusal)
refusal_of shows limits bytes input (TooLarge Source) o f = Goes.large f
refusal_of shows limits bytes input (TooLarge Input) o f = absurd o
refusal_of shows limits bytes input (TooLarge TraceFile) o f = absurd o
refusal_of shows limits bytes input (Trace fault) o f = absurd o
refusal_of shows limits bytes input (SourceAt fault at) o f = wrong_goes bytes Nothing (SourceAt fault at) f
refusal_of shows limits bytes input NoMain o f = wrong_goes bytes Nothing NoMain f
refusal_of shows limits bytes input (TooDeep at) o f = wrong_goes bytes Nothing (TooDeep at) f
refusal_of shows limits bytes input (LargeTree at) o f = wrong_goes bytes Nothing (LargeTree at) f
refusal_of shows limits bytes input TooManyNames o f = absurd o
refusal_of shows limits bytes input (IllTyped fault at variant) o f = wrong_goes bytes Nothing (IllTyped fault at variant) f
refusal_of shows limits bytes input (Variants at) o f = wrong_goes bytes Nothing (Variants at) f
refusal_of shows limits bytes input (Line fault) o f = absurd o

pub source_alone : (shows : Manner) (limits : Limits) (bytes : List ℕ) (input : Option (List ℕ)) (refusal : Refusal) (other : Found) → IsOfSource refusal →
    Finds shows limits (Some bytes) input (Err refusal) → Finds shows limits (Some bytes) input other → other ≡ Err refusal
source_alone shows limits bytes input refusal other o f g =
    sym (goes_once bytes Nothing Anything (λ program found other none any. absurd none) (Err refusal) other (refusal_of shows limits bytes input refusal o f) (judged shows limits bytes input other g))
