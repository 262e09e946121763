-- Where the bytes of the files of a command are told, and what is found whatever an input holds.
use Rattle.std.specs.Prelude.{◌≡◌, ℕ, IsTrue, List, Some}
use Rattle.sn_net.specs.Net.{all_deterministic}
use Rattle.sn_plain.specs.Answer.{IsAccepted}
use Rattle.sn_load.specs.declared.load.Program.{Program}
use Rattle.sn_plain.specs.Seen.{File}
use Rattle.sn_stop.specs.declared.refusal.Refusal.{Refusal}
use Rattle.sn_stop.specs.declared.refusal.Refusal.TheVariants.{TooLarge, Source as SourceAt, NoMain, TooDeep, LargeTree, TooManyNames, IllTyped, Variants, Line, Trace}
use Rattle.sn_stop.specs.declared.refusal.Which.TheVariants.{Source, Input, Trace as TraceFile}
use Rattle.sn_words.specs.declared.command.Command.{Command}
use Rattle.sn_words.specs.declared.command.Command.TheVariants.{Run, Once, Check, Print, Plan, Trace as ATrace, Replay, Feed, Sample}

-- the bytes of the file are told
pub record IsTold (file : File) : Type 0 where
  pub bytes : List ℕ
  pub are : file.told ≡ Some bytes

-- each choice, star and split of the main network of an accepted source merges in order
abbrev pub MergesInOrder : File → Type 0
MergesInOrder file = (bytes : List ℕ) (program : Program) → file.told ≡ Some bytes → IsAccepted bytes program → IsTrue (all_deterministic program.claim.net)

-- The bytes of each file that the command reads are told, which is none where it makes its records. Workers may print more than one
-- stream where a merge is free, and a run has more than one trace, of which nothing is said here.
abbrev pub AreTold : Command → (List ℕ → File) → Type 0
AreTold (Run source input workers fuel depth queue plan) file = IsTold (file source) × IsTold (file input) × MergesInOrder (file source)
AreTold (Once source input fuel depth) file = IsTold (file source) × IsTold (file input)
AreTold (Check source) file = IsTold (file source)
AreTold (Print source) file = IsTold (file source)
AreTold (Plan source) file = IsTold (file source)
AreTold (ATrace source input workers fuel depth queue) file = ⊥
AreTold (Replay source input trace fuel depth) file = IsTold (file source) × IsTold (file input) × IsTold (file trace)
AreTold (Feed source input batch fuel depth) file = IsTold (file source) × IsTold (file input)
AreTold (Sample number count) file = Unit {0}

-- no input is refused so
abbrev pub IsOfSource : Refusal → Type 0
IsOfSource (TooLarge Source) = Unit {0}
IsOfSource (TooLarge Input) = ⊥
IsOfSource (TooLarge TraceFile) = ⊥
IsOfSource (SourceAt fault at) = Unit {0}
IsOfSource NoMain = Unit {0}
IsOfSource (TooDeep at) = Unit {0}
IsOfSource (LargeTree at) = Unit {0}
IsOfSource TooManyNames = ⊥
IsOfSource (IllTyped fault at variant) = Unit {0}
IsOfSource (Variants at) = Unit {0}
IsOfSource (Line fault) = ⊥
IsOfSource (Trace fault) = ⊥
