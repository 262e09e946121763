-- What holds of each command.
use Rattle.std.specs.Prelude.{◌≤◌, ℕ, List, [], codes}
use Rattle.sn_words.specs.declared.command.Command.{Command}
use Rattle.sn_words.specs.declared.command.Command.TheVariants.{Run, Once, Check, Print, Plan, Trace, Replay, Feed, Sample}

-- the numbers that a run may be given
abbrev pub IsInRange : Command → Type 0
IsInRange (Run source input workers fuel depth queue plan) =
    (1 ≤ workers) × (workers ≤ 64) × (1 ≤ fuel) × (fuel ≤ 1_000_000_000) × (1 ≤ depth) × (depth ≤ 2_000) × (1 ≤ queue) × (queue ≤ 1_024) × (plan ≤ 1)
IsInRange (Once source input fuel depth) = (1 ≤ fuel) × (fuel ≤ 1_000_000_000) × (1 ≤ depth) × (depth ≤ 2_000)
IsInRange (Check source) = Unit {0}
IsInRange (Print source) = Unit {0}
IsInRange (Plan source) = Unit {0}
IsInRange (Trace source input workers fuel depth queue) =
    (1 ≤ workers) × (workers ≤ 64) × (1 ≤ fuel) × (fuel ≤ 1_000_000_000) × (1 ≤ depth) × (depth ≤ 2_000) × (1 ≤ queue) × (queue ≤ 1_024)
IsInRange (Replay source input trace fuel depth) = (1 ≤ fuel) × (fuel ≤ 1_000_000_000) × (1 ≤ depth) × (depth ≤ 2_000)
IsInRange (Feed source input batch fuel depth) = (1 ≤ batch) × (batch ≤ 1_048_576) × (1 ≤ fuel) × (fuel ≤ 1_000_000_000) × (1 ≤ depth) × (depth ≤ 2_000)
IsInRange (Sample number count) = (number ≤ 2_147_483_647) × (count ≤ 50_000)

-- the names of its files; one that checks, prints or plans a source has no input, and one that makes its records has none
abbrev pub source_of : Command → List ℕ
source_of (Run source input workers fuel depth queue plan) = source
source_of (Once source input fuel depth) = source
source_of (Check source) = source
source_of (Print source) = source
source_of (Plan source) = source
source_of (Trace source input workers fuel depth queue) = source
source_of (Replay source input trace fuel depth) = source
source_of (Feed source input batch fuel depth) = source
source_of (Sample number count) = []

abbrev pub input_of : Command → List ℕ
input_of (Run source input workers fuel depth queue plan) = input
input_of (Once source input fuel depth) = input
input_of (Check source) = []
input_of (Print source) = []
input_of (Plan source) = []
input_of (Trace source input workers fuel depth queue) = input
input_of (Replay source input trace fuel depth) = input
input_of (Feed source input batch fuel depth) = input
input_of (Sample number count) = []

-- one command alone has a trace
abbrev pub trace_of : Command → List ℕ
trace_of (Run source input workers fuel depth queue plan) = []
trace_of (Once source input fuel depth) = []
trace_of (Check source) = []
trace_of (Print source) = []
trace_of (Plan source) = []
trace_of (Trace source input workers fuel depth queue) = []
trace_of (Replay source input trace fuel depth) = trace
trace_of (Feed source input batch fuel depth) = []
trace_of (Sample number count) = []

-- the line that says which words the program knows
abbrev pub usage_text : List ℕ
usage_text = codes "usage: snet run SOURCE INPUT [--workers N] [--fuel N] [--depth N] [--queue N] | once SOURCE INPUT [--fuel N] [--depth N] | check SOURCE | print SOURCE | sample SEED COUNT\n"
