-- What is printed of a program whose types are checked.
use Rattle.std.specs.Prelude.{◌≡◌, ◌++◌, ℕ, List, codes}
use Rattle.std.specs.Fmt.{decimal}
use Rattle.sn_net.specs.Net.{nodes}
use Rattle.sn_net.specs.declared.net.Net.{Net}
use Rattle.sn_planned.specs.Planned.{IsPlan}
use Rattle.sn_load.specs.Flows.{HasFlows}
use Rattle.sn_load.specs.declared.load.Program.{Program}
use Rattle.sn_plain.specs.declared.reports.Report.{Report}
use Rattle.sn_plain.specs.declared.reports.Report.TheVariants as report

-- the line of two numbers of nodes
abbrev pub plan_line : ℕ → ℕ → List ℕ
plan_line before after = codes "nodes=" ++ decimal before ++ (codes " planned=" ++ decimal after) ++ codes "\n"

-- the program's planned network has so many nodes
abbrev pub HasPlanned : Program → ℕ → Type 0
HasPlanned program count = (planned : Net) × IsPlan program.boxes program.claim planned × (count ≡ nodes planned)

-- how many nodes the program's network has, and how many the planned one
abbrev pub HasPlan : Program → List ℕ → Type 0
HasPlan program text = (count : ℕ) × HasPlanned program count × (text ≡ plan_line (nodes program.claim.net) count)

-- the text of a report on the program
abbrev pub HasReport : Report → Program → List ℕ → Type 0
HasReport report.Flows program text = HasFlows program program.claim.input text
HasReport report.Plan program text = HasPlan program text
