-- What labels still need, after those so far.
use Rattle.std.specs.Prelude.{List, [], ◌∷◌, ◌++◌, ◌≡◌, ◌↔◌, Some, Result, Ok, Err}
use Rattle.sn_ast.specs.Labels.{MoreLabels}
use Rattle.sn_ast.specs.Terminals.{closing, label_of}
use Rattle.sn_ast.specs.declared.label.LabelAt.{LabelAt}
use Rattle.sn_ast.specs.declared.terminal.Bracket.{Bracket}
use Rattle.sn_ast.specs.declared.terminal.Terminal.{Terminal}
use Rattle.sn_ast.specs.declared.terminal.Terminal.TheVariants.{Symbol}
use Rattle.sn_type_parser.specs.Reads.{Read, read}
use Rattle.sn_type_parser.specs.declared.labels.LabelParser.{LabelParser}
use Rattle.sn_type_parser.specs.declared.labels.LabelStep.{LabelStep}
use Rattle.sn_type_parser.specs.declared.labels.LabelStep.TheVariants.{More, Done}
use Rattle.sn_type_parser.specs.declared.labels.LabelStop.{LabelStop}
use Rattle.sn_type_parser.specs.declared.labels.LabelStop.TheVariants.{Memory, Refused}
use Rattle.sn_type_parser.specs.declared.labels.Mode.{Mode}
use Rattle.sn_type_parser.specs.declared.labels.Mode.TheVariants.{First, Label, After}

-- the token closes the bracket
abbrev pub closes : Bracket → Terminal → Type 0
closes b (Symbol s at) = s ≡ closing b
closes b x = ⊥

-- a label, and then what may follow it
pub data NextLabel (b : Bracket) : List LabelAt → List Terminal → Read (List LabelAt) → Type 0 where
  next_label : {x : Terminal} {l : LabelAt} {so_far all : List LabelAt} {us vs : List Terminal} →
      label_of x ≡ Some l → MoreLabels b (so_far ++ (l ∷ [])) us all vs → NextLabel b so_far (x ∷ us) (read all vs)

-- the same, or the closing bracket at once
pub data FirstLabel (b : Bracket) : List LabelAt → List Terminal → Read (List LabelAt) → Type 0 where
  no_label : {x : Terminal} {so_far : List LabelAt} {us : List Terminal} → closes b x → FirstLabel b so_far (x ∷ us) (read so_far us)
  some_label : {so_far : List LabelAt} {ts : List Terminal} {t : Read (List LabelAt)} → NextLabel b so_far ts t → FirstLabel b so_far ts t

-- the tokens complete t, where this comes next
abbrev pub CompletesIn : Bracket → List LabelAt → Mode → List Terminal → Read (List LabelAt) → Type 0
CompletesIn b so_far First w t = FirstLabel b so_far w t
CompletesIn b so_far Label w t = NextLabel b so_far w t
CompletesIn b so_far After w t = MoreLabels b so_far w t.part t.rest

abbrev pub Completes : LabelParser → List Terminal → Read (List LabelAt) → Type 0
Completes s w t = CompletesIn s.bracket s.labels s.mode w t

-- Where a step took the token x: what completed the state before it begins with x, and goes on as what completes the
-- state after it, or is over with x. Where it refused x: nothing that begins with x completed it.
abbrev pub StepsIn : Bracket → List LabelAt → Mode → Terminal → Result LabelStep LabelStop → Type 0
StepsIn b so_far m x (Ok (More next)) = (w : List Terminal) (t : Read (List LabelAt)) → CompletesIn b so_far m (x ∷ w) t ↔ Completes next w t
StepsIn b so_far m x (Ok (Done all)) = (w : List Terminal) (t : Read (List LabelAt)) → CompletesIn b so_far m (x ∷ w) t ↔ (read all w ≡ t)
StepsIn b so_far m x (Err Memory) = Unit {0}
StepsIn b so_far m x (Err Refused) = (w : List Terminal) (t : Read (List LabelAt)) → CompletesIn b so_far m (x ∷ w) t → ⊥

abbrev pub Steps : LabelParser → Terminal → Result LabelStep LabelStop → Type 0
Steps s x r = StepsIn s.bracket s.labels s.mode x r
