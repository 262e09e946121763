-- What a type still needs, after the parts so far.
use Rattle.std.specs.Prelude.{ℕ, Bool, true, false, IsTrue, List, [], ◌∷◌, ◌++◌, ◌≡◌, ◌↔◌, Result, Ok, Err}
use Rattle.sn_ast.specs.Labels.{Part as IsPart, MoreParts}
use Rattle.sn_ast.specs.declared.label.LabelAt.{LabelAt}
use Rattle.sn_ast.specs.declared.label.TypePart.{TypePart}
use Rattle.sn_ast.specs.declared.label.TypePart.TheVariants.{Set}
use Rattle.sn_ast.specs.declared.terminal.Symbol.{Symbol as SomeSymbol}
use Rattle.sn_ast.specs.declared.terminal.Symbol.TheVariants.{Semicolon, CloseParen, Arrow}
use Rattle.sn_ast.specs.declared.terminal.Terminal.{Terminal}
use Rattle.sn_ast.specs.declared.terminal.Terminal.TheVariants.{Symbol}
use Rattle.sn_type_parser.specs.LabelResidual.{Completes as CompletesLabels}
use Rattle.sn_type_parser.specs.Reads.{Read, read}
use Rattle.sn_type_parser.specs.declared.labels.LabelParser.{LabelParser}
use Rattle.sn_type_parser.specs.declared.types.Mode.{Mode}
use Rattle.sn_type_parser.specs.declared.types.Mode.TheVariants.{Part, Variant as InVariant, After}
use Rattle.sn_type_parser.specs.declared.types.TypeParser.{TypeParser}
use Rattle.sn_type_parser.specs.declared.types.TypeStop.{TypeStop}
use Rattle.sn_type_parser.specs.declared.types.TypeStop.TheVariants.{Memory, Refused, Ended}

abbrev pub can_follow_type : SomeSymbol → Bool
can_follow_type Semicolon = true
can_follow_type CloseParen = true
can_follow_type Arrow = true
can_follow_type s = false

-- the tokens begin with one that may follow a type
abbrev pub EndsType : List Terminal → Type 0
EndsType (Symbol s at ∷ us) = IsTrue (can_follow_type s)
EndsType us = ⊥

-- the parts so far are all, or further ones come, and the type ends there
pub data AfterPart : List TypePart → List Terminal → Read (List TypePart) → Type 0 where
  after_part : {so_far all : List TypePart} {us vs : List Terminal} → MoreParts so_far us all vs → EndsType vs → AfterPart so_far us (read all vs)

-- a part comes next
pub data NextPart : List TypePart → List Terminal → Read (List TypePart) → Type 0 where
  next_part : {p : TypePart} {so_far : List TypePart} {ts us : List Terminal} {t : Read (List TypePart)} →
      IsPart ts p us → AfterPart (so_far ++ (p ∷ [])) us t → NextPart so_far ts t

-- the labels of a variant are being read
pub data InLabels : List TypePart → ℕ → LabelParser → List Terminal → Read (List TypePart) → Type 0 where
  in_labels : {so_far : List TypePart} {at : ℕ} {s : LabelParser} {ts : List Terminal} {t : Read (List TypePart)} (labels : List LabelAt) (us : List Terminal) →
      CompletesLabels s ts (read labels us) → AfterPart (so_far ++ (Set (record { labels = labels; at = at }) ∷ [])) us t → InLabels so_far at s ts t

-- the tokens complete t, where this comes next
abbrev pub CompletesIn : List TypePart → Mode → List Terminal → Read (List TypePart) → Type 0
CompletesIn so_far Part w t = NextPart so_far w t
CompletesIn so_far (InVariant at s) w t = InLabels so_far at s w t
CompletesIn so_far After w t = AfterPart so_far w t

abbrev pub Completes : TypeParser → List Terminal → Read (List TypePart) → Type 0
Completes s w t = CompletesIn s.parts s.mode w t

-- Where a step took the token x: what completed the state before it begins with x, and goes on as what completes the
-- state after it. Where it refused x: nothing that begins with x completed it. Where it ended: what completed it is
-- what begins with x, and x follows the type.
abbrev pub StepsIn : List TypePart → Mode → Terminal → Result TypeParser TypeStop → Type 0
StepsIn so_far m x (Ok next) = (w : List Terminal) (t : Read (List TypePart)) → CompletesIn so_far m (x ∷ w) t ↔ Completes next w t
StepsIn so_far m x (Err Memory) = Unit {0}
StepsIn so_far m x (Err Refused) = (w : List Terminal) (t : Read (List TypePart)) → CompletesIn so_far m (x ∷ w) t → ⊥
StepsIn so_far m x (Err (Ended all s at)) =
    (x ≡ Symbol s at) × ((w : List Terminal) (t : Read (List TypePart)) → CompletesIn so_far m (x ∷ w) t ↔ (read all (x ∷ w) ≡ t))

abbrev pub Steps : TypeParser → Terminal → Result TypeParser TypeStop → Type 0
Steps s x r = StepsIn s.parts s.mode x r
