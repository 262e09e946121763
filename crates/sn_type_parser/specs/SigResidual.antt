-- What a signature still needs.
use Rattle.std.specs.Prelude.{ℕ, Bool, true, false, IsTrue, List, [], ◌∷◌, ◌≡◌, ◌↔◌, Option, Some, None, Result, Ok, Err}
use Rattle.sn_ast.specs.Labels.{Types}
use Rattle.sn_ast.specs.declared.label.Ident.{Ident}
use Rattle.sn_ast.specs.declared.label.Sig.{Sig}
use Rattle.sn_ast.specs.declared.label.Sig.TheVariants.{Arrow as ArrowSig, Named as NamedSig}
use Rattle.sn_ast.specs.declared.label.TypePart.{TypePart}
use Rattle.sn_ast.specs.declared.label.TypePart.TheVariants.{Named}
use Rattle.sn_ast.specs.declared.terminal.Symbol.{Symbol as SomeSymbol}
use Rattle.sn_ast.specs.declared.terminal.Symbol.TheVariants.{Semicolon, CloseParen, Arrow}
use Rattle.sn_ast.specs.declared.terminal.Terminal.{Terminal}
use Rattle.sn_ast.specs.declared.terminal.Terminal.TheVariants.{Symbol}
use Rattle.sn_type_parser.specs.Reads.{Read, read}
use Rattle.sn_type_parser.specs.TypeResidual.{Completes as CompletesTypes}
use Rattle.sn_type_parser.specs.declared.signatures.SigParser.{SigParser}
use Rattle.sn_type_parser.specs.declared.signatures.SigStop.{SigStop}
use Rattle.sn_type_parser.specs.declared.signatures.SigStop.TheVariants.{Memory, Refused, Ended}
use Rattle.sn_type_parser.specs.declared.types.TypeParser.{TypeParser}

abbrev pub can_follow_sig : SomeSymbol → Bool
can_follow_sig Semicolon = true
can_follow_sig CloseParen = true
can_follow_sig s = false

-- the tokens begin with one that may follow a signature
abbrev pub EndsSig : List Terminal → Type 0
EndsSig (Symbol s at ∷ us) = IsTrue (can_follow_sig s)
EndsSig us = ⊥

-- the name, where the parts are one name alone
abbrev pub lone_name : List TypePart → Option Ident
lone_name (Named name ∷ []) = Some name
lone_name parts = None

-- A type was read: the input, whose arrow and output come next, or the name of the signature; or the output, after the
-- input.
pub data AfterType : Option (List TypePart) → List TypePart → List Terminal → Read Sig → Type 0 where
  to_output : {at : ℕ} {input output : List TypePart} {us vs : List Terminal} →
      Types us output vs → EndsSig vs → AfterType None input (Symbol Arrow at ∷ us) (read (ArrowSig input output) vs)
  by_name : {name : Ident} {parts : List TypePart} {us : List Terminal} →
      lone_name parts ≡ Some name → EndsSig us → AfterType None parts us (read (NamedSig name) us)
  whole : {input output : List TypePart} {us : List Terminal} →
      EndsSig us → AfterType (Some input) output us (read (ArrowSig input output) us)

-- a type is being read
pub data InType : Option (List TypePart) → TypeParser → List Terminal → Read Sig → Type 0 where
  in_type : {input : Option (List TypePart)} {s : TypeParser} {ts : List Terminal} {t : Read Sig} (parts : List TypePart) (us : List Terminal) →
      CompletesTypes s ts (read parts us) → AfterType input parts us t → InType input s ts t

-- the tokens complete t
abbrev pub Completes : SigParser → List Terminal → Read Sig → Type 0
Completes s w t = InType s.input s.types w t

-- Where a step took the token x: what completed the state before it begins with x, and goes on as what completes the
-- state after it. Where it refused x: nothing that begins with x completed it. Where it ended: what completed it is
-- what begins with x, and x follows the signature.
abbrev pub StepsFrom : (List Terminal → Read Sig → Type 0) → Terminal → Result SigParser SigStop → Type 0
StepsFrom before x (Ok next) = (w : List Terminal) (t : Read Sig) → before (x ∷ w) t ↔ Completes next w t
StepsFrom before x (Err Memory) = Unit {0}
StepsFrom before x (Err Refused) = (w : List Terminal) (t : Read Sig) → before (x ∷ w) t → ⊥
StepsFrom before x (Err (Ended sig s at)) =
    (x ≡ Symbol s at) × ((w : List Terminal) (t : Read Sig) → before (x ∷ w) t ↔ (read sig (x ∷ w) ≡ t))

abbrev pub Steps : SigParser → Terminal → Result SigParser SigStop → Type 0
Steps s x r = StepsFrom (Completes s) x r
