-- What a source of the whole language is resolved to, or why it is not.
use Rattle.std.specs.Prelude.{◌≡◌, ◌⊎◌, ℕ, List, slice_get, take, Some, Ok, Err}
use Rattle.std.specs.List.{All}
use Rattle.sn_ast.specs.declared.declaration.Program.{Program as Tree}
use Rattle.sn_net.specs.declared.net.Claim.{Claim}
use Rattle.sn_record.specs.LabelSet.{Labels}
use Rattle.sn_output.specs.Types.{variant_text}
use Rattle.sn_typing.specs.Accepted.{IsAccepted as IsAcceptedClaim}
use Rattle.sn_flow.specs.Verdicts.{Checked}
use Rattle.sn_flow.specs.declared.fault.FlowFault.{FlowFault}
use Rattle.sn_flow.specs.declared.fault.FlowFault.TheVariants as flow_fault
use Rattle.sn_scope.specs.Resolution.{resolution}
use Rattle.sn_scope.specs.declared.resolved.Parts.{Parts}
use Rattle.sn_label_scope.specs.declared.fault.ScopeFault.{ScopeFault}
use Rattle.sn_label_scope.specs.declared.fault.ScopeFault.TheVariants as scope
use Rattle.sn_load.specs.Source.{IsRefused, IsSource, IsWrong}
use Rattle.sn_ast.specs.declared.fault.ParseFault.TheVariants as parse_fault
use Rattle.sn_load.specs.declared.load.Program.{Program}
use Rattle.sn_stop.specs.declared.refusal.Refusal.{Refusal}
use Rattle.sn_stop.specs.declared.refusal.Refusal.TheVariants.{TooLarge, Source as SourceAt, NoMain, TooDeep, LargeTree, TooManyNames, IllTyped, Variants, Line, Trace}
use Rattle.sn_stop.specs.declared.refusal.SourceFault.{SourceFault}
use Rattle.sn_stop.specs.declared.refusal.SourceFault.TheVariants.{BadUtf8, BadChar, NumberTooWide, TextOpen, Unexpected, Unknown, Twice, Arity, GuardTag}
use Rattle.sn_stop.specs.declared.refusal.TypeFault.{TypeFault}
use Rattle.sn_stop.specs.declared.refusal.TypeFault.TheVariants as type
use Rattle.sn_stop.specs.declared.stop.Stop.{Stop}
use Rattle.sn_stop.specs.declared.stop.Stop.TheVariants as stop

-- the bytes spell a program whose names are not resolved
pub record IsUnresolved (bytes : List ℕ) (fault : ScopeFault) : Type 0 where
  pub tree : Tree
  pub read : IsSource bytes tree
  pub refused : resolution tree ≡ Err fault

-- the bytes spell a program that is resolved to these parts
pub record IsResolved (bytes : List ℕ) (parts : Parts) : Type 0 where
  pub tree : Tree
  pub read : IsSource bytes tree
  pub is : resolution tree ≡ Ok parts

-- the claim is one of a program's, those before it are accepted, and it is refused
pub record RefusesClaim (parts : Parts) (fault : FlowFault) : Type 0 where
  pub index : ℕ
  pub claim : Claim
  pub here : slice_get parts.claims index ≡ Some claim
  pub earlier : All (IsAcceptedClaim parts.boxes) (take index parts.claims)
  pub refused : Checked parts.boxes claim (Err fault)

-- a claim is refused at the place, for the variant that is printed so
abbrev pub IsIllTyped : Parts → TypeFault → ℕ → List ℕ → Type 0
IsIllTyped parts type.NoRoute at text = (v : Labels) × RefusesClaim parts (flow_fault.NoRoute at v) × (text ≡ variant_text parts.names v)
IsIllTyped parts type.BadOutput at text = (v : Labels) × RefusesClaim parts (flow_fault.BadOutput at v) × (text ≡ variant_text parts.names v)

-- that types are wrong at a place is told with the variant printed, but for want of memory
abbrev pub TellsType : List (List ℕ) → TypeFault → ℕ → Labels → Stop → Type 0
TellsType names fault at v why = (why ≡ stop.Refused (IllTyped fault at (variant_text names v))) ⊎ (why ≡ stop.Memory)

-- so is the refusal of a claim
abbrev pub TellsRefusal : List (List ℕ) → FlowFault → Stop → Type 0
TellsRefusal names (flow_fault.NoRoute at v) why = TellsType names type.NoRoute at v why
TellsRefusal names (flow_fault.BadOutput at v) why = TellsType names type.BadOutput at v why
TellsRefusal names (flow_fault.TooManyVariants at) why = why ≡ stop.Refused (Variants at)
TellsRefusal names flow_fault.Memory why = why ≡ stop.Memory

-- the bytes are resolved to parts of which this holds
pub record ResolvesTo (bytes : List ℕ) (P : Parts → Type 0) : Type 0 where
  pub parts : Parts
  pub resolved : IsResolved bytes parts
  pub so : P parts

-- why the check of the claims stopped
abbrev pub WhyRefused : Parts → Stop → Type 0
WhyRefused parts (stop.Refused (TooLarge which)) = ⊥
WhyRefused parts (stop.Refused (SourceAt fault at)) = ⊥
WhyRefused parts (stop.Refused NoMain) = ⊥
WhyRefused parts (stop.Refused (TooDeep at)) = ⊥
WhyRefused parts (stop.Refused (LargeTree at)) = ⊥
WhyRefused parts (stop.Refused TooManyNames) = ⊥
WhyRefused parts (stop.Refused (IllTyped fault at variant)) = IsIllTyped parts fault at variant
WhyRefused parts (stop.Refused (Variants at)) = RefusesClaim parts (flow_fault.TooManyVariants at)
WhyRefused parts (stop.Refused (Line fault)) = ⊥
WhyRefused parts (stop.Refused (Trace fault)) = ⊥
WhyRefused parts (stop.Faulted fault) = ⊥
WhyRefused parts (stop.Unread which) = ⊥
WhyRefused parts stop.Memory = Unit {0}
WhyRefused parts stop.Write = ⊥

-- the names, the boxes and the main claim of the parts, each claim of which is accepted
pub record IsMain (parts : Parts) (program : Program) : Type 0 where
  pub names_are : program.names ≡ parts.names
  pub boxes_are : program.boxes ≡ parts.boxes
  pub main : slice_get parts.claims parts.main ≡ Some program.claim
  pub accepted : All (IsAcceptedClaim parts.boxes) parts.claims

-- the bytes spell the program
abbrev pub IsProgram : List ℕ → Program → Type 0
IsProgram bytes program = ResolvesTo bytes (λ parts. IsMain parts program)

-- what is wrong in the source, as it is read or as its names are resolved, and where
abbrev pub IsWrongAt : List ℕ → SourceFault → ℕ → Type 0
IsWrongAt bytes BadUtf8 at = IsWrong bytes BadUtf8 at
IsWrongAt bytes BadChar at = IsWrong bytes BadChar at
IsWrongAt bytes NumberTooWide at = IsWrong bytes NumberTooWide at
IsWrongAt bytes TextOpen at = IsWrong bytes TextOpen at
IsWrongAt bytes Unexpected at = IsWrong bytes Unexpected at
IsWrongAt bytes Unknown at = IsUnresolved bytes (scope.Unknown at)
IsWrongAt bytes Twice at = IsUnresolved bytes (scope.Twice at)
IsWrongAt bytes Arity at = IsUnresolved bytes (scope.Arity at)
IsWrongAt bytes GuardTag at = IsUnresolved bytes (scope.GuardTag at)

-- why a source gives no program
abbrev pub WhyNoProgram : List ℕ → Refusal → Type 0
WhyNoProgram bytes (TooLarge which) = ⊥
WhyNoProgram bytes (SourceAt fault at) = IsWrongAt bytes fault at
WhyNoProgram bytes NoMain = IsUnresolved bytes scope.NoMain
WhyNoProgram bytes (TooDeep at) = IsRefused bytes (parse_fault.TooDeep at)
WhyNoProgram bytes (LargeTree at) = IsUnresolved bytes (scope.TooLarge at)
WhyNoProgram bytes TooManyNames = IsUnresolved bytes scope.TooManyNames
WhyNoProgram bytes (IllTyped fault at variant) = ResolvesTo bytes (λ parts. IsIllTyped parts fault at variant)
WhyNoProgram bytes (Variants at) = ResolvesTo bytes (λ parts. RefusesClaim parts (flow_fault.TooManyVariants at))
WhyNoProgram bytes (Line fault) = ⊥
WhyNoProgram bytes (Trace fault) = ⊥

-- why loading a source stopped
abbrev pub WhyUnloaded : List ℕ → Stop → Type 0
WhyUnloaded bytes (stop.Refused refusal) = WhyNoProgram bytes refusal
WhyUnloaded bytes (stop.Faulted fault) = ⊥
WhyUnloaded bytes (stop.Unread which) = ⊥
WhyUnloaded bytes stop.Memory = Unit {0}
WhyUnloaded bytes stop.Write = ⊥
