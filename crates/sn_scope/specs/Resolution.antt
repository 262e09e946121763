-- What a program is resolved to, or which refusal comes.
use Rattle.std.specs.Prelude.{ℕ, Bool, true, false, nat_le, nat_lt, if◌then◌else◌, List, length, map, Option, Some, None, Result, Ok, Err}
use Rattle.sn_ast.specs.declared.declaration.Program.{Program}
use Rattle.sn_net.specs.declared.expr.BoxProgram.{BoxProgram}
use Rattle.sn_net.specs.declared.net.Claim.{Claim}
use Rattle.sn_scope.specs.Declarations.{declarations_of}
use Rattle.sn_scope.specs.Numbering.{names_of}
use Rattle.sn_scope.specs.Trees.{claims_within, most_nodes}
use Rattle.sn_scope.specs.declared.declarations.Declarations.{Declarations}
use Rattle.sn_label_scope.specs.declared.refusal.Reason.{Reason}
use Rattle.sn_label_scope.specs.declared.refusal.Reason.TheVariants as reason
use Rattle.sn_label_scope.specs.declared.refusal.Refusal.{Refusal}
use Rattle.sn_scope.specs.declared.resolved.Parts.{Parts}
use Rattle.sn_scope.specs.declared.resolved.Resolved.{Resolved}
use Rattle.sn_label_scope.specs.declared.fault.ScopeFault.{ScopeFault}
use Rattle.sn_label_scope.specs.declared.fault.ScopeFault.TheVariants.{Unknown, Twice, Arity, NoMain, GuardTag, TooLarge, TooManyNames}

-- a resolved program, part by part
abbrev pub parts_of : Resolved → Parts
parts_of resolved = resolved.parts

-- how many different names the labels may have
abbrev pub most_names : ℕ
most_names = 4096

abbrev pub fault_at : Reason → ℕ → ScopeFault
fault_at reason.Unknown at = Unknown at
fault_at reason.Twice at = Twice at
fault_at reason.Arity at = Arity at
fault_at reason.GuardTag at = GuardTag at

-- the boxes and the claims with their trees, one of which is the program's, or that one is too large
abbrev pub resolved : List (List ℕ) → List BoxProgram → ℕ → Result (List Claim) ℕ → Result Parts ScopeFault
resolved names boxes main (Ok claims) = if nat_lt main (length claims) then Ok (record { names = names; boxes = boxes; claims = claims; main = main }) else Err NoMain
resolved names boxes main (Err place) = Err (TooLarge place)

-- one of the outermost nets is the program's, or there is none
abbrev pub with_main : List (List ℕ) → Declarations → Option ℕ → Result Parts ScopeFault
with_main names st None = Err NoMain
with_main names st (Some main) = if nat_le (length names) most_names then resolved names st.boxes main (claims_within st most_nodes st.claims) else Err TooManyNames

-- nothing is refused at a place, or the first refusal comes
abbrev pub unless_refused : List (List ℕ) → Declarations → Option Refusal → Result Parts ScopeFault
unless_refused names st None = with_main names st st.main
unless_refused names st (Some refusal) = Err (fault_at refusal.reason refusal.at)

-- what is declared under names
abbrev pub resolution_under : List (List ℕ) → Program → Result Parts ScopeFault
resolution_under names program = unless_refused names (declarations_of names program) (declarations_of names program).refusals

-- the program with the names of its labels: refusals at a place come first, then that there is no main net, that there are too many names, and that a tree is too large
abbrev pub resolution : Program → Result Parts ScopeFault
resolution program = resolution_under (names_of program) program
