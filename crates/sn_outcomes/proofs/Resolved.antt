-- The bytes of a source are resolved to parts, or refused for one thing before types are asked.
use Rattle.std.proofs.Common.{ℕ, List, ◌≡◌, refl, sym, ◌∙◌, ap}
use Rattle.std.specs.Prelude.{Result, Ok, Err}
use Rattle.sn_ast.specs.declared.declaration.Program.{Program as Tree}
use Rattle.sn_outcomes.proofs.Sources.{IsRead, read_once, wrong_read}
use Rattle.sn_scope.specs.Resolution.{resolution}
use Rattle.sn_scope.specs.declared.resolved.Parts.{Parts}
use Rattle.sn_label_scope.specs.declared.fault.ScopeFault.{ScopeFault}
use Rattle.sn_label_scope.specs.declared.fault.ScopeFault.TheVariants as scope
use Rattle.sn_load.specs.Scope.{IsResolved, IsUnresolved, IsWrongAt}
use Rattle.sn_stop.specs.declared.refusal.Refusal.{Refusal}
use Rattle.sn_stop.specs.declared.refusal.Refusal.TheVariants.{Source as SourceAt, NoMain, LargeTree, TooManyNames}
use Rattle.sn_stop.specs.declared.refusal.SourceFault.{SourceFault}
use Rattle.sn_stop.specs.declared.refusal.SourceFault.TheVariants.{BadUtf8, BadChar, NumberTooWide, TextOpen, Unexpected, Unknown, Twice, Arity, GuardTag}

-- the refusal of a name; want of memory is none
abbrev scope_refusal : ScopeFault → Refusal
scope_refusal (scope.Unknown at) = SourceAt Unknown at
scope_refusal (scope.Twice at) = SourceAt Twice at
scope_refusal (scope.Arity at) = SourceAt Arity at
scope_refusal (scope.GuardTag at) = SourceAt GuardTag at
scope_refusal scope.NoMain = NoMain
scope_refusal (scope.TooLarge at) = LargeTree at
scope_refusal scope.TooManyNames = TooManyNames
scope_refusal scope.Memory = NoMain

abbrev of_resolution : Result Parts ScopeFault → Result Parts Refusal
of_resolution (Ok parts) = Ok parts
of_resolution (Err fault) = Err (scope_refusal fault)

-- what comes of what a source is read as
resolved : Result Tree Refusal → Result Parts Refusal
resolved (Ok tree) = of_resolution (resolution tree)
resolved (Err refusal) = Err refusal

resolved_tree : (tree : Tree) (result : Result Parts ScopeFault) → resolution tree ≡ result → resolved (Ok tree) ≡ of_resolution result
unfolding resolved
resolved_tree tree result e = ap of_resolution e

resolved_wrong : (refusal : Refusal) → resolved (Err refusal) ≡ Err refusal
unfolding resolved
resolved_wrong refusal = refl

-- what the bytes are resolved to
pub record AreParts (bytes : List ℕ) (found : Result Parts Refusal) : Type 0 where
  read : Result Tree Refusal
  is_read : IsRead bytes read
  is : found ≡ resolved read

pub parts_once : (bytes : List ℕ) (found other : Result Parts Refusal) → AreParts bytes found → AreParts bytes other → found ≡ other
parts_once bytes found other x y = x.is ∙ ap resolved (read_once bytes x.read y.read x.is_read y.is_read) ∙ sym y.is

pub wrong_parts : (bytes : List ℕ) (refusal : Refusal) → IsRead bytes (Err refusal) → AreParts bytes (Err refusal)
wrong_parts bytes refusal r = record { read = Err refusal; is_read = r; is = sym (resolved_wrong refusal) }

pub unresolved_parts : (bytes : List ℕ) (fault : ScopeFault) → IsUnresolved bytes fault → AreParts bytes (Err (scope_refusal fault))
unresolved_parts bytes fault u = record { read = Ok u.tree; is_read = IsRead.tree u.read; is = sym (resolved_tree u.tree (Err fault) u.refused) }

pub resolved_parts : (bytes : List ℕ) (parts : Parts) → IsResolved bytes parts → AreParts bytes (Ok parts)
resolved_parts bytes parts r = record { read = Ok r.tree; is_read = IsRead.tree r.read; is = sym (resolved_tree r.tree (Ok parts) r.is) }

pub wrong_at : (bytes : List ℕ) (fault : SourceFault) (at : ℕ) → IsWrongAt bytes fault at → AreParts bytes (Err (SourceAt fault at))
wrong_at bytes BadUtf8 at w = wrong_parts bytes (SourceAt BadUtf8 at) (wrong_read bytes BadUtf8 at w)
wrong_at bytes BadChar at w = wrong_parts bytes (SourceAt BadChar at) (wrong_read bytes BadChar at w)
wrong_at bytes NumberTooWide at w = wrong_parts bytes (SourceAt NumberTooWide at) (wrong_read bytes NumberTooWide at w)
wrong_at bytes TextOpen at w = wrong_parts bytes (SourceAt TextOpen at) (wrong_read bytes TextOpen at w)
wrong_at bytes Unexpected at w = wrong_parts bytes (SourceAt Unexpected at) (wrong_read bytes Unexpected at w)
wrong_at bytes Unknown at w = unresolved_parts bytes (scope.Unknown at) w
wrong_at bytes Twice at w = unresolved_parts bytes (scope.Twice at) w
wrong_at bytes Arity at w = unresolved_parts bytes (scope.Arity at) w
wrong_at bytes GuardTag at w = unresolved_parts bytes (scope.GuardTag at) w
