-- Which declaration a name stands for.
use Rattle.std.specs.Prelude.{ℕ, Bool, List, [], ◌∷◌, ◌++◌, ◌-◌, length, take, get_or, slice_get, ◌==◌, if◌then◌else◌, Option, Some, None}
use Rattle.std.specs.List.{fold}
use Rattle.sn_names.specs.Names.{is_held, entered, number_in}
use Rattle.sn_scope.specs.declared.scopes.Meaning.{Meaning}
use Rattle.sn_scope.specs.declared.scopes.Meaning.TheVariants as meaning
use Rattle.sn_scope.specs.declared.scopes.Scope.{Scope}
use Rattle.sn_scope.specs.declared.scopes.Scopes.{Scopes}

-- a scope without names
abbrev pub empty_scope : Scope
empty_scope = record { names = []; meanings = [] }

-- what stands beside the name in a scope
abbrev pub meaning_in : Scope → List ℕ → Option Meaning
meaning_in scope name = slice_get scope.meanings (number_in scope.names name)

-- the first, or else the second
abbrev pub first_of : Option Meaning → Option Meaning → Option Meaning
first_of (Some meaning) other = Some meaning
first_of None other = other

-- the meaning in the innermost scope that declares the name
abbrev pub meaning_of : Scopes → List ℕ → Option Meaning
meaning_of scopes name = first_of (meaning_in scopes.current name) (fold (λ found scope. first_of (meaning_in scope name) found) None scopes.outer)

abbrev pub type_number : Option Meaning → Option ℕ
type_number (Some (meaning.«Type» number)) = Some number
type_number (Some (meaning.Signature number)) = None
type_number (Some (meaning.Net number)) = None
type_number (Some (meaning.Box number)) = None
type_number None = None

abbrev pub signature_number : Option Meaning → Option ℕ
signature_number (Some (meaning.«Type» number)) = None
signature_number (Some (meaning.Signature number)) = Some number
signature_number (Some (meaning.Net number)) = None
signature_number (Some (meaning.Box number)) = None
signature_number None = None

-- the number of the type or of the signature that the name stands for
abbrev pub type_of : Scopes → List ℕ → Option ℕ
type_of scopes name = type_number (meaning_of scopes name)

abbrev pub signature_of : Scopes → List ℕ → Option ℕ
signature_of scopes name = signature_number (meaning_of scopes name)

abbrev pub is_outermost : Scopes → Bool
is_outermost scopes = length scopes.outer == 0

-- a name gets its meaning, unless it has one in this scope already
abbrev pub declared : Scope → List ℕ → Meaning → Scope
declared scope name meaning = if is_held scope.names name then scope else record { names = entered scope.names name; meanings = scope.meanings ++ meaning ∷ [] }

-- a new scope within the innermost one
abbrev pub entered_scope : Scopes → Scopes
entered_scope scopes = record { outer = scopes.outer ++ scopes.current ∷ []; current = empty_scope }

-- the innermost scope ends, and the one around it goes on
abbrev pub left_scope : Scopes → Scopes
left_scope scopes = record { outer = take (length scopes.outer - 1) scopes.outer; current = get_or scopes.outer (length scopes.outer - 1) empty_scope }
