-- A claim with its tree, for which room was taken.
use Rattle.std.specs.Prelude.{◌≡◌, ℕ, ◌-◌, Option, Some, None}
use Rattle.sn_net.specs.Net.{nodes}
use Rattle.sn_net.specs.declared.net.Claim.{Claim}
use Rattle.sn_net.specs.declared.net.Net.{Net}
use Rattle.sn_scope.specs.Trees.{claim_at, fitting, tree_of}
use Rattle.sn_scope.specs.declared.declarations.Declarations.{Declarations}
use Rattle.sn_scope.specs.declared.declarations.Pending.{Pending}

-- its tree fits into the room, and takes what it needs of it
pub record IsFitted (st : Declarations) (pending : Pending) (old new : ℕ) (claim : Claim) : Type 0 where
  pub tree : Net
  pub fits : fitting old (tree_of st.boxes st.nets pending.net) ≡ Some tree
  pub same : claim ≡ claim_at st pending tree
  pub left : new ≡ old - nodes tree

-- the claim was made, or its tree does not fit
abbrev pub IsClaim : Declarations → Pending → ℕ → ℕ → Option Claim → Type 0
IsClaim st pending old new (Some claim) = IsFitted st pending old new claim
IsClaim st pending old new None = fitting old (tree_of st.boxes st.nets pending.net) ≡ None
