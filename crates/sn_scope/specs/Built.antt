-- What is built of the trees of claims, and the room that it takes.
use Rattle.std.specs.Prelude.{◌≡◌, ℕ, ◌+◌, ◌<◌, nat_le, if◌then◌else◌, List, [], ◌∷◌, length, map, sum, All, Option, Some, None, IfSome}
use Rattle.sn_net.specs.Faced.{IsFaced, net_of}
use Rattle.sn_net.specs.Net.{nodes}
use Rattle.sn_net.specs.declared.expr.BoxProgram.{BoxProgram}
use Rattle.sn_net.specs.declared.faced.Faced.{Faced}
use Rattle.sn_net.specs.declared.net.Net.{Net}
use Rattle.sn_scope.specs.Trees.{component_of, most_variants, node, series, then_some, tree}
use Rattle.sn_scope.specs.declared.network.Component.{Component}
use Rattle.sn_scope.specs.declared.network.Component.TheVariants.{Serial}
use Rattle.sn_scope.specs.declared.network.Network.{Network}

-- the trees of a part of a network, and of parts in series
abbrev pub part_of : List BoxProgram → ℕ → List Component → Network → Option Net
part_of boxes levels nets part = then_some (component_of nets part) (tree boxes levels nets)

abbrev pub parts_of : List BoxProgram → ℕ → List Component → List Network → Option Net
parts_of boxes levels nets parts = tree boxes levels nets (Serial parts)

-- the trees of one part, or of several in series
abbrev pub rest_of : List BoxProgram → ℕ → List Component → List Network → Option Net
rest_of boxes levels nets [] = parts_of boxes levels nets []
rest_of boxes levels nets (last ∷ []) = part_of boxes levels nets last
rest_of boxes levels nets (first ∷ second ∷ more) = parts_of boxes levels nets (first ∷ second ∷ more)

-- nodes over parts with so many levels
abbrev pub series_of : List BoxProgram → ℕ → List Component → List Network → Option Net
series_of boxes levels nets parts = series (part_of boxes levels nets) (parts_of boxes levels nets) parts

abbrev pub node_of : List BoxProgram → ℕ → List Component → Component → Option Net
node_of boxes levels nets component = node boxes (part_of boxes levels nets) (parts_of boxes levels nets) component

-- nothing where the face has too many variants
abbrev pub narrowed : Option Faced → Option Faced
narrowed None = None
narrowed (Some faced) = if nat_le (length faced.face) most_variants then Some faced else None

-- the tree stands beside its face, and its nodes took room
pub record IsMade (boxes : List BoxProgram) (defined : Option Net) (old new : ℕ) (faced : Faced) : Type 0 where
  pub same : defined ≡ Some faced.net
  pub beside : IsFaced boxes faced
  pub room : nodes faced.net + new ≡ old

-- the tree was made, or there is none, or too little room for it
abbrev pub IsBuilt : List BoxProgram → Option Net → ℕ → ℕ → Option Faced → Type 0
IsBuilt boxes defined old new (Some faced) = IsMade boxes defined old new faced
IsBuilt boxes defined old new None = IfSome defined (λ net. old < nodes net)

-- the nodes of several trees
abbrev pub all_nodes : List Net → ℕ
all_nodes nets = sum (map nodes nets)

pub record AreMade (boxes : List BoxProgram) (defined : Option (List Net)) (old new : ℕ) (made : List Faced) : Type 0 where
  pub same : defined ≡ Some (map net_of made)
  pub beside : All (IsFaced boxes) made
  pub room : all_nodes (map net_of made) + new ≡ old

-- the trees were made, or there is none of one, or too little room for them
abbrev pub AreBuilt : List BoxProgram → Option (List Net) → ℕ → ℕ → Option (List Faced) → Type 0
AreBuilt boxes defined old new (Some made) = AreMade boxes defined old new made
AreBuilt boxes defined old new None = IfSome defined (λ nets. old < all_nodes nets)
