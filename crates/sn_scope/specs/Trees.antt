-- The trees of claims: each name of a net stands for a copy of that net's tree, within limits on height, faces and nodes.
use Rattle.std.specs.Prelude.{ℕ, zero, suc, ◌-◌, nat_le, nat_lt, if◌then◌else◌, List, [], ◌∷◌, ◌++◌, length, map as each, get_or, slice_get, Option, Some, None, Result, Ok, Err}
use Rattle.std.specs.Option.{option_map}
use Rattle.sn_net.specs.Face.{face}
use Rattle.sn_net.specs.Net.{nodes}
use Rattle.sn_net.specs.declared.expr.BoxProgram.{BoxProgram}
use Rattle.sn_net.specs.declared.net.Claim.{Claim}
use Rattle.sn_net.specs.declared.net.Net.{Net}
use Rattle.sn_net.specs.declared.net.Net.TheVariants as net
use Rattle.sn_scope.specs.declared.declarations.Declarations.{Declarations}
use Rattle.sn_scope.specs.declared.declarations.Pending.{Pending}
use Rattle.sn_scope.specs.declared.declarations.Signature.{Signature}
use Rattle.sn_scope.specs.declared.network.Component.{Component}
use Rattle.sn_scope.specs.declared.network.Component.TheOpen.{Component-F}
use Rattle.sn_scope.specs.declared.network.Component.TheVariants.{Serial}
use Rattle.sn_scope.specs.declared.network.Network.{Network}
use Rattle.sn_scope.specs.declared.network.Component.TheOpen.{Network-F}
use Rattle.sn_scope.specs.declared.network.Component.TheViews.{out-Component, out-Network}

-- how many nodes one below another a tree may have, how many variants a face, and how many nodes all trees together
abbrev pub most_levels : ℕ
most_levels = 256

abbrev pub most_variants : ℕ
most_variants = 1024

abbrev pub most_nodes : ℕ
most_nodes = 65536

abbrev pub then_some : {A B : Type 0} → Option A → (A → Option B) → Option B
then_some None next = None
then_some (Some x) next = next x

-- each of them, or nothing where one is nothing
abbrev pub all_some : List (Option Net) → Option (List Net)
all_some [] = Some []
all_some (first ∷ rest) = then_some first (λ net. option_map (λ nets. net ∷ nets) (all_some rest))

-- the component that a part of a network stands for
abbrev pub component_step : List Component → Network-F Component Network → Option Component
component_step nets (Network-F.Named number) = slice_get nets number
component_step nets (Network-F.Made component) = Some component

abbrev pub component_of : List Component → Network → Option Component
component_of nets network = component_step nets (out-Network network)

abbrev pub in_series : Option Net → Option Net → Option Net
in_series left right = then_some left (λ l. option_map (λ r. net.Serial l r) right)

-- the first part, in series with the rest
abbrev pub series : (Network → Option Net) → (List Network → Option Net) → List Network → Option Net
series part rest [] = None
series part rest (first ∷ []) = None
series part rest (first ∷ second ∷ []) = in_series (part first) (part second)
series part rest (first ∷ second ∷ third ∷ more) = in_series (part first) (rest (second ∷ third ∷ more))

-- a call of the box of the number, where there is such a box
abbrev pub call : List BoxProgram → ℕ → ℕ → Option Net
call boxes place number = if nat_lt number (length boxes) then Some (net.Box place number) else None

-- one level, over the trees of its parts
abbrev pub node_step : List BoxProgram → (Network → Option Net) → (List Network → Option Net) → Component-F Component Network → Option Net
node_step boxes part rest (Component-F.Box place number) = call boxes place number
node_step boxes part rest (Component-F.Filter filter) = Some (net.Filter filter)
node_step boxes part rest (Component-F.Sync place patterns) = Some (net.Sync place patterns)
node_step boxes part rest (Component-F.Serial parts) = series part rest parts
node_step boxes part rest (Component-F.Choice place merge branches) = option_map (λ nets. net.Choice place merge nets (each (face boxes) nets)) (all_some (each part branches))
node_step boxes part rest (Component-F.Star place merge body exit guard) = option_map (λ tree. net.Star place merge tree exit guard) (part body)
node_step boxes part rest (Component-F.Split place merge body tag) = option_map (λ tree. net.Split place merge tree tag) (part body)

-- one node, over the trees of its parts
abbrev pub node : List BoxProgram → (Network → Option Net) → (List Network → Option Net) → Component → Option Net
node boxes part rest component = node_step boxes part rest (out-Component component)

-- nothing where the face has too many variants
abbrev pub narrow : List BoxProgram → Net → Option Net
narrow boxes tree = if nat_le (length (face boxes tree)) most_variants then Some tree else None

-- the tree of a component over the boxes and nets that were declared, with so many levels at most and no node whose face is too wide
abbrev pub tree : List BoxProgram → ℕ → List Component → Component → Option Net
tree boxes zero nets component = None
tree boxes (suc levels) nets component =
    then_some (node boxes (λ part. then_some (component_of nets part) (tree boxes levels nets)) (λ parts. tree boxes levels nets (Serial parts)) component) (narrow boxes)

-- the tree of a net by its number
abbrev pub tree_of : List BoxProgram → List Component → ℕ → Option Net
tree_of boxes nets number = then_some (slice_get nets number) (tree boxes most_levels nets)

-- nothing where there is no room for the nodes
abbrev pub fitting : ℕ → Option Net → Option Net
fitting room made = then_some made (λ tree. if nat_le (nodes tree) room then Some tree else None)

abbrev pub signature_at : Declarations → ℕ → Signature
signature_at st number = get_or st.signatures number (record { input = []; output = [] })

abbrev pub claim_at : Declarations → Pending → Net → Claim
claim_at st pending tree = record { place = pending.place; net = tree; input = (signature_at st pending.signature).input; output = (signature_at st pending.signature).output }

-- claims before others that may be refused
abbrev pub led_by : List Claim → Result (List Claim) ℕ → Result (List Claim) ℕ
led_by claims (Ok more) = Ok (claims ++ more)
led_by claims (Err place) = Err place

-- the tree, or the refusal of the claim at its place
abbrev pub or_refused : ℕ → Option Net → (Net → Result (List Claim) ℕ) → Result (List Claim) ℕ
or_refused place None next = Err place
or_refused place (Some tree) next = next tree

-- the claims with their trees, or the place of the first whose tree is too high, too wide, or past the room that is left
abbrev pub claims_within : Declarations → ℕ → List Pending → Result (List Claim) ℕ
claims_within st room [] = Ok []
claims_within st room (pending ∷ more) =
    or_refused pending.place (fitting room (tree_of st.boxes st.nets pending.net)) (λ tree. led_by (claim_at st pending tree ∷ []) (claims_within st (room - nodes tree) more))
