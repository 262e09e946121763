-- What a merge makes of a dispatcher, and what it gives.
use Rattle.std.specs.Prelude.{ℕ, zero, suc, Bool, true, false, List, [], ◌∷◌, Option, None, Some, slice_get}
use Rattle.sn_streams.specs.Keys.{key_eq}
use Rattle.sn_view.specs.Epochs.{Epochs, marked, stands_at_output, is_passed, moved_on}
use Rattle.sn_net.specs.Item.{ModelItem}
use Rattle.sn_view.specs.View.{Entry, It, Mark, End, Turn, To, Own, State, InTurn, Freely, Child, Node, first_of, rest_of}
use Rattle.sn_view.specs.Next.{keeps, takes_kept}

pub record Moved : Type 0 where
  pub node : Node
  pub entries : List (Entry ModelItem)

abbrev pub moved : Node → List (Entry ModelItem) → Option Moved
moved n es = Some (record { node = n; entries = es })

-- an entry of the group that is served
abbrev pub group_moved : Node → ℕ → List (Entry Turn) → Option (Entry ModelItem) → Option Moved
group_moved n c ds (Some (It y)) = moved (takes_kept c n) (It y ∷ [])
group_moved n c ds (Some Mark) = moved (keeps (InTurn (rest_of ds)) (takes_kept c n)) []
group_moved n c ds (Some End) = moved (takes_kept c n) []
group_moved n c ds None = None

-- of the child whose turn it is
abbrev pub turn_moved : Bool → Node → ℕ → List (Entry Turn) → Child → Option Moved
turn_moved true n c ds child = group_moved n c ds (first_of child.kept)
turn_moved false n c ds child = None

abbrev pub det_moved : Node → ℕ → List (Entry Turn) → Option (Entry Turn) → Option Child → Option Moved
det_moved n zero ds (Some (It (Own y))) child = moved (keeps (InTurn (rest_of ds)) n) (It y ∷ [])
det_moved n zero ds (Some Mark) child = moved (keeps (InTurn (rest_of ds)) n) (Mark ∷ [])
det_moved n zero ds (Some End) child = moved (keeps (InTurn (rest_of ds)) n) (End ∷ [])
det_moved n (suc c) ds (Some (It (To k))) (Some child) = turn_moved (key_eq k child.key) n (suc c) ds child
det_moved n c ds d child = None

-- a mark of a child
abbrev pub mark_moved : Bool → Node → ℕ → Epochs → Option Moved
mark_moved true n c e = moved (keeps (Freely (moved_on e)) (takes_kept c n)) (Mark ∷ [])
mark_moved false n c e = moved (keeps (Freely e) (takes_kept c n)) []

abbrev pub free_moved : Node → ℕ → Epochs → Option (Entry ModelItem) → Option Moved
free_moved n c e (Some (It y)) = moved (takes_kept c n) (It y ∷ [])
free_moved n c e (Some Mark) = mark_moved (is_passed (marked c e)) n c (marked c e)
free_moved n c e (Some End) = moved (takes_kept c n) (End ∷ [])
free_moved n c e None = None

-- of a child in the output's epoch
abbrev pub epoch_moved : Bool → Node → ℕ → Epochs → Option Child → Option Moved
epoch_moved true n c e (Some child) = free_moved n c e (first_of child.kept)
epoch_moved b n c e child = None

abbrev pub state_moved : Node → ℕ → State → Option Child → Option Moved
state_moved n c (InTurn ds) child = det_moved n c ds (first_of ds) child
state_moved n c (Freely e) child = epoch_moved (stands_at_output e c) n c e child
state_moved n c other child = None

abbrev pub merged : Node → ℕ → Option Moved
merged n c = state_moved n c n.state (slice_get n.children c)
