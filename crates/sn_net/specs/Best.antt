-- What the best branch is, and how it is found, a branch at a time.
use Rattle.std.specs.Prelude.{◌≡◌, ℕ, ◌+◌, ◌<◌, ◌≤◌, if◌then◌else◌, IfSome, All, List, [], ◌∷◌, take, slice_get, Option, None, Some, nat_le}
use Rattle.sn_record.specs.LabelSet.{Labels}
use Rattle.sn_record.specs.Record.{Entries, score}
use Rattle.sn_net.specs.declared.routing.Best.{Best}

-- the record has a score against the face at i, no greater one against any, and none or a smaller one against each left of i
pub record IsBest (faces : List (List Labels)) (r : Entries) (i : ℕ) : Type 0 where
  pub face : List Labels
  pub size : ℕ
  pub here : slice_get faces i ≡ Some face
  pub scored : score face r ≡ Some size
  pub greatest : All (λ other. IfSome (score other r) (λ n. n ≤ size)) faces
  pub leftmost : All (λ other. IfSome (score other r) (λ n. n < size)) (take i faces)

-- the better of two; of equals the first
abbrev pub better : Option Best → Best → Option Best
better None next = Some next
better (Some earlier) next = if nat_le next.size earlier.size then Some earlier else Some next

-- the best so far, or the next branch, where the record's score against its face is greater
abbrev pub after_branch : Option Best → ℕ → Option ℕ → Option Best
after_branch best branch None = best
after_branch best branch (Some size) = better best (record { branch = branch; size = size })

-- the best so far, or a better one of the branches from i on, which have these faces
abbrev pub best_from : Option Best → ℕ → List (List Labels) → Entries → Option Best
best_from best i [] r = best
best_from best i (face ∷ faces) r = best_from (after_branch best i (score face r)) (i + 1) faces r
