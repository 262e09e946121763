-- Networks that fit together: what holds of each part of one, at any depth.
use Rattle.std.specs.Prelude.{◌≡◌, ℕ, ◌<◌, ◌≤◌, IsTrue, IfSome, List, length, map, All}
use Rattle.sn_record.specs.LabelSet.{Labels}
use Rattle.sn_net.specs.declared.expr.BoxProgram.{BoxProgram}
use Rattle.sn_net.specs.declared.net.Net.{Net}
use Rattle.sn_net.specs.declared.net.Net.TheOpen.{Net-F}
use Rattle.sn_net.specs.declared.net.Net.TheFolds.{every-Net}
use Rattle.sn_net.specs.Boxes.{IsClosedBox}
use Rattle.sn_net.specs.Face.{face}
use Rattle.sn_net.specs.Filter.{is_over, IsClosed}

-- how many branches a choice may have
abbrev pub most_branches : ℕ
most_branches = 64

-- a choice has few enough branches, and the face of each in its place
pub record IsSoundChoice (boxes : List BoxProgram) (branches : List Net) (faces : List (List Labels)) : Type 0 where
  pub few : length branches ≤ most_branches
  pub paired : faces ≡ map (face boxes) branches

-- one level: a box is one of the boxes, a filter is closed, a choice is sound, and a guard has only tags of the exit pattern
abbrev pub IsSound : List BoxProgram → Net-F Net → Type 0
IsSound boxes (Net-F.Box place number) = number < length boxes
IsSound boxes (Net-F.Filter filter) = IsClosed filter
IsSound boxes (Net-F.Sync place patterns) = Unit {0}
IsSound boxes (Net-F.Serial left right) = Unit {0}
IsSound boxes (Net-F.Choice place merge branches faces) = IsSoundChoice boxes branches faces
IsSound boxes (Net-F.Star place merge body exit guard) = IfSome guard (λ test. IsTrue (is_over exit test))
IsSound boxes (Net-F.Split place merge body id) = Unit {0}

-- each box is closed, and each part of the network is sound, at any depth
pub record IsWellFormed (boxes : List BoxProgram) (net : Net) : Type 0 where
  pub closed : All IsClosedBox boxes
  pub sound : every-Net (IsSound boxes) net

-- the same as a fact with one proof alone, which a type may keep
abbrev pub FitsBoxes : List BoxProgram → Net → Type 0
FitsBoxes boxes net = ∥ IsWellFormed boxes net ∥₁
