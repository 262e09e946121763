-- How high a tree is, and how wide the faces in it are.
use Rattle.std.specs.Prelude.{ℕ, ◌≤◌, suc, List, [], ◌∷◌, length, max}
use Rattle.sn_net.specs.Face.{face}
use Rattle.sn_net.specs.declared.expr.BoxProgram.{BoxProgram}
use Rattle.sn_net.specs.declared.net.Net.{Net, fold-Net}
use Rattle.sn_net.specs.declared.net.Net.TheOpen.{Net-F}
use Rattle.sn_net.specs.declared.net.Net.TheViews.{out-Net}
use Rattle.sn_scope.specs.Trees.{most_variants}
use Rattle.sn_scope_rules.specs.Standing.{StandsWithin}

-- what a form is made of
abbrev pub parts_in : {A : Type 0} → Net-F A → List A
parts_in (Net-F.Box place number) = []
parts_in (Net-F.Filter filter) = []
parts_in (Net-F.Sync place patterns) = []
parts_in (Net-F.Serial left right) = left ∷ right ∷ []
parts_in (Net-F.Choice place merge branches faces) = branches
parts_in (Net-F.Star place merge body exit guard) = body ∷ []
parts_in (Net-F.Split place merge body tag) = body ∷ []

abbrev pub parts_of : Net → List Net
parts_of tree = parts_in (out-Net tree)

abbrev pub greatest : List ℕ → ℕ
greatest [] = 0
greatest (number ∷ numbers) = max number (greatest numbers)

-- one level more than the highest part has
abbrev pub height : Net → ℕ
height = fold-Net ℕ (λ form. suc (greatest (parts_in form)))

-- no more levels than that, and no node in the tree whose face has too many variants
pub record Fits (boxes : List BoxProgram) (levels : ℕ) (tree : Net) : Type 0 where
  pub low : height tree ≤ levels
  pub narrow : (node : Net) → StandsWithin parts_of node tree → length (face boxes node) ≤ most_variants
