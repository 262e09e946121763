-- Marks to several nodes.
use Rattle.std.specs.Prelude.{ℕ, List, [], ◌∷◌}
use Rattle.sn_view.specs.View.{Mark, ToNode, View}
use Rattle.sn_view.specs.Next.{send}

-- a mark at each of these nodes, in order
abbrev pub marked_all : List ℕ → View → View
marked_all [] g = g
marked_all (entry ∷ entries) g = marked_all entries (send (ToNode entry) (Mark ∷ []) g)
