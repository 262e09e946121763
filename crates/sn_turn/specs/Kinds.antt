-- Nodes of each kind.
use Rattle.std.specs.Prelude.{◌≡◌, ℕ, List, [], length}
use Rattle.sn_stream.specs.Ends.{End}
use Rattle.sn_component.specs.Seen as component
use Rattle.sn_fork.specs.Facts.{Each}
use Rattle.sn_fork.specs.Seen.{IsNew}
use Rattle.sn_fork.specs.Turns as fork
use Rattle.sn_turn.specs.declared.node.Kind.{Kind}
use Rattle.sn_turn.specs.declared.node.Kind.TheVariants as kind

-- the end of the stream that it gives to
abbrev pub way_out : Kind → End
way_out (kind.Source s) = s.output
way_out (kind.Component w) = w.output
way_out (kind.Fork f) = f.output

-- how many entries were got and put
abbrev pub moves_of : Kind → ℕ
moves_of (kind.Source s) = length s.output.moved
moves_of (kind.Component w) = component.moves_of w
moves_of (kind.Fork f) = fork.moves_of f

-- which part of the network it is; the source is before the whole
abbrev pub path_of : Kind → List ℕ
path_of (kind.Source s) = []
path_of (kind.Component w) = w.path
path_of (kind.Fork f) = f.path

-- it has received nothing, and has given nothing
abbrev pub HasBegun : Kind → Type 0
HasBegun (kind.Source s) = (s.next ≡ 0) × (s.output.moved ≡ []) × (s.held ≡ [])
HasBegun (kind.Component w) = (w.input.moved ≡ []) × (w.waiting ≡ []) × (w.output.moved ≡ []) × (w.held ≡ [])
HasBegun (kind.Fork f) =
    (f.input.moved ≡ []) × (f.waiting ≡ []) × (f.decisions ≡ []) × Each IsNew f.children × (f.output.moved ≡ []) × (f.held ≡ [])
