-- Where the nodes of a part of a run's network are to stand, and new ones there.
use Rattle.std.specs.Prelude.{◌≡◌, ℕ, List, [], map, Some}
use Rattle.sn_streams.specs.Keys.{Key}
use Rattle.sn_histories.specs.Histories.{In, Out}
use Rattle.sn_net.specs.Cell.{CellState}
use Rattle.sn_net.specs.declared.net.Net.{Net}
use Rattle.sn_model.specs.declared.run.Run.{Run}
use Rattle.sn_model.specs.declared.step.Step.{Step}
use Rattle.sn_net_histories.specs.Histories.{Whole, history}
use Rattle.sn_net_histories.specs.Places.{tree_step}
use Rattle.sn_view.specs.Parts.{part_at}
use Rattle.sn_routed.specs.Spots.{spot_at}
use Rattle.sn_stream.specs.Ends.{End}
use Rattle.sn_component.specs.Facts.{history_for}
use Rattle.sn_component.specs.Seen.{Working}
use Rattle.sn_fork.specs.Seen.{ChildSeen, Forking}

-- the path leads to this part of the run's network, and the steps to where it stands
pub record LeadTo (run : Run) (net : Net) (path : List ℕ) (steps : List Step) : Type 0 where
  pub there : part_at run.net path ≡ Some net
  pub reached : spot_at run.depth (Whole run.net) (map tree_step steps) ≡ Some (Whole net)

-- the ends are for what comes in where the steps lead and for what leaves, and have moved nothing
pub record AreNewAt (run : Run) (steps : List Step) (input output : End) : Type 0 where
  pub comes : history_for input.made ≡ history run (map tree_step steps) In
  pub leaves : history_for output.made ≡ history run (map tree_step steps) Out
  pub got : input.moved ≡ []
  pub put : output.moved ≡ []

-- a child of the key, which stands where the steps lead; nothing was given to it, and nothing came from it
pub record IsNewChildAt (run : Run) (steps : List Step) (key : Key) (child : ChildSeen) : Type 0 where
  pub named : child.key ≡ key
  pub ways : AreNewAt run steps child.to child.from
  pub held : child.held ≡ []

-- a component that has received nothing, and a fork
abbrev pub new_component : Run → List ℕ → CellState → End → End → Working
new_component run path state input output = record { run = run; path = path; state = state; input = input; waiting = []; output = output; held = [] }

abbrev pub new_fork : Run → List ℕ → ℕ → List Step → End → List ChildSeen → End → Forking
new_fork run path left steps input children output = record {
  run = run;
  path = path;
  left = left;
  steps = steps;
  input = input;
  waiting = [];
  decisions = [];
  children = children;
  output = output;
  held = [];
}
