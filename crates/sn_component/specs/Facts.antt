-- What the types of nodes keep.
use Rattle.std.specs.Prelude.{◌≡◌, ℕ, List, [], ◌++◌, drop, Some}
use mathlib.Core.List.{IsPrefix}
use Rattle.sn_streams.specs.Segments.{Segments}
use Rattle.sn_streams.specs.Trees.{Component}
use Rattle.sn_histories.specs.Entries.{Entry}
use Rattle.sn_histories.specs.Histories.{In, Out}
use Rattle.sn_histories.specs.Sites.{Step}
use Rattle.sn_net.specs.Item.{ModelItem}
use Rattle.sn_net.specs.declared.net.Net.{Net}
use Rattle.sn_net.specs.declared.net.Net.TheViews.{out-Net}
use Rattle.sn_model.specs.declared.run.Run.{Run}
use Rattle.sn_model.specs.Run.{items_of, setting_of}
use Rattle.sn_net_histories.specs.Histories.{IsAtRun, history}
use Rattle.sn_net_histories.specs.Places.{history_at}
use Rattle.sn_view.specs.Parts.{part_at}
use Rattle.sn_stream.specs.Ends.{Made, passed}
use Rattle.sn_stream.specs.Ended.{ended}
use Rattle.sn_facts.specs.Working.{Works}
use Rattle.sn_component.specs.Component.{machine_of, start_of}
use Rattle.sn_component.specs.Seen.{Sourcing, Working, given_by}

-- the history of the place that an end is for
abbrev pub history_for : Made → List (Entry ModelItem)
history_for made = history_at made.run made.place

-- At steps of the run stands the component that the part at a path is. What comes in there comes from one end, and what leaves goes to the other.
pub record StandsAt (run : Run) (path : List ℕ) (input output : Made) : Type 0 where
  pub net : Net
  pub there : part_at run.net path ≡ Some net
  pub steps : List Step
  pub seg : Segments ModelItem
  pub at : IsAtRun run steps (record { part = Component (machine_of (setting_of run) (out-Net net)) (start_of (out-Net net)); seg = seg })
  pub comes : history_for input ≡ history run steps In
  pub leaves : history_for output ≡ history run steps Out

-- A box, a filter or a synchrocell: what it has got is what it has received and what waits; what it has given is what its machine makes of
-- what it has received.
pub record WorksOff (w : Working) : Type 0 where
  pub stands : StandsAt w.run w.path w.input.made w.output.made
  pub received : List (Entry ModelItem)
  pub got : passed w.input.moved ≡ received ++ passed w.waiting
  pub begins : IsPrefix (passed w.input.moved) (history_for w.input.made)
  pub works : Works (machine_of (setting_of w.run) (out-Net stands.net)) (start_of (out-Net stands.net)) received w.state (given_by w.output w.held)

-- one that has received nothing
pub record IsFresh (w : Working) : Type 0 where
  pub stands : StandsAt w.run w.path w.input.made w.output.made
  pub state : w.state ≡ start_of (out-Net stands.net)
  pub got : w.input.moved ≡ []
  pub put : w.output.moved ≡ []

-- The source: what it has given, and what it still has, are the run's items and the end, which are the history of its way out.
pub record Feeds (s : Sourcing) : Type 0 where
  pub whole : history_for s.output.made ≡ ended (items_of s.run)
  pub image : given_by s.output s.held ++ drop s.next (ended (items_of s.run)) ≡ ended (items_of s.run)
