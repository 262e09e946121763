-- No item lacks a route: none that waits is stuck, and none that a node passes on next would be.
use Rattle.std.specs.Prelude.{◌≡◌, IsTrue, ℕ, Bool, true, false, not, slice_get, Some, IfSome}
use Rattle.std.specs.List.{list_all}
use Rattle.sn_streams.specs.Forks.{Router}
use Rattle.sn_net.specs.declared.net.Net.{Net}
use Rattle.sn_net.specs.declared.net.Net.TheOpen.{Net-F}
use Rattle.sn_record.specs.Record.{Entries}
use Rattle.sn_net.specs.Item.{ModelItem, Rec, is_stuck, holds_stuck}
use Rattle.sn_model.specs.Components.{box_item}
use Rattle.sn_model.specs.Run.{boxes_of, fuel_of}
use Rattle.sn_view.specs.View.{Entry, It, Mark, End, Waiting, Plain, InFlight, Finished, Turn, To, Own, Child, Node, View}
use Rattle.sn_view.specs.Next.{form_of, local_of, routing_of}
use Rattle.sn_view.specs.Seen.{turns_of_state}

abbrev pub is_going : Entry ModelItem → Bool
is_going (It x) = not (is_stuck x)
is_going Mark = true
is_going End = true

abbrev pub waits_going : Waiting → Bool
waits_going (Plain e) = is_going e
waits_going (InFlight call given) = true
waits_going (Finished given) = true

abbrev pub is_going_turn : Entry Turn → Bool
is_going_turn (It (To k)) = true
is_going_turn (It (Own y)) = not (is_stuck y)
is_going_turn Mark = true
is_going_turn End = true

-- what becomes of an item where it passes the children by is not stuck
abbrev pub has_route : Router ModelItem → Entry ModelItem → Bool
has_route r (It x) = not (is_stuck (r.own x))
has_route r Mark = true
has_route r End = true

abbrev pub is_dispatching : Net-F Net → Bool
is_dispatching (Net-F.Box place number) = false
is_dispatching (Net-F.Filter filter) = false
is_dispatching (Net-F.Sync place patterns) = false
is_dispatching (Net-F.Serial left right) = false
is_dispatching (Net-F.Choice place merge branches faces) = true
is_dispatching (Net-F.Star place merge body exit guard) = true
is_dispatching (Net-F.Split place merge body id) = true

pub record IsRoutedNode (g : View) (n : Node) : Type 0 where
  pub waiting : IsTrue (list_all waits_going n.waiting)
  pub decided : IsTrue (list_all is_going_turn (turns_of_state n.state))
  pub kept : (c : ℕ) (child : Child) → slice_get n.children c ≡ Some child → IsTrue (list_all is_going child.kept)
  -- what a component passes on next
  pub passes : IfSome (local_of g n) (λ given. IsTrue (list_all is_going given.entries))
  -- the first entry of a dispatcher
  pub routes : IfSome (routing_of g n) (λ routing. IsTrue (has_route routing.router routing.entry))

pub record AllRouted (g : View) : Type 0 where
  pub nodes : (i : ℕ) (n : Node) → slice_get g.nodes i ≡ Some n → IsRoutedNode g n
  pub ready : IsTrue (list_all is_going g.ready)
  pub out : holds_stuck g.out ≡ false

-- a box answers no record that waits at it without a call with what is stuck
abbrev pub BoxesAreFed : View → Type 0
BoxesAreFed g = (i p place number : ℕ) (n : Node) (given : Entries) → slice_get g.nodes i ≡ Some n → form_of g n ≡ Some (Net-F.Box place number)
    → slice_get n.waiting p ≡ Some (Plain (It (Rec given))) → holds_stuck (box_item (boxes_of g.run) (fuel_of g.run) place number (Rec given)) ≡ false
