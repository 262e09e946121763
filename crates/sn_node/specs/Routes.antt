-- Where a dispatcher sends its first entry, as the code finds it.
use Rattle.std.specs.Prelude.{◌≡◌, ℕ, IsTrue, Option, None, Some}
use Rattle.sn_streams.specs.Forks.{Router}
use Rattle.sn_streams.specs.Keys.{Key as StreamKey}
use Rattle.sn_streams.specs.Keys as key
use Rattle.sn_net.specs.declared.net.Net.{Net}
use Rattle.sn_net.specs.declared.net.Net.TheOpen.{Net-F}
use Rattle.sn_net.specs.declared.routing.Key.{Key}
use Rattle.sn_net.specs.Dispatchers.{stream_key, passed_by}
use Rattle.sn_net.specs.Item.{ModelItem}
use Rattle.sn_view.specs.View.{Entry, It, Mark, End, Node, first_of}
use Rattle.sn_view.specs.Next.{Routing, both, router_of, plain_entry, key_of}
use Rattle.sn_view.specs.Routed.{has_route}

-- the routing of a node with this form
abbrev pub routing_at : Option (Net-F Net) → Node → Option Routing
routing_at form n = both (router_of form n.left) (plain_entry (first_of n.waiting))

-- the place of a dispatcher
abbrev pub place_of : Net-F Net → ℕ
place_of (Net-F.Choice place merge branches faces) = place
place_of (Net-F.Star place merge body exit guard) = place
place_of (Net-F.Split place merge body id) = place
place_of other = 0

-- the key of an item at a dispatcher of this form
pub record KeyIs (form : Net-F Net) (left : ℕ) (x : ModelItem) (k : Key) : Type 0 where
  pub router : Router ModelItem
  pub found : router_of (Some form) left ≡ Some router
  pub key : router.key x ≡ stream_key k
  pub own : router.own x ≡ passed_by (place_of form) k x

-- the first entry goes by that key
pub record GoesBy (routing : Option Routing) (k : Key) : Type 0 where
  pub by : Routing
  pub is : routing ≡ Some by
  pub key : key_of by.router by.entry ≡ stream_key k
  pub place : ℕ
  pub own : (x : ModelItem) → by.entry ≡ It x → by.router.own x ≡ passed_by place k x

-- an entry goes by that key, and has a route
pub record EntryGoes (r : Router ModelItem) (e : Entry ModelItem) (k : Key) : Type 0 where
  pub key : key_of r e ≡ stream_key k
  pub place : ℕ
  pub own : (x : ModelItem) → e ≡ It x → r.own x ≡ passed_by place k x
  pub routed : IsTrue (has_route r e)

-- the item that goes to a child
abbrev pub item_sent : StreamKey → Entry ModelItem → Option ModelItem
item_sent key.Own e = None
item_sent k (It x) = Some x
item_sent k Mark = None
item_sent k End = None
