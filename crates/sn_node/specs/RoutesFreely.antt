-- What a free dispatcher does with its first entry.
use Rattle.std.specs.Prelude.{◌≡◌, ℕ, ◌<◌, false, [], ◌∷◌, Result, Ok, Err}
use Rattle.sn_streams.specs.Forks.{Router}
use Rattle.sn_streams.specs.Keys.{Key as StreamKey, Own as OwnKey, key_eq}
use Rattle.sn_net.specs.Item.{ModelItem, modelled}
use Rattle.sn_record.specs.declared.item.Item.{Item}
use Rattle.sn_view.specs.Epochs.{Epochs, closed}
use Rattle.sn_view.specs.View.{Entry, It, Mark, End, Node, State, Freely, child_gives}
use Rattle.sn_view.specs.Next.{keeps, passed}
use Rattle.sn_node.specs.declared.route_free.Sent.{Sent}
use Rattle.sn_node.specs.declared.route_free.Sent.TheVariants as out

-- an item passes the children by as this, or goes to one
pub record PassesBy (r : Router ModelItem) (x : ModelItem) (k : StreamKey) (y : Item) : Type 0 where
  pub own : k ≡ OwnKey
  pub as_own : modelled y ≡ r.own x

pub record GoesTo (x : ModelItem) (k : StreamKey) (y : Item) : Type 0 where
  pub other : key_eq k OwnKey ≡ false
  pub same : modelled y ≡ x

abbrev pub GoesOut : Router ModelItem → ModelItem → StreamKey → Result Item Item → Type 0
GoesOut r x k (Ok y) = PassesBy r x k y
GoesOut r x k (Err y) = GoesTo x k y

-- fewer marks came in than so many
abbrev pub marks_below : ℕ → State → Type 0
marks_below most (Freely e) = e.input < most
marks_below most other = Unit {0}

-- a mark came in
pub record Closes (old new : State) : Type 0 where
  pub epochs : Epochs
  pub was : old ≡ Freely epochs
  pub now : new ≡ Freely (closed epochs)

pub record RoutedOwn (r : Router ModelItem) (x : ModelItem) (k : StreamKey) (old new : Node) : Type 0 where
  pub own : k ≡ OwnKey
  pub now : new ≡ child_gives 0 (It (r.own x) ∷ []) (passed old)

pub record RoutedTo (x : ModelItem) (k : StreamKey) (y : Item) (old new : Node) : Type 0 where
  pub other : key_eq k OwnKey ≡ false
  pub same : modelled y ≡ x
  pub now : new ≡ passed old

pub record RoutedMark (old new : Node) : Type 0 where
  pub epochs : Epochs
  pub was : old.state ≡ Freely epochs
  pub now : new ≡ keeps (Freely (closed epochs)) (child_gives 0 (Mark ∷ []) (passed old))

-- what passes waits at child 0; an item for another child, and a mark for all others, is given out
abbrev pub FreelyRoutes : Router ModelItem → Entry ModelItem → StreamKey → Sent → Node → Node → Type 0
FreelyRoutes r (It x) k out.Nothing old new = RoutedOwn r x k old new
FreelyRoutes r (It x) k (out.Item y) old new = RoutedTo x k y old new
FreelyRoutes r Mark k out.Marks old new = RoutedMark old new
FreelyRoutes r End k out.Nothing old new = new ≡ child_gives 0 (End ∷ []) (passed old)
FreelyRoutes r e k sent old new = ⊥
