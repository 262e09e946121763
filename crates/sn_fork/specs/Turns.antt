-- What the steps of a turn do to a fork.
use Rattle.std.specs.Prelude.{◌≡◌, ◌≤◌, ◌<◌, ◌+◌, ℕ, ℤ, suc, Bool, true, false, slice_get, [], length, map, Option, None, Some}
use Rattle.std.specs.List.{sum_by}
use Rattle.sn_streams.specs.Keys.{Key as StreamKey, Own, is_among, key_eq}
use Rattle.sn_net.specs.Dispatchers.{stream_key}
use Rattle.sn_net.specs.declared.net.Net.{Net}
use Rattle.sn_net.specs.declared.net.Net.TheOpen.{Net-F}
use Rattle.sn_net.specs.declared.routing.Key.{Key}
use Rattle.sn_net.specs.declared.routing.Key.TheVariants as some_key
use Rattle.sn_stream.specs.Ends.{Made, WasFull}
use Rattle.sn_fork.specs.Facts.{Wants}
use Rattle.sn_fork.specs.Seen.{ChildSeen, Forking, keys_of}

-- an item waits that goes to the child of the key, and there is no such child
abbrev pub Lacks : Forking → Key → Type 0
Lacks f key = Wants f key × (key_eq (stream_key key) Own ≡ false) × (is_among (stream_key key) (keys_of f.children) ≡ false)

-- a child of that key can be made there: the next level of a star that has replicas left, or a replica of a split
abbrev pub Grows : ℕ → Net-F Net → Key → Type 0
Grows left (Net-F.Star place merge body exit guard) key = (key ≡ some_key.Inside) × (less : ℕ) × (left ≡ suc less)
Grows left (Net-F.Split place merge body id) key = (n : ℤ) × (key ≡ some_key.Value n)
Grows left net key = ⊥

-- Nothing waits any more; or an item waits that has no child yet, and nothing has changed.
abbrev pub Decided : Forking → Forking → Option Key → Type 0
Decided old new None = new.waiting ≡ []
Decided old new (Some key) = (new ≡ old) × Lacks old key

-- a child but for what is held for it
abbrev pub without_held : ChildSeen → ChildSeen
without_held c = record c { held = [] }

-- the key of a child, and which streams lead there and back
abbrev pub ways_of : ChildSeen → StreamKey × (Made × Made)
ways_of c = (c.key, (c.to.made, c.from.made))

-- how many entries moved at a child, and at the node
abbrev pub moved_at : ChildSeen → ℕ
moved_at c = length c.to.moved + length c.from.moved

abbrev pub moves_of : Forking → ℕ
moves_of f = length f.input.moved + length f.output.moved + sum_by moved_at f.children

-- The node stays what it is, with its ends and its children, and entries only move.
pub record GoesOn (old new : Forking) : Type 0 where
  pub run : new.run ≡ old.run
  pub path : new.path ≡ old.path
  pub left : new.left ≡ old.left
  pub steps : new.steps ≡ old.steps
  pub input : new.input.made ≡ old.input.made
  pub output : new.output.made ≡ old.output.made
  pub children : map ways_of new.children ≡ map ways_of old.children
  pub moves : moves_of old ≤ moves_of new

-- something was got or put, or nothing has changed
abbrev pub MovedIf : Forking → Forking → Bool → Type 0
MovedIf old new true = moves_of old < moves_of new
MovedIf old new false = new ≡ old

-- something is held to be put, or nothing has changed
abbrev pub HeldIf : Forking → Forking → Bool → Type 0
HeldIf old new true = 0 < length new.held
HeldIf old new false = new ≡ old

-- at one moment the way to a child was full
abbrev pub ChildFull : Forking → Type 0
ChildFull f = (n : ℕ) × (c : ChildSeen) × (slice_get f.children n ≡ Some c) × WasFull c.to
