-- Dispatchers as forks of streams: their routers, their children, and the levels of a star.
use Rattle.std.specs.Prelude.{ℕ, zero, suc, List, slice_get, unwrap_or, Option}
use Rattle.sn_record.specs.LabelSet.{Labels}
use Rattle.sn_record.specs.Record.{Entries}
use Rattle.sn_record.specs.declared.item.FaultKind.TheVariants.{Depth}
use Rattle.sn_streams.specs.Forks.{Router, Merge as StreamMerge, Free, Deterministic}
use Rattle.sn_streams.specs.Keys.{Key as StreamKey, Own, Branch, Inside, Value}
use Rattle.sn_streams.specs.Trees.{Tree, Series, Fork, passing, with_own}
use Rattle.sn_tagexpr.specs.declared.expr.TagExpr.{TagExpr}
use Rattle.sn_net.specs.declared.net.Merge.{Merge}
use Rattle.sn_net.specs.declared.net.Merge.TheVariants as merge
use Rattle.sn_net.specs.declared.routing.Key.{Key}
use Rattle.sn_net.specs.declared.routing.Key.TheVariants as key
use Rattle.sn_net.specs.Cell.{CellState, Passing}
use Rattle.sn_net.specs.Item.{ModelItem, Fault, Stuck}
use Rattle.sn_net.specs.Route.{choice_key, tap_key, split_key, of_record}

-- A network with all replicas that its stars and splits may ever have. The states are those of synchrocells; other components
-- have one that never changes.
abbrev pub Network : Type 0
Network = Tree ModelItem CellState

-- the child of a key; what leaves, breaks or has no route passes all children by
abbrev pub stream_key : Key → StreamKey
stream_key key.Bypass = Own
stream_key (key.Branch i) = Branch i
stream_key key.Inside = Inside
stream_key (key.Value n) = Value n
stream_key (key.Broken fault) = Own
stream_key key.Stuck = Own

-- what becomes of an item that passes by, at a dispatcher's place
abbrev pub passed_by : ℕ → Key → ModelItem → ModelItem
passed_by place (key.Broken fault) x = Fault fault
passed_by place key.Stuck x = Stuck place
passed_by place other x = x

-- the router that sends items by their keys
abbrev pub router : ℕ → (ModelItem → Key) → Router ModelItem
router place key_of = record { key = λ x. stream_key (key_of x); own = λ x. passed_by place (key_of x) x }

abbrev pub merge_of : Merge → StreamMerge
merge_of merge.Free = Free
merge_of merge.Det = Deterministic

-- A fork with children for the keys that its router sends records to; no item goes to another key, where passing items stand.
abbrev pub dispatched : Merge → Router ModelItem → (Network → StreamKey → Network) → Network
dispatched m r child = Fork (merge_of m) r (with_own r Passing (child (passing r Passing)))

-- the children of a choice: its branches
abbrev pub branch_child : List Network → Network → StreamKey → Network
branch_child branches otherwise (Branch i) = unwrap_or (slice_get branches i) otherwise
branch_child branches otherwise k = otherwise

abbrev pub choice : ℕ → Merge → List (List Labels) → List Network → Network
choice place m faces branches = dispatched m (router place (of_record (choice_key faces))) (branch_child branches)

-- the children of a split: its body for each value
abbrev pub replica_child : Network → Network → StreamKey → Network
replica_child body otherwise (Value n) = body
replica_child body otherwise k = otherwise

abbrev pub split : ℕ → Merge → ℕ → Network → Network
split place m id body = dispatched m (router place (of_record (split_key id))) (replica_child body)

-- the child of a level of a star that has replicas left: the body, and behind it the next level
abbrev pub inside_child : Network → Network → StreamKey → Network
inside_child body otherwise Inside = body
inside_child body otherwise k = otherwise

-- at the tap behind the last replica there is no way inside: a record that does not leave becomes a fault
abbrev pub no_way_inside : ℕ → Key → Key
no_way_inside place key.Inside = key.Broken (record { kind = Depth; place = place })
no_way_inside place other = other

-- the key of a record at a level of a star, which has so many replicas left
abbrev pub level_key : ℕ → Labels → Option TagExpr → ℕ → Entries → Key
level_key place exit guard zero r = no_way_inside place (tap_key place exit guard r)
level_key place exit guard (suc left) r = tap_key place exit guard r

-- a level of a star, which has so many replicas of its body left
abbrev pub level : ℕ → Merge → Labels → Option TagExpr → Network → ℕ → Network
level place m exit guard body zero = dispatched m (router place (of_record (level_key place exit guard zero))) (λ otherwise k. otherwise)
level place m exit guard body (suc left) =
    dispatched m (router place (of_record (level_key place exit guard (suc left)))) (inside_child (Series body (level place m exit guard body left)))
