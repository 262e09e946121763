-- What a graph can still come to, as a fact with one proof alone.
use Rattle.std.specs.Prelude.{List}
use Rattle.sn_net.specs.Item.{ModelItem}
use Rattle.sn_view.specs.View.{View}
use Rattle.sn_view.specs.Seen.{Can}

-- the stream is one of those that the graph can still come to
abbrev pub MayCome : View → List ModelItem → Type 0
MayCome g ys = ∥ Can g ys ∥₁
