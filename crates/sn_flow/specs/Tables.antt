-- Tables: what is known of a part of a network, and of the parts within it.
use Rattle.std.specs.Prelude.{◌≡◌, ◌↔◌, ℕ, ◌≤◌, List, [], ◌∷◌, ◌++◌, length, map, slice_get, unwrap_or, IsTrue}
use Rattle.std.specs.List.{Contains}
use Rattle.sn_record.specs.LabelSet.{Labels, contains, union}
use Rattle.sn_net.specs.Filter.{tag}
use Rattle.sn_typing.specs.Outline.{Outline, Component, Series, Choice, Star, Split}
use Rattle.sn_typing.specs.Flow.{Flows, HasFace, MayTake, Comes, SurelyLeaves}
use Rattle.sn_typing.specs.Reached.{Turn, Left, Right, Branch, Body}
use Rattle.sn_typing.specs.Accepted.{AreFew, IsReached, most_variants}
use Rattle.sn_flow.specs.declared.table.Row.{Row}
use Rattle.sn_flow.specs.declared.table.Table.{Table}
use Rattle.sn_flow.specs.declared.table.Table.TheViews.{out-Table, roll-Table}

abbrev pub rows_of : Table → List Row
rows_of t = (out-Table t).rows

abbrev pub parts_of : Table → List Table
parts_of t = (out-Table t).parts

-- a table of nothing
abbrev pub no_table : Table
no_table = roll-Table (record { rows = []; parts = [] })

-- the i-th of the tables of parts; of a part that nothing reached there may be none
abbrev pub part_at : List Table → ℕ → Table
part_at parts i = unwrap_or (slice_get parts i) no_table

abbrev pub child : Table → ℕ → Table
child t i = part_at (parts_of t) i

abbrev pub variants_of : List Row → List Labels
variants_of rows = map (λ row. row.variant) rows

-- no element stands twice
abbrev pub AreDistinct : {X : Type 0} → List X → Type 0
AreDistinct [] = Unit {0}
AreDistinct (x ∷ xs) = (Contains xs x → ⊥) × AreDistinct xs

-- the list has what flows out for v, and nothing else
pub record IsFlow (net : Outline) (v : Labels) (flow : List Labels) : Type 0 where
  pub few : length flow ≤ most_variants
  pub same : (u : Labels) → Contains flow u ↔ Flows net v u

-- the table has a row for v, with what flows out
pub record HasRow (net : Outline) (t : Table) (v : Labels) : Type 0 where
  pub row : Row
  pub listed : Contains (rows_of t) row
  pub variant : row.variant ≡ v
  pub flow : IsFlow net v row.flow

-- the tables of the parts have rows for all that reaches them from v
abbrev pub Inner : Outline → Table → Labels → Type 0
Inner (Component place takes named outputs) t v = Unit {0}
Inner (Series a b) t v = (HasRow a (child t 0) v × Inner a (child t 0) v) × ((w : Labels) → Flows a v w → HasRow b (child t 1) w × Inner b (child t 1) w)
Inner (Choice place faces branch) t v =
    HasFace faces v → (i : ℕ) (w : Labels) → MayTake faces i w v → HasRow (branch i) (child t i) (union v w) × Inner (branch i) (child t i) (union v w)
Inner (Star exit guarded body) t v =
    AreFew (Comes exit guarded (Flows body) v)
    × ((u : Labels) → Comes exit guarded (Flows body) v u → (SurelyLeaves exit guarded u → ⊥) → HasRow body (child t 0) u × Inner body (child t 0) u)
Inner (Split place id body) t v = IsTrue (contains v (tag id)) → HasRow body (child t 0) v × Inner body (child t 0) v

-- all that is reached from v has its row
abbrev pub Covers : Outline → Table → Labels → Type 0
Covers net t v = HasRow net t v × Inner net t v

-- there are few rows, of different variants, and all that is reached from them has its row
pub record RowsHold (net : Outline) (t : Table) : Type 0 where
  pub few : length (rows_of t) ≤ most_variants
  pub distinct : AreDistinct (variants_of (rows_of t))
  pub covered : (row : Row) → Contains (rows_of t) row → IsFlow net row.variant row.flow × Inner net t row.variant

abbrev pub InnerHolds : Outline → Table → Type 0
InnerHolds (Component place takes named outputs) t = Unit {0}
InnerHolds (Series a b) t = (RowsHold a (child t 0) × InnerHolds a (child t 0)) × (RowsHold b (child t 1) × InnerHolds b (child t 1))
InnerHolds (Choice place faces branch) t = (i : ℕ) → RowsHold (branch i) (child t i) × InnerHolds (branch i) (child t i)
InnerHolds (Star exit guarded body) t = RowsHold body (child t 0) × InnerHolds body (child t 0)
InnerHolds (Split place id body) t = RowsHold body (child t 0) × InnerHolds body (child t 0)

-- the same of the table and of those of its parts, at any depth
abbrev pub Holds : Outline → Table → Type 0
Holds net t = RowsHold net t × InnerHolds net t

-- each row is of a variant that reaches the part, which stands at the way in a whole network
abbrev pub RowsCame : Outline → List Labels → List Turn → Outline → Table → Type 0
RowsCame root input way net t = (row : Row) → Contains (rows_of t) row → IsReached root input way net row.variant

abbrev pub InnerCame : Outline → List Labels → List Turn → Outline → Table → Type 0
InnerCame root input way (Component place takes named outputs) t = Unit {0}
InnerCame root input way (Series a b) t =
    (RowsCame root input (way ++ Left ∷ []) a (child t 0) × InnerCame root input (way ++ Left ∷ []) a (child t 0))
    × (RowsCame root input (way ++ Right ∷ []) b (child t 1) × InnerCame root input (way ++ Right ∷ []) b (child t 1))
InnerCame root input way (Choice place faces branch) t =
    (i : ℕ) → RowsCame root input (way ++ Branch i ∷ []) (branch i) (child t i) × InnerCame root input (way ++ Branch i ∷ []) (branch i) (child t i)
InnerCame root input way (Star exit guarded body) t = RowsCame root input (way ++ Body ∷ []) body (child t 0) × InnerCame root input (way ++ Body ∷ []) body (child t 0)
InnerCame root input way (Split place id body) t = RowsCame root input (way ++ Body ∷ []) body (child t 0) × InnerCame root input (way ++ Body ∷ []) body (child t 0)

abbrev pub Came : Outline → List Labels → List Turn → Outline → Table → Type 0
Came root input way net t = RowsCame root input way net t × InnerCame root input way net t
