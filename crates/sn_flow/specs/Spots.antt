-- Spots: where a record finds no route, or leaves as it may not.
use Rattle.std.specs.Prelude.{ℕ, zero, suc, Bool, true, List, [], ◌∷◌, ◌++◌, length, if◌then◌else◌, Option, None, Some}
use Rattle.std.specs.List.{list_any}
use Rattle.std.specs.declared.cmp.Ordering.{Ordering}
use Rattle.std.specs.Ordering.{is_lt, nat_cmp, on, then_cmp}
use Rattle.sn_record.specs.LabelSet.{Labels, contains}
use Rattle.sn_net.specs.Face.{variant_cmp}
use Rattle.sn_net.specs.Filter.{tag}
use Rattle.sn_types.specs.RecordType.{has_fit}
use Rattle.sn_flow.specs.Taken.{is_taken}
use Rattle.sn_typing.specs.Outline.{Outline, Component, Series, Choice, Star, Split}
use Rattle.sn_flow.specs.declared.spots.Spot.{Spot}
use Rattle.sn_flow.specs.declared.table.Row.{Row}
use Rattle.sn_flow.specs.declared.table.Table.{Table}
use Rattle.sn_flow.specs.Tables.{child, rows_of}
use Rattle.sn_flow.specs.Visits.{flow_in}

abbrev pub spot : ℕ → Labels → Spot
spot p v = record { place = p; variant = v }

-- by places, and where they are one by variants
abbrev pub spot_cmp : Spot → Spot → Ordering
spot_cmp = then_cmp (on (λ s. s.place) nat_cmp) (on (λ s. s.variant) variant_cmp)

abbrev pub sooner : Option Spot → Spot → Option Spot
sooner None s = Some s
sooner (Some b) s = if is_lt (spot_cmp s b) then Some s else Some b

-- the soonest
abbrev pub least : Option Spot → List Spot → Option Spot
least best [] = best
least best (s ∷ ss) = least (sooner best s) ss

-- the place of the form itself; series and stars have a route for each record
abbrev pub place_of : Outline → ℕ
place_of (Component place takes named outputs) = place
place_of (Series a b) = 0
place_of (Choice place faces branch) = place
place_of (Star exit guarded body) = 0
place_of (Split place id body) = place

-- whether the form itself has a route
abbrev pub is_routed : Outline → Labels → Bool
is_routed (Component place takes named outputs) v = is_taken takes v
is_routed (Series a b) v = true
is_routed (Choice place faces branch) v = list_any (λ face. has_fit face v) faces
is_routed (Star exit guarded body) v = true
is_routed (Split place id body) v = contains v (tag id)

-- the rows without a route
abbrev pub row_spots : Outline → List Row → List Spot
row_spots net [] = []
row_spots net (row ∷ rows) = if is_routed net row.variant then row_spots net rows else spot (place_of net) row.variant ∷ row_spots net rows

-- those of the first n parts
abbrev pub joined : ℕ → (ℕ → List Spot) → List Spot
joined zero each = []
joined (suc n) each = joined n each ++ each n

-- the rows without a route, of the network and of all its parts
abbrev pub spots : Outline → Table → List Spot
spots (Component place takes named outputs) t = row_spots (Component place takes named outputs) (rows_of t)
spots (Series a b) t = row_spots (Series a b) (rows_of t) ++ (spots a (child t 0) ++ spots b (child t 1))
spots (Choice place faces branch) t = row_spots (Choice place faces branch) (rows_of t) ++ joined (length faces) (λ i. spots (branch i) (child t i))
spots (Star exit guarded body) t = row_spots (Star exit guarded body) (rows_of t) ++ spots body (child t 0)
spots (Split place id body) t = row_spots (Split place id body) (rows_of t) ++ spots body (child t 0)

-- the variants of a flow that no variant of the output fits
abbrev pub flow_spots : ℕ → List Labels → List Labels → List Spot
flow_spots place output [] = []
flow_spots place output (u ∷ us) = if has_fit output u then flow_spots place output us else spot place u ∷ flow_spots place output us

-- the same of all that flows out for the input
abbrev pub bad_spots : ℕ → List Labels → List Row → List Labels → List Spot
bad_spots place output rows [] = []
bad_spots place output rows (v ∷ vs) = flow_spots place output (flow_in rows v) ++ bad_spots place output rows vs
