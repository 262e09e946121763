-- What the functions that visit give, whatever those that they call answered.
use Rattle.std.proofs.Common.{◌≡◌, ℕ, ◌+◌, ◌<◌, Bool, false, IsTrue, List, length, get_or, refl, sym, ap, ◌∙◌, subst}
use Rattle.std.specs.Prelude.{Ok, Err, Some, Result, slice_get, not, ◌&&◌}
use Rattle.std.specs.List.{list_any}
use Rattle.sn_record.specs.LabelSet.{Labels, contains}
use Rattle.sn_record.specs.Fits.{fits}
use Rattle.sn_types.specs.RecordType.{is_same}
use Rattle.sn_typing.specs.Outline.{Outline, Choice, Component, Series, Split, Star}
use Rattle.sn_typing.specs.Flow.{HasFace}
use Rattle.sn_typing.specs.Accepted.{most_variants}
use Rattle.sn_net.specs.Filter.{tag}
use Rattle.sn_flow.specs.declared.stop.Stop.{Stop}
use Rattle.sn_flow.specs.declared.stop.Stop.TheVariants.{TooMany, Memory}
use Rattle.sn_flow.specs.declared.table.Row.{Row}
use Rattle.sn_flow.specs.declared.table.Table.{Table}
use Rattle.sn_flow.specs.declared.table.Table.TheViews.{out-roll-Table, roll-Table}
use Rattle.sn_flow.specs.Chosen.{sent_of}
use Rattle.sn_flow.specs.Tables.{part_at, parts_of, rows_of}
use Rattle.sn_flow.specs.Visits.{AllVisited, Closed, Closes, ComponentFlows, FormVisited, FoundAdded, PartVisited, PartVisitedAll, PutBack, Refuted, RowAdded, SameElsewhere, Turned, Visited, Visits, WithExit, after, beside, flow_in}
use Rattle.sn_flow.proofs.Goings.{Gone, going_goes, going_overflows, going_stops}
use Rattle.sn_flow.proofs.Visiting.{Along, along_goes, along_overflows, along_stops, close_goes, close_overflows, close_stops, component_form, component_form_stops, exit_stops, series_form, series_left_stops, series_right_stops, split_form, split_stops, star_form, star_stops, visit_done}

stays : (i : ℕ) (parts : List Table) → SameElsewhere i parts parts
stays i parts = λ j apart. refl

-- a component has no parts
pub component_any : (net : Outline) (place : ℕ) (takes : List Labels) (named : Labels) (outputs : List Labels) (v : Labels) (parts : List Table) (result : Result (List Labels) Stop)
    → net ≡ Component place takes named outputs → ComponentFlows takes named outputs v result → FormVisited net v parts (beside parts result)
component_any net place takes named outputs v parts (Ok flow) is flows = component_form net place takes named outputs v parts flow is flows
component_any net place takes named outputs v parts (Err stop) is flows = component_form_stops net place takes named outputs v parts stop is flows

-- the table with these tables of its parts
abbrev pub with_parts : Table → List Table → Table
with_parts t parts = roll-Table (record { rows = rows_of t; parts = parts })

rows_kept : (t : Table) (parts : List Table) → rows_of (with_parts t parts) ≡ rows_of t
rows_kept t parts = ap (λ u. u.rows) (out-roll-Table (record { rows = rows_of t; parts = parts }))

pub still_new : (t : Table) (parts : List Table) (v : Labels) (b : Bool) → b ≡ list_any (λ row. is_same row.variant v) (rows_of t) → b ≡ false → list_any (λ row. is_same row.variant v) (rows_of (with_parts t parts)) ≡ false
still_new t parts v b is test = ap (list_any (λ row. is_same row.variant v)) (rows_kept t parts) ∙ sym is ∙ test

-- a row was added behind the visit of the form, if there was memory
pub row_any : (net : Outline) (v : Labels) (t : Table) (b : Bool) (n : ℕ) (done : List Table) (flow : List Labels) (rows : List Row) (result : Result (Unit {0}) Stop) → b ≡ list_any (λ row. is_same row.variant v) (rows_of t) → b ≡ false
    → n ≡ length (rows_of t) → n < most_variants → FormVisited net v (parts_of t) (Ok (done, flow)) → RowAdded (rows_of (with_parts t done)) v flow rows result
    → Visited net v t (after (roll-Table (record { rows = rows; parts = parts_of (with_parts t done) })) result)
row_any net v t b n done flow rows (Ok u) is test size room form added =
    visit_done net v t (rows_of t) b refl is n (parts_of t) done flow (rows_of (with_parts t done)) (roll-Table (record { rows = rows; parts = parts_of (with_parts t done) })) test size room refl (rows_kept t done) form
    (ap (λ u. u.rows) (out-roll-Table (record { rows = rows; parts = parts_of (with_parts t done) })) ∙ added)
    (ap (λ u. u.parts) (out-roll-Table (record { rows = rows; parts = parts_of (with_parts t done) })) ∙ ap (λ u. u.parts) (out-roll-Table (record { rows = rows_of t; parts = done })))
row_any net v t b n done flow rows (Err TooMany) is test size room form added = absurd added
row_any net v t b n done flow rows (Err Memory) is test size room form added = tt

-- a part was taken out, visited and put back
pub part_any : (net : Outline) (i : ℕ) (v : Labels) (parts others last : List Table) (part left : Table) (visited : Result (Unit {0}) Stop) (result : Result (List Labels) Stop) → part ≡ part_at parts i → SameElsewhere i parts others
    → Visited net v part (after left visited) → PutBack others i left v visited last result → PartVisited net i v parts last result
part_any net i v parts others last part left visited (Ok flow) taken rest visits (done, placed, kept, flow_is) = (
  subst (λ (t : Table). Visits net v t (part_at last i)) taken (subst (λ (t : Table). Visits net v part t) (sym placed) (subst (λ (r : Result (Unit {0}) Stop). Visited net v part (after left r)) done visits)),
  λ j apart. kept j apart ∙ rest j apart,
  flow_is ∙ ap (λ (t : Table). flow_in (rows_of t) v) (sym placed),
)
part_any net i v parts others last part left visited (Err TooMany) taken rest visits stopped =
    subst (λ (t : Table). Refuted net v t) taken (subst (λ (r : Result (Unit {0}) Stop). Visited net v part (after left r)) stopped visits)
part_any net i v parts others last part left visited (Err Memory) taken rest visits put = tt

one_stops : (net : Outline) (i : ℕ) (v : Labels) (parts last : List Table) (stop : Stop) → PartVisited net i v parts last (Err stop) → Visited net v (part_at parts i) (Err stop)
one_stops net i v parts last TooMany stops = stops
one_stops net i v parts last Memory stops = tt

-- a part was visited with one more of a list
module _ (net : Outline) (vs : List Labels) (before : Table) (i k : ℕ) (v : Labels) (parts last : List Table) (flow flow' : List Labels) (below : k < length vs) (here : get_or vs k v ≡ v) (along : Along net vs before (part_at parts i) flow k) where
  pub turn_goes : (found : Result (List Labels) Stop) → PartVisited net i v parts last found → FoundAdded flow found flow' (Ok tt) → Along net vs before (part_at last i) flow' (k + 1) × SameElsewhere i parts last
  turn_goes (Ok more) (visits, kept, more_is) adds = (along_goes net vs before (part_at parts i) (part_at last i) flow more flow' k v below here along visits more_is adds, kept)
  turn_goes (Err stop) stops adds = absurd adds

  pub turn_stops : (found : Result (List Labels) Stop) (stop : Stop) → PartVisited net i v parts last found → FoundAdded flow found flow' (Err stop) → AllVisited net vs before (Err stop)
  turn_stops (Ok more) stop (visits, kept, more_is) adds = along_overflows net vs before (part_at parts i) (part_at last i) flow more flow' k v stop below here along visits more_is adds
  turn_stops (Err again) stop stops same =
      subst (λ (s : Stop). AllVisited net vs before (Err s)) (sym same) (along_stops net vs before (part_at parts i) flow k v again below here along (one_stops net i v parts last again stops))

-- series
pub left_stops : (a b : Outline) (v : Labels) (parts last : List Table) (stop : Stop) → PartVisited a 0 v parts last (Err stop) → FormVisited (Series a b) v parts (Err stop)
left_stops a b v parts last stop stops = series_left_stops (Series a b) a b v parts refl (part_at parts 0) parts refl (stays 0 parts) stop (one_stops a 0 v parts last stop stops)

pub right_any : (a b : Outline) (v : Labels) (parts mid last : List Table) (middle sent : List Labels) (result : Result (List Labels) Stop) → PartVisited a 0 v parts mid (Ok middle) → sent ≡ middle → PartVisitedAll b 1 sent mid last result
    → FormVisited (Series a b) v parts (beside last result)
right_any a b v parts mid last middle sent (Ok flow) (visits, kept, middle_is) same (all, others) =
    series_form (Series a b) a b v parts refl (part_at parts 0) parts refl (stays 0 parts) (part_at mid 0) visits sent (same ∙ middle_is) mid refl kept (part_at mid 1) mid refl (stays 1 mid) (part_at last 1) flow all last refl others
right_any a b v parts mid last middle sent (Err stop) (visits, kept, middle_is) same stops =
    series_right_stops (Series a b) a b v parts refl (part_at parts 0) parts refl (stays 0 parts) (part_at mid 0) visits sent (same ∙ middle_is) mid refl kept (part_at mid 1) mid refl (stays 1 mid) stop stops

-- a split
pub replica_any : (place id : ℕ) (body : Outline) (v : Labels) (parts last : List Table) (result : Result (List Labels) Stop) → IsTrue (contains v (tag id)) → PartVisited body 0 v parts last result
    → FormVisited (Split place id body) v parts (beside last result)
replica_any place id body v parts last (Ok flow) there (visits, kept, flow_is) = split_form (Split place id body) place id body v parts refl (part_at parts 0) refl there (part_at last 0) flow last visits flow_is refl
replica_any place id body v parts last (Err stop) there stops = split_stops (Split place id body) place id body v parts refl (part_at parts 0) refl there stop (one_stops body 0 v parts last stop stops)

-- a choice
module _ (branch : ℕ → Outline) (faces : List (List Labels)) (v : Labels) (before : List Table) (i : ℕ) (parts last : List Table) (flow flow' sent : List Labels) (gone : Gone branch faces v before i parts flow) (sent_is : sent ≡ sent_of faces v i) where
  pub branch_goes : (found : Result (List Labels) Stop) → PartVisitedAll (branch i) i sent parts last found → FoundAdded flow found flow' (Ok tt) → Gone branch faces v before (i + 1) last flow'
  branch_goes (Ok more) (all, kept) adds = going_goes branch faces v before i parts flow gone sent sent_is (part_at parts i) refl parts (part_at last i) more flow' last (stays i parts) all adds refl kept
  branch_goes (Err stop) stops adds = absurd adds

  pub branch_stops : (net : Outline) (place : ℕ) (found : Result (List Labels) Stop) (stop : Stop) → net ≡ Choice place faces branch → HasFace faces v → PartVisitedAll (branch i) i sent parts last found → FoundAdded flow found flow' (Err stop)
      → FormVisited net v before (Err stop)
  branch_stops net place (Ok more) stop is has (all, kept) adds = going_overflows branch faces v before i parts flow gone sent sent_is (part_at parts i) refl net place (part_at last i) more flow' stop is has all adds
  branch_stops net place (Err again) stop is has stops same =
      subst (λ (s : Stop). FormVisited net v before (Err s)) (sym same) (going_stops branch faces v before i parts flow gone sent sent_is (part_at parts i) refl net place again is has stops)

-- a member of a star's set, which stays
module _ (exit : Labels) (guarded : Bool) (body : Outline) (v : Labels) (before : Table) (i : ℕ) (parts last : List Table) (members members' : List Labels) (u : Labels) (here : slice_get members i ≡ Some u) (b : Bool)
    (test : b ≡ (not guarded && fits exit u)) (is : b ≡ false) where
  pub member_any : (found : Result (List Labels) Stop) (result : Result (Unit {0}) Stop) → PartVisited body 0 u parts last found → FoundAdded members found members' result
      → Turned exit guarded body v before i parts members last members' result
  member_any (Ok more) (Ok done) (visits, kept, more_is) adds = λ at. close_goes exit guarded body v before (part_at parts 0) members i u here at b test (part_at last 0) more is visits more_is members' adds
  member_any (Ok more) (Err stop) (visits, kept, more_is) adds = λ at. close_overflows exit guarded body v before (part_at parts 0) members i u here at b test (part_at last 0) more is visits more_is members' stop adds
  member_any (Err stop) (Ok done) stops adds = absurd adds
  member_any (Err again) (Err stop) stops same = λ at.
      subst (λ (s : Stop). Closed exit guarded body v before (Err s)) (sym same) (close_stops exit guarded body v before (part_at parts 0) members i u here at b test again is (one_stops body 0 u parts last again stops))

-- what comes for a star, with the exit
pub exit_any : (net : Outline) (exit : Labels) (guarded : Bool) (body : Outline) (v : Labels) (parts last : List Table) (members : List Labels) (result : Result (List Labels) Stop) → net ≡ Star exit guarded body
    → Closes exit guarded body v (part_at parts 0) (part_at last 0) members → WithExit members exit result → FormVisited net v parts (beside last result)
exit_any net exit guarded body v parts last members (Ok flow) is closes with_it = star_form net exit guarded body v parts is (part_at parts 0) parts refl (part_at last 0) members flow last closes with_it refl
exit_any net exit guarded body v parts last members (Err stop) is closes with_it = exit_stops net exit guarded body v parts is (part_at parts 0) parts refl (part_at last 0) members stop closes with_it

-- a star's set is not closed
pub closed_stops : (body : Outline) (exit : Labels) (guarded : Bool) (v : Labels) (parts : List Table) (stop : Stop) → Closed exit guarded body v (part_at parts 0) (Err stop) → FormVisited (Star exit guarded body) v parts (Err stop)
closed_stops body exit guarded v parts stop stops = star_stops (Star exit guarded body) exit guarded body v parts refl (part_at parts 0) parts refl stop stops
