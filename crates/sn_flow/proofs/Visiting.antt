-- What the functions that visit give, from what those that they call gave.
use Rattle.std.proofs.Common.{◌≡◌, ◌⊎◌, inl, inr, ℕ, ◌+◌, ◌<◌, ◌≤◌, Bool, true, false, cond, not, ◌||◌, ◌&&◌, IsTrue, List, [], ◌∷◌, ◌++◌, length, get_or, take, refl, sym, ap, ◌∙◌, subst, arith, append-nil}
use Rattle.std.specs.Prelude.{Ok, Err, Some, slice_get}
use Rattle.std.specs.List.{Contains, list_any}
use Rattle.std.proofs.lemmas.List.{take_more, take_all}
use Rattle.std.proofs.lemmas.Option.{slice_get_within, get_or_from_slice_get}
use Rattle.sn_record.specs.LabelSet.{Labels, contains, union}
use Rattle.sn_record.specs.Fits.{bind_alike, fits}
use Rattle.sn_types.specs.RecordType.{is_same}
use Rattle.sn_record.proofs.Fitting.{fits-Fits}
use Rattle.sn_typing.specs.Outline.{Outline, Component, Series, Star, Split}
use Rattle.sn_typing.specs.Flow.{Comes, Comes.{first}, Flows, SurelyLeaves}
use Rattle.sn_typing.specs.Accepted.{most_variants}
use Rattle.sn_flow.specs.declared.stop.Stop.{Stop}
use Rattle.sn_flow.specs.declared.stop.Stop.TheVariants.{TooMany, Memory}
use Rattle.sn_flow.specs.declared.table.Row.{Row}
use Rattle.sn_flow.specs.declared.table.Table.{Table}
use Rattle.sn_flow.specs.Tables.{AreDistinct, Covers, Holds, IsFlow, child, part_at, parts_of, rows_of, variants_of}
use Rattle.sn_flow.specs.Visits.{Added, Adds, AddsRow, AllVisited, AreFlows, Closed, Closes, Closing, ComponentFlows, FormVisited, Refuted, RefutedAll, SameElsewhere, Visited, Visits, VisitsAll, WithExit, flow_in, row_of}
use Rattle.sn_flow.proofs.Adding.{adds_more, overflows_more, among, among_test, is_same_itself, same_is, taken_within}
use Rattle.sn_net.specs.Filter.{tag}
use Rattle.sn_flow.specs.Taken.{with_exit}
use Rattle.sn_flow.proofs.Taking.{alone_leaves, alone_stays, exit_more, leaving_from, leaving_to}
use Rattle.sn_flow.proofs.Lists.{behind, cases, head, mapped, none}
use Rattle.sn_flow.proofs.Rows.{no_room, row_added, row_known}
use Rattle.sn_flow.proofs.Parts.{component_added, no_visit, series_added, series_refuted, left_refuted, split_added, split_refuted, split_unrouted, star_added, visit_more}
use Rattle.sn_flow.proofs.Choices.{flow_refuted, flows_more, visit_refuted}
use Rattle.sn_flow.proofs.Closing.{body_refuted, closed, passes, star_overflow, stays_more}

-- whether a row is of the variant
pub among_rows : (rows : List Row) (v : Labels) → list_any (λ row. is_same row.variant v) rows ≡ list_any (λ s. is_same s v) (variants_of rows)
among_rows [] v = refl
among_rows (row ∷ rows) v = ap (λ b. is_same row.variant v || b) (among_rows rows v)

module _ (net : Outline) (v : Labels) (t : Table) (slice : List Row) (b : Bool) (same : slice ≡ rows_of t) (is : b ≡ list_any (λ row. is_same row.variant v) slice) where
  tested : b ≡ list_any (λ s. is_same s v) (variants_of (rows_of t))
  tested = is ∙ ap (λ (rows : List Row). list_any (λ row. is_same row.variant v) rows) same ∙ among_rows (rows_of t) v

  is_new : b ≡ false → Contains (variants_of (rows_of t)) v → ⊥
  is_new test there = differ (sym (among_test (variants_of (rows_of t)) v there) ∙ sym tested ∙ test)
    where
      differ : true ≡ false → ⊥
      differ e = cc

  pub visit_known : b ≡ true → Visits net v t t
  visit_known test = row_known net v t (among (variants_of (rows_of t)) v (sym tested ∙ test))

  pub visit_full : (n : ℕ) → b ≡ false → n ≡ length (rows_of t) → most_variants ≤ n → Refuted net v t
  visit_full n test size full = no_room net v t (is_new test) (omega (arith, size, full))

  pub visit_stops : (parts : List Table) (stop : Stop) → parts_of t ≡ parts → FormVisited net v parts (Err stop) → Visited net v t (Err stop)
  visit_stops parts TooMany are stops = stops t are
  visit_stops parts Memory are stops = tt

  pub visit_done : (n : ℕ) (parts done : List Table) (flow : List Labels) (rows : List Row) (whole : Table) → b ≡ false → n ≡ length (rows_of t) → n < most_variants → parts_of t ≡ parts → rows ≡ rows_of t
      → FormVisited net v parts (Ok (done, flow)) → rows_of whole ≡ rows ++ row_of v flow ∷ [] → parts_of whole ≡ done → Visits net v t whole
  visit_done n parts done flow rows whole test size room are rows_are form added made =
      row_added net v t whole flow (form t whole are made (added ∙ ap (λ (all : List Row). all ++ row_of v flow ∷ []) rows_are)) (is_new test) (omega (arith, size, room))

itself : (s : Labels) → IsTrue (is_same s s)
itself s = is_same_itself s

apart : (m n : ℕ) → m < n → m ≡ n → ⊥
apart m n below same = absurd (omega (arith, below, same))

-- the flow that stands for a variant that has a row is what flows out
pub flow_is : (net : Outline) (t : Table) (v : Labels) → Holds net t → Covers net t v → IsFlow net v (flow_in (rows_of t) v)
flow_is net t v holds covers = at (rows_of t) (λ row there. (holds.0.covered row there).0) (subst (Contains (variants_of (rows_of t))) covers.0.variant (mapped (λ (row : Row). row.variant) (rows_of t) covers.0.row covers.0.listed))
  where
    at : (rows : List Row) → ((row : Row) → Contains rows row → IsFlow net row.variant row.flow) → Contains (variants_of rows) v → IsFlow net v (flow_in rows v)
    at [] known there = absurd (none v there)
    at (row ∷ rows) known there = which (is_same row.variant v) refl (λ behind_it. at rows (λ other listed. known other (behind row rows other listed)) behind_it) (cases row.variant (variants_of rows) v there)
      where
        which : (b : Bool) → is_same row.variant v ≡ b → (Contains (variants_of rows) v → IsFlow net v (flow_in rows v)) → (row.variant ≡ v) ⊎ Contains (variants_of rows) v
            → IsFlow net v (cond b row.flow (flow_in rows v))
        which true test later place = subst (λ (u : Labels). IsFlow net u row.flow) (same_is row.variant v test) (known row (head row rows))
        which false test later (inl same) = absurd (differ (sym test ∙ subst (λ (u : Labels). IsTrue (is_same row.variant u)) same (itself row.variant)))
          where
            differ : false ≡ true → ⊥
            differ e = cc
        which false test later (inr rest) = later rest

-- components
pub component_form : (net : Outline) (place : ℕ) (takes : List Labels) (named : Labels) (outputs : List Labels) (v : Labels) (parts : List Table) (flow : List Labels)
    → net ≡ Component place takes named outputs → ComponentFlows takes named outputs v (Ok flow) → FormVisited net v parts (Ok (parts, flow))
component_form net place takes named outputs v parts flow is flows before t before_is t_is rows =
    subst (λ (o : Outline). AddsRow o v before t flow) (sym is) (component_added place takes named outputs v before t flow rows (flows place))

pub component_form_stops : (net : Outline) (place : ℕ) (takes : List Labels) (named : Labels) (outputs : List Labels) (v : Labels) (parts : List Table) (stop : Stop)
    → net ≡ Component place takes named outputs → ComponentFlows takes named outputs v (Err stop) → FormVisited net v parts (Err stop)
component_form_stops net place takes named outputs v parts TooMany is stops = λ before are.
    subst (λ (o : Outline). Refuted o v before) (sym is) (λ holds root input way reached came bounded. stops place (bounded.flows way (Component place takes named outputs) v reached))
component_form_stops net place takes named outputs v parts Memory is stops = tt

-- series: the first table was taken and put back, and so was the second
module _ (net a b : Outline) (v : Labels) (parts : List Table) (net_is : net ≡ Series a b) (left : Table) (rest : List Table) (taken : left ≡ part_at parts 0) (others : SameElsewhere 0 parts rest) where
  at_before : (before : Table) → parts_of before ≡ parts → left ≡ child before 0
  at_before before are = taken ∙ ap (λ (ps : List Table). part_at ps 0) (sym are)

  pub series_left_stops : (stop : Stop) → Visited a v left (Err stop) → FormVisited net v parts (Err stop)
  series_left_stops TooMany stops = λ before are.
      subst (λ (o : Outline). Refuted o v before) (sym net_is) (left_refuted a b v before before left left [] [] (subst (λ (s : Table). Refuted a v s) (at_before before are) stops))
  series_left_stops Memory stops = tt

  module _ (l : Table) (visits : Visits a v left l) (mid : List Labels) (mid_is : mid ≡ flow_in (rows_of l) v) (put : List Table) (placed : part_at put 0 ≡ l) (kept : SameElsewhere 0 rest put)
      (right : Table) (rest' : List Table) (taken' : right ≡ part_at put 1) (others' : SameElsewhere 1 put rest') where
    right_before : (before : Table) → parts_of before ≡ parts → right ≡ child before 1
    right_before before are = taken' ∙ kept 1 (λ e. apart 0 1 (omega arith) (sym e)) ∙ others 1 (λ e. apart 0 1 (omega arith) (sym e)) ∙ ap (λ (ps : List Table). part_at ps 1) (sym are)

    middle : Holds a l → Covers a l v → IsFlow a v mid
    middle holds covers = subst (IsFlow a v) (sym mid_is) (flow_is a l v holds covers)

    pub series_right_stops : (stop : Stop) → AllVisited b mid right (Err stop) → FormVisited net v parts (Err stop)
    series_right_stops TooMany stops = λ before are.
        subst (λ (o : Outline). Refuted o v before) (sym net_is)
        (series_refuted a b v before before l right mid [] (subst (λ (s : Table). Visits a v s l) (at_before before are) visits) middle (subst (λ (s : Table). RefutedAll b mid s) (right_before before are) stops))
    series_right_stops Memory stops = tt

    pub series_form : (r : Table) (flow : List Labels) → AllVisited b mid right (Ok (r, flow)) → (done : List Table) → part_at done 1 ≡ r → SameElsewhere 1 rest' done → FormVisited net v parts (Ok (done, flow))
    series_form r flow all done placed' kept' before t are t_is rows =
        subst (λ (o : Outline). AddsRow o v before t flow) (sym net_is)
        (series_added a b v before t l r mid flow rows
        (ap (λ (ps : List Table). part_at ps 0) t_is ∙ kept' 0 (apart 0 1 (omega arith)) ∙ others' 0 (apart 0 1 (omega arith)) ∙ placed)
        (ap (λ (ps : List Table). part_at ps 1) t_is ∙ placed')
        (subst (λ (s : Table). Visits a v s l) (at_before before are) visits) middle
        (subst (λ (s : Table). VisitsAll b mid s r) (right_before before are) all.0)
        (subst (λ (s : Table). Holds b s → AreFlows b mid flow) (right_before before are) all.3))

-- a star
module _ (net : Outline) (exit : Labels) (guarded : Bool) (body : Outline) (v : Labels) (parts : List Table) (net_is : net ≡ Star exit guarded body) (inner : Table) (rest : List Table) (taken : inner ≡ part_at parts 0) where
  pub star_stops : (stop : Stop) → Closed exit guarded body v inner (Err stop) → FormVisited net v parts (Err stop)
  star_stops TooMany stops = λ before are.
      subst (λ (o : Outline). Refuted o v before) (sym net_is) (stops before (sym (taken ∙ ap (λ (ps : List Table). part_at ps 0) (sym are))))
  star_stops Memory stops = tt

  pub star_form : (after : Table) (members flow : List Labels) (done : List Table) → Closes exit guarded body v inner after members → Adds [] (with_exit members exit) flow → part_at done 0 ≡ after
      → FormVisited net v parts (Ok (done, flow))
  star_form after members flow done closes adds placed = λ before t are t_is rows.
      subst (λ (o : Outline). AddsRow o v before t flow) (sym net_is)
      (star_added exit guarded body v before t after members flow rows (ap (λ (ps : List Table). part_at ps 0) t_is ∙ placed)
      (subst (λ (s : Table). Closes exit guarded body v s after members) (taken ∙ ap (λ (ps : List Table). part_at ps 0) (sym are)) closes)
      (adds.few (omega arith))
      (λ u. ((λ there. which u ((adds.same u).0 there)), (λ there. (adds.same u).1 (inr there)))))
    where
      which : (u : Labels) → Contains [] u ⊎ Contains (with_exit members exit) u → Contains (with_exit members exit) u
      which u (inl nothing) = absurd (none u nothing)
      which u (inr there) = there

  -- where the members with the exit are too many, so is the flow
  pub exit_stops : (after : Table) (members : List Labels) (stop : Stop) → Closes exit guarded body v inner after members → WithExit members exit (Err stop) → FormVisited net v parts (Err stop)
  exit_stops after members TooMany closes stops = λ before are.
      subst (λ (o : Outline). Refuted o v before) (sym net_is)
      (λ holds root input way reached came bounded.
      let few = bounded.flows way (Star exit guarded body) v reached in
      let here : Holds body inner = subst (Holds body) (sym (taken ∙ ap (λ (ps : List Table). part_at ps 0) (sym are))) holds.1 in
      stops tt (record { all = few.all; few = few.few; listed = λ u there. few.listed u (which here u there) }))
    where
      which : Holds body inner → (u : Labels) → Contains [] u ⊎ Contains (with_exit members exit) u → Flows (Star exit guarded body) v u
      which here u (inl nothing) = absurd (none u nothing)
      which here u (inr there) = let found = leaving_from members exit u there in (found.origin, (closes.same here found.origin).0 found.listed, found.alike, found.is)
  exit_stops after members Memory closes stops = tt

-- a split
module _ (net : Outline) (place id : ℕ) (body : Outline) (v : Labels) (parts : List Table) (net_is : net ≡ Split place id body) where
  pub split_without : (flow : List Labels) → (IsTrue (contains v (tag id)) → ⊥) → flow ≡ [] → FormVisited net v parts (Ok (parts, flow))
  split_without flow without none_flows = λ before t are t_is rows.
      subst (λ (o : Outline). AddsRow o v before t flow) (sym net_is) (split_unrouted place id body v before t t flow rows (t_is ∙ sym are) without none_flows)

  module _ (inner : Table) (taken : inner ≡ part_at parts 0) (there : IsTrue (contains v (tag id))) where
    at_inner : (before : Table) → parts_of before ≡ parts → inner ≡ child before 0
    at_inner before are = taken ∙ ap (λ (ps : List Table). part_at ps 0) (sym are)

    pub split_stops : (stop : Stop) → Visited body v inner (Err stop) → FormVisited net v parts (Err stop)
    split_stops TooMany stops = λ before are.
        subst (λ (o : Outline). Refuted o v before) (sym net_is) (split_refuted place id body v before before before [] there (subst (λ (s : Table). Refuted body v s) (at_inner before are) stops))
    split_stops Memory stops = tt

    pub split_form : (after : Table) (flow : List Labels) (done : List Table) → Visits body v inner after → flow ≡ flow_in (rows_of after) v → part_at done 0 ≡ after → FormVisited net v parts (Ok (done, flow))
    split_form after flow done visits flow_eq placed = λ before t are t_is rows.
        subst (λ (o : Outline). AddsRow o v before t flow) (sym net_is)
        (split_added place id body v before t after flow rows (ap (λ (ps : List Table). part_at ps 0) t_is ∙ placed) there
        (subst (λ (s : Table). Visits body v s after) (at_inner before are) visits)
        (λ holds covers. subst (IsFlow body v) (sym flow_eq) (flow_is body after v holds covers)))

-- visits with the variants of a list
module _ (net : Outline) (vs : List Labels) (before : Table) where
  -- what is known of the table and the flow after the first i
  abbrev pub Along : Table → List Labels → ℕ → Type 0
  Along t flow i = VisitsAll net (take i vs) before t × AreDistinct flow × (length flow ≤ most_variants) × (Holds net before → AreFlows net (take i vs) flow)

  pub along_begins : Along before [] 0
  along_begins = (no_visit net before, tt, omega arith, λ holds. record { few = omega arith; same = λ u. ((λ there. absurd (none u there)), (λ (w, listed, flows). absurd (none w listed))) })

  one_more : (i : ℕ) (v : Labels) → i < length vs → get_or vs i v ≡ v → take (i + 1) vs ≡ take i vs ++ v ∷ []
  one_more i v below here = take_more vs i v below ∙ ap (λ (u : Labels). take i vs ++ u ∷ []) here

  within : (i : ℕ) (v : Labels) → i < length vs → get_or vs i v ≡ v → (w : Labels) → Contains (take i vs ++ v ∷ []) w → Contains vs w
  within i v below here w there = taken_within (i + 1) vs w (subst (λ (ws : List Labels). Contains ws w) (sym (one_more i v below here)) there)

  pub along_goes : (t t' : Table) (flow more flow' : List Labels) (i : ℕ) (v : Labels) → i < length vs → get_or vs i v ≡ v → Along t flow i → Visits net v t t' → more ≡ flow_in (rows_of t') v → Adds flow more flow' → Along t' flow' (i + 1)
  along_goes t t' flow more flow' i v below here (all, distinct, few, flows) visits more_is adds =
      let whole : VisitsAll net (take i vs ++ v ∷ []) before t' = visit_more net (take i vs) v before t t' all visits in (
        subst (λ (ws : List Labels). VisitsAll net ws before t') (sym (one_more i v below here)) whole,
        adds.distinct distinct,
        adds.few few,
        λ holds. subst (λ (ws : List Labels). AreFlows net ws flow') (sym (one_more i v below here))
            (flows_more net before (take i vs) v flow more flow' few (flows holds) (known holds) adds),
      )
    where
      known : Holds net before → IsFlow net v more
      known holds = subst (IsFlow net v) (sym more_is) (flow_is net t' v (visits.holds (all.holds holds)) (visits.covers (all.holds holds)))

  pub along_stops : (t : Table) (flow : List Labels) (i : ℕ) (v : Labels) (stop : Stop) → i < length vs → get_or vs i v ≡ v → Along t flow i → Visited net v t (Err stop) → AllVisited net vs before (Err stop)
  along_stops t flow i v TooMany below here (all, distinct, few, flows) stops = visit_refuted net before (take i vs) v vs t all (within i v below here) stops
  along_stops t flow i v Memory below here along stops = tt

  pub along_overflows : (t t' : Table) (flow more after : List Labels) (i : ℕ) (v : Labels) (stop : Stop) → i < length vs → get_or vs i v ≡ v → Along t flow i → Visits net v t t' → more ≡ flow_in (rows_of t') v
      → Added flow more after (Err stop) → AllVisited net vs before (Err stop)
  along_overflows t t' flow more after i v TooMany below here (all, distinct, few, flows) visits more_is stops =
      flow_refuted net before (take i vs) v vs flow more (within i v below here) distinct flows
      (λ holds. subst (IsFlow net v) (sym more_is) (flow_is net t' v (visits.holds (all.holds holds)) (visits.covers (all.holds holds)))) stops
  along_overflows t t' flow more after i v Memory below here along visits more_is stops = tt

  pub along_ends : (t : Table) (flow : List Labels) (i : ℕ) → length vs ≤ i → Along t flow i → AllVisited net vs before (Ok (t, flow))
  along_ends t flow i past (all, distinct, few, flows) =
      let end : take i vs ≡ vs = take_all i vs past in (
        subst (λ (ws : List Labels). VisitsAll net ws before t) end all,
        distinct,
        few,
        λ holds. subst (λ (ws : List Labels). AreFlows net ws flow) end (flows holds),
      )

-- the set of a star
module _ (exit : Labels) (guarded : Bool) (body : Outline) (v : Labels) (before : Table) where
  abbrev pub Stand : Table → List Labels → ℕ → Type 0
  Stand t members i = Closing exit guarded body v before t members i

  pub close_begins : (empty members : List Labels) (copy : Labels) → empty ≡ [] → copy ≡ v → Adds empty (copy ∷ []) members → Stand before members 0
  close_begins empty members copy none_yet copied adds = record {
    distinct = adds.distinct (subst AreDistinct (sym none_yet) tt);
    few = adds.few (subst (λ (ms : List Labels). length ms ≤ most_variants) (sym none_yet) (omega arith));
    start = subst (Contains members) copied ((adds.same copy).1 (inr (head copy [])));
    holds = λ holds. holds;
    comes = λ holds u there. which u ((adds.same u).0 there);
    done = λ holds u there. absurd (none u there);
    keeps = λ u known. known;
    came = λ root input way holds reached came. came;
  }
    where
      one : (u : Labels) → (copy ≡ u) ⊎ Contains [] u → Comes exit guarded (Flows body) v u
      one u (inl same) = subst (Comes exit guarded (Flows body) v) (sym copied ∙ same) first
      one u (inr nothing) = absurd (none u nothing)

      which : (u : Labels) → Contains empty u ⊎ Contains (copy ∷ []) u → Comes exit guarded (Flows body) v u
      which u (inl nothing) = absurd (none u (subst (λ (ms : List Labels). Contains ms u) none_yet nothing))
      which u (inr there) = one u (cases copy [] u there)

  pub close_add_stops : (empty members : List Labels) (copy : Labels) (stop : Stop) → empty ≡ [] → Added empty (copy ∷ []) members (Err stop) → Closed exit guarded body v before (Err stop)
  close_add_stops empty members copy TooMany none_yet stops =
      absurd (stops (subst AreDistinct (sym none_yet) tt) (record { all = copy ∷ []; few = omega arith; listed = which }))
    where
      which : (u : Labels) → Contains empty u ⊎ Contains (copy ∷ []) u → Contains (copy ∷ []) u
      which u (inl nothing) = absurd (none u (subst (λ (ms : List Labels). Contains ms u) none_yet nothing))
      which u (inr there) = there
  close_add_stops empty members copy Memory none_yet stops = tt

  module _ (t : Table) (members : List Labels) (i : ℕ) (u : Labels) (here : slice_get members i ≡ Some u) (at : Stand t members i) (b : Bool) (test : b ≡ (not guarded && fits exit u)) where
    member : Contains members u
    member = (i, slice_get_within members i u here, get_or_from_slice_get members i u u here)

    below : i < length members
    below = slice_get_within members i u here

    in_place : get_or members i u ≡ u
    in_place = get_or_from_slice_get members i u u here

    leaving : b ≡ true → SurelyLeaves exit guarded u
    leaving is = at_guard guarded (sym test ∙ is)
      where
        at_guard : (g : Bool) → IsTrue (not g && fits exit u) → SurelyLeaves exit g u
        at_guard true e = absurd (differ e)
          where
            differ : false ≡ true → ⊥
            differ e = cc
        at_guard false e = record { unguarded = refl; fits = (fits-Fits exit u).0 e }

    staying : b ≡ false → SurelyLeaves exit guarded u → ⊥
    staying is leaves = differ (sym (subst (λ (g : Bool). IsTrue (not g && fits exit u)) (sym leaves.unguarded) ((fits-Fits exit u).1 leaves.fits)) ∙ sym test ∙ is)
      where
        differ : true ≡ false → ⊥
        differ e = cc

    pub close_passes : b ≡ true → Stand t members (i + 1)
    close_passes is = passes exit guarded body v before t members i u below (subst (SurelyLeaves exit guarded) (sym in_place) (leaving is)) at

    pub close_stops : (stop : Stop) → b ≡ false → Visited body u t (Err stop) → Closed exit guarded body v before (Err stop)
    close_stops TooMany is stops = λ whole where_is. body_refuted exit guarded body v before t members i u member (staying is) whole where_is at stops
    close_stops Memory is stops = tt

    module _ (t' : Table) (more : List Labels) (is : b ≡ false) (visits : Visits body u t t') (more_is : more ≡ flow_in (rows_of t') u) where
      known : Holds body t' → Covers body t' u → IsFlow body u more
      known holds covers = subst (IsFlow body u) (sym more_is) (flow_is body t' u holds covers)

      pub close_goes : (members' : List Labels) → Adds members more members' → Stand t' members' (i + 1)
      close_goes members' adds =
          stays_more exit guarded body v before t t' members more members' i u below (subst (λ z. SurelyLeaves exit guarded z → ⊥) (sym in_place) (staying is)) at
          (subst (λ z. Visits body z t t') (sym in_place) visits) (subst (λ z. Holds body t' → Covers body t' z → IsFlow body z more) (sym in_place) known) adds

      pub close_overflows : (members' : List Labels) (stop : Stop) → Added members more members' (Err stop) → Closed exit guarded body v before (Err stop)
      close_overflows members' TooMany stops = λ whole where_is.
          star_overflow exit guarded body v before t members more i u member (staying is) whole where_is at
          (λ holds. known (visits.holds (at.holds holds)) (visits.covers (at.holds holds))) stops
      close_overflows members' Memory stops = tt

  pub close_ends : (t : Table) (members : List Labels) (i n : ℕ) → n ≡ length members → n ≤ i → Stand t members i → Closes exit guarded body v before t members
  close_ends t members i n size past at = closed exit guarded body v before t members i (take_all i members (omega (arith, size, past))) at

  pub close_ends_full : (t : Table) (members : List Labels) (i : ℕ) → most_variants ≤ i → Stand t members i → Closes exit guarded body v before t members
  close_ends_full t members i past at = closed exit guarded body v before t members i (take_all i members (omega (arith, past, at.few))) at

-- the members with the exit, one after another
module _ (members : List Labels) (exit : Labels) where
  pub exit_next : (i : ℕ) (m whole : Labels) (flow last : List Labels) → i < length members → m ≡ get_or members i m → whole ≡ union m exit → bind_alike m exit ≡ true
      → Adds [] (with_exit (take i members) exit) flow → Adds flow (whole ∷ []) last → Adds [] (with_exit (take (i + 1) members) exit) last
  exit_next i m whole flow last below here made alike earlier later =
      subst (λ (us : List Labels). Adds [] us last) (sym (exit_more members exit i m below here))
      (adds_more [] (with_exit (take i members) exit) flow (with_exit (m ∷ []) exit) last earlier
      (subst (λ (us : List Labels). Adds flow us last) (ap (λ (u : Labels). u ∷ []) made ∙ sym (alone_leaves m exit alike)) later))

  pub exit_passes : (i : ℕ) (m : Labels) (flow : List Labels) → i < length members → m ≡ get_or members i m → bind_alike m exit ≡ false
      → Adds [] (with_exit (take i members) exit) flow → Adds [] (with_exit (take (i + 1) members) exit) flow
  exit_passes i m flow below here apart earlier =
      subst (λ (us : List Labels). Adds [] us flow) (sym (exit_more members exit i m below here ∙ ap (λ (us : List Labels). with_exit (take i members) exit ++ us) (alone_stays m exit apart) ∙ append-nil _)) earlier

  pub exit_add_stops : (i : ℕ) (m whole : Labels) (flow last : List Labels) (stop : Stop) → i < length members → m ≡ get_or members i m → whole ≡ union m exit → bind_alike m exit ≡ true
      → Adds [] (with_exit (take i members) exit) flow → Added flow (whole ∷ []) last (Err stop) → WithExit members exit (Err stop)
  exit_add_stops i m whole flow last TooMany below here made alike earlier stops =
      overflows_more [] (with_exit (take i members) exit) flow (whole ∷ []) (with_exit members exit) earlier stops
      (λ u there. within u (subst (λ (us : List Labels). Contains us u) (ap (λ (us : List Labels). with_exit (take i members) exit ++ us) (ap (λ (z : Labels). z ∷ []) made ∙ sym (alone_leaves m exit alike))
      ∙ sym (exit_more members exit i m below here)) there))
    where
      within : (u : Labels) → Contains (with_exit (take (i + 1) members) exit) u → Contains (with_exit members exit) u
      within u there =
          let found = leaving_from (take (i + 1) members) exit u there in
          subst (Contains (with_exit members exit)) (sym found.is) (leaving_to members exit found.origin (taken_within (i + 1) members found.origin found.listed) found.alike)
  exit_add_stops i m whole flow last Memory below here made alike earlier stops = tt

  pub exit_ends : (i : ℕ) (flow : List Labels) → length members ≤ i → Adds [] (with_exit (take i members) exit) flow → WithExit members exit (Ok flow)
  exit_ends i flow past adds = subst (λ (ms : List Labels). Adds [] (with_exit ms exit) flow) (take_all i members past) adds
