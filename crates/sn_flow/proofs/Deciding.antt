-- What the spots of a whole table say of a claim.
use Rattle.std.proofs.Common.{◌≡◌, ◌⊎◌, inl, inr, ℕ, Bool, true, false, List, [], ◌∷◌, Some, None, refl, sym, ap, ◌∙◌, subst}
use Rattle.std.specs.Prelude.{if◌then◌else◌}
use Rattle.std.specs.List.{Contains}
use Rattle.std.proofs.lemmas.List.Elements.{Contains-append_left, Contains-append_right, Contains-append_cases}
use Rattle.sn_record.specs.LabelSet.{Labels}
use Rattle.sn_net.specs.Face.{ascending}
use Rattle.sn_net.proofs.SortedSets.{ascending-alike, ascending-ascends, same_from_alike}
use Rattle.sn_types.specs.RecordType.{has_fit}
use Rattle.sn_typing.specs.Outline.{Outline}
use Rattle.sn_typing.specs.Accepted.{IsBounded, IsDeclared}
use Rattle.sn_typing.proofs.Routes.{routed_safe}
use Rattle.sn_flow.specs.declared.spots.Spot.{Spot}
use Rattle.sn_flow.specs.declared.table.Table.{Table}
use Rattle.sn_flow.specs.Tables.{rows_of}
use Rattle.sn_flow.specs.Visits.{flow_in}
use Rattle.sn_flow.specs.Whole.{IsWhole}
use Rattle.sn_flow.specs.Spots.{bad_spots, flow_spots, is_routed, least, place_of, spot, spots}
use Rattle.sn_flow.specs.Verdicts.{IsFirst, IsFlowOf, IsSafe, IsUndeclared, IsUnrouted}
use Rattle.sn_flow.proofs.Checked.{row_reached, table_bounded}
use Rattle.sn_flow.proofs.Least.{nothing_found, soonest}
use Rattle.sn_flow.proofs.Lists.{behind, cases, head, none}
use Rattle.sn_flow.proofs.Spotting.{either, has_is, has_not, reached_spot, routed_is, routed_not, spotted, truth}
use Rattle.sn_flow.proofs.Visiting.{flow_is}

module _ (net : Outline) (input : List Labels) (t : Table) (whole : IsWhole net input t) where
  pub whole_bounded : IsBounded net input
  whole_bounded = table_bounded net input t whole.holds whole.covers

  unrouted_of : (s : Spot) → Contains (spots net t) s → IsUnrouted net input s.place s.variant
  unrouted_of s there =
      let f = spotted net t s there in
      subst (λ (z : Spot). IsUnrouted net input z.place z.variant) f.is
      (record { way = f.way; part = f.part; reached = row_reached net input [] net t f.way f.part f.variant whole.came f.at; here = refl; unrouted = routed_not f.part f.variant f.unrouted })

  spot_of : (q : ℕ) (w : Labels) → IsUnrouted net input q w → Contains (spots net t) (spot q w)
  spot_of q w is =
      subst (λ (p : ℕ). Contains (spots net t) (spot p w)) is.here
      (reached_spot net is.reached.variant is.way is.part w t is.reached.reached (whole.covers is.reached.variant is.reached.listed)
      (either (truth (is_routed is.part w)) (λ so. absurd (is.unrouted (routed_is is.part w so))) (λ nay. nay)))

  pub no_route : (s : Spot) → least None (spots net t) ≡ Some s → IsBounded net input × IsFirst (IsUnrouted net input) s.place s.variant
  no_route s e =
      let found = soonest (spots net t) s e in
      (whole_bounded, record { is = unrouted_of s found.listed; first = λ q w is. found.first (spot q w) (spot_of q w is) })

  pub all_routed : least None (spots net t) ≡ None → IsSafe net input
  all_routed e = record {
    bounded = whole_bounded;
    safe = λ v there. routed_safe net v (λ way part u reached.
        either (truth (is_routed part u)) (λ so. routed_is part u so)
        (λ nay. absurd (nothing_found (spots net t) e (spot (place_of part) u) (reached_spot net v way part u t reached (whole.covers v there) nay))));
  }

  module _ (place : ℕ) (output : List Labels) where
    record Bad (us : List Labels) (s : Spot) : Type 0 where
      variant : Labels
      listed : Contains us variant
      is : spot place variant ≡ s
      bad : has_fit output variant ≡ false

    more_bad : (u : Labels) (us : List Labels) (s : Spot) → Bad us s → Bad (u ∷ us) s
    more_bad u us s b = record { variant = b.variant; listed = behind u us b.variant b.listed; is = b.is; bad = b.bad }

    bad_of : (us : List Labels) (s : Spot) → Contains (flow_spots place output us) s → Bad us s
    bad_of [] s there = absurd (none s there)
    bad_of (u ∷ us) s there = at (has_fit output u) refl there (λ rest. bad_of us s rest)
      where
        at : (b : Bool) → has_fit output u ≡ b → Contains (if b then flow_spots place output us else spot place u ∷ flow_spots place output us) s → (Contains (flow_spots place output us) s → Bad us s) → Bad (u ∷ us) s
        at true is listed rest = more_bad u us s (rest listed)
        at false is listed rest = either (cases (spot place u) (flow_spots place output us) s listed)
            (λ same. record { variant = u; listed = head u us; is = same; bad = is })
            (λ more. more_bad u us s (rest more))

    of_bad : (us : List Labels) (u : Labels) → Contains us u → has_fit output u ≡ false → Contains (flow_spots place output us) (spot place u)
    of_bad [] u there not = absurd (none u there)
    of_bad (w ∷ us) u there not = at (has_fit output w) refl (cases w us u there) (λ rest. of_bad us u rest not)
      where
        at : (b : Bool) → has_fit output w ≡ b → (w ≡ u) ⊎ Contains us u → (Contains us u → Contains (flow_spots place output us) (spot place u))
            → Contains (if b then flow_spots place output us else spot place w ∷ flow_spots place output us) (spot place u)
        at true is (inl same) rest = absurd (differ (sym is ∙ ap (has_fit output) same ∙ not))
          where
            differ : true ≡ false → ⊥
            differ e = cc
        at true is (inr more) rest = rest more
        at false is (inl same) rest = subst (λ (z : Labels). Contains (spot place w ∷ flow_spots place output us) (spot place z)) same (head (spot place w) (flow_spots place output us))
        at false is (inr more) rest = behind (spot place w) (flow_spots place output us) (spot place u) (rest more)

    record BadFrom (vs : List Labels) (s : Spot) : Type 0 where
      from : Labels
      listed : Contains vs from
      flow : Bad (flow_in (rows_of t) from) s

    bad_from : (vs : List Labels) (s : Spot) → Contains (bad_spots place output (rows_of t) vs) s → BadFrom vs s
    bad_from [] s there = absurd (none s there)
    bad_from (v ∷ vs) s there = either (Contains-append_cases (flow_spots place output (flow_in (rows_of t) v)) (bad_spots place output (rows_of t) vs) s there)
        (λ first. record { from = v; listed = head v vs; flow = bad_of (flow_in (rows_of t) v) s first })
        (λ rest. let f = bad_from vs s rest in record { from = f.from; listed = behind v vs f.from f.listed; flow = f.flow })

    from_bad : (vs : List Labels) (v u : Labels) → Contains vs v → Contains (flow_in (rows_of t) v) u → has_fit output u ≡ false → Contains (bad_spots place output (rows_of t) vs) (spot place u)
    from_bad [] v u there flow not = absurd (none v there)
    from_bad (w ∷ vs) v u there flow not = either (cases w vs v there)
        (λ same. Contains-append_left (flow_spots place output (flow_in (rows_of t) w)) (bad_spots place output (rows_of t) vs) (spot place u)
        (of_bad (flow_in (rows_of t) w) u (subst (λ (z : Labels). Contains (flow_in (rows_of t) z) u) (sym same) flow) not))
        (λ more. Contains-append_right (flow_spots place output (flow_in (rows_of t) w)) (bad_spots place output (rows_of t) vs) (spot place u) (from_bad vs v u more flow not))

    undeclared_of : (s : Spot) → Contains (bad_spots place output (rows_of t) input) s → (s.place ≡ place) × IsUndeclared net input output s.variant
    undeclared_of s there =
        let f = bad_from input s there in
        subst (λ (z : Spot). (z.place ≡ place) × IsUndeclared net input output z.variant) f.flow.is
        (refl, record { from = f.from; listed = f.listed; flow = ((flow_is net t f.from whole.holds (whole.covers f.from f.listed)).same f.flow.variant).0 f.flow.listed; undeclared = has_not output f.flow.variant f.flow.bad })

    of_undeclared : (u : Labels) → IsUndeclared net input output u → Contains (bad_spots place output (rows_of t) input) (spot place u)
    of_undeclared u is =
        from_bad input is.from u is.listed (((flow_is net t is.from whole.holds (whole.covers is.from is.listed)).same u).1 is.flow)
        (either (truth (has_fit output u)) (λ so. absurd (is.undeclared (has_is output u so))) (λ nay. nay))

    pub bad_output : least None (spots net t) ≡ None → (s : Spot) → least None (bad_spots place output (rows_of t) input) ≡ Some s
        → IsSafe net input × IsFirst (λ q w. (q ≡ place) × IsUndeclared net input output w) s.place s.variant
    bad_output routed s e =
        let found = soonest (bad_spots place output (rows_of t) input) s e in (
          all_routed routed,
          record {
            is = undeclared_of s found.listed;
            first = λ q w is. found.first (spot q w) (subst (λ (p : ℕ). Contains (bad_spots place output (rows_of t) input) (spot p w)) (sym is.0) (of_undeclared w is.1));
          },
        )

    pub accepted : least None (spots net t) ≡ None → least None (bad_spots place output (rows_of t) input) ≡ None → IsSafe net input × IsDeclared net input output
    accepted routed e = (
      all_routed routed,
      λ v u there flow.
          either (truth (has_fit output u)) (λ so. has_is output u so)
          (λ nay. absurd (nothing_found (bad_spots place output (rows_of t) input) e (spot place u)
          (from_bad input v u there (((flow_is net t v whole.holds (whole.covers v there)).same u).1 flow) nay))),
    )

-- the flow, put in order
pub flow_found : (net : Outline) (v : Labels) (t : Table) → IsWhole net (v ∷ []) t → least None (spots net t) ≡ None → IsSafe net (v ∷ []) × IsFlowOf net v (ascending (flow_in (rows_of t) v))
flow_found net v t whole routed =
    let is = flow_is net t v whole.holds (whole.covers v (head v [])) in
    let same = same_from_alike (ascending (flow_in (rows_of t) v)) (flow_in (rows_of t) v) (ascending-alike (flow_in (rows_of t) v)) in (
      all_routed net (v ∷ []) t whole routed,
      record {
        ascending = ascending-ascends (flow_in (rows_of t) v);
        same = λ u. (λ there. (is.same u).0 ((same u).0 there), λ flow. (same u).1 ((is.same u).1 flow));
      },
    )
