-- The branches of a choice are visited one after another.
use Rattle.std.proofs.Common.{◌≡◌, ◌⊎◌, inl, inr, ◌==◌, ℕ, zero, suc, ◌+◌, ◌<◌, ◌≤◌, Bool, true, false, cond, IsTrue, List, [], ◌∷◌, get_or, length, Option, Some, None, refl, sym, ap, ◌∙◌, subst, arith}
use Rattle.std.specs.Prelude.{nat_lt, slice_get, unwrap_or, Ok, Err}
use Rattle.std.specs.List.{Contains, list_any}
use Rattle.std.proofs.lemmas.Bool.Decides.{nat_tests}
use Rattle.sn_record.specs.LabelSet.{Labels}
use Rattle.sn_types.specs.RecordType.{has_fit}
use Rattle.sn_types.proofs.Subtypes.{has_fit-HasFit}
use Rattle.sn_typing.specs.Outline.{Outline, Choice}
use Rattle.sn_typing.specs.Flow.{HasFace}
use Rattle.sn_flow.specs.declared.stop.Stop.{Stop}
use Rattle.sn_flow.specs.declared.stop.Stop.TheVariants.{TooMany, Memory}
use Rattle.sn_flow.specs.declared.table.Table.{Table}
use Rattle.std.proofs.lemmas.Option.{slice_get-get_or, slice_get_within, get_or_from_slice_get, slice_get_read}
use Rattle.sn_flow.specs.Chosen.{chosen_of, sent_of, sent_until}
use Rattle.sn_flow.specs.Tables.{Came, Holds, child, part_at}
use Rattle.sn_flow.specs.Visits.{Added, Adds, AddsRow, AllVisited, AreFlows, FlowsFrom, FormVisited, Going, Refuted, SameElsewhere, VisitsAll}
use Rattle.sn_flow.proofs.Choices.{choice_added, choice_overflow, choice_refuted, choice_unrouted}
use Rattle.sn_flow.proofs.Choosing.{are_sent, any_found, found_any}
use Rattle.sn_flow.proofs.Lists.{none}
use Rattle.sn_flow.proofs.Parts.{no_visit}

visits_then : (net : Outline) (vs : List Labels) (a b c : Table) → VisitsAll net [] a b → VisitsAll net vs b c → VisitsAll net vs a c
visits_then net vs a b c first second = record {
  holds = λ holds. second.holds (first.holds holds);
  covers = λ holds. second.covers (first.holds holds);
  keeps = λ u known. second.keeps u (first.keeps u known);
  came = λ root input way holds reached came.
      second.came root input way (first.holds holds) reached (first.came root input way holds (λ v there. absurd (none v there)) came);
}

module _ (branch : ℕ → Outline) (faces : List (List Labels)) (v : Labels) (before : List Table) where
  abbrev pub Gone : ℕ → List Table → List Labels → Type 0
  Gone i parts flow = Going branch (sent_until faces v i) before parts flow

  until_now : (i : ℕ) → sent_until faces v i i ≡ []
  until_now i = at (nat_lt i i) refl
    where
      at : (b : Bool) → nat_lt i i ≡ b → cond b (sent_of faces v i) [] ≡ []
      at true e = absurd (omega (arith, (let less : i < i = grind (arith, nat_tests, e) in less)))
      at false e = refl

  until_next : (i : ℕ) → sent_until faces v (i + 1) i ≡ sent_of faces v i
  until_next i = at (nat_lt i (i + 1)) refl
    where
      at : (b : Bool) → nat_lt i (i + 1) ≡ b → cond b (sent_of faces v i) [] ≡ sent_of faces v i
      at true e = refl
      at false e = absurd (omega (arith, (let more : i + 1 ≤ i = grind (arith, nat_tests, e) in more)))

  until_same : (i j : ℕ) → (j ≡ i → ⊥) → sent_until faces v (i + 1) j ≡ sent_until faces v i j
  until_same i j apart = at (nat_lt j i) (nat_lt j (i + 1)) refl refl
    where
      at : (b c : Bool) → nat_lt j i ≡ b → nat_lt j (i + 1) ≡ c → cond c (sent_of faces v j) [] ≡ cond b (sent_of faces v j) []
      at true true e f = refl
      at false false e f = refl
      at true false e f = absurd (omega (arith, (let less : j < i = grind (arith, nat_tests, e) in less), (let more : i + 1 ≤ j = grind (arith, nat_tests, f) in more)))
      at false true e f = absurd (apart (omega (arith, (let more : i ≤ j = grind (arith, nat_tests, e) in more), (let less : j < i + 1 = grind (arith, nat_tests, f) in less))))

  until_all : (i j : ℕ) (w : Labels) → Contains (sent_until faces v i j) w → Contains (sent_of faces v j) w
  until_all i j w there = at (nat_lt j i) there
    where
      at : (b : Bool) → Contains (cond b (sent_of faces v j) []) w → Contains (sent_of faces v j) w
      at true listed = listed
      at false nothing = absurd (none w nothing)

  pub going_begins : Gone 0 before []
  going_begins = record {
    visits = λ j. subst (λ (vs : List Labels). VisitsAll (branch j) vs (part_at before j) (part_at before j)) (sym (nothing j)) (no_visit (branch j) (part_at before j));
    distinct = tt;
    few = omega arith;
    flows = λ holds u. ((λ there. absurd (none u there)), (λ (j, (w, listed, flows)). absurd (none w (subst (λ (vs : List Labels). Contains vs w) (nothing j) listed))));
  }
    where
      nothing : (j : ℕ) → sent_until faces v 0 j ≡ []
      nothing j = at (nat_lt j 0) refl
        where
          at : (b : Bool) → nat_lt j 0 ≡ b → cond b (sent_of faces v j) [] ≡ []
          at true e = absurd (omega (arith, (let less : j < 0 = grind (arith, nat_tests, e) in less)))
          at false e = refl

  module _ (i : ℕ) (parts : List Table) (flow : List Labels) (gone : Gone i parts flow) (sent : List Labels) (sent_is : sent ≡ sent_of faces v i) (part : Table) (taken : part ≡ part_at parts i) where
    from_before : (vs : List Labels) (t : Table) → VisitsAll (branch i) vs part t → VisitsAll (branch i) vs (part_at before i) t
    from_before vs t all =
        visits_then (branch i) vs (part_at before i) (part_at parts i) t (subst (λ (ws : List Labels). VisitsAll (branch i) ws (part_at before i) (part_at parts i)) (until_now i) (gone.visits i))
        (subst (λ (s : Table). VisitsAll (branch i) vs s t) taken all)

    held : Holds (branch i) (part_at before i) → Holds (branch i) part
    held holds = subst (Holds (branch i)) (sym taken) ((gone.visits i).holds holds)

    pub going_goes : (others : List Table) (t : Table) (more flow' : List Labels) (parts' : List Table) → SameElsewhere i parts others → AllVisited (branch i) sent part (Ok (t, more)) → Adds flow more flow'
        → part_at parts' i ≡ t → SameElsewhere i others parts' → Gone (i + 1) parts' flow'
    going_goes others t more flow' parts' left all adds placed kept = record {
      visits = λ j. visits j (j == i) refl;
      distinct = adds.distinct gone.distinct;
      few = adds.few gone.few;
      flows = λ holds u. ((λ there. to holds u ((adds.same u).0 there)), (λ (j, from). back holds u j from (j == i) refl));
    }
      where
        same_if : (j : ℕ) → (j == i) ≡ true → j ≡ i
        same_if j e = grind (arith, nat_tests, e)

        apart_if : (j : ℕ) → (j == i) ≡ false → j ≡ i → ⊥
        apart_if j e same = absurd (differ (sym (grind (arith, nat_tests, same)) ∙ e))
          where
            differ : true ≡ false → ⊥
            differ e = cc

        here : VisitsAll (branch i) (sent_until faces v (i + 1) i) (part_at before i) (part_at parts' i)
        here =
            subst (λ (s : Table). VisitsAll (branch i) (sent_until faces v (i + 1) i) (part_at before i) s) (sym placed)
            (subst (λ (vs : List Labels). VisitsAll (branch i) vs (part_at before i) t) (sent_is ∙ sym (until_next i)) (from_before sent t all.0))

        visits : (j : ℕ) (b : Bool) → (j == i) ≡ b → VisitsAll (branch j) (sent_until faces v (i + 1) j) (part_at before j) (part_at parts' j)
        visits j true e = subst (λ (k : ℕ). VisitsAll (branch k) (sent_until faces v (i + 1) k) (part_at before k) (part_at parts' k)) (sym (same_if j e)) here
        visits j false e =
            subst (λ (s : Table). VisitsAll (branch j) (sent_until faces v (i + 1) j) (part_at before j) s) (sym (kept j (apart_if j e) ∙ left j (apart_if j e)))
            (subst (λ (vs : List Labels). VisitsAll (branch j) vs (part_at before j) (part_at parts j)) (sym (until_same i j (apart_if j e))) (gone.visits j))

        new_flows : ((j : ℕ) → Holds (branch j) (part_at before j)) → AreFlows (branch i) sent more
        new_flows holds = all.3 (held (holds i))

        old_from : (u : Labels) (j : ℕ) → FlowsFrom (branch j) (sent_until faces v i j) u → FlowsFrom (branch j) (sent_until faces v (i + 1) j) u
        old_from u j from = at (j == i) refl
          where
            at : (b : Bool) → (j == i) ≡ b → FlowsFrom (branch j) (sent_until faces v (i + 1) j) u
            at true e =
                let gone_none : sent_until faces v i j ≡ [] = ap (sent_until faces v i) (same_if j e) ∙ until_now i in
                absurd (none from.0 (subst (λ (vs : List Labels). Contains vs from.0) gone_none from.1))
            at false e = subst (λ (vs : List Labels). FlowsFrom (branch j) vs u) (sym (until_same i j (apart_if j e))) from

        to : ((j : ℕ) → Holds (branch j) (part_at before j)) → (u : Labels) → Contains flow u ⊎ Contains more u → (j : ℕ) × FlowsFrom (branch j) (sent_until faces v (i + 1) j) u
        to holds u (inl there) = let (j, from) = (gone.flows holds u).0 there in (j, old_from u j from)
        to holds u (inr there) = (i, subst (λ (vs : List Labels). FlowsFrom (branch i) vs u) (sent_is ∙ sym (until_next i)) (((new_flows holds).same u).0 there))

        back : ((j : ℕ) → Holds (branch j) (part_at before j)) → (u : Labels) (j : ℕ) → FlowsFrom (branch j) (sent_until faces v (i + 1) j) u → (b : Bool) → (j == i) ≡ b → Contains flow' u
        back holds u j from true e =
            (adds.same u).1 (inr (((new_flows holds).same u).1 (subst (λ (vs : List Labels). FlowsFrom (branch i) vs u) (until_next i ∙ sym sent_is)
            (subst (λ (k : ℕ). FlowsFrom (branch k) (sent_until faces v (i + 1) k) u) (same_if j e) from))))
        back holds u j from false e =
            (adds.same u).1 (inl ((gone.flows holds u).1 (j, subst (λ (vs : List Labels). FlowsFrom (branch j) vs u) (until_same i j (apart_if j e)) from)))

    -- where a branch stops, or what flows out is too much
    pub going_stops : (net : Outline) (place : ℕ) (stop : Stop) → net ≡ Choice place faces branch → HasFace faces v → AllVisited (branch i) sent part (Err stop) → FormVisited net v before (Err stop)
    going_stops net place TooMany net_is has stops = λ whole are.
        subst (λ (o : Outline). Refuted o v whole) (sym net_is)
        (choice_refuted place faces branch v whole (sent_of faces v) i has (λ j u. are_sent faces v j u)
        (λ holds root input way reached came few bounded.
        let to_part : Holds (branch i) (part_at before i) = subst (λ (ps : List Table). Holds (branch i) (part_at ps i)) are holds in
        let sent_reached = λ (w : Labels) (there : Contains sent w). reached w (subst (λ (vs : List Labels). Contains vs w) sent_is there) in
        stops (held to_part) root input way sent_reached
        (subst (Came root input way (branch i)) (sym taken)
        ((gone.visits i).came root input way to_part (λ w there. absurd (none w (subst (λ (vs : List Labels). Contains vs w) (until_now i) there)))
        (subst (λ (ps : List Table). Came root input way (branch i) (part_at ps i)) are came)))
        (record { all = few.all; few = few.few; listed = λ u (w, listed, flows). few.listed u (w, subst (λ (vs : List Labels). Contains vs w) sent_is listed, flows) }) bounded))
    going_stops net place Memory net_is has stops = tt

    pub going_overflows : (net : Outline) (place : ℕ) (t : Table) (more after : List Labels) (stop : Stop) → net ≡ Choice place faces branch → HasFace faces v → AllVisited (branch i) sent part (Ok (t, more)) → Added flow more after (Err stop)
        → FormVisited net v before (Err stop)
    going_overflows net place t more after TooMany net_is has all stops = λ whole are.
        let inner : Holds (Choice place faces branch) whole → (j : ℕ) → Holds (branch j) (part_at before j) = λ holds j. subst (λ (ps : List Table). Holds (branch j) (part_at ps j)) are (holds.1 j) in
        subst (λ (o : Outline). Refuted o v whole) (sym net_is)
        (choice_overflow place faces branch v whole (sent_of faces v) i flow more has (λ j u. are_sent faces v j u) gone.distinct
        (λ holds u there. (let (j, (w, listed, flows)) = (gone.flows (inner holds) u).0 there in (j, (w, until_all i j w listed, flows))))
        (λ holds u there. subst (λ (vs : List Labels). FlowsFrom (branch i) vs u) sent_is (((all.3 (held (inner holds i))).same u).0 there)) stops)
    going_overflows net place t more after Memory net_is has all stops = tt

  past : (xs : List (List Labels)) (j : ℕ) → length xs ≤ j → slice_get xs j ≡ None
  past [] j below = refl
  past (x ∷ xs) zero below = absurd (omega (arith, below))
  past (x ∷ xs) (suc j) below = past xs j (omega (arith, below))

  until_end : (i j : ℕ) → length faces ≤ i → sent_until faces v i j ≡ sent_of faces v j
  until_end i j end = at (nat_lt j i) refl
    where
      at : (b : Bool) → nat_lt j i ≡ b → cond b (sent_of faces v j) [] ≡ sent_of faces v j
      at true e = refl
      at false e =
          let more : i ≤ j = grind (arith, nat_tests, e) in
          sym (ap (λ (face : Option (List Labels)). chosen_of faces j v (unwrap_or face [])) (past faces j (omega (arith, end, more))))

  pub going_ends : (net : Outline) (place i : ℕ) (parts : List Table) (flow : List Labels) → net ≡ Choice place faces branch → HasFace faces v → length faces ≤ i → Gone i parts flow → FormVisited net v before (Ok (parts, flow))
  going_ends net place i parts flow net_is has end gone = λ whole t are t_is rows.
      subst (λ (o : Outline). AddsRow o v whole t flow) (sym net_is)
      (choice_added place faces branch v whole (sent_of faces v) t flow rows has (λ j u. are_sent faces v j u)
      (λ j. subst (λ (ps : List Table). VisitsAll (branch j) (sent_of faces v j) (part_at ps j) (child t j)) (sym are)
      (subst (λ (ps : List Table). VisitsAll (branch j) (sent_of faces v j) (part_at before j) (part_at ps j)) (sym t_is)
      (subst (λ (vs : List Labels). VisitsAll (branch j) vs (part_at before j) (part_at parts j)) (until_end i j end) (gone.visits j))))
      gone.few
      (λ holds u.
      let inner : (j : ℕ) → Holds (branch j) (part_at before j) = λ j. subst (λ (ps : List Table). Holds (branch j) (part_at ps j)) are (holds.1 j) in (
        λ there. (let (j, (w, listed, flows)) = (gone.flows inner u).0 there in (j, (w, until_all i j w listed, flows))),
        λ (j, from). (gone.flows inner u).1 (j, subst (λ (vs : List Labels). FlowsFrom (branch j) vs u) (sym (until_end i j end)) from),
      )))

  pub going_none : (net : Outline) (place : ℕ) (flow : List Labels) → net ≡ Choice place faces branch → (HasFace faces v → ⊥) → flow ≡ [] → FormVisited net v before (Ok (before, flow))
  going_none net place flow net_is without empty = λ whole t are t_is rows.
      subst (λ (o : Outline). AddsRow o v whole t flow) (sym net_is)
      (choice_unrouted place faces branch v whole (sent_of faces v) t flow rows (λ i. ap (λ (ps : List Table). part_at ps i) (t_is ∙ sym are)) without empty)

-- what is sent to a branch whose face was read
pub sent_read : (faces : List (List Labels)) (i : ℕ) (v : Labels) (face : List Labels) → i < length faces → face ≡ get_or faces i face → chosen_of faces i v face ≡ sent_of faces v i
sent_read faces i v face below is = ap (chosen_of faces i v) (sym (ap (λ (f : Option (List Labels)). unwrap_or f []) (slice_get_read faces (length faces) i face refl below is)))

pub face_found : (faces : List (List Labels)) (v : Labels) (b : Bool) → b ≡ list_any (λ face. has_fit face v) faces → b ≡ true → HasFace faces v
face_found faces v b is test = at faces (λ face there. there) (any_found (λ face. has_fit face v) faces (sym is ∙ test))
  where
    at : (all : List (List Labels)) → ((face : List Labels) → Contains faces face → Contains all face) → (face : List Labels) × Contains faces face × IsTrue (has_fit face v) → HasFace faces v
    at all within (face, listed, has) =
        let found = (has_fit-HasFit face v).0 has in
        record { branch = listed.0; variant = found.variant; own = record { face = face; here = slice_at faces face listed; listed = found.listed }; fits = found.fits }
      where
        slice_at : (xs : List (List Labels)) (x : List Labels) (there : Contains xs x) → slice_get xs there.0 ≡ Some x
        slice_at xs x there = slice_get-get_or xs there.0 x there.1 ∙ ap (λ (z : List Labels). Some z) there.2

pub no_face : (faces : List (List Labels)) (v : Labels) (b : Bool) → b ≡ list_any (λ face. has_fit face v) faces → b ≡ false → HasFace faces v → ⊥
no_face faces v b is test has =
    true_false (sym (found_any (λ face. has_fit face v) faces has.own.face (has.branch, slice_get_within faces has.branch has.own.face has.own.here, get_or_from_slice_get faces has.branch has.own.face has.own.face has.own.here)
    ((has_fit-HasFit has.own.face v).1 (record { variant = has.variant; listed = has.own.listed; fits = has.fits }))) ∙ sym is ∙ test)
  where
    true_false : true ≡ false → ⊥
    true_false e = cc
