-- What a visit of a choice gives, from the visits of its branches, and what visits of several variants give.
use Rattle.std.proofs.Common.{◌≡◌, ◌↔◌, ◌⊎◌, inl, inr, ℕ, ◌≤◌, List, [], ◌∷◌, ◌++◌, length, refl, sym, subst, arith}
use Rattle.std.specs.List.{Contains}
use Rattle.std.proofs.lemmas.List.Elements.{Contains-append_left, Contains-append_right, Contains-append_cases}
use Rattle.sn_record.specs.LabelSet.{Labels, union}
use Rattle.sn_typing.specs.Outline.{Outline, Choice}
use Rattle.sn_typing.specs.Flow.{HasFace, MayTake, Flows}
use Rattle.sn_typing.specs.Reached.{Turn, Branch}
use Rattle.sn_typing.specs.Accepted.{IsReached, most_variants}
use Rattle.sn_flow.specs.declared.table.Table.{Table}
use Rattle.sn_flow.specs.Tables.{AreDistinct, Came, Covers, Holds, IsFlow, child, rows_of}
use Rattle.sn_flow.specs.Visits.{AddsRow, row_of, Adds, AreFlows, FlowsFrom, Overflows, Refuted, RefutedAll, VisitsAll}
use Rattle.sn_flow.proofs.Lists.{cases, none, head}
use Rattle.sn_flow.proofs.Ways.{to_branch}

-- Visits of the variants of a list, one after another.
module _ (net : Outline) (before : Table) where
  -- what flows out for those that were visited, after one more
  pub flows_more : (done : List Labels) (v : Labels) (flow more after : List Labels) → length flow ≤ most_variants → AreFlows net done flow → IsFlow net v more → Adds flow more after → AreFlows net (done ++ v ∷ []) after
  flows_more done v flow more after few known one adds = record {
    few = adds.few few;
    same = λ u. ((λ there. to u ((adds.same u).0 there)), (λ (w, listed, flows). from u w flows (Contains-append_cases done (v ∷ []) w listed)));
  }
    where
      to : (u : Labels) → Contains flow u ⊎ Contains more u → FlowsFrom net (done ++ v ∷ []) u
      to u (inl there) = let (w, listed, flows) = (known.same u).0 there in (w, Contains-append_left done (v ∷ []) w listed, flows)
      to u (inr there) = (v, Contains-append_right done (v ∷ []) v (head v []), (one.same u).0 there)

      last : (u w : Labels) → Flows net w u → (v ≡ w) ⊎ Contains [] w → Contains after u
      last u w flows (inl same) = (adds.same u).1 (inr ((one.same u).1 (subst (λ z. Flows net z u) (sym same) flows)))
      last u w flows (inr nothing) = absurd (none w nothing)

      from : (u w : Labels) → Flows net w u → Contains done w ⊎ Contains (v ∷ []) w → Contains after u
      from u w flows (inl front) = (adds.same u).1 (inl ((known.same u).1 (w, front, flows)))
      from u w flows (inr back) = last u w flows (cases v [] w back)

  -- where a visit stops, the visits of all stop
  pub visit_refuted : (done : List Labels) (v : Labels) (whole : List Labels) (t : Table) → VisitsAll net done before t → ((w : Labels) → Contains (done ++ v ∷ []) w → Contains whole w) → Refuted net v t → RefutedAll net whole before
  visit_refuted done v whole t all within stops holds root input way reached came few bounded =
      stops (all.holds holds) root input way (reached v (within v (Contains-append_right done (v ∷ []) v (head v []))))
      (all.came root input way holds (λ w there. reached w (within w (Contains-append_left done (v ∷ []) w there))) came) bounded

  -- where what flows out is too much, too
  pub flow_refuted : (done : List Labels) (v : Labels) (whole flow more : List Labels) → ((w : Labels) → Contains (done ++ v ∷ []) w → Contains whole w)
      → AreDistinct flow → (Holds net before → AreFlows net done flow) → (Holds net before → IsFlow net v more) → Overflows flow more → RefutedAll net whole before
  flow_refuted done v whole flow more within distinct known one stops holds root input way reached came few bounded =
      stops distinct (record { all = few.all; few = few.few; listed = λ u there. few.listed u (at u there) })
    where
      at : (u : Labels) → Contains flow u ⊎ Contains more u → FlowsFrom net whole u
      at u (inl there) = let (w, listed, flows) = ((known holds).same u).0 there in (w, within w (Contains-append_left done (v ∷ []) w listed), flows)
      at u (inr there) = (v, within v (Contains-append_right done (v ∷ []) v (head v [])), ((one holds).same u).0 there)

-- Choices.
module _ (place : ℕ) (faces : List (List Labels)) (branch : ℕ → Outline) (v : Labels) (before : Table) (vs : ℕ → List Labels) where
  -- the variants of each branch are those that come to it
  abbrev pub AreSent : Type 0
  AreSent = (i : ℕ) (u : Labels) → Contains (vs i) u ↔ ((w : Labels) × MayTake faces i w v × (u ≡ union v w))

  sent_reached : AreSent → HasFace faces v → (root : Outline) (input : List Labels) (way : List Turn) → IsReached root input way (Choice place faces branch) v
      → (i : ℕ) (u : Labels) → Contains (vs i) u → IsReached root input (way ++ Branch i ∷ []) (branch i) u
  sent_reached sent has root input way reached i u there =
      let (w, unbeaten, is) = (sent i u).0 there in
      subst (IsReached root input (way ++ Branch i ∷ []) (branch i)) (sym is) (to_branch root input way place faces branch v i w reached has unbeaten)

  from_branch : AreSent → HasFace faces v → (i : ℕ) (u : Labels) → FlowsFrom (branch i) (vs i) u → Flows (Choice place faces branch) v u
  from_branch sent has i u (z, listed, flows) =
      let (w, unbeaten, is) = (sent i z).0 listed in
      (has, (i, w, unbeaten, subst (λ s. Flows (branch i) s u) is flows))

  -- what flows out of all branches
  abbrev pub FlowsOfAll : List Labels → Type 0
  FlowsOfAll flow = (u : Labels) → Contains flow u ↔ ((i : ℕ) × FlowsFrom (branch i) (vs i) u)

  pub choice_added : (t : Table) (flow : List Labels) → rows_of t ≡ rows_of before ++ row_of v flow ∷ [] → HasFace faces v → AreSent
      → ((i : ℕ) → VisitsAll (branch i) (vs i) (child before i) (child t i)) → length flow ≤ most_variants → (Holds (Choice place faces branch) before → FlowsOfAll flow) → AddsRow (Choice place faces branch) v before t flow
  choice_added t flow rows has sent visits few flows = record {
    rows = rows;
    is = λ holds. record {
      few = few;
      same = λ u. (
        λ there. (let (i, from) = (flows holds u).0 there in from_branch sent has i u from),
        λ (has', (i, w, unbeaten, further)). (flows holds u).1 (i, (union v w, (sent i (union v w)).1 (w, unbeaten, refl), further)),
      );
    };
    inner = λ holds has' i w unbeaten. (visits i).covers (holds.1 i) (union v w) ((sent i (union v w)).1 (w, unbeaten, refl));
    keeps = λ u known has' i w unbeaten. (visits i).keeps (union u w) (known has' i w unbeaten);
    holds = λ holds i. (visits i).holds (holds.1 i);
    came = λ root input way holds reached came i.
        (visits i).came root input (way ++ Branch i ∷ []) (holds.1 i) (sent_reached sent has root input way reached i) (came.1 i);
  }

  pub choice_unrouted : (t : Table) (flow : List Labels) → rows_of t ≡ rows_of before ++ row_of v flow ∷ [] → ((i : ℕ) → child t i ≡ child before i) → (HasFace faces v → ⊥) → flow ≡ [] → AddsRow (Choice place faces branch) v before t flow
  choice_unrouted t flow rows same without is = record {
    rows = rows;
    is = λ holds. record {
      few = subst (λ (f : List Labels). length f ≤ most_variants) (sym is) (omega arith);
      same = λ u. ((λ there. absurd (none u (subst (λ (f : List Labels). Contains f u) is there))), (λ (has, further). absurd (without has)));
    };
    inner = λ holds has. absurd (without has);
    keeps = λ u known has i w unbeaten. subst (λ s. Covers (branch i) s (union u w)) (sym (same i)) (known has i w unbeaten);
    holds = λ holds i. subst (Holds (branch i)) (sym (same i)) (holds.1 i);
    came = λ root input way holds reached came i. subst (Came root input (way ++ Branch i ∷ []) (branch i)) (sym (same i)) (came.1 i);
  }

  -- where a branch stops, and where what flows out is too much
  pub choice_refuted : (i : ℕ) → HasFace faces v → AreSent → RefutedAll (branch i) (vs i) (child before i) → Refuted (Choice place faces branch) v before
  choice_refuted i has sent stops holds root input way reached came bounded =
      let few = bounded.flows way (Choice place faces branch) v reached in
      stops (holds.1 i) root input (way ++ Branch i ∷ []) (sent_reached sent has root input way reached i) (came.1 i)
      (record { all = few.all; few = few.few; listed = λ u from. few.listed u (from_branch sent has i u from) }) bounded

  pub choice_overflow : (i : ℕ) (flow more : List Labels) → HasFace faces v → AreSent → AreDistinct flow
      → (Holds (Choice place faces branch) before → (u : Labels) → Contains flow u → (j : ℕ) × FlowsFrom (branch j) (vs j) u)
      → (Holds (Choice place faces branch) before → (u : Labels) → Contains more u → FlowsFrom (branch i) (vs i) u) → Overflows flow more → Refuted (Choice place faces branch) v before
  choice_overflow i flow more has sent distinct known one stops holds root input way reached came bounded =
      let few = bounded.flows way (Choice place faces branch) v reached in
      stops distinct (record { all = few.all; few = few.few; listed = λ u there. few.listed u (at u there) })
    where
      at : (u : Labels) → Contains flow u ⊎ Contains more u → Flows (Choice place faces branch) v u
      at u (inl there) = let (j, from) = known holds u there in from_branch sent has j u from
      at u (inr there) = from_branch sent has i u (one holds u there)
