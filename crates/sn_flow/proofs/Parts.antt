-- What a visit of each form gives, from the visits of its parts.
use Rattle.std.proofs.Common.{◌≡◌, ◌↔◌, ◌⊎◌, inl, inr, ℕ, ◌≤◌, Bool, IsTrue, List, [], ◌∷◌, ◌++◌, length, map as each, sym, ap, subst, arith}
use Rattle.std.specs.List.{Contains}
use Rattle.std.proofs.lemmas.List.Elements.{Contains-append_left, Contains-append_right, Contains-append_cases}
use Rattle.sn_record.specs.LabelSet.{Labels, contains, union, minus}
use Rattle.sn_net.specs.Filter.{tag}
use Rattle.sn_typing.specs.Outline.{Outline, Component, Series, Star, Split}
use Rattle.sn_typing.specs.Flow.{Flows, Takes}
use Rattle.sn_typing.specs.Reached.{Left, Right, Body}
use Rattle.sn_typing.specs.Accepted.{most_variants}
use Rattle.sn_flow.specs.declared.table.Table.{Table}
use Rattle.sn_flow.specs.Tables.{Came, Covers, Holds, IsFlow, child, part_at, parts_of, rows_of}
use Rattle.sn_flow.specs.Visits.{AddsRow, row_of, Adds, AreFlows, Closes, Refuted, RefutedAll, Visits, VisitsAll}
use Rattle.sn_flow.specs.Taken.{with_exit}
use Rattle.sn_flow.proofs.Taking.{leaving_from, leaving_to}
use Rattle.sn_flow.proofs.Lists.{cases, none, head, mapped, unmapped}
use Rattle.sn_flow.proofs.Ways.{to_left, to_right, to_body, to_replica}

-- no visit, and one more
pub no_visit : (net : Outline) (t : Table) → VisitsAll net [] t t
no_visit net t = record {
  holds = λ holds. holds;
  covers = λ holds v there. absurd (none v there);
  keeps = λ u known. known;
  came = λ root input way holds reached came. came;
}

pub visit_more : (net : Outline) (vs : List Labels) (v : Labels) (before t last : Table) → VisitsAll net vs before t → Visits net v t last → VisitsAll net (vs ++ v ∷ []) before last
visit_more net vs v before t last all one = record {
  holds = λ holds. one.holds (all.holds holds);
  covers = λ holds w there. at holds w (Contains-append_cases vs (v ∷ []) w there);
  keeps = λ u known. one.keeps u (all.keeps u known);
  came = λ root input way holds reached came.
      one.came root input way (all.holds holds) (reached v (Contains-append_right vs (v ∷ []) v (head v [])))
      (all.came root input way holds (λ w there. reached w (Contains-append_left vs (v ∷ []) w there)) came);
}
  where
    last_one : Holds net before → (w : Labels) → (v ≡ w) ⊎ Contains [] w → Covers net last w
    last_one holds w (inl same) = subst (Covers net last) same (one.covers (all.holds holds))
    last_one holds w (inr nothing) = absurd (none w nothing)

    at : Holds net before → (w : Labels) → Contains vs w ⊎ Contains (v ∷ []) w → Covers net last w
    at holds w (inl front) = one.keeps w (all.covers holds w front)
    at holds w (inr back) = last_one holds w (cases v [] w back)

-- Components.
module _ (place : ℕ) (takes : List Labels) (named : Labels) (outputs : List Labels) (v : Labels) (before t : Table) (flow : List Labels) where
  pub component_added : rows_of t ≡ rows_of before ++ row_of v flow ∷ [] → IsFlow (Component place takes named outputs) v flow → AddsRow (Component place takes named outputs) v before t flow
  component_added rows is = record {
    rows = rows;
    is = λ holds. is;
    inner = λ holds. tt;
    keeps = λ u known. tt;
    holds = λ holds. tt;
    came = λ root input way holds reached came. tt;
  }

module _ (place : ℕ) (takes : List Labels) (named : Labels) (outputs : List Labels) (v : Labels) (flow : List Labels) where
  abbrev given_by : Labels → Labels
  given_by o = union o (minus v named)

  pub component_flow : Takes takes v → Adds [] (each given_by outputs) flow → IsFlow (Component place takes named outputs) v flow
  component_flow has adds = record {
    few = adds.few (omega arith);
    same = λ u. (λ there. to u ((adds.same u).0 there), λ flows. from u flows);
  }
    where
      to : (u : Labels) → Contains [] u ⊎ Contains (each given_by outputs) u → Flows (Component place takes named outputs) v u
      to u (inl nothing) = absurd (none u nothing)
      to u (inr there) = let found = unmapped given_by outputs u there in (has, (found.origin, found.listed, sym found.is))

      from : (u : Labels) → Flows (Component place takes named outputs) v u → Contains flow u
      from u (has', (o, listed, is)) = (adds.same u).1 (inr (subst (Contains (each given_by outputs)) (sym is) (mapped given_by outputs o listed)))

  pub nothing_flows : (Takes takes v → ⊥) → flow ≡ [] → IsFlow (Component place takes named outputs) v flow
  nothing_flows unrouted is = record {
    few = subst (λ (f : List Labels). length f ≤ most_variants) (sym is) (omega arith);
    same = λ u. ((λ there. absurd (none u (subst (λ (f : List Labels). Contains f u) is there))), (λ (has, rest). absurd (unrouted has)));
  }

-- Networks in series.
module _ (a b : Outline) (v : Labels) (before t : Table) (l r : Table) (mid flow : List Labels) where
  pub series_added : rows_of t ≡ rows_of before ++ row_of v flow ∷ [] → child t 0 ≡ l → child t 1 ≡ r → Visits a v (child before 0) l → (Holds a l → Covers a l v → IsFlow a v mid)
      → VisitsAll b mid (child before 1) r → (Holds b (child before 1) → AreFlows b mid flow) → AddsRow (Series a b) v before t flow
  series_added rows first second left middle right flows = record {
    rows = rows;
    is = is_flow;
    inner = λ holds. (
      subst (λ s. Covers a s v) (sym first) (left.covers holds.1.0),
      λ w flow. subst (λ s. Covers b s w) (sym second) (right.covers holds.1.1 w (((known holds).same w).1 flow)),
    );
    keeps = λ u inner. (
      subst (λ s. Covers a s u) (sym first) (left.keeps u inner.0),
      λ w flow. subst (λ s. Covers b s w) (sym second) (right.keeps w (inner.1 w flow)),
    );
    holds = λ holds. (subst (Holds a) (sym first) (left.holds holds.1.0), subst (Holds b) (sym second) (right.holds holds.1.1));
    came = λ root input way holds reached came. (
      subst (Came root input (way ++ Left ∷ []) a) (sym first) (left.came root input (way ++ Left ∷ []) holds.1.0 (to_left root input way a b v reached) came.1.0),
      subst (Came root input (way ++ Right ∷ []) b) (sym second)
          (right.came root input (way ++ Right ∷ []) holds.1.1 (λ w there. to_right root input way a b v w reached (((known holds).same w).0 there)) came.1.1),
    );
  }
    where
      known : Holds (Series a b) before → IsFlow a v mid
      known holds = middle (left.holds holds.1.0) (left.covers holds.1.0)

      is_flow : Holds (Series a b) before → IsFlow (Series a b) v flow
      is_flow holds =
          let all = flows holds.1.1 in
          record {
            few = all.few;
            same = λ u. (
              λ there. (let (w, listed, further) = (all.same u).0 there in (w, ((known holds).same w).0 listed, further)),
              λ (w, first, further). (all.same u).1 (w, ((known holds).same w).1 first, further),
            );
          }

  -- where the right part stops
  pub series_refuted : Visits a v (child before 0) l → (Holds a l → Covers a l v → IsFlow a v mid) → RefutedAll b mid (child before 1) → Refuted (Series a b) v before
  series_refuted left middle stops holds root input way reached came bounded =
      let known = middle (left.holds holds.1.0) (left.covers holds.1.0) in
      let few = bounded.flows way (Series a b) v reached in
      stops holds.1.1 root input (way ++ Right ∷ []) (λ w there. to_right root input way a b v w reached ((known.same w).0 there)) came.1.1
      (record { all = few.all; few = few.few; listed = λ u (w, listed, further). few.listed u (w, (known.same w).0 listed, further) }) bounded

  pub left_refuted : Refuted a v (child before 0) → Refuted (Series a b) v before
  left_refuted stops holds root input way reached came bounded = stops holds.1.0 root input (way ++ Left ∷ []) (to_left root input way a b v reached) came.1.0 bounded

-- Splits.
module _ (place id : ℕ) (body : Outline) (v : Labels) (before t inner : Table) (flow : List Labels) where
  pub split_added : rows_of t ≡ rows_of before ++ row_of v flow ∷ [] → child t 0 ≡ inner → IsTrue (contains v (tag id)) → Visits body v (child before 0) inner
      → (Holds body inner → Covers body inner v → IsFlow body v flow) → AddsRow (Split place id body) v before t flow
  split_added rows first there visits flows = record {
    rows = rows;
    is = λ holds.
        let known = flows (visits.holds holds.1) (visits.covers holds.1) in
        record { few = known.few; same = λ u. ((λ listed. (there, (known.same u).0 listed)), (λ (has, further). (known.same u).1 further)) };
    inner = λ holds has. subst (λ s. Covers body s v) (sym first) (visits.covers holds.1);
    keeps = λ u before has. subst (λ s. Covers body s u) (sym first) (visits.keeps u (before has));
    holds = λ holds. subst (Holds body) (sym first) (visits.holds holds.1);
    came = λ root input way holds reached came.
        subst (Came root input (way ++ Body ∷ []) body) (sym first) (visits.came root input (way ++ Body ∷ []) holds.1 (to_replica root input way place id body v reached there) came.1);
  }

  pub split_refuted : IsTrue (contains v (tag id)) → Refuted body v (child before 0) → Refuted (Split place id body) v before
  split_refuted there stops holds root input way reached came bounded = stops holds.1 root input (way ++ Body ∷ []) (to_replica root input way place id body v reached there) came.1 bounded

  -- without the tag nothing comes out, and nothing is reached
  pub split_unrouted : rows_of t ≡ rows_of before ++ row_of v flow ∷ [] → parts_of t ≡ parts_of before → (IsTrue (contains v (tag id)) → ⊥) → flow ≡ [] → AddsRow (Split place id body) v before t flow
  split_unrouted rows parts without is = record {
    rows = rows;
    is = λ holds. record {
      few = subst (λ (f : List Labels). length f ≤ most_variants) (sym is) (omega arith);
      same = λ u. ((λ there. absurd (none u (subst (λ (f : List Labels). Contains f u) is there))), (λ (has, further). absurd (without has)));
    };
    inner = λ holds has. absurd (without has);
    keeps = λ u known has. subst (λ s. Covers body s u) (sym first) (known has);
    holds = λ holds. subst (Holds body) (sym first) holds.1;
    came = λ root input way holds reached came. subst (Came root input (way ++ Body ∷ []) body) (sym first) came.1;
  }
    where
      first : child t 0 ≡ child before 0
      first = ap (λ (ps : List Table). part_at ps 0) parts

-- Stars.
module _ (exit : Labels) (guarded : Bool) (body : Outline) (v : Labels) (before t inner : Table) (members flow : List Labels) where
  pub star_added : rows_of t ≡ rows_of before ++ row_of v flow ∷ [] → child t 0 ≡ inner → Closes exit guarded body v (child before 0) inner members
      → length flow ≤ most_variants → ((u : Labels) → Contains flow u ↔ Contains (with_exit members exit) u) → AddsRow (Star exit guarded body) v before t flow
  star_added rows first closes few same = record {
    rows = rows;
    is = λ holds. record {
      few = few;
      same = λ u. (
        λ there.
            (let found = leaving_from members exit u ((same u).0 there) in
            (found.origin, (closes.same holds.1 found.origin).0 found.listed, found.alike, found.is)),
        λ (w, come, alike, is). (same u).1 (subst (Contains (with_exit members exit)) (sym is) (leaving_to members exit w ((closes.same holds.1 w).1 come) alike)),
      );
    };
    inner = λ holds. (
      record { all = members; few = closes.few; listed = λ u come. (closes.same holds.1 u).1 come },
      λ u come stays. subst (λ s. Covers body s u) (sym first) (closes.covers holds.1 u ((closes.same holds.1 u).1 come) stays),
    );
    keeps = λ w known. (known.0, λ u come stays. subst (λ s. Covers body s u) (sym first) (closes.keeps u (known.1 u come stays)));
    holds = λ holds. subst (Holds body) (sym first) (closes.holds holds.1);
    came = λ root input way holds reached came.
        subst (Came root input (way ++ Body ∷ []) body) (sym first)
        (closes.came root input (way ++ Body ∷ []) holds.1 (λ u come stays. to_body root input way exit guarded body v u reached come stays) came.1);
  }
