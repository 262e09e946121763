-- How the set of a star is closed, a member at a time.
use Rattle.std.proofs.Common.{◌≡◌, ◌⊎◌, inl, inr, ℕ, ◌+◌, ◌<◌, Bool, List, [], ◌∷◌, ◌++◌, length, get_or, take, sym, ap, ◌∙◌, subst, arith}
use Rattle.std.specs.List.{Contains}
use Rattle.std.proofs.lemmas.List.{take_more, take-append-le}
use Rattle.std.proofs.lemmas.List.Elements.{Contains-get_or, Contains-append_cases}
use Rattle.sn_record.specs.LabelSet.{Labels}
use Rattle.sn_typing.specs.Outline.{Outline, Star}
use Rattle.sn_typing.specs.Flow.{Comes, Comes.{first, next}, SurelyLeaves, Flows}
use Rattle.sn_typing.specs.Reached.{Body}
use Rattle.sn_typing.specs.Accepted.{IsReached}
use Rattle.sn_flow.specs.declared.table.Table.{Table}
use Rattle.sn_flow.specs.Tables.{Came, Covers, Holds, IsFlow, child}
use Rattle.sn_flow.specs.Visits.{Adds, Closes, Closing, Overflows, Refuted, Visits}
use Rattle.sn_flow.proofs.Lists.{cases, none, head}
use Rattle.sn_flow.proofs.Ways.{to_body}

module _ (exit : Labels) (guarded : Bool) (body : Outline) (v : Labels) (before : Table) where
  abbrev At : Table → List Labels → ℕ → Type 0
  At t members i = Closing exit guarded body v before t members i

  pub begins : At before (v ∷ []) 0
  begins = record {
    distinct = (λ there. none v there, tt);
    few = omega arith;
    start = head v [];
    holds = λ holds. holds;
    comes = λ holds u there. only u (cases v [] u there);
    done = λ holds u there. absurd (none u there);
    keeps = λ u known. known;
    came = λ root input way holds reached came. came;
  }
    where
      only : (u : Labels) → (v ≡ u) ⊎ Contains [] u → Comes exit guarded (Flows body) v u
      only u (inl same) = subst (Comes exit guarded (Flows body) v) same first
      only u (inr nothing) = absurd (none u nothing)

  -- the next member surely leaves
  pub passes : (t : Table) (members : List Labels) (i : ℕ) (d : Labels) → i < length members → SurelyLeaves exit guarded (get_or members i d) → At t members i → At t members (i + 1)
  passes t members i d below leaves at = record {
    distinct = at.distinct;
    few = at.few;
    start = at.start;
    holds = at.holds;
    comes = at.comes;
    done = λ holds u there stays. which holds u stays (Contains-append_cases (take i members) (get_or members i d ∷ []) u (subst (λ ms. Contains ms u) (take_more members i d below) there));
    keeps = at.keeps;
    came = at.came;
  }
    where
      last : Holds body before → (u : Labels) → (SurelyLeaves exit guarded u → ⊥) → (get_or members i d ≡ u) ⊎ Contains [] u → Covers body t u × ((w : Labels) → Flows body u w → Contains members w)
      last holds u stays (inl same) = absurd (stays (subst (SurelyLeaves exit guarded) same leaves))
      last holds u stays (inr nothing) = absurd (none u nothing)

      which : Holds body before → (u : Labels) → (SurelyLeaves exit guarded u → ⊥) → Contains (take i members) u ⊎ Contains (get_or members i d ∷ []) u → Covers body t u × ((w : Labels) → Flows body u w → Contains members w)
      which holds u stays (inl front) = at.done holds u front stays
      which holds u stays (inr back) = last holds u stays (cases (get_or members i d) [] u back)

  -- the next member stays: the body is visited with it, and what flows out is added
  pub stays_more : (t t' : Table) (members flow members' : List Labels) (i : ℕ) (d : Labels) → i < length members → (SurelyLeaves exit guarded (get_or members i d) → ⊥) → At t members i
      → Visits body (get_or members i d) t t' → (Holds body t' → Covers body t' (get_or members i d) → IsFlow body (get_or members i d) flow) → Adds members flow members' → At t' members' (i + 1)
  stays_more t t' members flow members' i d below stays at visits flows adds = record {
    distinct = adds.distinct at.distinct;
    few = adds.few at.few;
    start = older v at.start;
    holds = λ holds. visits.holds (at.holds holds);
    comes = λ holds u there. comes holds u ((adds.same u).0 there);
    done = λ holds u there stays'. which holds u stays' (Contains-append_cases (take i members) (get_or members i d ∷ []) u (subst (λ ms. Contains ms u) taken there));
    keeps = λ u known. visits.keeps u (at.keeps u known);
    came = λ root input way holds reached came.
        visits.came root input way (at.holds holds) (reached (get_or members i d) (here holds) stays) (at.came root input way holds reached came);
  }
    where
      older : (u : Labels) → Contains members u → Contains members' u
      older u there = (adds.same u).1 (inl there)

      member : Contains members (get_or members i d)
      member = Contains-get_or members i d below

      here : Holds body before → Comes exit guarded (Flows body) v (get_or members i d)
      here holds = at.comes holds (get_or members i d) member

      known : Holds body before → IsFlow body (get_or members i d) flow
      known holds = flows (visits.holds (at.holds holds)) (visits.covers (at.holds holds))

      comes : Holds body before → (u : Labels) → Contains members u ⊎ Contains flow u → Comes exit guarded (Flows body) v u
      comes holds u (inl old) = at.comes holds u old
      comes holds u (inr there) = next (get_or members i d) u (here holds) stays (((known holds).same u).0 there)

      taken : take (i + 1) members' ≡ take i members ++ get_or members i d ∷ []
      taken = ap (take (i + 1)) adds.longer ∙ take-append-le (i + 1) members adds.rest (omega (arith, below)) ∙ take_more members i d below

      last : Holds body before → (u : Labels) → (get_or members i d ≡ u) ⊎ Contains [] u → Covers body t' u × ((w : Labels) → Flows body u w → Contains members' w)
      last holds u (inl same) = subst (λ z. Covers body t' z × ((w : Labels) → Flows body z w → Contains members' w)) same
          (visits.covers (at.holds holds), λ w flow'. (adds.same w).1 (inr (((known holds).same w).1 flow')))
      last holds u (inr nothing) = absurd (none u nothing)

      which : Holds body before → (u : Labels) → (SurelyLeaves exit guarded u → ⊥) → Contains (take i members) u ⊎ Contains (get_or members i d ∷ []) u → Covers body t' u × ((w : Labels) → Flows body u w → Contains members' w)
      which holds u stays' (inl front) =
          let old = at.done holds u front stays' in
          (visits.keeps u old.0, λ w flow'. older w (old.1 w flow'))
      which holds u stays' (inr back) = last holds u (cases (get_or members i d) [] u back)

  -- all members are done
  pub closed : (t : Table) (members : List Labels) (i : ℕ) → take i members ≡ members → At t members i → Closes exit guarded body v before t members
  closed t members i all at = record {
    few = at.few;
    holds = at.holds;
    same = λ holds u. (at.comes holds u, all_come holds u);
    covers = λ holds u there stays. (done_all holds u there stays).0;
    keeps = at.keeps;
    came = at.came;
  }
    where
      done_all : Holds body before → (u : Labels) → Contains members u → (SurelyLeaves exit guarded u → ⊥) → Covers body t u × ((w : Labels) → Flows body u w → Contains members w)
      done_all holds u there stays = at.done holds u (subst (λ (ms : List Labels). Contains ms u) (sym all) there) stays

      all_come : Holds body before → (u : Labels) → Comes exit guarded (Flows body) v u → Contains members u
      all_come holds u come = come_in (λ z there stays w flow. (done_all holds z there stays).1 w flow) u come
        where
          come_in : ((z : Labels) → Contains members z → (SurelyLeaves exit guarded z → ⊥) → (w : Labels) → Flows body z w → Contains members w) → (u : Labels) → Comes exit guarded (Flows body) v u → Contains members u
          come_in step u first = at.start
          come_in step u (next z w come stays flow) = step z (come_in step z come) stays u flow

  -- where the visit of a member stops, and where too many variants come
  pub body_refuted : (t : Table) (members : List Labels) (i : ℕ) (u : Labels) → Contains members u → (SurelyLeaves exit guarded u → ⊥) → (whole : Table) → child whole 0 ≡ before → At t members i → Refuted body u t → Refuted (Star exit guarded body) v whole
  body_refuted t members i u there stays whole is at stops holds root input way reached came bounded =
      let inner : Holds body before = subst (Holds body) is holds.1 in
      let to : (w : Labels) → Comes exit guarded (Flows body) v w → (SurelyLeaves exit guarded w → ⊥) → IsReached root input (way ++ Body ∷ []) body w = λ w come stays'. to_body root input way exit guarded body v w reached come stays' in
      stops (at.holds inner) root input (way ++ Body ∷ []) (to u (at.comes inner u there) stays)
      (at.came root input (way ++ Body ∷ []) inner to (subst (Came root input (way ++ Body ∷ []) body) is came.1)) bounded

  pub star_overflow : (t : Table) (members flow : List Labels) (i : ℕ) (u : Labels) → Contains members u → (SurelyLeaves exit guarded u → ⊥) → (whole : Table) → child whole 0 ≡ before → At t members i
      → (Holds body before → IsFlow body u flow) → Overflows members flow → Refuted (Star exit guarded body) v whole
  star_overflow t members flow i u there stays whole is at known stops holds root input way reached came bounded =
      let inner : Holds body before = subst (Holds body) is holds.1 in
      let few = bounded.stars way (Star exit guarded body) v reached in
      stops at.distinct (record { all = few.all; few = few.few; listed = λ w among. few.listed w (which inner w among) })
    where
      which : Holds body before → (w : Labels) → Contains members w ⊎ Contains flow w → Comes exit guarded (Flows body) v w
      which inner w (inl old) = at.comes inner w old
      which inner w (inr new) = next u w (at.comes inner u there) stays (((known inner).same w).0 new)
