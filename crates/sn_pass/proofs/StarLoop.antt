-- The loop that works off what comes to a star, turn by turn.
use Rattle.std.proofs.Common.{◌≡◌, ◌≢◌, ℕ, ◌+◌, ◌-◌, ◌<◌, ◌≤◌, ◌==◌, true, false, cond, List, [], ◌∷◌, ◌++◌, map, reverse, refl, sym, ap, ◌∙◌, subst, arith, append_assoc, append-nil}
use Rattle.std.specs.Prelude.{All, Bool, Option, nat_lt}
use Rattle.std.proofs.lemmas.List.{map-append, reverse-append}
use Rattle.std.proofs.lemmas.List.Elements.{All-cons, All-head, All-nil, All-tail}
use Rattle.std.proofs.lemmas.Bool.{false≢true}
use Rattle.std.proofs.lemmas.Bool.Decides.{nat_tests}
use Rattle.sn_record.specs.LabelSet.{Labels}
use Rattle.sn_record.specs.Record.{Entries}
use Rattle.sn_tagexpr.specs.declared.expr.TagExpr.{TagExpr}
use Rattle.sn_net.specs.declared.net.Merge.{Merge}
use Rattle.sn_net.specs.declared.net.Merge.TheVariants.{Det}
use Rattle.sn_net.specs.Cell.{CellState}
use Rattle.sn_net.specs.Dispatchers.{Network, level, level_key, passed_by}
use Rattle.sn_net.specs.Item.{ModelItem, Rec}
use Rattle.sn_net.specs.Route.{of_record}
use Rattle.sn_pass.specs.Flowing.{flows}
use Rattle.sn_pass.specs.Held.{LevelsOf, kept_at, levels_held}
use Rattle.sn_pass.specs.Keeping.{Keeping, Same, keeping}
use Rattle.sn_pass.specs.Levels.{Entry, Levels, StarParts, entries, goes_inside, star_tree, taps, with_level}
use Rattle.sn_pass.specs.Passing.{EntersAt, LeavesAt, Passes}
use Rattle.sn_pass.specs.States.{held}
use Rattle.sn_pass.specs.Waiting.{AreWithin, entry_of, stack_of}
use Rattle.sn_pass.specs.declared.kept.Kept.{Kept}
use Rattle.sn_pass.specs.declared.waiting.Waiting.{Waiting}
use Rattle.sn_pass.proofs.Keeping.{same_refl, same_sym, same_trans, same_emits, same_next}
use Rattle.sn_pass.proofs.Starting.{levels_from}
use Rattle.sn_pass.proofs.Turns.{Turned, none_inside_last, star_gives, star_keeps, turn_enters, turn_leaves}
use Rattle.sn_pass.proofs.Working.{IsWorkedOff, work_begins, work_ends, work_goes_on}

-- a star with any merge, of which nothing here depends
abbrev pub star_with : (place : ℕ) → Labels → Option TagExpr → Network → Merge → StarParts
star_with place exit guard body m = record { place = place; merge = m; exit = exit; guard = guard; body = body }

-- what the bodies keep, by their levels
abbrev pub at_levels : List Kept → Levels
at_levels levels = kept_at (map held levels)

-- the last of what waits is on top
popped : (old rest : List Waiting) (w : Waiting) → old ≡ rest ++ w ∷ [] → stack_of old ≡ entry_of w ∷ stack_of rest
popped old rest w is = ap stack_of is ∙ ap reverse (map-append entry_of rest (w ∷ [])) ∙ reverse-append (map entry_of rest) (entry_of w ∷ [])

module _ (place : ℕ) (exit : Labels) (guard : Option TagExpr) (body : Network) (depth : ℕ) where
  abbrev star : Merge → StarParts
  star = star_with place exit guard body

  -- each turn takes one passage of a tap off what is to come
  pub turned_falls : (m : Merge) (levels after : List Kept) (old new : List Entry) (given : List ModelItem) → Turned (star m) depth (at_levels levels) old given (at_levels after) new
      → taps (star m) depth (at_levels after) new < taps (star m) depth (at_levels levels) old
  turned_falls m levels after old new given turned = let takes = turned.takes in omega (arith, takes)

  -- where the topmost item leaves at its tap
  pub leaves_turned : (m : Merge) (levels : List Kept) (old rest : List Waiting) (w : Waiting) (grown later : List ModelItem) → old ≡ rest ++ w ∷ []
      → LeavesAt place (of_record (level_key place exit guard (depth - w.level)) (flows w.item)) (flows w.item) grown later
      → Turned (star m) depth (at_levels levels) (stack_of old) (passed_by place (of_record (level_key place exit guard (depth - w.level)) (flows w.item)) (flows w.item) ∷ []) (at_levels levels) (stack_of rest)
  leaves_turned m levels old rest w grown later is leaves =
      subst (λ (stack : List Entry). Turned (star m) depth (at_levels levels) stack (passed_by place (of_record (level_key place exit guard (depth - w.level)) (flows w.item)) (flows w.item) ∷ []) (at_levels levels) (stack_of rest))
      (sym (popped old rest w is)) (turn_leaves (star m) depth w.level (at_levels levels) (flows w.item) (stack_of rest) leaves.out_of)

  -- an item goes inside before the last tap alone
  pub enters_below : (w : Waiting) (r : Entries) (grown later : List ModelItem) → w.level ≤ depth
      → EntersAt (of_record (level_key place exit guard (depth - w.level)) (flows w.item)) (flows w.item) r grown later → w.level < depth
  enters_below w r grown later within enters =
      elim (nat_lt w.level depth) as (λ b. nat_lt w.level depth ≡ b → w.level < depth) [
        | true ↦ λ below. grind (arith, nat_tests, below)
        | false ↦ λ past.
            let none : depth - w.level ≡ 0 = grind (arith, nat_tests, past) in
            let inside = subst (λ n. goes_inside (of_record (level_key place exit guard n) (flows w.item)) ≡ true) none enters.inside in
            let never = none_inside_last (star Det) (flows w.item) in
            absurd (false≢true (sym never ∙ inside))
      ] refl

  -- what the body of a level does where the topmost item goes inside
  pub record IsEntered (levels after : List Kept) (rest new : List Waiting) (w : Waiting) (r : Entries) : Type 0 where
    pub mid : List Kept
    pub state : Keeping CellState
    pub later : Keeping CellState
    pub made : List ModelItem
    pub taken : state ≡ at_levels levels w.level
    pub took : (j : ℕ) → j ≢ w.level → at_levels mid j ≡ at_levels levels j
    pub passed : Passes body state later (Rec r) [] made
    pub put : at_levels after w.level ≡ later
    pub others : (j : ℕ) → j ≢ w.level → at_levels after j ≡ at_levels mid j
    pub waits : stack_of new ≡ entries (w.level + 1) made ++ stack_of rest

  entered_levels : (levels after : List Kept) (rest new : List Waiting) (w : Waiting) (r : Entries) (x : ModelItem) → x ≡ Rec r → IsEntered levels after rest new w r
      → (j : ℕ) → Same body (with_level (at_levels levels) w.level ((keeping body).next (at_levels levels w.level) x) j) (at_levels after j)
  entered_levels levels after rest new w r x item e j = at (j == w.level) refl
    where
      here : Same body ((keeping body).next (at_levels levels w.level) x) e.later
      here =
          same_sym body e.later _
          (subst (λ (q : Keeping CellState). Same body e.later ((keeping body).next q x)) e.taken (subst (λ (y : ModelItem). Same body e.later ((keeping body).next e.state y)) (sym item) e.passed.keeps))

      at : (b : Bool) → (j == w.level) ≡ b → Same body (cond b ((keeping body).next (at_levels levels w.level) x) (at_levels levels j)) (at_levels after j)
      at true is =
          let same : j ≡ w.level = grind (arith, nat_tests, is) in
          subst (λ (q : Keeping CellState). Same body ((keeping body).next (at_levels levels w.level) x) q) (sym e.put ∙ ap (at_levels after) (sym same)) here
      at false is =
          let apart : j ≢ w.level = λ same. grind (arith, nat_tests, is, same) in
          subst (λ (q : Keeping CellState). Same body (at_levels levels j) q) (sym (e.others j apart ∙ e.took j apart)) (same_refl body (at_levels levels j))

  pub enters_turned : (m : Merge) (levels after : List Kept) (old rest new : List Waiting) (w : Waiting) (r : Entries) (grown later : List ModelItem) → old ≡ rest ++ w ∷ [] → w.level ≤ depth
      → EntersAt (of_record (level_key place exit guard (depth - w.level)) (flows w.item)) (flows w.item) r grown later
      → IsEntered levels after rest new w r
      → Turned (star m) depth (at_levels levels) (stack_of old) [] (at_levels after) (stack_of new)
  enters_turned m levels after old rest new w r grown later is within enters e =
      let answers : (keeping body).emits (at_levels levels w.level) (flows w.item) ≡ e.made =
      ap (λ (q : Keeping CellState). (keeping body).emits q (flows w.item)) (sym e.taken) ∙ ap (λ (y : ModelItem). (keeping body).emits e.state y) enters.item ∙ sym e.passed.gives in
      subst (λ (stack : List Entry). Turned (star m) depth (at_levels levels) stack [] (at_levels after) (stack_of new)) (sym (popped old rest w is))
      (subst (λ (stack : List Entry). Turned (star m) depth (at_levels levels) (entry_of w ∷ stack_of rest) [] (at_levels after) stack)
      (ap (λ ys. entries (w.level + 1) ys ++ stack_of rest) answers ∙ sym e.waits)
      (turn_enters (star m) depth w.level (at_levels levels) (at_levels after) (flows w.item) (stack_of rest) (enters_below w r grown later within enters) enters.inside
      (entered_levels levels after rest new w r (flows w.item) enters.item e)))

  module _ (start : Levels) (x : ModelItem) (out : List ModelItem) where
    -- what was given so far, and what is still to be worked off
    pub record IsSoFar (grown : List ModelItem) (levels : List Kept) (waiting : List Waiting) : Type 0 where
      pub given : List ModelItem
      pub grown_is : grown ≡ out ++ given
      pub worked : (m : Merge) → IsWorkedOff (star m) depth start ((0, x) ∷ []) given (at_levels levels) (stack_of waiting)
      pub within : AreWithin depth waiting

    pub so_far_begins : (grown : List ModelItem) (levels : List Kept) (waiting : List Waiting) → grown ≡ out → start ≡ at_levels levels → stack_of waiting ≡ (0, x) ∷ [] → IsSoFar grown levels waiting
    so_far_begins grown levels waiting same are stack = record {
      given = [];
      grown_is = same ∙ sym (append-nil out);
      worked = λ m.
          subst (λ (others : List Entry). IsWorkedOff (star m) depth start ((0, x) ∷ []) [] (at_levels levels) others) (sym stack)
          (subst (λ (states : Levels). IsWorkedOff (star m) depth start ((0, x) ∷ []) [] states ((0, x) ∷ [])) are (work_begins (star m) depth start ((0, x) ∷ [])));
      within = subst (All (λ (e : Entry). e.0 ≤ depth)) (sym stack) (All-cons (λ (e : Entry). e.0 ≤ depth) (0, x) [] (omega arith) (All-nil (λ (e : Entry). e.0 ≤ depth)));
    }

    -- the topmost item waits at a level, and those below it too
    pub top_within : (old rest : List Waiting) (w : Waiting) → old ≡ rest ++ w ∷ [] → AreWithin depth old → w.level ≤ depth
    top_within old rest w is within = All-head (λ (e : Entry). e.0 ≤ depth) (entry_of w) (stack_of rest) (subst (All (λ (e : Entry). e.0 ≤ depth)) (popped old rest w is) within)

    rest_within : (old rest : List Waiting) (w : Waiting) → old ≡ rest ++ w ∷ [] → AreWithin depth old → AreWithin depth rest
    rest_within old rest w is within = All-tail (λ (e : Entry). e.0 ≤ depth) (entry_of w) (stack_of rest) (subst (All (λ (e : Entry). e.0 ≤ depth)) (popped old rest w is) within)

    entries_within : (i : ℕ) (xs : List ModelItem) (stack : List Entry) → i ≤ depth → All (λ (e : Entry). e.0 ≤ depth) stack → All (λ (e : Entry). e.0 ≤ depth) (entries i xs ++ stack)
    entries_within i [] stack below all = all
    entries_within i (y ∷ xs) stack below all = All-cons (λ (e : Entry). e.0 ≤ depth) (i, y) (entries i xs ++ stack) below (entries_within i xs stack below all)

    pub so_far_leaves : (levels : List Kept) (old rest : List Waiting) (w : Waiting) (grown later : List ModelItem) → old ≡ rest ++ w ∷ [] → IsSoFar grown levels old
        → LeavesAt place (of_record (level_key place exit guard (depth - w.level)) (flows w.item)) (flows w.item) grown later → IsSoFar later levels rest
    so_far_leaves levels old rest w grown later is before leaves = record {
      given = before.given ++ passed_by place (of_record (level_key place exit guard (depth - w.level)) (flows w.item)) (flows w.item) ∷ [];
      grown_is = leaves.given ∙ ap (λ ys. ys ++ passed_by place (of_record (level_key place exit guard (depth - w.level)) (flows w.item)) (flows w.item) ∷ []) before.grown_is
          ∙ append_assoc out before.given (passed_by place (of_record (level_key place exit guard (depth - w.level)) (flows w.item)) (flows w.item) ∷ []);
      worked = λ m. work_goes_on (star m) depth start ((0, x) ∷ []) before.given _ (at_levels levels) (at_levels levels) (stack_of old) (stack_of rest) (before.worked m) (leaves_turned m levels old rest w grown later is leaves);
      within = rest_within old rest w is before.within;
    }

    pub so_far_enters : (levels after : List Kept) (old rest new : List Waiting) (w : Waiting) (r : Entries) (grown later : List ModelItem) → old ≡ rest ++ w ∷ [] → IsSoFar grown levels old
        → EntersAt (of_record (level_key place exit guard (depth - w.level)) (flows w.item)) (flows w.item) r grown later
        → IsEntered levels after rest new w r → IsSoFar later after new
    so_far_enters levels after old rest new w r grown later is before enters e =
        let top = top_within old rest w is before.within in
        record {
          given = before.given ++ [];
          grown_is = enters.nothing ∙ before.grown_is ∙ ap (λ ys. out ++ ys) (sym (append-nil before.given));
          worked = λ m. work_goes_on (star m) depth start ((0, x) ∷ []) before.given [] (at_levels levels) (at_levels after) (stack_of old) (stack_of new) (before.worked m) (enters_turned m levels after old rest new w r grown later is top enters e);
          within =
              subst (All (λ (e : Entry). e.0 ≤ depth)) (sym e.waits)
              (entries_within (w.level + 1) e.made (stack_of rest) (let below = enters_below w r grown later top enters in omega (arith, below)) (rest_within old rest w is before.within));
        }

  -- all is worked off
  pub so_far_ends : (q later : Keeping CellState) (bodies : List (Keeping CellState)) (x : ModelItem) (out grown : List ModelItem) (levels : List Kept) (waiting : List Waiting)
      → LevelsOf q bodies → later ≡ levels_held (map held levels) → waiting ≡ [] → IsSoFar (kept_at bodies) x out grown levels waiting
      → (m : Merge) → Passes (level place m exit guard body depth) q later x out grown
  so_far_ends q later bodies x out grown levels waiting of is done before m =
      let empty : stack_of waiting ≡ [] = ap stack_of done in
      let ended = work_ends (star m) depth (kept_at bodies) ((0, x) ∷ []) before.given (at_levels levels)
      (subst (λ (stack : List Entry). IsWorkedOff (star m) depth (kept_at bodies) ((0, x) ∷ []) before.given (at_levels levels) stack) empty (before.worked m)) in
      let whole : Network = star_tree (star m) depth in
      let same : Same whole q (levels_held bodies) = levels_from (star m) depth q bodies of in
      record {
        gives = before.grown_is ∙ ap (λ ys. out ++ ys) (sym ended.0 ∙ star_gives (star m) depth bodies x ∙ sym (same_emits whole q (levels_held bodies) same x));
        keeps =
            subst (λ (p : Keeping CellState). Same whole p ((keeping whole).next q x)) (sym is)
            (same_trans whole (levels_held (map held levels)) ((keeping whole).next (levels_held bodies) x) ((keeping whole).next q x)
            (star_keeps (star m) depth bodies (map held levels) x ended.1)
            (same_next whole (levels_held bodies) q (same_sym whole q (levels_held bodies) same) x));
      }
