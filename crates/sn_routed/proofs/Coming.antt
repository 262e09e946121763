-- What comes to a component is answered there, and what comes to a dispatcher has a key.
use Rattle.std.proofs.Common.{◌≡◌, ℕ, zero, suc, Bool, true, false, cond, ◌||◌, List, [], ◌∷◌, ◌++◌, map, refl, sym, ap, ap₂, ◌∙◌, subst}
use Rattle.std.specs.Prelude.{Option, None, Some, slice_get}
use Rattle.std.specs.List.{AllByRecursion as Each, Contains, list_any}
use Rattle.std.specs.Option.{option_map}
use Rattle.std.proofs.lemmas.Bool.{false≢true}
use Rattle.std.proofs.lemmas.List.{map-append}
use mathlib.Core.Bool.{Bool-set}
use mathlib.Core.Logic.{∥∥₁_elim}
use Rattle.sn_record.specs.LabelSet.{Labels}
use Rattle.sn_record.specs.Record.{Entries, Matches, is_match}
use Rattle.sn_record.proofs.Scores.{is_match-Matches}
use Rattle.sn_tagexpr.specs.declared.expr.TagExpr.{TagExpr}
use Rattle.sn_streams.specs.Keys.{Key}
use Rattle.sn_streams.specs.Forks.{Merge as StreamMerge}
use Rattle.sn_streams.specs.Machines.{Machine, after}
use Rattle.sn_streams.specs.Segments.{Segments}
use Rattle.sn_streams.specs.Trees.{Component, Fork}
use Rattle.sn_histories.specs.Entries.{Entry, Item, To, Mark, End}
use Rattle.sn_histories.specs.Histories.{In, Decisions, decision, decision_on}
use Rattle.sn_histories.specs.Sites.{Step, has_marks}
use Rattle.sn_histories.proofs.Sites.{hist-at}
use Rattle.sn_histories.proofs.Working.{decisions-history}
use Rattle.sn_net.specs.declared.expr.BoxProgram.{BoxProgram}
use Rattle.sn_net.specs.declared.filter.Filter.{Filter}
use Rattle.sn_net.specs.declared.net.Merge.{Merge}
use Rattle.sn_net.specs.declared.routing.Key.{Key as NetKey}
use Rattle.sn_net.specs.declared.routing.Key.TheVariants as key
use Rattle.sn_net.specs.Answer.{filter_answer}
use Rattle.sn_net.specs.BoxEvaluation.{box_answer}
use Rattle.sn_net.specs.Cell.{CellState, Slots, Passed, Unmatched, emitted_then, new_cell, placed, with_record}
use Rattle.sn_net.specs.Dispatchers.{Network, level, level_key, merge_of, router}
use Rattle.sn_net.specs.Face.{variant_of}
use Rattle.sn_net.specs.Item.{ModelItem, Rec, Stuck, holds_stuck}
use Rattle.sn_net.specs.Route.{of_record}
use Rattle.sn_model.specs.declared.run.Run.{Run}
use Rattle.sn_model.specs.Components.{alone, box_item, call_record, cell, filter_item}
use Rattle.sn_model.specs.Meaning.{tree}
use Rattle.sn_model.specs.Run.{input_of, setting_of}
use Rattle.sn_typing.specs.Typed.{MatchesOne}
use Rattle.sn_sound.specs.Conveyed.{Conveys}
use Rattle.sn_sound.proofs.Follows.{Goes}
use Rattle.sn_sound.proofs.Scores.{contains_behind, contains_head}
use Rattle.sn_net_histories.specs.Histories.{IsAtRun, decided, history}
use Rattle.sn_net_histories.proofs.Passing.{by_key}
use Rattle.sn_routed.specs.Routed.{has_stuck, items_in, lacks_route}
use Rattle.sn_routed.proofs.Known.{KnownAt, OfItem, each_entry}
use Rattle.sn_routed.proofs.Routed.{known_at, no_stuck_passes}

-- an entry among others, and the items before it
module _ {A : Type 0} (P : A → Type 0) where
  item_among : (before behind : List (Entry A)) (x : A) → Each (OfItem P) (before ++ (Item x ∷ behind)) → P x
  item_among [] behind x each = each.0
  item_among (e ∷ before) behind x each = item_among before behind x each.1

  items_before : (before rest : List (Entry A)) → Each (OfItem P) (before ++ rest) → Each P (items_in before)
  items_before [] rest each = tt
  items_before (Item x ∷ before) rest each = (each.0, items_before before rest each.1)
  items_before (To k ∷ before) rest each = items_before before rest each.1
  items_before (Mark ∷ before) rest each = items_before before rest each.1
  items_before (End ∷ before) rest each = items_before before rest each.1

module _ {A S : Type 0} (m : Machine A S) (Keeps : S → Type 0) (P Q : A → Type 0) (goes : (state : S) (x : A) → Keeps state → P x → Keeps (m.next state x) × Each Q (m.emits state x)) where
  after_keeps : (state : S) (xs : List A) → Keeps state → Each P xs → Keeps (after m state xs)
  after_keeps state [] kept each = kept
  after_keeps state (x ∷ xs) kept each = after_keeps (m.next state x) xs (goes state x kept each.0).0 each.1

none_stuck : (Q : ModelItem → Type 0) → ((x : ModelItem) → Q x → Goes x) → (ys : List ModelItem) → Each Q ys → holds_stuck ys ≡ false
none_stuck Q going [] each = refl
none_stuck Q going (y ∷ ys) each = ap₂ (λ b c. b || c) (going y each.0) (none_stuck Q going ys each.1)

-- what a component answers to an item, in the state after those before, and in its first state
module _ (m : Machine ModelItem CellState) (start : CellState) (P Q : ModelItem → Type 0) (conveys : Conveys Goes (Component m start) P Q)
    (before behind : List (Entry ModelItem)) (x : ModelItem) (each : Each (OfItem P) (before ++ (Item x ∷ behind))) where
  answers_after : holds_stuck (m.emits (after m start (items_in before)) x) ≡ false
  answers_after = at conveys
    where
      at : Conveys Goes (Component m start) P Q → holds_stuck (m.emits (after m start (items_in before)) x) ≡ false
      at (keeps, first, in_sort, out_sort, goes) =
          none_stuck Q out_sort (m.emits (after m start (items_in before)) x)
          (goes (after m start (items_in before)) x (after_keeps m keeps P Q goes start (items_in before) first (items_before P before (Item x ∷ behind) each))
          (item_among P before behind x each)).1

  answers_first : holds_stuck (m.emits start x) ≡ false
  answers_first = at conveys
    where
      at : Conveys Goes (Component m start) P Q → holds_stuck (m.emits start x) ≡ false
      at (keeps, first, in_sort, out_sort, goes) = none_stuck Q out_sort (m.emits start x) (goes start x first (item_among P before behind x each)).1

module _ (run : Run) (steps : List Step) (m : Machine ModelItem CellState) (start : CellState) (xss : Segments ModelItem) (before behind : List (Entry ModelItem)) (x : ModelItem)
    (at : IsAtRun run steps (record { part = Component m start; seg = xss })) (is : history run steps In ≡ before ++ (Item x ∷ behind)) where
  comes_known : (known : KnownAt Goes (record { part = Component m start; seg = xss })) → Each (OfItem known.before) (before ++ (Item x ∷ behind))
  comes_known known =
      subst (Each (OfItem known.before))
      (sym (hist-at (tree (setting_of run) run.net) (input_of run) steps In (record { part = Component m start; seg = xss }) at) ∙ is)
      (each_entry known.before (has_marks steps) xss known.comes)

  in_run : (claim : List ModelItem)
      → ((known : KnownAt Goes (record { part = Component m start; seg = xss })) → Each (OfItem known.before) (before ++ (Item x ∷ behind)) → holds_stuck claim ≡ false)
      → holds_stuck claim ≡ false
  in_run claim holds =
      ∥∥₁_elim run.formed (Bool-set _ _) (λ formed. ∥∥₁_elim run.typed (Bool-set _ _) (λ typed.
      let known : KnownAt Goes (record { part = Component m start; seg = xss }) = known_at run formed typed steps (record { part = Component m start; seg = xss }) at in
      holds known (comes_known known)))

  pub answered_after : holds_stuck (m.emits (after m start (items_in before)) x) ≡ false
  answered_after =
      in_run (m.emits (after m start (items_in before)) x) (λ known each. answers_after m start known.before known.behind known.conveys before behind x each)

  pub answered_first : holds_stuck (m.emits start x) ≡ false
  answered_first = in_run (m.emits start x) (λ known each. answers_first m start known.before known.behind known.conveys before behind x each)

-- a test without which a record would be stuck
met : (b : Bool) (ys : List ModelItem) (place : ℕ) → holds_stuck (cond b ys (Stuck place ∷ [])) ≡ false → b ≡ true
met true ys place e = refl
met false ys place e = absurd (false≢true (sym e))

matched : (r : Entries) (v : Labels) → is_match r v ≡ true → Matches r v
matched r v e = (is_match-Matches r v).0 e

pub box_matches : (run : Run) (steps : List Step) (boxes : List BoxProgram) (fuel place number : ℕ) (xss : Segments ModelItem) (before behind : List (Entry ModelItem)) (r : Entries)
    → IsAtRun run steps (record { part = alone (box_item boxes fuel place number); seg = xss }) → history run steps In ≡ before ++ (Item (Rec r) ∷ behind)
    → (program : BoxProgram) × (slice_get boxes number ≡ Some program) × Matches r (variant_of program.input)
box_matches run steps boxes fuel place number xss before behind r at is =
    called (slice_get boxes number) refl (answered_first run steps _ _ xss before behind (Rec r) at is)
  where
    called : (o : Option BoxProgram) → slice_get boxes number ≡ o → holds_stuck (call_record o place fuel r) ≡ false
        → (program : BoxProgram) × (slice_get boxes number ≡ Some program) × Matches r (variant_of program.input)
    called None there e = absurd (false≢true (sym e))
    called (Some program) there e =
        (program, there, matched r (variant_of program.input) (met (is_match r (variant_of program.input)) (box_answer program place r fuel) place e))

pub filter_matches : (run : Run) (steps : List Step) (filter : Filter) (xss : Segments ModelItem) (before behind : List (Entry ModelItem)) (r : Entries)
    → IsAtRun run steps (record { part = alone (filter_item filter); seg = xss }) → history run steps In ≡ before ++ (Item (Rec r) ∷ behind) → Matches r filter.pattern
filter_matches run steps filter xss before behind r at is =
    matched r filter.pattern (met (is_match r filter.pattern) (filter_answer filter r) filter.place (answered_first run steps _ _ xss before behind (Rec r) at is))

-- a new cell takes a record that matches one of its patterns, and no other
none_taken : (patterns : List Labels) (r : Entries) → list_any (is_match r) patterns ≡ false → with_record patterns (map (λ pattern. None) patterns) r ≡ None
none_taken [] r e = refl
none_taken (p ∷ patterns) r e = at (none_taken patterns r) (is_match r p) e
  where
    at : (list_any (is_match r) patterns ≡ false → with_record patterns (map (λ pattern. None) patterns) r ≡ None) → (b : Bool) → (b || list_any (is_match r) patterns) ≡ false
        → cond b (Some (Some r ∷ map (λ pattern. None) patterns)) (option_map (λ (others : Slots). None ∷ others) (with_record patterns (map (λ pattern. None) patterns) r)) ≡ None
    at later true e = absurd (false≢true (sym e))
    at later false e = ap (option_map (λ (others : Slots). None ∷ others)) (later e)

cell_met : (place : ℕ) (patterns : List Labels) (r : Entries) (b : Bool) → list_any (is_match r) patterns ≡ b
    → holds_stuck (emitted_then place r (placed patterns r (with_record patterns (map (λ pattern. None) patterns) r))) ≡ false → b ≡ true
cell_met place patterns r true is e = refl
cell_met place patterns r false is e = absurd (false≢true (sym e ∙ stuck))
  where
    stuck : holds_stuck (emitted_then place r (placed patterns r (with_record patterns (map (λ pattern. None) patterns) r))) ≡ true
    stuck =
        ap (λ o. holds_stuck (emitted_then place r (placed patterns r o))) (none_taken patterns r is)
        ∙ ap (λ b. holds_stuck (emitted_then place r (cond b Passed Unmatched))) is

one_matches : (patterns : List Labels) (r : Entries) → list_any (is_match r) patterns ≡ true → MatchesOne (Contains patterns) r
one_matches [] r e = absurd (false≢true e)
one_matches (p ∷ patterns) r e = at (one_matches patterns r) (is_match r p) refl e
  where
    at : (list_any (is_match r) patterns ≡ true → MatchesOne (Contains patterns) r) → (b : Bool) → is_match r p ≡ b → (b || list_any (is_match r) patterns) ≡ true
        → MatchesOne (Contains (p ∷ patterns)) r
    at later true is e = record { variant = p; listed = contains_head p patterns; matched = matched r p is }
    at later false is e =
        let found : MatchesOne (Contains patterns) r = later e in
        record { variant = found.variant; listed = contains_behind p patterns found.variant found.listed; matched = found.matched }

pub cell_matches : (run : Run) (steps : List Step) (place : ℕ) (patterns : List Labels) (xss : Segments ModelItem) (before behind : List (Entry ModelItem)) (r : Entries)
    → IsAtRun run steps (record { part = Component (cell place patterns) (new_cell patterns); seg = xss }) → history run steps In ≡ before ++ (Item (Rec r) ∷ behind)
    → MatchesOne (Contains patterns) r
cell_matches run steps place patterns xss before behind r at is =
    one_matches patterns r
    (cell_met place patterns r (list_any (is_match r) patterns) refl (answered_first run steps (cell place patterns) (new_cell patterns) xss before behind (Rec r) at is))

neither : (a b : Bool) → (a || b) ≡ false → (a ≡ false) × (b ≡ false)
neither true b e = absurd (false≢true (sym e))
neither false b e = (refl, e)

one_of_all : (before behind : List (Entry ModelItem)) (e : Entry ModelItem) → has_stuck (before ++ (e ∷ behind)) ≡ false → lacks_route e ≡ false
one_of_all [] behind e none = (neither (lacks_route e) (has_stuck behind) none).0
one_of_all (first ∷ before) behind e none = one_of_all before behind e (neither (lacks_route first) (has_stuck (before ++ (e ∷ behind))) none).1

pub has_key : (run : Run) (steps : List Step) (merge : StreamMerge) (place : ℕ) (key_of : ModelItem → NetKey) (child : Key → Network) (xss : Segments ModelItem)
    (before behind : List (Entry ModelItem)) (x : ModelItem) → IsAtRun run steps (record { part = Fork merge (router place key_of) child; seg = xss })
    → history run steps In ≡ before ++ (Item x ∷ behind) → key_of x ≡ key.Stuck → ⊥
has_key run steps merge place key_of child xss before behind x at is stuck =
    false≢true (sym (one_of_all (map (decision_on (router place key_of)) before) (map (decision_on (router place key_of)) behind) (decision (router place key_of) x) none)
    ∙ ap lacks_route (by_key place (key_of x) x ∙ ap (λ k. decided place k x) stuck))
  where
    none : has_stuck (map (decision_on (router place key_of)) before ++ (decision (router place key_of) x ∷ map (decision_on (router place key_of)) behind)) ≡ false
    none =
        ap has_stuck (sym (decisions-history (tree (setting_of run) run.net) (input_of run) steps merge (router place key_of) child xss at
        ∙ ap (map (decision_on (router place key_of))) is ∙ map-append (decision_on (router place key_of)) before (Item x ∷ behind)))
        ∙ no_stuck_passes run steps Decisions

pub level_has_key : (run : Run) (steps : List Step) (place : ℕ) (m : Merge) (exit : Labels) (guard : Option TagExpr) (body : Network) (left : ℕ) (xss : Segments ModelItem)
    (before behind : List (Entry ModelItem)) (x : ModelItem) → IsAtRun run steps (record { part = level place m exit guard body left; seg = xss })
    → history run steps In ≡ before ++ (Item x ∷ behind) → of_record (level_key place exit guard left) x ≡ key.Stuck → ⊥
level_has_key run steps place m exit guard body zero xss before behind x at is =
    has_key run steps (merge_of m) place (of_record (level_key place exit guard zero)) _ xss before behind x at is
level_has_key run steps place m exit guard body (suc left) xss before behind x at is =
    has_key run steps (merge_of m) place (of_record (level_key place exit guard (suc left))) _ xss before behind x at is
