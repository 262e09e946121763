-- A synchrocell answers each record by one that has all its labels, and no other binding tags.
use Rattle.std.proofs.Common.{◌≡◌, ◌&&◌, ◌||◌, not, ℕ, Bool, true, false, cond, is_some, IsTrue, IfSome, List, [], ◌∷◌, map as each, Option, None, Some, refl, sym, ap, ◌∙◌, subst}
use Rattle.std.specs.List.{AllByRecursion as Each, list_any, Contains}
use Rattle.std.specs.FinMap as map
use Rattle.std.specs.Option.{option_map}
use Rattle.std.proofs.lemmas.Option.{none-some}
use Rattle.sn_record.specs.declared.label.Label.{Label}
use Rattle.sn_record.specs.declared.value.Value.{Value}
use Rattle.sn_record.specs.Label.{is_binding, label_cmp}
use Rattle.sn_record.specs.LabelSet.{Labels, contains, union, minus}
use Rattle.sn_record.specs.Record.{Entries, Matches, is_match}
use Rattle.sn_record.proofs.Fitting.{fits_itself, fits_same, fits_through}
use Rattle.sn_record.proofs.Scores.{is_match-Matches}
use Rattle.sn_net.specs.Cell.{CellState, Waiting, Passing, Slots, with_record, all_held, union as joined, held_or_joined, placed, reception, Reception, state_then, emitted_then, Passed, Unmatched, new_cell}
use Rattle.sn_net.specs.Item.{Rec}
use Rattle.sn_model.specs.Components.{cell}
use Rattle.sn_typing.specs.Outline.{cell_outline}
use Rattle.sn_typing.specs.Flow.{Flows, Takes}
use Rattle.sn_typing.specs.Typed.{IsOf, MatchesOne}
use Rattle.sn_sound.proofs.Emitted.{flowing, overlay_either, overlay_first, overlay_second, matches_any}
use Rattle.sn_sound.proofs.Follows.{Answers, Holds}
use Rattle.sn_sound.proofs.Scores.{contains_behind, contains_head}

mapped_some : {A B : Type 0} (f : A → B) (x : Option A) (y : B) → option_map f x ≡ Some y → (z : A) × (x ≡ Some z) × (f z ≡ y)
mapped_some f None y e = absurd (none-some y e)
mapped_some f (Some z) y e = (z, refl, (let is : f z ≡ y = cc in is))

-- nothing is held in full where a slot is empty
none_held : (slots : Slots) (records : List Entries) → all_held (None ∷ slots) ≡ Some records → ⊥
none_held slots records e = none-some records e

-- the record that fills a slot is among those that are joined
filled : (r : Entries) (patterns : List Labels) (slots then : Slots) (records : List Entries)
    → with_record patterns slots r ≡ Some then → all_held then ≡ Some records → (l : Label) → IsTrue (map.contains_key r l) → IsTrue (map.contains_key (joined records) l)
filled r [] slots then records e held l there = absurd (none-some then e)
filled r (p ∷ patterns) [] then records e held l there = absurd (none-some then e)
filled r (p ∷ patterns) (None ∷ slots) then records e held l there = at (is_match r p) e
  where
    at : (b : Bool) → cond b (Some (Some r ∷ slots)) (option_map (λ (others : Slots). None ∷ others) (with_record patterns slots r)) ≡ Some then → IsTrue (map.contains_key (joined records) l)
    at true is =
        let same : Some r ∷ slots ≡ then = cc in
        let found = mapped_some (λ (more : List Entries). r ∷ more) (all_held slots) records (ap all_held same ∙ held) in
        subst (λ (all : List Entries). IsTrue (map.contains_key (joined all) l)) found.2 (overlay_first r (joined found.0) l there)
    at false is =
        let found = mapped_some (λ (others : Slots). None ∷ others) (with_record patterns slots r) then is in
        absurd (none_held found.0 records (ap all_held found.2 ∙ held))
filled r (p ∷ patterns) (Some one ∷ slots) then records e held l there =
    let found = mapped_some (λ (others : Slots). Some one ∷ others) (with_record patterns slots r) then e in
    let all = mapped_some (λ (more : List Entries). one ∷ more) (all_held found.0) records (ap all_held found.2 ∙ held) in
    subst (λ (more : List Entries). IsTrue (map.contains_key (joined more) l)) all.2
    (overlay_second one (joined all.0) l (filled r patterns slots found.0 all.0 found.1 all.1 l there))

-- a label of what is joined is one of a record that is
of_joined : (records : List Entries) (l : Label) (P : Type 0) → Each (λ r. IsTrue (map.contains_key r l) → P) records → IsTrue (map.contains_key (joined records) l) → P
of_joined [] l P each there = absurd (differ (sym (ap is_some (map.get-empty {X = Value} label_cmp l)) ∙ there))
  where
    differ : false ≡ true → ⊥
    differ e = cc
of_joined (r ∷ records) l P each there = overlay_either r (joined records) l P each.0 (of_joined records l P each.1) there

module _ (takes : List Labels) where
  abbrev Taken : Entries → Type 0
  Taken = MatchesOne (Contains takes)

  abbrev AllTaken : Slots → Type 0
  AllTaken slots = Each (λ slot. IfSome slot Taken) slots

  -- what is held in full are records that are taken
  held_taken : (slots : Slots) (records : List Entries) → AllTaken slots → all_held slots ≡ Some records → Each Taken records
  held_taken [] records all is = (let none : [] ≡ records = cc in subst (Each Taken) none tt)
  held_taken (None ∷ slots) records all is = absurd (none-some records is)
  held_taken (Some one ∷ slots) records all is =
      let found = mapped_some (λ (more : List Entries). one ∷ more) (all_held slots) records is in
      subst (Each Taken) found.2 (all.0, held_taken slots found.0 all.1 found.1)

  -- a record that fills a slot is taken
  with_taken : (r : Entries) (patterns : List Labels) → ((p : Labels) → Contains patterns p → Contains takes p) → (slots then : Slots) → AllTaken slots → with_record patterns slots r ≡ Some then → AllTaken then
  with_taken r [] among slots then all e = absurd (none-some then e)
  with_taken r (p ∷ patterns) among [] then all e = absurd (none-some then e)
  with_taken r (p ∷ patterns) among (None ∷ slots) then all e =
      at (is_match r p) refl e (λ others is. with_taken r patterns (λ q there. among q (contains_behind p patterns q there)) slots others all.1 is)
    where
      at : (b : Bool) → is_match r p ≡ b → cond b (Some (Some r ∷ slots)) (option_map (λ (others : Slots). None ∷ others) (with_record patterns slots r)) ≡ Some then
          → ((others : Slots) → with_record patterns slots r ≡ Some others → AllTaken others) → AllTaken then
      at true test is later =
          let same : Some r ∷ slots ≡ then = cc in
          subst AllTaken same (record { variant = p; listed = among p (contains_head p patterns); matched = (is_match-Matches r p).0 test }, all.1)
      at false test is later =
          let found = mapped_some (λ (others : Slots). None ∷ others) (with_record patterns slots r) then is in
          subst AllTaken found.2 (tt, later found.0 found.1)
  with_taken r (p ∷ patterns) among (Some one ∷ slots) then all e =
      let found = mapped_some (λ (others : Slots). Some one ∷ others) (with_record patterns slots r) then e in
      subst AllTaken found.2 (all.0, with_taken r patterns (λ q there. among q (contains_behind p patterns q there)) slots found.0 all.1 found.1)

  -- the binding tags of a record that is taken are those of v
  taken_binds : (v : Labels) → Takes takes v → (l : Label) → IsTrue (is_binding l) → (r : Entries) → Taken r → IsTrue (map.contains_key r l) → IsTrue (contains v l)
  taken_binds v route l binds r taken there =
      route.has.fits.within l (sym (route.alike taken.variant route.has.variant taken.listed route.has.listed l binds) ∙ taken.matched.bound l binds there)

  each_binds : (v : Labels) → Takes takes v → (l : Label) → IsTrue (is_binding l) → (records : List Entries) → Each Taken records
      → Each (λ r. IsTrue (map.contains_key r l) → IsTrue (contains v l)) records
  each_binds v route l binds [] all = tt
  each_binds v route l binds (r ∷ records) all = (taken_binds v route l binds r all.0, each_binds v route l binds records all.1)

  none_taken : (patterns : List Labels) → AllTaken (each (λ pattern. None) patterns)
  none_taken [] = tt
  none_taken (p ∷ patterns) = (tt, none_taken patterns)

module _ (place : ℕ) (patterns : List Labels) where
  abbrev out : Labels → Labels → Type 0
  out = Flows (cell_outline place patterns)

  -- what a cell lets flow out has the labels of what came
  all_labels : (v : Labels) (l : Label) → contains (union map.empty (minus v map.empty)) l ≡ contains v l
  all_labels v l =
      flowing map.empty v map.empty l ∙ ap (λ b. b || (contains v l && not b)) (ap is_some (map.get-empty {X = Unit {0}} label_cmp l)) ∙ and_true (contains v l)
    where
      and_true : (b : Bool) → (b && true) ≡ b
      and_true true = refl
      and_true false = refl

  of_all : (r : Entries) (v : Labels) → Takes patterns v → Matches r v → IsOf (out v) (Rec r)
  of_all r v takes matches =
      let w : Labels = union map.empty (minus v map.empty) in
      record {
        variant = w;
        listed = (takes, (map.empty, contains_head map.empty [], refl));
        matched = fits_through (map.contains_key r) w v (fits_same (contains w) (contains v) w (all_labels v) (fits_itself w)) matches;
      }

  -- what a waiting cell makes of a record of v
  abbrev Received : Slots → Entries → Labels → Reception → Type 0
  Received slots r v reception = Holds patterns (state_then (Waiting slots) reception) × Each (IsOf (out v)) (emitted_then place r reception)

  answered : (q : CellState) (r : Entries) (v : Labels) → Holds patterns q → Takes patterns v → Matches r v
      → Holds patterns (state_then q (reception patterns q r)) × Each (IsOf (out v)) (emitted_then place r (reception patterns q r))
  answered Passing r v here takes matches = (tt, (of_all r v takes matches, tt))
  answered (Waiting slots) r v here takes matches = at (with_record patterns slots r) refl
    where
      passes : (b : Bool) → b ≡ true → Received slots r v (cond b Passed Unmatched)
      passes true e = (here, (of_all r v takes matches, tt))
      passes false e = absurd (differ e)
        where
          differ : false ≡ true → ⊥
          differ e = cc

      -- the joined record has all labels of v, and no other binding tags
      joined_matches : (then : Slots) (records : List Entries) → with_record patterns slots r ≡ Some then → all_held then ≡ Some records → Matches (joined records) v
      joined_matches then records is held =
          let all = held_taken patterns then records (with_taken patterns r patterns (λ p there. there) slots then here is) held in
          record {
            within = λ l there. filled r patterns slots then records is held l (matches.within l there);
            bound = λ l binds there. of_joined records l (IsTrue (contains v l)) (each_binds patterns v takes l binds records all) there;
          }

      joins : (then : Slots) → with_record patterns slots r ≡ Some then → (b : Option (List Entries)) → all_held then ≡ b → Received slots r v (held_or_joined then b)
      joins then is None e = (with_taken patterns r patterns (λ p there. there) slots then here is, tt)
      joins then is (Some records) e = (tt, (of_all (joined records) v takes (joined_matches then records is e), tt))

      at : (b : Option Slots) → with_record patterns slots r ≡ b → Received slots r v (placed patterns r b)
      at None e = passes (list_any (is_match r) patterns) (matches_any patterns r v takes.has matches)
      at (Some then) e = joins then e (all_held then) refl

  pub cell_answers : Answers patterns out (cell place patterns) (new_cell patterns)
  cell_answers = record { start = none_taken patterns patterns; records = answered; faults = λ q fault here. (here, refl) }
