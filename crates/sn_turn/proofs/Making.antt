-- New components, forks and children, where they are to stand.
use Rattle.std.proofs.Common.{◌≡◌, ℕ, ℤ, zero, suc, ◌≤◌, ◌<◌, ◌+◌, ◌-◌, arith, Bool, true, false, cond, List, [], ◌∷◌, ◌++◌, map, length, refl, sym, ap, subst, ◌∙◌}
use Rattle.std.specs.Prelude.{Option, None, Some}
use Rattle.std.specs.Option.{option_and_then}
use Rattle.std.proofs.lemmas.Option.{slice_get_within}
use Rattle.std.proofs.lemmas.Bool.{false≢true}
use Rattle.std.proofs.lemmas.List.{map-append}
use Rattle.sn_record.specs.LabelSet.{Labels}
use Rattle.sn_tagexpr.specs.declared.expr.TagExpr.{TagExpr}
use Rattle.sn_histories.specs.Sites.{Left, Right, Into, Step as TreeStep}
use Rattle.sn_histories.specs.Histories.{In, Out}
use Rattle.sn_streams.specs.Keys.{AreDistinct, Branch, Inside, Key, Own, Value, is_among, key_eq}
use Rattle.sn_streams.proofs.Keys.{key_eq-refl, same_key}
use Rattle.sn_streams.specs.Trees.{Component, Fork}
use Rattle.sn_net.specs.Cell.{CellState, Passing, new_cell}
use Rattle.sn_net.specs.Dispatchers.{Network, level, level_key, merge_of, router}
use Rattle.sn_net.specs.Route.{of_record}
use Rattle.sn_net.specs.WellFormed.{IsWellFormed, most_branches}
use Rattle.sn_net.proofs.Sound.{level_sound}
use mathlib.Core.Logic.{∥∥₁_elim}
use native.Mathlib.Bridge.{le_prop}
use Rattle.sn_net.specs.declared.filter.Filter.{Filter}
use Rattle.sn_net.specs.declared.net.Merge.{Merge}
use Rattle.sn_net.specs.declared.net.Net.{Net}
use Rattle.sn_net.specs.declared.net.Net.TheOpen.{Net-F}
use Rattle.sn_net.specs.declared.net.Net.TheVariants as form
use Rattle.sn_net.specs.declared.net.Net.TheViews.{out-Net, out-roll-Net}
use Rattle.sn_model.proofs.Forms.{tree-Box, tree-Choice, tree-Filter, tree-Split, tree-Star, tree-Sync}
use Rattle.sn_model.specs.declared.run.Run.{Run}
use Rattle.sn_model.specs.declared.step.Step.{Step}
use Rattle.sn_model.specs.declared.step.Step.TheVariants as step
use Rattle.sn_model.specs.Meaning.{tree}
use Rattle.sn_model.specs.Run.{input_of, setting_of}
use Rattle.sn_net_histories.specs.Histories.{IsAtRun, Level, Spot, Whole, history, tree_of}
use Rattle.sn_net_histories.specs.Places.{tree_step}
use Rattle.sn_node.proofs.Routers.{part_dispatches}
use Rattle.sn_routed.proofs.Spots.{spot_further, spot_reached}
use Rattle.sn_routed.specs.Spots.{from_form, spot_at, spot_behind}
use Rattle.sn_view.specs.Parts.{part_at}
use Rattle.sn_view.specs.Placed.{HasBranches}
use Rattle.sn_view.specs.Routed.{is_dispatching}
use Rattle.sn_component.specs.Component.{machine_of, start_of}
use Rattle.sn_component.specs.Facts.{IsFresh, history_for}
use Rattle.sn_component.proofs.Working.{part_of_run}
use Rattle.sn_fork.specs.Facts.{Each, ForksAt, IsChildAt, router_of}
use Rattle.sn_fork.specs.Seen.{ChildSeen, IsNew, keys_of}
use Rattle.sn_stream.specs.Ends.{End, passed}
use Rattle.sn_turn.specs.Places.{AreNewAt, IsNewChildAt, LeadTo, new_component, new_fork}
use Rattle.sn_turn.proofs.Parts.{shape-Choice, stands}

some_again : (o : Option Spot) → option_and_then (λ (spot : Spot). Some spot) o ≡ o
some_again None = refl
some_again (Some spot) = refl

-- how many replicas a star may have matters to no other network
split_alike : (place : ℕ) (m : Merge) (body : Net) (id depth left : ℕ) (next : TreeStep) → from_form depth (Net-F.Split place m body id) next ≡ from_form left (Net-F.Split place m body id) next
split_alike place m body id depth left Left = refl
split_alike place m body id depth left Right = refl
split_alike place m body id depth left (Into Own) = refl
split_alike place m body id depth left (Into Inside) = refl
split_alike place m body id depth left (Into (Branch i)) = refl
split_alike place m body id depth left (Into (Value n)) = refl

choice_alike : (place : ℕ) (m : Merge) (branches : List Net) (faces : List (List Labels)) (depth left : ℕ) (next : TreeStep)
    → from_form depth (Net-F.Choice place m branches faces) next ≡ from_form left (Net-F.Choice place m branches faces) next
choice_alike place m branches faces depth left Left = refl
choice_alike place m branches faces depth left Right = refl
choice_alike place m branches faces depth left (Into Own) = refl
choice_alike place m branches faces depth left (Into Inside) = refl
choice_alike place m branches faces depth left (Into (Branch i)) = refl
choice_alike place m branches faces depth left (Into (Value n)) = refl

module _ (run : Run) (path : List ℕ) (steps : List Step) (input output : End) (ends : AreNewAt run steps input output) where
  -- a component
  fresh : (net : Net) (state : CellState) → LeadTo run net path steps
      → tree (setting_of run) net ≡ Component (machine_of (setting_of run) (out-Net net)) (start_of (out-Net net)) → state ≡ start_of (out-Net net)
      → IsFresh (new_component run path state input output)
  fresh net state lead is start =
      let here = stands run net path steps lead in
      record {
        stands = record {
          net = net;
          there = lead.there;
          steps = map tree_step steps;
          seg = here.0;
          at = subst (λ t. IsAtRun run (map tree_step steps) (record { part = t; seg = here.0 })) is here.1;
          comes = ends.comes;
          leaves = ends.leaves;
        };
        state = start;
        got = ends.got;
        put = ends.put;
      }

  machine_is : (net : Net) (f : Net-F Net) (t : Network) → out-Net net ≡ f → tree (setting_of run) net ≡ t → t ≡ Component (machine_of (setting_of run) f) (start_of f)
      → tree (setting_of run) net ≡ Component (machine_of (setting_of run) (out-Net net)) (start_of (out-Net net))
  machine_is net f t shape is same = is ∙ same ∙ sym (ap (λ g. Component (machine_of (setting_of run) g) (start_of g)) shape)

  pub fresh_box : (net : Net) (place number : ℕ) → net ≡ form.Box place number → LeadTo run net path steps → IsFresh (new_component run path Passing input output)
  fresh_box net place number is lead =
      let shape = ap out-Net (is ∙ sym (form.rolls-Box place number)) ∙ out-roll-Net (Net-F.Box place number) in
      fresh net Passing lead (machine_is net (Net-F.Box place number) _ shape (ap (tree (setting_of run)) is ∙ tree-Box (setting_of run) place number) refl) (sym (ap start_of shape))

  pub fresh_filter : (net : Net) (filter : Filter) → net ≡ form.Filter filter → LeadTo run net path steps → IsFresh (new_component run path Passing input output)
  fresh_filter net filter is lead =
      let shape = ap out-Net (is ∙ sym (form.rolls-Filter filter)) ∙ out-roll-Net (Net-F.Filter filter) in
      fresh net Passing lead (machine_is net (Net-F.Filter filter) _ shape (ap (tree (setting_of run)) is ∙ tree-Filter (setting_of run) filter) refl) (sym (ap start_of shape))

  pub fresh_sync : (net : Net) (place : ℕ) (patterns given : List Labels) (state : CellState) → net ≡ form.Sync place patterns → given ≡ patterns → state ≡ new_cell given
      → LeadTo run net path steps → IsFresh (new_component run path state input output)
  fresh_sync net place patterns given state is same new lead =
      let shape = ap out-Net (is ∙ sym (form.rolls-Sync place patterns)) ∙ out-roll-Net (Net-F.Sync place patterns) in
      fresh net state lead (machine_is net (Net-F.Sync place patterns) _ shape (ap (tree (setting_of run)) is ∙ tree-Sync (setting_of run) place patterns) refl)
      (new ∙ ap new_cell same ∙ sym (ap start_of shape))

  -- a fork
  forks : (net : Net) (f : Net-F Net) (left : ℕ) (m : Merge) (child : Key → Network) (children : List ChildSeen) (spot : Spot) → part_at run.net path ≡ Some net
      → spot_at run.depth (Whole run.net) (map tree_step steps) ≡ Some spot → out-Net net ≡ f → is_dispatching f ≡ true → tree_of (setting_of run) spot ≡ Fork (merge_of m) (router_of left f) child
      → ((next : TreeStep) → spot_behind run.depth spot next ≡ from_form left f next) → Each (IsChildAt run (map tree_step steps)) children → AreDistinct (keys_of children)
      → HasBranches f (keys_of children) → ForksAt (new_fork run path left steps input children output)
  forks net f left m child children spot led reached shape dispatches is behind there apart whole =
      let here = spot_reached (setting_of run) (map tree_step steps) (Whole run.net) spot (input_of run ∷ []) reached in
      record {
        net = net;
        there = led;
        dispatches = part_dispatches run.boxes run.net path net run.formed (sym led) (ap is_dispatching shape ∙ dispatches);
        merge = merge_of m;
        router = router_of left f;
        child = child;
        routes = sym (ap (router_of left) shape);
        seg = here.0;
        at = subst (λ t. IsAtRun run (map tree_step steps) (record { part = t; seg = here.0 })) is here.1;
        onward = λ next.
            spot_further run.depth (map tree_step steps) (next ∷ []) (Whole run.net)
            ∙ ap (option_and_then (λ (spot : Spot). spot_at run.depth spot (next ∷ []))) reached
            ∙ some_again (spot_behind run.depth spot next) ∙ behind next ∙ ap (λ g. from_form left g next) (sym shape);
        comes = ends.comes;
        leaves = ends.leaves;
        children = there;
        apart = apart;
        whole = subst (λ g. HasBranches g (keys_of children)) (sym shape) whole;
      }

  level_forks : (place : ℕ) (m : Merge) (exit : Labels) (guard : Option TagExpr) (body : Network) (left : ℕ)
      → (child : Key → Network) × (level place m exit guard body left ≡ Fork (merge_of m) (router place (of_record (level_key place exit guard left))) child)
  level_forks place m exit guard body zero = (_, refl)
  level_forks place m exit guard body (suc left) = (_, refl)

  pub forks_star : (net : Net) (place : ℕ) (m : Merge) (body : Net) (exit : Labels) (guard : Option TagExpr) (left : ℕ) → net ≡ form.Star place m body exit guard → left ≡ run.depth
      → LeadTo run net path steps → ForksAt (new_fork run path left steps input [] output)
  forks_star net place m body exit guard left is all lead =
      let shape = ap out-Net (is ∙ sym (form.rolls-Star place m body exit guard)) ∙ out-roll-Net (Net-F.Star place m body exit guard) in
      let level = level_forks place m exit guard (tree (setting_of run) body) run.depth in
      subst (λ n. ForksAt (new_fork run path n steps input [] output)) (sym all)
      (forks net (Net-F.Star place m body exit guard) run.depth m level.0 [] (Whole net) lead.there lead.reached shape refl
      (ap (tree (setting_of run)) is ∙ tree-Star (setting_of run) place m body exit guard ∙ level.1) (λ next. ap (λ g. from_form run.depth g next) shape) tt tt tt)

  -- a later level of a star
  pub forks_level : (net : Net) (place : ℕ) (m : Merge) (body : Net) (exit : Labels) (guard : Option TagExpr) (left : ℕ) → net ≡ form.Star place m body exit guard
      → part_at run.net path ≡ Some net → spot_at run.depth (Whole run.net) (map tree_step steps) ≡ Some (Level place m exit guard body left)
      → ForksAt (new_fork run path left steps input [] output)
  forks_level net place m body exit guard left is led reached =
      let shape = ap out-Net (is ∙ sym (form.rolls-Star place m body exit guard)) ∙ out-roll-Net (Net-F.Star place m body exit guard) in
      let level = level_forks place m exit guard (tree (setting_of run) body) left in
      forks net (Net-F.Star place m body exit guard) left m level.0 [] (Level place m exit guard body left) led reached shape refl level.1 (λ next. refl) tt tt tt

  pub forks_split : (net : Net) (place : ℕ) (m : Merge) (body : Net) (id : ℕ) (left : ℕ) → net ≡ form.Split place m body id → LeadTo run net path steps
      → ForksAt (new_fork run path left steps input [] output)
  forks_split net place m body id left is lead =
      let shape = ap out-Net (is ∙ sym (form.rolls-Split place m body id)) ∙ out-roll-Net (Net-F.Split place m body id) in
      forks net (Net-F.Split place m body id) left m _ [] (Whole net) lead.there lead.reached shape refl (ap (tree (setting_of run)) is ∙ tree-Split (setting_of run) place m body id)
      (λ next. ap (λ g. from_form run.depth g next) shape ∙ split_alike place m body id run.depth left next) tt tt tt

  pub forks_choice : (place : ℕ) (m : Merge) (branches : List Net) (faces : List (List Labels)) (left : ℕ) (children : List ChildSeen) → LeadTo run (form.Choice place m branches faces) path steps
      → Each (IsChildAt run (map tree_step steps)) children → AreDistinct (keys_of children) → HasBranches (Net-F.Choice place m branches faces) (keys_of children)
      → ForksAt (new_fork run path left steps input children output)
  forks_choice place m branches faces left children lead there apart whole =
      let shape = shape-Choice place m branches faces in
      forks (form.Choice place m branches faces) (Net-F.Choice place m branches faces) left m _ children (Whole (form.Choice place m branches faces)) lead.there lead.reached shape refl
      (tree-Choice (setting_of run) place m branches faces)
      (λ next. ap (λ g. from_form run.depth g next) shape ∙ choice_alike place m branches faces run.depth left next) there apart whole

-- the branches of a choice as its children, up to before a number
key_sym : (j k : Key) → key_eq j k ≡ false → key_eq k j ≡ false
key_sym j k e = at (key_eq k j) refl
  where
    at : (b : Bool) → key_eq k j ≡ b → b ≡ false
    at false is = refl
    at true is = absurd (false≢true (sym e ∙ ap (λ i. key_eq i k) (sym (same_key k j is)) ∙ key_eq-refl k))

abbrev index_of : Key → ℕ
index_of (Branch i) = i
index_of other = 0

later_key : (j n : ℕ) → n + 1 ≤ j → key_eq (Branch j) (Branch n) ≡ false
later_key j n more = at (key_eq (Branch j) (Branch n)) refl
  where
    at : (b : Bool) → key_eq (Branch j) (Branch n) ≡ b → b ≡ false
    at false is = refl
    at true is = let e : j ≡ n = ap index_of (same_key (Branch j) (Branch n) is) in absurd (omega (arith, more, e))

among_more : (k j : Key) (keys : List Key) → is_among k keys ≡ false → key_eq k j ≡ false → is_among k (keys ++ j ∷ []) ≡ false
among_more k j [] none apart = ap (λ b. cond b true false) apart
among_more k j (i ∷ keys) none apart = at (key_eq k i) none (λ rest. among_more k j keys rest apart)
  where
    at : (b : Bool) → cond b true (is_among k keys) ≡ false → (is_among k keys ≡ false → is_among k (keys ++ j ∷ []) ≡ false) → cond b true (is_among k (keys ++ j ∷ [])) ≡ false
    at true is rest = absurd (false≢true (sym is))
    at false is rest = rest is

distinct_more : (j : Key) (keys : List Key) → AreDistinct keys → is_among j keys ≡ false → AreDistinct (keys ++ j ∷ [])
distinct_more j [] all none = (refl, tt)
distinct_more j (k ∷ keys) all none = at (key_eq j k) refl none (λ rest. distinct_more j keys all.1 rest)
  where
    at : (b : Bool) → key_eq j k ≡ b → cond b true (is_among j keys) ≡ false → (is_among j keys ≡ false → AreDistinct (keys ++ j ∷ [])) → AreDistinct (k ∷ (keys ++ j ∷ []))
    at true is rest more = absurd (false≢true (sym rest))
    at false is rest more = (among_more k j keys all.0 (key_sym j k is), more rest)

each_more : {A : Type 0} (P : A → Type 0) (front : List A) (c : A) → Each P front → P c → Each P (front ++ c ∷ [])
each_more P [] c all here = (here, tt)
each_more P (a ∷ front) c all here = (all.0, each_more P front c all.1 here)

among_last : (k : Key) (keys : List Key) → is_among k (keys ++ k ∷ []) ≡ true
among_last k [] = ap (λ b. cond b true false) (key_eq-refl k)
among_last k (i ∷ keys) = at (key_eq k i) (among_last k keys)
  where
    at : (b : Bool) → is_among k (keys ++ k ∷ []) ≡ true → cond b true (is_among k (keys ++ k ∷ [])) ≡ true
    at true rest = refl
    at false rest = rest

among_still : (k j : Key) (keys : List Key) → is_among k keys ≡ true → is_among k (keys ++ j ∷ []) ≡ true
among_still k j [] is = absurd (false≢true is)
among_still k j (i ∷ keys) is = at (key_eq k i) is (among_still k j keys)
  where
    at : (b : Bool) → cond b true (is_among k keys) ≡ true → (is_among k keys ≡ true → is_among k (keys ++ j ∷ []) ≡ true) → cond b true (is_among k (keys ++ j ∷ [])) ≡ true
    at true is rest = refl
    at false is rest = rest is

-- a new child stands at its fork
pub child_at : (run : Run) (steps longer : List Step) (next : Step) (k : Key) (c : ChildSeen) → longer ≡ steps ++ next ∷ [] → tree_step next ≡ Into k → key_eq k Own ≡ false
    → IsNewChildAt run longer k c → IsChildAt run (map tree_step steps) c
child_at run steps longer next k c is into apart made = record {
  apart = ap (λ k. key_eq k Own) made.named ∙ apart;
  comes = made.ways.comes ∙ ap (λ ss. history run ss In) reach;
  leaves = made.ways.leaves ∙ ap (λ ss. history run ss Out) reach;
  begins = (history_for c.from.made, ap (λ l. passed l ++ history_for c.from.made) made.ways.put);
}
  where
    reach : map tree_step longer ≡ map tree_step steps ++ Into c.key ∷ []
    reach = ap (map tree_step) is ∙ map-append tree_step steps (next ∷ []) ∙ ap (λ s. map tree_step steps ++ s ∷ []) (into ∙ ap Into (sym made.named))

pub child_new : (run : Run) (longer : List Step) (k : Key) (c : ChildSeen) → IsNewChildAt run longer k c → IsNew c
child_new run longer k c made = record { put = made.ways.got; held = made.held; got = made.ways.put }

pub record Branches (run : Run) (steps : List Step) (n : ℕ) (children : List ChildSeen) : Type 0 where
  pub there : Each (IsChildAt run (map tree_step steps)) children
  pub new : Each IsNew children
  pub apart : AreDistinct (keys_of children)
  pub none : (j : ℕ) → n ≤ j → is_among (Branch j) (keys_of children) ≡ false
  pub has : (j more : ℕ) → n ≡ j + suc more → is_among (Branch j) (keys_of children) ≡ true
  pub values : (v : ℤ) → is_among (Value v) (keys_of children) ≡ false

pub no_branches : (run : Run) (steps : List Step) → Branches run steps 0 []
no_branches run steps = record { there = tt; new = tt; apart = tt; none = λ j more. refl; has = λ j more is. absurd (omega (arith, is)); values = λ v. refl }

-- one branch more
pub one_more : (run : Run) (steps longer : List Step) (n : ℕ) (children now : List ChildSeen) (c : ChildSeen) → longer ≡ steps ++ step.Branch n ∷ [] → now ≡ children ++ c ∷ []
    → IsNewChildAt run longer (Branch n) c → Branches run steps n children → Branches run steps (n + 1) now
one_more run steps longer n children now c is then_is made before =
    subst (Branches run steps (n + 1)) (sym then_is) (record {
      there = each_more (IsChildAt run (map tree_step steps)) children c before.there (child_at run steps longer (step.Branch n) (Branch n) c is refl refl made);
      new = each_more IsNew children c before.new (child_new run longer (Branch n) c made);
      apart = subst AreDistinct (sym keys) (distinct_more c.key (keys_of children) before.apart (ap (λ k. is_among k (keys_of children)) made.named ∙ before.none n (omega arith)));
      none = λ j more. ap (is_among (Branch j)) keys ∙ among_more (Branch j) c.key (keys_of children) (before.none j (omega (arith, more))) (ap (key_eq (Branch j)) made.named ∙ later_key j n more);
      has = has;
      values = λ v. ap (is_among (Value v)) keys ∙ among_more (Value v) c.key (keys_of children) (before.values v) (ap (key_eq (Value v)) made.named);
    })
  where
    keys : keys_of (children ++ c ∷ []) ≡ keys_of children ++ c.key ∷ []
    keys = map-append (λ (d : ChildSeen). d.key) children (c ∷ [])

    has : (j more : ℕ) → n + 1 ≡ j + suc more → is_among (Branch j) (keys_of (children ++ c ∷ [])) ≡ true
    has j zero is =
        let same : j ≡ n = omega (arith, is) in
        ap (is_among (Branch j)) (keys ∙ ap (λ k. keys_of children ++ k ∷ []) (made.named ∙ ap Branch (sym same))) ∙ among_last (Branch j) (keys_of children)
    has j (suc more) is = ap (is_among (Branch j)) keys ∙ among_still (Branch j) c.key (keys_of children) (before.has j more (omega (arith, is)))

-- all branches
pub all_branches : (run : Run) (steps : List Step) (place : ℕ) (m : Merge) (branches : List Net) (faces : List (List Labels)) (n : ℕ) (children : List ChildSeen) → length branches ≤ n
    → Branches run steps n children → HasBranches (Net-F.Choice place m branches faces) (keys_of children)
all_branches run steps place m branches faces n children all made i branch there =
    let within : i < length branches = slice_get_within branches i branch there in
    made.has i (n - suc i) (omega (arith, within, all))

-- a choice has few branches
pub few_branches : (run : Run) (path : List ℕ) (steps : List Step) (place : ℕ) (m : Merge) (branches : List Net) (faces : List (List Labels)) → LeadTo run (form.Choice place m branches faces) path steps
    → length branches ≤ most_branches
few_branches run path steps place m branches faces lead =
    ∥∥₁_elim (part_of_run run path (form.Choice place m branches faces) lead.there) le_prop
    (λ formed. (level_sound run.boxes (Net-F.Choice place m branches faces) (subst (IsWellFormed run.boxes) (sym (form.rolls-Choice place m branches faces)) formed)).few)
