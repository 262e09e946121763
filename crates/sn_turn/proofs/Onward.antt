-- Where the children of a fork are to stand.
use Rattle.std.proofs.Common.{◌≡◌, ℕ, ℤ, suc, List, [], ◌∷◌, ◌++◌, map, true, refl, sym, ap, subst, ◌∙◌}
use Rattle.std.specs.Prelude.{Option, Some, is_some}
use Rattle.std.specs.Option.{option_and_then}
use Rattle.std.proofs.lemmas.List.{map-append}
use Rattle.std.proofs.lemmas.Option.{same_Some}
use Rattle.sn_record.specs.LabelSet.{Labels}
use Rattle.sn_tagexpr.specs.declared.expr.TagExpr.{TagExpr}
use Rattle.sn_streams.specs.Keys.{Inside, Value}
use Rattle.sn_streams.specs.Segments.{Segments}
use Rattle.sn_streams.specs.Trees.{Series}
use Rattle.sn_histories.specs.Histories.{Out}
use Rattle.sn_histories.specs.Sites.{Into}
use Rattle.sn_net.specs.Dispatchers.{level}
use Rattle.sn_net.specs.Item.{ModelItem}
use Rattle.sn_net.specs.declared.net.Merge.{Merge}
use Rattle.sn_net.specs.declared.net.Net.{Net}
use Rattle.sn_net.specs.declared.net.Net.TheOpen.{Net-F}
use Rattle.sn_net.specs.declared.net.Net.TheVariants as form
use Rattle.sn_net.specs.declared.net.Net.TheViews.{out-Net, out-roll-Net, roll-Net, roll-out-Net}
use Rattle.sn_net.specs.declared.routing.Key.{Key as NetKey}
use Rattle.sn_net.specs.declared.routing.Key.TheVariants as some_key
use Rattle.sn_model.specs.Meaning.{tree}
use Rattle.sn_model.specs.Run.{input_of, setting_of}
use Rattle.sn_model.specs.declared.run.Run.{Run}
use Rattle.sn_model.specs.declared.step.Step.{Step}
use Rattle.sn_model.specs.declared.step.Step.TheVariants as step
use Rattle.sn_net_histories.specs.Histories.{IsAtRun, Replica, Spot, Whole, history, leads_somewhere}
use Rattle.sn_net_histories.specs.Places.{tree_step}
use Rattle.sn_routed.proofs.Spots.{leads_spot, spot_further, spot_reached}
use Rattle.sn_routed.specs.Spots.{from_form, spot_at}
use Rattle.sn_view.proofs.Standing.{part-further}
use Rattle.sn_view.specs.Parts.{part_at, part_below}
use Rattle.sn_component.specs.Facts.{history_for}
use Rattle.sn_fork.specs.Facts.{ForksAt}
use Rattle.sn_fork.specs.Fork.{child_seen}
use Rattle.sn_fork.specs.Seen.{Forking}
use Rattle.sn_fork.specs.Turns.{Grows, Lacks}
use Rattle.sn_fork.specs.declared.fork.Child.{Child}
use Rattle.sn_fork.proofs.Growing.{lacking_grows}
use Rattle.sn_stream.specs.Ends.{End}
use Rattle.sn_turn.specs.Nodes.{Grown, parts_of}
use Rattle.sn_turn.specs.Places.{AreNewAt, IsNewChildAt, LeadTo, new_fork}
use Rattle.sn_turn.specs.Turns.{replica_parts}
use Rattle.sn_turn.specs.Unfolding.{IsMissing}
use Rattle.sn_turn.specs.declared.node.Node.{Node}
use Rattle.sn_turn.proofs.Making.{child_at, child_new, forks_level}
use Rattle.sn_turn.proofs.Parts.{series_left, series_right}

shape_split : (place : ℕ) (m : Merge) (body : Net) (id : ℕ) → out-Net (form.Split place m body id) ≡ Net-F.Split place m body id
shape_split place m body id = ap out-Net (sym (form.rolls-Split place m body id)) ∙ out-roll-Net (Net-F.Split place m body id)

shape_star : (place : ℕ) (m : Merge) (body : Net) (exit : Labels) (guard : Option TagExpr) → out-Net (form.Star place m body exit guard) ≡ Net-F.Star place m body exit guard
shape_star place m body exit guard = ap out-Net (sym (form.rolls-Star place m body exit guard)) ∙ out-roll-Net (Net-F.Star place m body exit guard)

-- one step behind a fork
behind : (f : Forking) (s : ForksAt f) (net : Net) (form : Net-F Net) (longer : List Step) (next : Step) → part_at f.run.net f.path ≡ Some net → out-Net net ≡ form → longer ≡ f.steps ++ next ∷ []
    → spot_at f.run.depth (Whole f.run.net) (map tree_step longer) ≡ from_form f.left form (tree_step next)
behind f s net form longer next there shape is =
    ap (spot_at f.run.depth (Whole f.run.net)) (ap (map tree_step) is ∙ map-append tree_step f.steps (next ∷ []))
    ∙ s.onward (tree_step next)
    ∙ ap (λ (n : Net). from_form f.left (out-Net n) (tree_step next)) (same_Some s.net net (sym s.there ∙ there))
    ∙ ap (λ g. from_form f.left g (tree_step next)) shape

leads_at : (run : Run) (steps : List Step) (spot : Spot) → spot_at run.depth (Whole run.net) (map tree_step steps) ≡ Some spot → leads_somewhere run.depth run.net (map tree_step steps) ≡ true
leads_at run steps spot is = leads_spot run.depth run.net (map tree_step steps) ∙ ap is_some is

-- the replica of a split for a value
replica_at : (f : Forking) (s : ForksAt f) (place : ℕ) (m : Merge) (body : Net) (id : ℕ) (n : ℤ) (path : List ℕ) (longer : List Step)
    → part_at f.run.net f.path ≡ Some (form.Split place m body id) → path ≡ f.path ++ 0 ∷ [] → longer ≡ f.steps ++ step.Value n ∷ [] → LeadTo f.run body path longer
replica_at f s place m body id n path longer there below is = record {
  there = ap (part_at f.run.net) below ∙ part-further f.run.net f.path 0 (form.Split place m body id) there ∙ ap (λ g. part_below g 0) (shape_split place m body id);
  reached = behind f s (form.Split place m body id) (Net-F.Split place m body id) longer (step.Value n) there (shape_split place m body id) is;
}

pub replica_leads : (f : Forking) (s : ForksAt f) (place : ℕ) (m : Merge) (body : Net) (id : ℕ) (n : ℤ) (at path : List ℕ) (steps longer : List Step)
    → part_at f.run.net f.path ≡ Some (form.Split place m body id) → at ≡ f.path → path ≡ at ++ 0 ∷ [] → steps ≡ f.steps → longer ≡ steps ++ step.Value n ∷ [] → LeadTo f.run body path longer
replica_leads f s place m body id n at path steps longer there here is_below same then = replica_at f s place m body id n path longer there
    (is_below ∙ ap (λ p. p ++ 0 ∷ []) here) (then ∙ ap (λ ss. ss ++ step.Value n ∷ []) same)

-- the next level of a star, with its body
module _ (f : Forking) (s : ForksAt f) (place : ℕ) (m : Merge) (body : Net) (exit : Labels) (guard : Option TagExpr) (less : ℕ)
    (there : part_at f.run.net f.path ≡ Some (form.Star place m body exit guard)) (left : f.left ≡ suc less) (inside : List Step) (is : inside ≡ f.steps ++ step.Inside ∷ []) where
  at_inside : spot_at f.run.depth (Whole f.run.net) (map tree_step inside) ≡ Some (Replica place m exit guard body less)
  at_inside =
      behind f s (form.Star place m body exit guard) (Net-F.Star place m body exit guard) inside step.Inside there (shape_star place m body exit guard) is
      ∙ ap (λ n. from_form n (Net-F.Star place m body exit guard) (Into Inside)) left

  pub inside_leads : leads_somewhere f.run.depth f.run.net (map tree_step inside) ≡ true
  inside_leads = leads_at f.run inside (Replica place m exit guard body less) at_inside

  further : (longer : List Step) (next : Step) → longer ≡ inside ++ next ∷ []
      → spot_at f.run.depth (Whole f.run.net) (map tree_step longer) ≡ spot_at f.run.depth (Replica place m exit guard body less) (tree_step next ∷ [])
  further longer next then_is =
      ap (spot_at f.run.depth (Whole f.run.net)) (ap (map tree_step) then_is ∙ map-append tree_step inside (next ∷ []))
      ∙ spot_further f.run.depth (map tree_step inside) (tree_step next ∷ []) (Whole f.run.net)
      ∙ ap (option_and_then (λ (spot : Spot). spot_at f.run.depth spot (tree_step next ∷ []))) at_inside

  pub body_leads : (path : List ℕ) (first : List Step) → path ≡ f.path ++ 0 ∷ [] → first ≡ inside ++ step.Left ∷ [] → LeadTo f.run body path first
  body_leads path first below then_is = record {
    there = ap (part_at f.run.net) below ∙ part-further f.run.net f.path 0 (form.Star place m body exit guard) there ∙ ap (λ g. part_below g 0) (shape_star place m body exit guard);
    reached = further first step.Left then_is;
  }

  stands_inside : (seg : Segments ModelItem)
      × IsAtRun f.run (map tree_step inside) (record { part = Series (tree (setting_of f.run) body) (level place m exit guard (tree (setting_of f.run) body) less); seg = seg })
  stands_inside = spot_reached (setting_of f.run) (map tree_step inside) (Whole f.run.net) (Replica place m exit guard body less) (input_of f.run ∷ []) at_inside

  pub body_ends : (first : List Step) (input output put : End) → AreNewAt f.run inside input output → first ≡ inside ++ step.Left ∷ []
      → history_for put.made ≡ history f.run (map tree_step first) Out → put.moved ≡ [] → AreNewAt f.run first input put
  body_ends first input output put ends then_is leaves moved =
      series_left f.run inside (tree (setting_of f.run) body) (level place m exit guard (tree (setting_of f.run) body) less) stands_inside.0 stands_inside.1
      first input put ends.comes ends.got then_is leaves moved

  pub level_forks : (first next : List Step) (path : List ℕ) (left : ℕ) (input output get : End) → AreNewAt f.run inside input output → path ≡ f.path → left ≡ less → first ≡ inside ++ step.Left ∷ []
      → next ≡ inside ++ step.Right ∷ [] → history_for get.made ≡ history f.run (map tree_step first) Out → get.moved ≡ [] → ForksAt (new_fork f.run path left next get [] output)
  level_forks first next path left input output get ends same fewer then_is next_is comes moved =
      subst (λ (n : ℕ). ForksAt (new_fork f.run path n next get [] output)) (sym fewer)
      (forks_level f.run path next get output
      (series_right f.run inside (tree (setting_of f.run) body) (level place m exit guard (tree (setting_of f.run) body) less) stands_inside.0 stands_inside.1
      first next get output ends.leaves ends.put then_is next_is comes moved)
      (form.Star place m body exit guard) place m body exit guard less refl (ap (part_at f.run.net) same ∙ there) (further next step.Right next_is))

-- the child that was made is the one that is missing
pub made_replica : (f : Forking) (run : Run) (net : Net) (place : ℕ) (m : Merge) (body : Net) (id : ℕ) (n : ℤ) (key : NetKey) (child : Child) (nodes : List Node) → run ≡ f.run
    → net ≡ form.Split place m body id → key ≡ some_key.Value n → child.key ≡ some_key.Value n → IsNewChildAt run (f.steps ++ step.Value n ∷ []) (Value n) (child_seen child)
    → Grown [] nodes (parts_of body (f.path ++ 0 ∷ [])) → IsMissing f net key child nodes
made_replica f run net place m body id n key child nodes same is goes named made grown = record {
  named = named ∙ sym goes;
  there = child_at f.run f.steps (f.steps ++ step.Value n ∷ []) (step.Value n) (Value n) (child_seen child) refl refl refl
      (subst (λ (r : Run). IsNewChildAt r (f.steps ++ step.Value n ∷ []) (Value n) (child_seen child)) same made);
  new = child_new run (f.steps ++ step.Value n ∷ []) (Value n) (child_seen child) made;
  grown = subst (λ (g : Net-F Net). Grown [] nodes (replica_parts g f.path)) (sym (ap out-Net is ∙ shape_split place m body id)) grown;
}

pub made_level : (f : Forking) (run : Run) (net : Net) (place : ℕ) (m : Merge) (body : Net) (exit : Labels) (guard : Option TagExpr) (key : NetKey) (child : Child) (nodes : List Node) → run ≡ f.run
    → net ≡ form.Star place m body exit guard → key ≡ some_key.Inside → child.key ≡ some_key.Inside → IsNewChildAt run (f.steps ++ step.Inside ∷ []) Inside (child_seen child)
    → Grown [] nodes (parts_of body (f.path ++ 0 ∷ []) ++ f.path ∷ []) → IsMissing f net key child nodes
made_level f run net place m body exit guard key child nodes same is goes named made grown = record {
  named = named ∙ sym goes;
  there = child_at f.run f.steps (f.steps ++ step.Inside ∷ []) step.Inside Inside (child_seen child) refl refl refl
      (subst (λ (r : Run). IsNewChildAt r (f.steps ++ step.Inside ∷ []) Inside (child_seen child)) same made);
  new = child_new run (f.steps ++ step.Inside ∷ []) Inside (child_seen child) made;
  grown = subst (λ (g : Net-F Net). Grown [] nodes (replica_parts g f.path)) (sym (ap out-Net is ∙ shape_star place m body exit guard)) grown;
}

-- what the part of a fork that lacks a child is
pub grows_as : (f : Forking) (s : ForksAt f) (run : Run) (net : Net) (key : NetKey) (form : Net-F Net) → run ≡ f.run → part_at run.net f.path ≡ Some net → out-Net net ≡ form → Lacks f key
    → Grows f.left form key
grows_as f s run net key form same there shape lacks =
    subst (λ (g : Net-F Net). Grows f.left g key)
    (ap out-Net (same_Some s.net net (sym s.there ∙ ap (λ (r : Run). part_at r.net f.path) (sym same) ∙ there)) ∙ shape) (lacking_grows f s key lacks)

pub grows_star : (f : Forking) (s : ForksAt f) (run : Run) (net : Net) (key : NetKey) (place : ℕ) (m : Merge) (body : Net) (exit : Labels) (guard : Option TagExpr) → run ≡ f.run
    → part_at run.net f.path ≡ Some net → net ≡ form.Star place m body exit guard → Lacks f key → (key ≡ some_key.Inside) × (less : ℕ) × (f.left ≡ suc less)
grows_star f s run net key place m body exit guard same there is lacks =
    grows_as f s run net key (Net-F.Star place m body exit guard) same there (ap out-Net is ∙ shape_star place m body exit guard) lacks

pub grows_split : (f : Forking) (s : ForksAt f) (run : Run) (net : Net) (key : NetKey) (place : ℕ) (m : Merge) (body : Net) (id : ℕ) → run ≡ f.run
    → part_at run.net f.path ≡ Some net → net ≡ form.Split place m body id → Lacks f key → (n : ℤ) × (key ≡ some_key.Value n)
grows_split f s run net key place m body id same there is lacks =
    grows_as f s run net key (Net-F.Split place m body id) same there (ap out-Net is ∙ shape_split place m body id) lacks

-- no other part lacks one
pub grows_alone : (f : Forking) (s : ForksAt f) (run : Run) (net : Net) (key : NetKey) → run ≡ f.run → part_at run.net f.path ≡ Some net
    → ((place : ℕ) (m : Merge) (body : Net) (exit : Labels) (guard : Option TagExpr) → net ≡ form.Star place m body exit guard → ⊥)
    → ((place : ℕ) (m : Merge) (body : Net) (id : ℕ) → net ≡ form.Split place m body id → ⊥) → Lacks f key → ⊥
grows_alone f s run net key same there no_star no_split lacks = at (out-Net net) refl (grows_as f s run net key (out-Net net) same there refl lacks)
  where
    at : (g : Net-F Net) → out-Net net ≡ g → Grows f.left g key → ⊥
    at (Net-F.Box place number) shape grows = grows
    at (Net-F.Filter filter) shape grows = grows
    at (Net-F.Sync place patterns) shape grows = grows
    at (Net-F.Serial a b) shape grows = grows
    at (Net-F.Choice place m branches faces) shape grows = grows
    at (Net-F.Star place m body exit guard) shape grows = no_star place m body exit guard (sym (roll-out-Net net) ∙ ap roll-Net shape ∙ form.rolls-Star place m body exit guard)
    at (Net-F.Split place m body id) shape grows = no_split place m body id (sym (roll-out-Net net) ∙ ap roll-Net shape ∙ form.rolls-Split place m body id)
