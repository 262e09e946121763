-- Which forms of network have the tree of a series, of a choice, of a level of a star or of a split, and what stands in them.
use Rattle.std.proofs.Common.{◌≡◌, ℕ, ℤ, zero, suc, Bool, true, false, cond, List, refl, sym, ap, ◌∙◌}
use Rattle.std.specs.Prelude.{Option, None, Some, is_some, slice_get, pos, Result, Ok, Err}
use Rattle.std.specs.FinMap as finite
use Rattle.std.specs.Option.{option_map}
use Rattle.std.specs.Ordering.{int_eq}
use Rattle.std.proofs.lemmas.Bool.{false≢true}
use Rattle.std.proofs.lemmas.Option.{none-some, slice_get-map}
use Rattle.sn_record.specs.LabelSet.{Labels}
use Rattle.sn_record.specs.Record.{Entries, is_match}
use Rattle.sn_record.specs.declared.value.Value.{Value as RecordValue}
use Rattle.sn_record.specs.declared.value.Value.TheVariants.{Int}
use Rattle.sn_record.proofs.Records.{get-insert_same}
use Rattle.sn_tagexpr.specs.declared.expr.TagExpr.{TagExpr}
use Rattle.sn_tagexpr.specs.declared.fault.ExprFault.{ExprFault}
use Rattle.sn_tagexpr.specs.Evaluation.{worth}
use Rattle.sn_streams.specs.Keys.{Key, Own, Branch, Inside, Value}
use Rattle.sn_streams.specs.Trees.{Series, Fork}
use Rattle.sn_histories.specs.Sites.{Left, Right, Into}
use Rattle.sn_net.specs.declared.net.Merge.{Merge}
use Rattle.sn_net.specs.declared.net.Net.{Net}
use Rattle.sn_net.specs.declared.net.Net.TheOpen.{Net-F}
use Rattle.sn_net.specs.declared.net.Net.TheFolds.{map-Net}
use Rattle.sn_net.specs.declared.routing.Key.{Key as NetKey}
use Rattle.sn_net.specs.declared.routing.Key.TheVariants as key
use Rattle.sn_net.proofs.BestBranches.{best_branch-Some}
use Rattle.sn_net.specs.Answer.{tag_number}
use Rattle.sn_net.specs.Dispatchers.{Network, level, no_way_inside, split, stream_key}
use Rattle.sn_net.specs.Face.{face}
use Rattle.sn_net.specs.Filter.{tag}
use Rattle.sn_net.specs.Item.{ModelItem, Rec}
use Rattle.sn_net.specs.Route.{best_branch, branch_key, exit_key, guarded, replica_key, tap_key}
use Rattle.sn_net.specs.WellFormed.{IsSound, IsSoundChoice}
use Rattle.sn_model.specs.Meaning.{Setting, tree, tree_step}
use Rattle.sn_net_histories.specs.Histories.{Whole}
use Rattle.sn_routed.specs.Spots.{from_form, from_level}

abbrev pub is_series : Network → Bool
is_series (Series a b) = true
is_series t = false

-- inside stands a series
abbrev pub holds_series : Network → Bool
holds_series (Fork merge r child) = is_series (child Inside)
holds_series t = false

-- the child that an item goes to
abbrev pub sent_as : Network → ModelItem → Key
sent_as (Fork merge r child) x = r.key x
sent_as t x = Own

abbrev pub is_value : Key → Bool
is_value (Value n) = true
is_value k = false

abbrev pub is_branch : Key → Bool
is_branch (Branch i) = true
is_branch k = false

-- a tap sends nothing to branches or replicas of a split, a choice to branches alone, and a split to replicas alone
module _ (test : Key → Bool) (own : test Own ≡ false) where
  module _ (inside : test Inside ≡ false) where
    guard_sends : (place : ℕ) (worth_is : Result ℤ ExprFault) → test (stream_key (guarded place worth_is)) ≡ false
    guard_sends place (Err fault) = own
    guard_sends place (Ok n) = at (int_eq n (pos 0))
      where
        at : (b : Bool) → test (stream_key (cond b key.Inside key.Bypass)) ≡ false
        at true = inside
        at false = own

    exit_sends : (place : ℕ) (guard : Option TagExpr) (r : Entries) → test (stream_key (exit_key place guard r)) ≡ false
    exit_sends place None r = own
    exit_sends place (Some guard) r = guard_sends place (worth (tag_number r) guard)

    tap_sends : (place : ℕ) (exit : Labels) (guard : Option TagExpr) (r : Entries) → test (stream_key (tap_key place exit guard r)) ≡ false
    tap_sends place exit guard r = at (is_match r exit)
      where
        at : (b : Bool) → test (stream_key (cond b (exit_key place guard r) key.Inside)) ≡ false
        at true = exit_sends place guard r
        at false = inside

    last_sends : (place : ℕ) (k : NetKey) → test (stream_key k) ≡ false → test (stream_key (no_way_inside place k)) ≡ false
    last_sends place key.Bypass e = e
    last_sends place (key.Branch i) e = e
    last_sends place key.Inside e = own
    last_sends place (key.Value n) e = e
    last_sends place (key.Broken fault) e = e
    last_sends place key.Stuck e = e

    pub level_sends : (place : ℕ) (m : Merge) (exit : Labels) (guard : Option TagExpr) (body : Network) (left : ℕ) (r : Entries)
        → test (sent_as (level place m exit guard body left) (Rec r)) ≡ false
    level_sends place m exit guard body zero r = last_sends place (tap_key place exit guard r) (tap_sends place exit guard r)
    level_sends place m exit guard body (suc left) r = tap_sends place exit guard r

  choice_sends : ((i : ℕ) → test (Branch i) ≡ false) → (o : Option ℕ) → test (stream_key (branch_key o)) ≡ false
  choice_sends branch None = own
  choice_sends branch (Some i) = branch i

  split_sends : ((n : ℤ) → test (Value n) ≡ false) → (o : Option RecordValue) → test (stream_key (replica_key o)) ≡ false
  split_sends value None = own
  split_sends value (Some v) = value _

-- a record that a split sends to a replica
abbrev pub tagged : ℕ → Entries
tagged id = finite.insert finite.empty (tag id) (Int (pos 0))

pub tagged_goes : (place : ℕ) (m : Merge) (id : ℕ) (body : Network) → is_value (sent_as (split place m id body) (Rec (tagged id))) ≡ true
tagged_goes place m id body = ap (λ o. is_value (stream_key (replica_key o))) (get-insert_same finite.empty (tag id) (Int (pos 0)))

pub level_no_series : (place : ℕ) (m : Merge) (exit : Labels) (guard : Option TagExpr) (body : Network) (left : ℕ) → is_series (level place m exit guard body left) ≡ false
level_no_series place m exit guard body zero = refl
level_no_series place m exit guard body (suc left) = refl

pub level_inside : (place : ℕ) (m : Merge) (exit : Labels) (guard : Option TagExpr) (body : Network) (net : Net) (left : ℕ)
    → holds_series (level place m exit guard body left) ≡ true → is_some (from_level place m exit guard net left (Into Inside)) ≡ true
level_inside place m exit guard body net zero e = absurd (false≢true e)
level_inside place m exit guard body net (suc left) e = refl

module _ (s : Setting) where
  abbrev form_tree : Net-F Net → Network
  form_tree y = tree_step s (map-Net _ _ (tree s) y)

  pub series_form : (y : Net-F Net) → is_series (form_tree y) ≡ true → (is_some (from_form s.depth y Left) ≡ true) × (is_some (from_form s.depth y Right) ≡ true)
  series_form (Net-F.Serial left right) e = (refl, refl)
  series_form (Net-F.Star place merge body exit guard) e = absurd (false≢true (sym (level_no_series place merge exit guard (tree s body) s.depth) ∙ e))
  series_form _ e = absurd (false≢true e)

  pub inside_form : (y : Net-F Net) → holds_series (form_tree y) ≡ true → is_some (from_form s.depth y (Into Inside)) ≡ true
  inside_form (Net-F.Star place merge body exit guard) e = level_inside place merge exit guard (tree s body) body s.depth e
  inside_form _ e = absurd (false≢true e)

  pub value_form : (y : Net-F Net) (r : Entries) (n : ℤ) → is_value (sent_as (form_tree y) (Rec r)) ≡ true → is_some (from_form s.depth y (Into (Value n))) ≡ true
  value_form (Net-F.Split place merge body id) r n e = refl
  value_form (Net-F.Star place merge body exit guard) r n e =
      absurd (false≢true (sym (level_sends is_value refl refl place merge exit guard (tree s body) s.depth r) ∙ e))
  value_form (Net-F.Choice place merge branches faces) r n e = absurd (false≢true (sym (choice_sends is_value refl (λ i. refl) (best_branch faces r)) ∙ e))
  value_form _ r n e = absurd (false≢true e)

  branch_there : (nets : List Net) (faces : List (List Labels)) (r : Entries) (i : ℕ) → IsSoundChoice s.boxes nets faces → best_branch faces r ≡ Some i
      → is_some (slice_get nets i) ≡ true
  branch_there nets faces r i sound best = at (slice_get nets i) refl
    where
      found : slice_get faces i ≡ option_map (face s.boxes) (slice_get nets i)
      found = ap (λ fs. slice_get fs i) sound.paired ∙ slice_get-map (face s.boxes) nets i

      at : (o : Option Net) → slice_get nets i ≡ o → is_some o ≡ true
      at None none = absurd (none-some _ (sym (found ∙ ap (option_map (face s.boxes)) none) ∙ (best_branch-Some faces r i best).here))
      at (Some net) is = refl

  sent_there : (nets : List Net) (faces : List (List Labels)) (r : Entries) (i : ℕ) (o : Option ℕ) → IsSoundChoice s.boxes nets faces → best_branch faces r ≡ o
      → stream_key (branch_key o) ≡ Branch i → is_some (option_map Whole (slice_get nets i)) ≡ true
  sent_there nets faces r i None sound best e = absurd (false≢true (ap is_branch e))
  sent_there nets faces r i (Some j) sound best e = at (slice_get nets i) (branch_there nets faces r i sound (best ∙ ap Some same))
    where
      same : j ≡ i
      same = cc

      at : (o : Option Net) → is_some o ≡ true → is_some (option_map Whole o) ≡ true
      at None e = e
      at (Some net) e = refl

  pub branch_form : (y : Net-F Net) (r : Entries) (i : ℕ) → IsSound s.boxes y → sent_as (form_tree y) (Rec r) ≡ Branch i → is_some (from_form s.depth y (Into (Branch i))) ≡ true
  branch_form (Net-F.Choice place merge branches faces) r i sound e = sent_there branches faces r i (best_branch faces r) sound refl e
  branch_form (Net-F.Star place merge body exit guard) r i sound e =
      absurd (false≢true (sym (level_sends is_branch refl refl place merge exit guard (tree s body) s.depth r) ∙ ap is_branch e))
  branch_form (Net-F.Split place merge body id) r i sound e =
      absurd (false≢true (sym (split_sends is_branch refl (λ n. refl) (finite.get r (tag id))) ∙ ap is_branch e))
  branch_form _ r i sound e = absurd (false≢true (ap is_branch e))
