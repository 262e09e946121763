-- What is counted of a graph that was driven to its end, where each merge is in order.
use Rattle.std.proofs.Common.{◌≡◌, ℕ, IsTrue, List, [], ◌∷◌, ◌++◌, refl, sym, ap, ◌∙◌}
use Rattle.std.specs.Prelude.{Option, Some}
use mathlib.Core.Logic.{∥∥₁_elim, ∥∥₁_map, ∥∥₁_map₂, ∥∥₁_prop}
use mathlib.Core.Sum.{⊎_set}
use native.Mathlib.Nat.{ℕ_set}
use Rattle.sn_record.specs.declared.item.Fault.{Fault as FaultAt}
use Rattle.sn_net.specs.Item.{ModelItem, Rec, Fault, Stuck}
use Rattle.sn_net.specs.Net.{all_deterministic}
use Rattle.sn_streams.specs.Segments.{first_segment}
use Rattle.sn_streams.proofs.Trees.{tree_has_one}
use Rattle.sn_model.specs.Meaning.{MayAnswerList, Setting, one_list, tree}
use Rattle.sn_net.specs.declared.net.Net.{Net}
use Rattle.sn_model.specs.Run.{MayGive, given, input_of, net_of, setting_of}
use Rattle.sn_model.specs.declared.run.Run.{Run}
use Rattle.sn_model.proofs.Ordered.{all_in_order}
use Rattle.sn_plain.proofs.Planned.{only_one}
use Rattle.sn_live.specs.Runs.{IsPrefixOf}
use Rattle.sn_output.specs.Printed.{ending}
use Rattle.sn_sample.specs.Tally.{Counts, counted, counted_on, with_record}
use Rattle.sn_view.specs.Coming.{MayCome}
use Rattle.sn_view.specs.Seen.{Can}
use Rattle.sn_view.specs.View.{View}

-- nothing behind a fault is counted, and it ends what follows
still_counted : (names : List (List ℕ)) (counts : Counts) (items more : List ModelItem) (fault : FaultAt) → ending items ≡ Some fault → counted_on names counts (items ++ more) ≡ counted_on names counts items
still_counted names counts [] more fault ends = cc
still_counted names counts (Rec r ∷ items) more fault ends = still_counted names (with_record names counts r) items more fault ends
still_counted names counts (Fault at ∷ items) more fault ends = refl
still_counted names counts (Stuck place ∷ items) more fault ends = refl

still_ends : (items more : List ModelItem) (fault : FaultAt) → ending items ≡ Some fault → ending (items ++ more) ≡ Some fault
still_ends [] more fault ends = cc
still_ends (Rec r ∷ items) more fault ends = still_ends items more fault ends
still_ends (Fault at ∷ items) more fault ends = ends
still_ends (Stuck place ∷ items) more fault ends = cc

counts_set : IsSet Counts
counts_set = hlevel ℕ_set

ends_set : IsSet (Option FaultAt)
ends_set = hlevel (ℕ_set, ⊎_set)

only_given : (run : Run) → IsTrue (all_deterministic (net_of run)) → (ys : List ModelItem) → MayGive run ys → ys ≡ given run
only_given run all ys may = only_one (setting_of run) (net_of run) (input_of run) ys all may

module _ (run : Run) (graph : View) (all : IsTrue (all_deterministic (net_of run))) (allowed : (ys : List ModelItem) → MayCome graph ys → ∥ MayGive run ys ∥₁)
    (some : ∥ ((ys : List ModelItem) × Can graph ys) ∥₁) where
  -- nothing else can come
  pub whole_is : ((ys : List ModelItem) → MayCome graph ys → ys ≡ graph.out) → ∥ (graph.out ≡ given run) ∥₁
  whole_is only =
      ∥∥₁_elim some ∥∥₁_prop (λ can. ∥∥₁_map (allowed can.0 ∣ can.1 ∣₁) (λ may. sym (only can.0 ∣ can.1 ∣₁) ∙ only_given run all can.0 may))

  module _ (begins : (ys : List ModelItem) → MayCome graph ys → ∥ IsPrefixOf graph.out ys ∥₁) where
    pub begins_it : ∥ IsPrefixOf graph.out (given run) ∥₁
    begins_it =
        ∥∥₁_elim some ∥∥₁_prop
        (λ can. ∥∥₁_map₂ (allowed can.0 ∣ can.1 ∣₁) (begins can.0 ∣ can.1 ∣₁) (λ may prefix. (prefix.0, sym (only_given run all can.0 may) ∙ prefix.1)))

-- so the same is counted
module _ (names : List (List ℕ)) (out whole : List ModelItem) where
  pub whole_counted : ∥ (out ≡ whole) ∥₁ → counted names out ≡ counted names whole
  whole_counted is = ∥∥₁_elim is (counts_set _ _) (ap (counted names))

  pub part_counted : (fault : FaultAt) → ending out ≡ Some fault → ∥ IsPrefixOf out whole ∥₁ → counted names out ≡ counted names whole
  part_counted fault ends is = ∥∥₁_elim is (counts_set _ _) (λ prefix. sym (ap (counted names) prefix.1 ∙ still_counted names _ out prefix.0 fault ends))

  pub whole_ends : ∥ (out ≡ whole) ∥₁ → ending out ≡ ending whole
  whole_ends is = ∥∥₁_elim is (ends_set _ _) (ap ending)

  pub part_ends : (fault : FaultAt) → ending out ≡ Some fault → ∥ IsPrefixOf out whole ∥₁ → ending out ≡ ending whole
  part_ends fault ends is = ∥∥₁_elim is (ends_set _ _) (λ prefix. ends ∙ sym (ap ending prefix.1 ∙ still_ends out prefix.0 fault ends))
