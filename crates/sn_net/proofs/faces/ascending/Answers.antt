use Rattle.std.proofs.Common.{◌≡◌, true, ◌∙◌, subst, refl, rules}
use Rattle.std.specs.List.{dedup}
use Rattle.std.specs.List.Sorted.{IsPermutation}
use Rattle.std.specs.Ordering.{eq_by_cmp, is_lt}
use Rattle.std.specs.FinMap as map
use Rattle.std.proofs.lemmas.Fn.{always_returns_same}
use Rattle.std.proofs.lemmas.List.Filters.{dedup_is}
use Rattle.std.proofs.lemmas.List.Sorted.{ranks_by}
use Rattle.sn_record.specs.LabelSet.{Labels}
use Rattle.sn_net.specs.Face.{variant_cmp}
use Rattle.sn_net.proofs.Orders.{variant_cmp_total, ties_by_keys, once_each-ascending, once_each-same}
use Rattle.sn_net.proofs.SortedSets.{only_ascending}
use Rattle.sn_net.proofs.faces.ascending.Goals as goal

without_repeats : (c : goal.After-from_vec) → c.from_vec.result ≡ dedup (eq_by_cmp variant_cmp) c.sort_unstable_by.new.self.items
without_repeats c =
    c.from_vec.ensures ∙ dedup_is _ _ _ c.dedup.ensures.filtered
    ∙ (λ i. dedup (λ (v w : Labels). ties_by_keys (λ _ _. true) (λ _ _. refl) (map.entries v) (map.entries w) i) c.sort_unstable_by.new.self.items)

pub returns : goal.returns
returns c =
    only_ascending c.from_vec.result c.args.sets
    (once_each-ascending _ _ (without_repeats c)
    (c.sort_unstable_by.ensures.sorted (λ v w. is_lt (variant_cmp v w)) (ranks_by variant_cmp_total (λ v. v)) (always_returns_same _ (λ a r. is_lt r ≡ is_lt (variant_cmp a.0.now a.1.0.now)) _ (λ a r f' k. search rules))))
    (once_each-same c.args.sets _ _ (without_repeats c) (subst (λ sets. IsPermutation sets c.sort_unstable_by.new.self.items) c.into_vec-sets.ensures c.sort_unstable_by.ensures.permutation))
