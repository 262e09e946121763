-- Where every choice, star and split of a network merges in order, every fork of its tree does.
use Rattle.std.proofs.Common.{ℕ, zero, suc, Bool, IsTrue, List, [], ◌∷◌, map, sym, ◌∙◌, subst}
use Rattle.std.specs.Prelude.{Option, slice_get, unwrap_or}
use Rattle.std.specs.List.{list_all}
use Rattle.std.proofs.lemmas.Bool.{false≢true, and_parts}
use Rattle.sn_record.specs.LabelSet.{Labels}
use Rattle.sn_tagexpr.specs.declared.expr.TagExpr.{TagExpr}
use Rattle.sn_streams.specs.Forks.{Router}
use Rattle.sn_streams.specs.Keys.{Key, Own, Branch, Inside, Value}
use Rattle.sn_streams.specs.Trees.{Series, AllDeterministic, IsDeterministic, passing, with_own}
use Rattle.sn_net.specs.declared.net.Merge.{Merge}
use Rattle.sn_net.specs.declared.net.Merge.TheVariants.{Free, Det}
use Rattle.sn_net.specs.declared.net.Net.{Net}
use Rattle.sn_net.specs.declared.net.Net.TheOpen.{Net-F}
use Rattle.sn_net.specs.declared.net.Net.TheFolds.{fold-roll-Net, ind-Net, map-Net}
use Rattle.sn_net.specs.declared.net.Net.TheViews.{roll-Net}
use Rattle.sn_net.specs.Dispatchers.{Network, dispatched, merge_of, branch_child, replica_child, inside_child, level, level_key, router}
use Rattle.sn_net.specs.Cell.{Passing}
use Rattle.sn_net.specs.Item.{ModelItem}
use Rattle.sn_net.specs.Net.{all_deterministic, deterministic_step, is_in_order}
use Rattle.sn_net.specs.Route.{choice_key, of_record, split_key}
use Rattle.sn_model.specs.Meaning.{Setting, tree, tree_step}

merges_in_order : (m : Merge) → IsTrue (is_in_order m) → IsDeterministic (merge_of m)
merges_in_order Free is = absurd (false≢true is)
merges_in_order Det is = tt

-- a fork in order, where the children of all keys are, if what passes by is
module _ (r : Router ModelItem) (child : Network → Key → Network) (each_one : (otherwise : Network) → AllDeterministic otherwise → (k : Key) → AllDeterministic (child otherwise k)) where
  children_in_order : (k : Key) → AllDeterministic (with_own r Passing (child (passing r Passing)) k)
  children_in_order Own = tt
  children_in_order (Branch i) = each_one (passing r Passing) tt (Branch i)
  children_in_order Inside = each_one (passing r Passing) tt Inside
  children_in_order (Value n) = each_one (passing r Passing) tt (Value n)

  forks_in_order : (m : Merge) → IsTrue (is_in_order m) → AllDeterministic (dispatched m r child)
  forks_in_order m is = (merges_in_order m is, children_in_order)

inside_in_order : (body otherwise : Network) → AllDeterministic body → AllDeterministic otherwise → (k : Key) → AllDeterministic (inside_child body otherwise k)
inside_in_order body otherwise inner other Own = other
inside_in_order body otherwise inner other (Branch i) = other
inside_in_order body otherwise inner other Inside = inner
inside_in_order body otherwise inner other (Value n) = other

replica_in_order : (body otherwise : Network) → AllDeterministic body → AllDeterministic otherwise → (k : Key) → AllDeterministic (replica_child body otherwise k)
replica_in_order body otherwise inner other Own = other
replica_in_order body otherwise inner other (Branch i) = other
replica_in_order body otherwise inner other Inside = other
replica_in_order body otherwise inner other (Value n) = inner

-- a level of a star is in order where its body is
level_in_order : (place : ℕ) (m : Merge) (exit : Labels) (guard : Option TagExpr) (body : Network) → IsTrue (is_in_order m) → AllDeterministic body
    → (left : ℕ) → AllDeterministic (level place m exit guard body left)
level_in_order place m exit guard body is inner zero =
    forks_in_order (router place (of_record (level_key place exit guard zero))) (λ otherwise k. otherwise) (λ otherwise other k. other) m is
level_in_order place m exit guard body is inner (suc left) =
    forks_in_order (router place (of_record (level_key place exit guard (suc left)))) (inside_child (Series body (level place m exit guard body left)))
    (λ otherwise other k. inside_in_order (Series body (level place m exit guard body left)) otherwise (inner, level_in_order place m exit guard body is inner left) other k) m is

-- the network is in order where the test says so
abbrev IsOrdered : Setting → Net → Type 0
IsOrdered s net = IsTrue (all_deterministic net) → AllDeterministic (tree s net)

-- a branch of a choice, or what stands at other keys
one_branch : (s : Setting) (branches : List ((net : Net) × IsOrdered s net)) (otherwise : Network)
    → IsTrue (list_all (λ b. b) (map all_deterministic (map (λ e. e.0) branches))) → AllDeterministic otherwise
    → (i : ℕ) → AllDeterministic (unwrap_or (slice_get (map (tree s) (map (λ e. e.0) branches)) i) otherwise)
one_branch s [] otherwise all other i = other
one_branch s (b ∷ branches) otherwise all other zero = b.1 (and_parts (all_deterministic b.0) _ all).0
one_branch s (b ∷ branches) otherwise all other (suc i) = one_branch s branches otherwise (and_parts (all_deterministic b.0) _ all).1 other i

branches_in_order : (s : Setting) (branches : List ((net : Net) × IsOrdered s net)) (otherwise : Network)
    → IsTrue (list_all (λ b. b) (map all_deterministic (map (λ e. e.0) branches))) → AllDeterministic otherwise
    → (k : Key) → AllDeterministic (branch_child (map (tree s) (map (λ e. e.0) branches)) otherwise k)
branches_in_order s branches otherwise all other Own = other
branches_in_order s branches otherwise all other (Branch i) = one_branch s branches otherwise all other i
branches_in_order s branches otherwise all other Inside = other
branches_in_order s branches otherwise all other (Value n) = other

-- one form, where its parts are known to be ordered where the test says so
one_form : (s : Setting) (y : Net-F ((net : Net) × IsOrdered s net))
    → IsTrue (deterministic_step (map-Net _ _ all_deterministic (map-Net _ _ (λ e. e.0) y))) → AllDeterministic (tree_step s (map-Net _ _ (tree s) (map-Net _ _ (λ e. e.0) y)))
one_form s (Net-F.Box place number) all = tt
one_form s (Net-F.Filter filter) all = tt
one_form s (Net-F.Sync place patterns) all = tt
one_form s (Net-F.Serial left right) all =
    let parts = and_parts (all_deterministic left.0) (all_deterministic right.0) all in
    (left.1 parts.0, right.1 parts.1)
one_form s (Net-F.Choice place merge branches faces) all =
    let parts = and_parts (is_in_order merge) _ all in
    forks_in_order (router place (of_record (choice_key faces))) (branch_child (map (tree s) (map (λ e. e.0) branches)))
    (λ otherwise other k. branches_in_order s branches otherwise parts.1 other k) merge parts.0
one_form s (Net-F.Star place merge body exit guard) all =
    let parts = and_parts (is_in_order merge) (all_deterministic body.0) all in
    level_in_order place merge exit guard (tree s body.0) parts.0 (body.1 parts.1) s.depth
one_form s (Net-F.Split place merge body id) all =
    let parts = and_parts (is_in_order merge) (all_deterministic body.0) all in
    forks_in_order (router place (of_record (split_key id))) (replica_child (tree s body.0))
    (λ otherwise other k. replica_in_order (tree s body.0) otherwise (body.1 parts.1) other k) merge parts.0

pub all_in_order : (s : Setting) (net : Net) → IsTrue (all_deterministic net) → AllDeterministic (tree s net)
all_in_order s = ind-Net (IsOrdered s) (λ x y is. subst (λ z. IsOrdered s (roll-Net z)) is
    (λ all. subst AllDeterministic (sym (fold-roll-Net Network (tree_step s) (map-Net _ _ (λ e. e.0) y)))
    (one_form s y (sym (fold-roll-Net Bool deterministic_step (map-Net _ _ (λ e. e.0) y)) ∙ all))))
