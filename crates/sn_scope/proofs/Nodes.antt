-- The nodes of each form of network, by those of its parts.
use Rattle.std.proofs.Common.{◌≡◌, ℕ, ◌+◌, ◌<◌, List, map, sum, Option, sym, ap, subst, ◌∙◌, arith}
use Rattle.sn_record.specs.LabelSet.{Labels}
use Rattle.sn_tagexpr.specs.declared.expr.TagExpr.{TagExpr}
use Rattle.sn_net.specs.declared.filter.Filter.{Filter}
use Rattle.sn_net.specs.declared.net.Merge.{Merge}
use Rattle.sn_net.specs.declared.net.Net.{Net}
use Rattle.sn_net.specs.declared.net.Net.TheOpen.{Net-F}
use Rattle.sn_net.specs.declared.net.Net.TheFolds.{fold-roll-Net, ind-Net, map-Net}
use Rattle.sn_net.specs.declared.net.Net.TheVariants.{Box, Filter as FilterLeaf, Sync, Serial, Choice, Star, Split, rolls-Box, rolls-Filter, rolls-Sync, rolls-Serial, rolls-Choice, rolls-Star, rolls-Split}
use Rattle.sn_net.specs.Net.{nodes, nodes_step}

pub nodes-Box : (place number : ℕ) → nodes (Box place number) ≡ 1
nodes-Box place number = ap nodes (sym (rolls-Box place number)) ∙ fold-roll-Net ℕ nodes_step (Net-F.Box place number)

pub nodes-Filter : (filter : Filter) → nodes (FilterLeaf filter) ≡ 1
nodes-Filter filter = ap nodes (sym (rolls-Filter filter)) ∙ fold-roll-Net ℕ nodes_step (Net-F.Filter filter)

pub nodes-Sync : (place : ℕ) (patterns : List Labels) → nodes (Sync place patterns) ≡ 1
nodes-Sync place patterns = ap nodes (sym (rolls-Sync place patterns)) ∙ fold-roll-Net ℕ nodes_step (Net-F.Sync place patterns)

pub nodes-Serial : (left right : Net) → nodes (Serial left right) ≡ 1 + nodes left + nodes right
nodes-Serial left right = ap nodes (sym (rolls-Serial left right)) ∙ fold-roll-Net ℕ nodes_step (Net-F.Serial left right)

pub nodes-Choice : (place : ℕ) (merge : Merge) (branches : List Net) (faces : List (List Labels)) → nodes (Choice place merge branches faces) ≡ 1 + sum (map nodes branches)
nodes-Choice place merge branches faces = ap nodes (sym (rolls-Choice place merge branches faces)) ∙ fold-roll-Net ℕ nodes_step (Net-F.Choice place merge branches faces)

pub nodes-Star : (place : ℕ) (merge : Merge) (body : Net) (exit : Labels) (guard : Option TagExpr) → nodes (Star place merge body exit guard) ≡ 1 + nodes body
nodes-Star place merge body exit guard = ap nodes (sym (rolls-Star place merge body exit guard)) ∙ fold-roll-Net ℕ nodes_step (Net-F.Star place merge body exit guard)

pub nodes-Split : (place : ℕ) (merge : Merge) (body : Net) (tag : ℕ) → nodes (Split place merge body tag) ≡ 1 + nodes body
nodes-Split place merge body tag = ap nodes (sym (rolls-Split place merge body tag)) ∙ fold-roll-Net ℕ nodes_step (Net-F.Split place merge body tag)

one_level : (x : Net-F ℕ) → 0 < nodes_step x
one_level (Net-F.Box place number) = omega arith
one_level (Net-F.Filter filter) = omega arith
one_level (Net-F.Sync place patterns) = omega arith
one_level (Net-F.Serial left right) = omega arith
one_level (Net-F.Choice place merge branches faces) = omega arith
one_level (Net-F.Star place merge body exit guard) = omega arith
one_level (Net-F.Split place merge body tag) = omega arith

-- each network has a node
pub nodes-positive : (net : Net) → 0 < nodes net
nodes-positive = ind-Net (λ net. 0 < nodes net) (λ x y is. subst (λ n. 0 < n) (sym (fold-roll-Net ℕ nodes_step x)) (one_level (map-Net Net ℕ nodes x)))
