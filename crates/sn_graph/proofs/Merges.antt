-- The event Merge, in the view.
use Rattle.std.proofs.Common.{◌≡◌, ℕ, ◌<◌, false, List, [], length, get_or, refl, sym, ap, ◌∙◌}
use Rattle.std.specs.Prelude.{Some, is_some}
use Rattle.sn_net.specs.Item.{ModelItem}
use Rattle.sn_view.specs.View as view
use Rattle.sn_view.specs.View.{Entry, Merge}
use Rattle.sn_view.specs.Next.{node_at, after, enabled, send}
use Rattle.sn_node.specs.Merged.{moved, merged}
use Rattle.sn_node.specs.Merges.{Unmoved}
use Rattle.sn_node.specs.Seen.{node_of, target_of}
use Rattle.sn_node.specs.declared.node.Node.{Node}
use Rattle.sn_node.proofs.Merging.{merge_after, merge_enabled}
use Rattle.sn_graph.specs.Arena.{view_of}
use Rattle.sn_graph.specs.declared.arena.Arena.{Arena}
use Rattle.sn_graph.proofs.Changes.{changes}
use Rattle.sn_graph.proofs.Here.{here, seen_alike, with_node}
use Rattle.sn_graph.proofs.Sending.{send-nil}

-- `e` is the node before room was made, `a` the node behind that
module _ (old new : Arena) (i c : ℕ) (e a b : Node) (alike : view_of new ≡ view_of old) (before : node_at i (view_of old) ≡ Some (node_of e))
    (within : i < length new.nodes.items) (read : a ≡ get_or new.nodes.items i a) where
  pub moved_after : (es : List (Entry ModelItem)) → merged (node_of a) c ≡ moved (node_of b) es → send (target_of e.made.goes) es (with_node new i b) ≡ after (view_of old) (Merge i c)
  moved_after es is =
      let now : node_at i (view_of new) ≡ Some (node_of a) = here new i a within read in
      ap (λ (n : view.Node). send n.goes es (with_node new i b)) (seen_alike old new i e a alike before now)
      ∙ ap (λ ns. send (target_of a.made.goes) es (record (view_of new) { nodes = ns })) (changes node_of (λ (n : view.Node). node_of b) new.nodes.items i a b read refl)
      ∙ sym (merge_after i (node_of a) (view_of new) now c (record { node = node_of b; entries = es }) is)
      ∙ ap (λ g. after g (Merge i c)) alike

  pub nothing_after : merged (node_of a) c ≡ moved (node_of b) [] → with_node new i b ≡ after (view_of old) (Merge i c)
  nothing_after is = sym (send-nil (target_of e.made.goes) (with_node new i b)) ∙ moved_after [] is

pub unmoved_enabled : (old new : Arena) (i c : ℕ) (a b : Node) → view_of new ≡ view_of old → i < length new.nodes.items → a ≡ get_or new.nodes.items i a
    → Unmoved c (node_of a) (node_of b) → false ≡ enabled (view_of old) (Merge i c)
unmoved_enabled old new i c a b alike within read un =
    sym (sym (ap (λ g. enabled g (Merge i c)) alike) ∙ merge_enabled i (node_of a) (view_of new) (here new i a within read) c ∙ ap is_some un.none)
