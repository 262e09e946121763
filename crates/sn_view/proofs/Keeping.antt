-- What is seen of a dispatcher whose child's first entry is taken.
use Rattle.std.proofs.Common.{◌≡◌, ℕ, zero, suc, ◌-◌, Bool, true, false, cond, List, [], ◌∷◌, Some, refl, sym, ap, ap₂, ◌∙◌}
use Rattle.std.proofs.Math.Path.{fun_ext}
use Rattle.std.specs.Prelude.{slice_get}
use Rattle.sn_streams.specs.Keys.{Key, key_eq, AreDistinct}
use Rattle.sn_streams.proofs.Keys.{key_eq-refl, same_key}
use Rattle.sn_net.specs.Item.{ModelItem}
use Rattle.sn_view.specs.View.{Child, Node, rest_of}
use Rattle.sn_view.specs.Next.{takes_kept, kept_of}
use Rattle.sn_live.specs.Entries.{Entry as LiveEntry}
use Rattle.sn_view.specs.Seen.{erased, seen_kept, epochs_of, seen_node}
use Rattle.sn_view.specs.Placed.{shape_of, Door, door_of}
use Rattle.sn_view.proofs.Lists.{unseen-change}
use Rattle.sn_view.proofs.Children.{keys_of, keys-changed, epochs-changed, IsApart, seen-kept-here, seen-kept-changed}

abbrev pub taking : Child → Child
taking c = record c { kept = rest_of c.kept }

pub kept-is : (cs : List Child) (c : ℕ) (child : Child) → slice_get cs c ≡ Some child → kept_of cs c ≡ child.kept
kept-is [] c child e = cc
kept-is (x ∷ cs) zero child e = let u : x ≡ child = cc in ap (λ (y : Child). y.kept) u
kept-is (x ∷ cs) (suc c) child e = kept-is cs c child e

module _ (n : Node) (c : ℕ) (child : Child) (there : slice_get n.children c ≡ Some child) (d : AreDistinct (keys_of n.children)) where
  pub takes-shape : shape_of (takes_kept c n) ≡ shape_of n
  takes-shape = ap (λ (ds : List Door). record (shape_of n) { doors = ds }) (unseen-change door_of taking n.children c (λ x e. refl))

  pub takes-made : (seen_node (takes_kept c n)).made ≡ (seen_node n).made
  takes-made = keys-changed taking (λ x. refl) n.children c

  pub takes-lead : (seen_node (takes_kept c n)).lead ≡ (seen_node n).lead
  takes-lead = fun_ext (λ k. ap (λ (m : ℕ). m - (epochs_of n.state).output) (epochs-changed taking (λ x. refl) n.children c (epochs_of n.state).children k))

  module _ (a : IsApart n.state child.key) where
    pub kept-now : (seen_node n).kept child.key ≡ erased child.kept
    kept-now = seen-kept-here n.state n.children c child a there d

    pub kept-then : (seen_node (takes_kept c n)).kept child.key ≡ erased (rest_of child.kept)
    kept-then =
        seen-kept-changed taking (λ x. refl) n.state n.children c child a there d child.key
        ∙ (let F : Bool → List (LiveEntry ModelItem) = λ b. cond b (erased (rest_of child.kept)) (seen_kept n.state n.children child.key) in ap F (key_eq-refl child.key))

    pub kept-others : (j : Key) → key_eq j child.key ≡ false → (seen_node (takes_kept c n)).kept j ≡ (seen_node n).kept j
    kept-others j t =
        seen-kept-changed taking (λ x. refl) n.state n.children c child a there d j
        ∙ (let F : Bool → List (LiveEntry ModelItem) = λ b. cond b (erased (rest_of child.kept)) (seen_kept n.state n.children j) in ap F t)

    -- an end that is taken is not seen
    pub takes-same : erased (rest_of child.kept) ≡ erased child.kept → seen_node (takes_kept c n) ≡ seen_node n
    takes-same same =
        ap₂ (λ (m : List Key) (l : Key → ℕ). record (seen_node n) { made = m; lead = l; kept = (seen_node (takes_kept c n)).kept }) takes-made takes-lead
        ∙ ap (λ (k : Key → List (LiveEntry ModelItem)). record (seen_node n) { kept = k })
        (fun_ext (λ j. seen-kept-changed taking (λ x. refl) n.state n.children c child a there d j ∙ at j (key_eq j child.key) refl))
      where
        at : (j : Key) (b : Bool) → key_eq j child.key ≡ b → cond b (erased (rest_of child.kept)) (seen_kept n.state n.children j) ≡ seen_kept n.state n.children j
        at j false t = refl
        at j true t = same ∙ sym (ap (seen_kept n.state n.children) (same_key j child.key t) ∙ kept-now)
