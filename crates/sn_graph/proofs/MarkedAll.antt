-- The event Route of a mark at a free dispatcher, in the view.
use Rattle.std.proofs.Common.{◌≡◌, ℕ, zero, suc, ◌<◌, Bool, true, false, List, [], ◌∷◌, map, length, get_or, refl, sym, ap, subst, ◌∙◌, arith}
use Rattle.std.specs.Prelude.{slice_get, Option, Some, None, IfSome, unwrap_or}
use Rattle.std.proofs.lemmas.Bool.{false≢true}
use Rattle.std.proofs.lemmas.List.{length-map}
use Rattle.std.proofs.lemmas.Option.{slice_get_within}
use Rattle.sn_streams.specs.Forks.{Router}
use Rattle.sn_net.specs.Dispatchers.{stream_key}
use Rattle.sn_net.specs.Item.{ModelItem}
use Rattle.sn_view.specs.View as view
use Rattle.sn_view.specs.View.{Entry, It, Mark, End, Plain, View, Route, ToNode, at_node, changed_at, first_of, rest_of, waits_more}
use Rattle.sn_view.specs.Next.{node_at, after, if_node, plain_entry, send}
use Rattle.sn_node.specs.Child.{child_of}
use Rattle.sn_node.specs.Routes.{EntryGoes}
use Rattle.sn_node.specs.RoutesFreely.{FreelyRoutes, marks_below}
use Rattle.sn_node.specs.Seen.{node_of}
use Rattle.sn_node.specs.States.{is_freely}
use Rattle.sn_node.specs.declared.node.Node.{Node}
use Rattle.sn_node.specs.declared.route_free.Sent.{Sent}
use Rattle.sn_node.specs.declared.route_free.Sent.TheVariants as out
use Rattle.sn_graph.specs.Arena.{view_of}
use Rattle.sn_graph.specs.Broadcast.{marked_all}
use Rattle.sn_graph.specs.Ways.{ComesInElsewhere, Goes, HasNoMark, IsRoutedAt, OwnIsFirst, is_mark, is_mark_at}
use Rattle.sn_graph.specs.declared.arena.Arena.{Arena}
use Rattle.sn_graph.specs.declared.route.Way.{Way}
use Rattle.sn_graph.proofs.Changes.{changes}
use Rattle.sn_graph.proofs.Freely.{freely_after}
use Rattle.sn_graph.proofs.Here.{here, with_node}
use Rattle.sn_graph.proofs.Turning.{entry_goes, plain}

-- CHANGES AT TWO PLACES
changed-apart : {X : Type 0} (j i : ℕ) (h f : X → X) → ((j ≡ i) → ⊥) → (xs : List X) → changed_at i f (changed_at j h xs) ≡ changed_at j h (changed_at i f xs)
changed-apart j i h f differ [] = refl
changed-apart zero zero h f differ (x ∷ xs) = absurd (differ refl)
changed-apart zero (suc i) h f differ (x ∷ xs) = refl
changed-apart (suc j) zero h f differ (x ∷ xs) = refl
changed-apart (suc j) (suc i) h f differ (x ∷ xs) = ap (λ ys. x ∷ ys) (changed-apart j i h f (λ e. differ (ap suc e)) xs)

other-place : {X : Type 0} (j i : ℕ) (h : X → X) → ((j ≡ i) → ⊥) → (xs : List X) → slice_get (changed_at j h xs) i ≡ slice_get xs i
other-place j i h differ [] = refl
other-place zero zero h differ (x ∷ xs) = absurd (differ refl)
other-place zero (suc i) h differ (x ∷ xs) = refl
other-place (suc j) zero h differ (x ∷ xs) = refl
other-place (suc j) (suc i) h differ (x ∷ xs) = other-place j i h (λ e. differ (ap suc e)) xs

abbrev entries_in : List view.Child → List ℕ
entries_in cs = map (λ (child : view.Child). child.entry) cs

-- the items of none of these children come in at i
abbrev ComeInElsewhere : ℕ → List view.Child → Type 0
ComeInElsewhere i cs = (c : ℕ) (child : view.Child) → slice_get cs c ≡ Some child → (child.entry ≡ i) → ⊥

marked-apart : (i : ℕ) (f : view.Node → view.Node) (cs : List view.Child) → ComeInElsewhere i cs → (g : View)
    → at_node i f (marked_all (entries_in cs) g) ≡ marked_all (entries_in cs) (at_node i f g)
marked-apart i f [] apart g = refl
marked-apart i f (child ∷ cs) apart g =
    marked-apart i f cs (λ c other there. apart (suc c) other there) (send (ToNode child.entry) (Mark ∷ []) g)
    ∙ ap (marked_all (entries_in cs)) (ap (λ ns. record g { nodes = ns }) (changed-apart child.entry i (waits_more (Plain Mark ∷ [])) f (apart 0 child refl) g.nodes))

node-apart : (i : ℕ) (cs : List view.Child) → ComeInElsewhere i cs → (g : View) → node_at i (marked_all (entries_in cs) g) ≡ node_at i g
node-apart i [] apart g = refl
node-apart i (child ∷ cs) apart g =
    node-apart i cs (λ c other there. apart (suc c) other there) (send (ToNode child.entry) (Mark ∷ []) g)
    ∙ other-place child.entry i (waits_more (Plain Mark ∷ [])) (apart 0 child refl) g.nodes

behind-first : (cs : List view.Child) (c : ℕ) (child : view.Child) → slice_get (rest_of cs) c ≡ Some child → slice_get cs (suc c) ≡ Some child
behind-first [] c child there = absurd (cc)
behind-first (first ∷ cs) c child there = there

-- A MARK IS FIRST
mark-is : (e : Option (Entry ModelItem)) → is_mark e ≡ true → e ≡ Some Mark
mark-is None is = absurd (false≢true is)
mark-is (Some (It x)) is = absurd (false≢true is)
mark-is (Some Mark) is = refl
mark-is (Some End) is = absurd (false≢true is)

mark_first : Option view.Node → Bool
mark_first o = if_node (λ n. is_mark (plain_entry (first_of n.waiting))) false o

pub no_mark_first : (g : View) (i : ℕ) → is_mark_at i g ≡ false → HasNoMark i g
unfolding mark_first
no_mark_first g i none n there mark = false≢true (sym none ∙ ap mark_first there ∙ ap is_mark mark)

only-marks : (r : Router ModelItem) (k : _) (s : Sent) (n m : view.Node) → FreelyRoutes r Mark k s n m → s ≡ out.Marks
only-marks r k out.Nothing n m is = absurd is
only-marks r k (out.Item y) n m is = absurd is
only-marks r k out.Marks n m is = refl

-- `first` is the node before the marks were sent, `a` behind them, `b` once it routed
module _ (old new : Arena) (i : ℕ) (way : Way) (goes : Goes (view_of old) i way) (entries : List ℕ) (first : Node)
    (in_old : i < length old.nodes.items) (read_first : first ≡ get_or old.nodes.items i first)
    (are : entries ≡ entries_in (rest_of (map child_of first.children.list.items)))
    (marked : view_of new ≡ marked_all entries (view_of old)) (doors : ComesInElsewhere i (view_of old)) where
  same_first : goes.node ≡ node_of first
  same_first = let f : Option view.Node → view.Node = λ o. unwrap_or o goes.node in ap f (sym goes.there ∙ here old i first in_old read_first)

  are_rest : entries ≡ entries_in (rest_of goes.node.children)
  are_rest = are ∙ ap (λ (n : view.Node). entries_in (rest_of n.children)) (sym same_first)

  apart : ComeInElsewhere i (rest_of goes.node.children)
  apart c child there = doors goes.node c child goes.there (behind-first goes.node.children c child there)

  still_there : node_at i (view_of new) ≡ node_at i (view_of old)
  still_there =
      ap (node_at i) marked ∙ ap (λ es. node_at i (marked_all es (view_of old))) are_rest
      ∙ node-apart i (rest_of goes.node.children) apart (view_of old)

  pub marked_within : i < length new.nodes.items
  marked_within =
      let below = slice_get_within (view_of new).nodes i goes.node (still_there ∙ goes.there) in
      let long = length-map new.nodes.items node_of in
      omega (arith, below, long)

  module _ (a : Node) (read : a ≡ get_or new.nodes.items i a) where
    at_marked : node_at i (view_of old) ≡ Some (node_of a)
    at_marked = sym still_there ∙ here new i a marked_within read

    same_a : goes.node ≡ node_of a
    same_a = let f : Option view.Node → view.Node = λ o. unwrap_or o goes.node in ap f (sym goes.there ∙ at_marked)

    pub is_free_marked : IfSome (node_at i (view_of old)) (λ n. is_freely n.state ≡ true) → is_freely (node_of a).state ≡ true
    is_free_marked free = let P : Option view.Node → Type 0 = λ o. IfSome o (λ n. is_freely n.state ≡ true) in subst P at_marked free

    pub few_marked : IfSome (node_at i (view_of old)) (λ n. marks_below 4611686018427387904 n.state) → marks_below 4611686018427387904 (node_of a).state
    few_marked few = let P : Option view.Node → Type 0 = λ o. IfSome o (λ n. marks_below 4611686018427387904 n.state) in subst P at_marked few

    module _ (b : Node) (s : Sent) (own : OwnIsFirst i (view_of old)) (free : IfSome (node_at i (view_of old)) (λ n. is_freely n.state ≡ true)) (routed : IsRoutedAt i (view_of old))
        (mark : is_mark_at i (view_of old) ≡ true)
        (routes_a : (r : Router ModelItem) (e : Entry ModelItem) → plain_entry (first_of (node_of a).waiting) ≡ Some e → EntryGoes r e way.key
        → FreelyRoutes r e (stream_key way.key) s (node_of a) (node_of b)) where
      is_routed : FreelyRoutes goes.goes.by.router goes.goes.by.entry (stream_key way.key) s goes.node (node_of b)
      is_routed =
          subst (λ n. FreelyRoutes goes.goes.by.router goes.goes.by.entry (stream_key way.key) s n (node_of b)) (sym same_a)
          (routes_a goes.goes.by.router goes.goes.by.entry
          (ap (λ (n : view.Node). plain_entry (first_of n.waiting)) (sym same_a) ∙ plain (view_of old) i way goes)
          (entry_goes (view_of old) i way goes routed))

      mark_goes : goes.goes.by.entry ≡ Mark
      unfolding mark_first
      mark_goes =
          let f : Option (Entry ModelItem) → Entry ModelItem = λ o. unwrap_or o goes.goes.by.entry in
          ap f (sym (plain (view_of old) i way goes) ∙ mark-is (plain_entry (first_of goes.node.waiting)) (sym (ap mark_first goes.there) ∙ mark))

      marks_out : s ≡ out.Marks
      marks_out =
          only-marks goes.goes.by.router (stream_key way.key) s goes.node (node_of b)
          (subst (λ e. FreelyRoutes goes.goes.by.router e (stream_key way.key) s goes.node (node_of b)) mark_goes is_routed)

      put_is : with_node new i b ≡ marked_all (entries_in (rest_of goes.node.children)) (record (view_of old) { nodes = changed_at i (λ o. node_of b) (view_of old).nodes })
      put_is =
          ap (λ ns. record (view_of new) { nodes = ns }) (changes node_of (λ o. node_of b) new.nodes.items i a b read refl)
          ∙ ap (at_node i (λ o. node_of b)) (marked ∙ ap (λ es. marked_all es (view_of old)) are_rest)
          ∙ marked-apart i (λ o. node_of b) (rest_of goes.node.children) apart (view_of old)

      pub mark_after : with_node new i b ≡ after (view_of old) (Route i)
      mark_after =
          put_is
          ∙ freely_after (view_of old) i way goes (node_of b) own free out.Marks
          (subst (λ t. FreelyRoutes goes.goes.by.router goes.goes.by.entry (stream_key way.key) t goes.node (node_of b)) marks_out is_routed)
