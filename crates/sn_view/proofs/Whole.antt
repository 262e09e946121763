-- All events.
use Rattle.std.proofs.Common.{◌≡◌, ℕ, ◌+◌, List, map, refl, sym, subst, arith, inl, inr}
use Rattle.sn_net.specs.Dispatchers.{Network}
use Rattle.sn_net.specs.Item.{ModelItem}
use Rattle.sn_model.specs.declared.run.Run.{Run}
use Rattle.sn_model.specs.Meaning.{tree}
use Rattle.sn_model.specs.Run.{net_of, setting_of}
use Rattle.std.specs.Prelude.{slice_get}
use Rattle.std.proofs.Common.{Option, Some, None}
use Rattle.sn_net.specs.Cell.{CellState}
use Rattle.sn_view.specs.View.{View, Node, Happening, Take, Start, Finish, Local, Route, Unfold, Merge, Emit}
use Rattle.sn_view.specs.Next.{Next, after, IsEnabled, if_node, unfolded, routing_of, Routing}
use Rattle.sn_live.specs.Entries.{count}
use Rattle.sn_live.specs.Parts.{part}
use Rattle.sn_live.specs.Runs.{Running, CanOf, RunSane}
use Rattle.sn_live.proofs.Free.{part-Core}
use Rattle.sn_live.proofs.FreeLives.{part-Lives}
use Rattle.sn_live.proofs.Runs.{one_move, step}
use Rattle.sn_view.specs.Seen.{erased, tree_of, running, Can}
use Rattle.sn_view.specs.Placed.{Shape, shape_of, ArePlaced, WellPlaced, Follows, IsSane, IsMove, IsUnfold}
use Rattle.sn_view.proofs.Simple.{take-follows, start-follows, finish-follows, emit-follows}
use Rattle.sn_view.proofs.Making.{unfolds-well}
use Rattle.sn_view.proofs.Events.{local, merge, route, makes-child}

no-marks : (g : View) → IsSane g → count (erased g.ready) ≡ 0
no-marks g s =
    let a : (part (tree_of g)).marks (running g).live + count (erased g.ready) ≡ 0 = s.unmarked in omega (arith, a)

-- an event but Unfold leaves the nodes as they stand
pub follows : (g : View) (e : Happening) → WellPlaced g → IsSane g → IsEnabled g e → (IsUnfold e → ⊥) → Follows g (after g e)
follows g Take k s may other = take-follows g k
follows g (Start i) k s may other = started i
  where
    started : (i : ℕ) → Follows g (after g (Start i))
    started i = start-follows g i
follows g (Finish call number place given) k s may other = finish-follows g call
follows g (Local i) k s may other = local g k i may
follows g (Route i) k s may other = route g k s.live_sane i may
follows g (Unfold i) k s may other = absurd (other tt)
follows g (Merge i c) k s may other = merge g k i c may
follows g Emit k s may other = emit-follows g (no-marks g s)

pub one-move-each : (g : View) (e : Happening) → WellPlaced g → IsSane g → IsEnabled g e → IsMove g (Next g e)
one-move-each g Take k s may = (follows g Take k s may (λ u. u)).moves
one-move-each g (Start i) k s may = (follows g (Start i) k s may (λ u. u)).moves
one-move-each g (Finish call number place given) k s may = (follows g (Finish call number place given) k s may (λ u. u)).moves
one-move-each g (Local i) k s may = (follows g (Local i) k s may (λ u. u)).moves
one-move-each g (Route i) k s may = (follows g (Route i) k s may (λ u. u)).moves
one-move-each g (Merge i c) k s may = (follows g (Merge i c) k s may (λ u. u)).moves
one-move-each g Emit k s may = (follows g Emit k s may (λ u. u)).moves
one-move-each g (Unfold i) k s may = makes-child g k (unfolds-well g k) i may

unfold-run : (g : View) (i : ℕ) → (after g (Unfold i)).run ≡ g.run
unfold-run g i = at (slice_get g.nodes i)
  where
    by : (n : Node) (o : Option Routing) → (unfolded i n o g).run ≡ g.run
    by n None = refl
    by n (Some r) = refl

    at : (o : Option Node) → (if_node (λ n. unfolded i n (routing_of g n) g) g o).run ≡ g.run
    at None = refl
    at (Some n) = by n (routing_of g n)

pub next-run : (g : View) (e : Happening) → WellPlaced g → IsSane g → IsEnabled g e → (Next g e).run ≡ g.run
next-run g Take k s may = (follows g Take k s may (λ u. u)).run
next-run g (Start i) k s may = (follows g (Start i) k s may (λ u. u)).run
next-run g (Finish call number place given) k s may = (follows g (Finish call number place given) k s may (λ u. u)).run
next-run g (Local i) k s may = (follows g (Local i) k s may (λ u. u)).run
next-run g (Route i) k s may = (follows g (Route i) k s may (λ u. u)).run
next-run g (Merge i c) k s may = (follows g (Merge i c) k s may (λ u. u)).run
next-run g Emit k s may = (follows g Emit k s may (λ u. u)).run
next-run g (Unfold i) k s may = unfold-run g i

abbrev tree_for : Run → Network
tree_for run = tree (setting_of run) (net_of run)

module _ (g : View) (e : Happening) (k : WellPlaced g) (s : IsSane g) (may : IsEnabled g e) where
  same-run : (Next g e).run ≡ g.run
  same-run = next-run g e k s may

  -- what can still come could come before
  pub could-come : (ys : List ModelItem) → Can (Next g e) ys → Can g ys
  could-come ys h =
      back (one-move-each g e k s may) (let P : Run → Type 0 = λ r. CanOf (part (tree_for r)) (running (Next g e)) ys in subst P same-run h)
    where
      back : IsMove g (Next g e) → CanOf (part (tree_of g)) (running (Next g e)) ys → Can g ys
      back (inl same) h = let P : Running ModelItem CellState → Type 0 = λ r. CanOf (part (tree_of g)) r ys in subst P same h
      back (inr m) h = one_move (part (tree_of g)) (part-Core (tree_of g)) (running g) (running (Next g e)) ys m h

  pub sane-kept : IsSane (Next g e)
  sane-kept =
      let P : Run → Type 0 = λ r. RunSane (part (tree_for r)) (running (Next g e)) in
      subst P (sym same-run) (at (one-move-each g e k s may))
    where
      at : IsMove g (Next g e) → RunSane (part (tree_of g)) (running (Next g e))
      at (inl same) = let P : Running ModelItem CellState → Type 0 = λ r. RunSane (part (tree_of g)) r in subst P (sym same) s
      at (inr m) = step (part (tree_of g)) (part-Lives (tree_of g)) (running g) (running (Next g e)) m s

  -- the nodes stand as they stood
  pub placed-kept : (IsUnfold e → ⊥) → WellPlaced (Next g e)
  placed-kept other =
      let f : Follows g (after g e) = follows g e k s may other in
      let P : Run → Type 0 = λ r. ArePlaced (tree_for r) r (map shape_of (after g e).nodes) in
      let Q : List Shape → Type 0 = λ ss. ArePlaced (tree_of g) g.run ss in
      subst P (sym f.run) (subst Q (sym f.shapes) k)
