-- After any list of events.
use Rattle.std.proofs.Common.{◌≡◌, IsTrue, List, [], ◌∷◌, refl, sym, ap, ◌∙◌, subst}
use Rattle.sn_net.specs.Item.{ModelItem}
use Rattle.sn_net.specs.WellFormed.{IsWellFormed}
use Rattle.sn_streams.specs.Segments.{first_segment}
use Rattle.sn_streams.proofs.Trees.{tree_has_one}
use Rattle.sn_net.specs.Net.{all_deterministic}
use Rattle.sn_model.specs.Meaning.{tree}
use Rattle.sn_model.proofs.Ordered.{all_in_order}
use Rattle.sn_model.specs.declared.run.Run.{Run}
use Rattle.sn_model.specs.Run.{MayGive, boxes_of, given, input_of, net_of, setting_of}
use Rattle.sn_view.specs.View.{View, Happening, Take, Start, Finish, Local, Route, Unfold, Merge, Emit}
use Rattle.sn_view.specs.Next.{Next, IsEnabled}
use Rattle.sn_live.specs.Parts.{part}
use Rattle.sn_live.specs.Runs.{IsPrefixOf}
use Rattle.sn_live.proofs.Free.{part-Core}
use Rattle.sn_live.proofs.FreeLives.{part-Lives}
use Rattle.sn_live.proofs.Runs.{some_stream, out_is_prefix}
use Rattle.sn_view.specs.Chains.{Comes, Started, Then}
use Rattle.sn_view.specs.Placed.{NothingIsAside, WellPlaced, IsSane, IsOrderly, AtRest}
use Rattle.sn_view.specs.Seen.{Can, tree_of, running}
use Rattle.sn_view.proofs.Asides.{aside-after, aside-start}
use Rattle.sn_view.proofs.Beginning.{can-start, sane-start}
use Rattle.sn_view.proofs.Ordering.{orderly-start, orderly-kept}
use Rattle.sn_view.proofs.Placing.{unfold-placed}
use Rattle.sn_view.proofs.Resting.{nothing-more}
use Rattle.sn_view.proofs.Standing.{start-placed}
use Rattle.sn_view.proofs.Whole.{could-come, sane-kept, placed-kept, next-run}

next-placed : (g : View) (e : Happening) → WellPlaced g → IsWellFormed (boxes_of g.run) (net_of g.run) → IsSane g → IsEnabled g e → WellPlaced (Next g e)
next-placed g Take k w s may = placed-kept g Take k s may (λ u. u)
next-placed g (Start i) k w s may = placed-kept g (Start i) k s may (λ u. u)
next-placed g (Finish call number place given) k w s may = placed-kept g (Finish call number place given) k s may (λ u. u)
next-placed g (Local i) k w s may = placed-kept g (Local i) k s may (λ u. u)
next-placed g (Route i) k w s may = placed-kept g (Route i) k s may (λ u. u)
next-placed g (Merge i c) k w s may = placed-kept g (Merge i c) k s may (λ u. u)
next-placed g Emit k w s may = placed-kept g Emit k s may (λ u. u)
next-placed g (Unfold i) k w s may = unfold-placed g k w i may

pub record Chained (run : Run) (g : View) : Type 0 where
  pub same : g.run ≡ run
  pub placed : WellPlaced g
  pub sane : IsSane g
  pub orderly : IsOrderly g
  pub allowed : (ys : List ModelItem) → Can g ys → MayGive run ys

pub chained : (run : Run) (g : View) → IsWellFormed (boxes_of run) (net_of run) → Comes run g → Chained run g
chained run g formed Started = record { same = refl; placed = start-placed run; sane = sane-start run; orderly = orderly-start run; allowed = can-start run }
chained run g formed (Then h e c may) =
    let before : Chained run h = chained run h formed c in
    let k : WellPlaced h = before.placed in
    record {
      same = next-run h e k before.sane may ∙ before.same;
      placed = next-placed h e k (subst (λ (r : Run). IsWellFormed (boxes_of r) (net_of r)) (sym before.same) formed) before.sane may;
      sane = sane-kept h e k before.sane may;
      orderly = orderly-kept h e k before.orderly before.sane may;
      allowed = λ ys can. before.allowed ys (could-come h e k before.sane may ys can);
    }

pub begun : (run : Run) (g : View) → IsWellFormed (boxes_of run) (net_of run) → Comes run g → (ys : List ModelItem) × MayGive run ys × IsPrefixOf g.out ys
begun run g formed c =
    let h : Chained run g = chained run g formed c in
    let u : (ys : List ModelItem) × Can g ys = some_stream (part (tree_of g)) (part-Lives (tree_of g)) (running g) h.sane in
    (u.0, h.allowed u.0 u.1, out_is_prefix (part (tree_of g)) (part-Core (tree_of g)) (running g) u.0 u.1)

pub whole : (run : Run) (g : View) → IsWellFormed (boxes_of run) (net_of run) → Comes run g → AtRest g → MayGive run g.out
whole run g formed c rest =
    let h : Chained run g = chained run g formed c in
    let u : (ys : List ModelItem) × Can g ys = some_stream (part (tree_of g)) (part-Lives (tree_of g)) (running g) h.sane in
    subst (MayGive run) (nothing-more g h.placed rest h.orderly h.sane u.0 u.1) (h.allowed u.0 u.1)

-- where every dispatcher is deterministic, one stream is allowed
one_given : (run : Run) (ys : List ModelItem) → IsTrue (all_deterministic (net_of run)) → MayGive run ys → ys ≡ given run
one_given run ys in_order may =
    ap first_segment (tree_has_one (tree (setting_of run) (net_of run)) (all_in_order (setting_of run) (net_of run) in_order) (input_of run ∷ []) (ys ∷ []) may)

pub begun_in_order : (run : Run) (g : View) → IsWellFormed (boxes_of run) (net_of run) → IsTrue (all_deterministic (net_of run)) → Comes run g → IsPrefixOf g.out (given run)
begun_in_order run g formed in_order comes =
    let (ys, may, prefix) = begun run g formed comes in
    subst (IsPrefixOf g.out) (one_given run ys in_order may) prefix

pub whole_in_order : (run : Run) (g : View) → IsWellFormed (boxes_of run) (net_of run) → IsTrue (all_deterministic (net_of run)) → Comes run g → AtRest g → g.out ≡ given run
whole_in_order run g formed in_order comes rest = one_given run g.out in_order (whole run g formed comes rest)

-- nothing is kept aside
pub stays_aside : (run : Run) → IsWellFormed (boxes_of run) (net_of run) → (g : View) → Comes run g → NothingIsAside g
stays_aside run formed g Started = aside-start run
stays_aside run formed g (Then h e comes may) = aside-after h (chained run h formed comes).placed (stays_aside run formed h comes) e may
