-- A graph to which nothing happened yet.
use Rattle.std.proofs.Common.{◌≡◌, ℕ, suc, Bool, true, false, cond, List, [], ◌∷◌, map, Some, refl, sym, ◌∙◌, subst}
use Rattle.std.specs.Prelude.{slice_get}
use Rattle.sn_net.specs.Cell.{Passing}
use Rattle.sn_net.specs.Dispatchers.{Network}
use Rattle.sn_net.specs.Item.{ModelItem}
use Rattle.sn_model.specs.declared.run.Run.{Run}
use Rattle.sn_model.specs.Run.{MayGive, input_of, net_of, setting_of}
use Rattle.sn_view.specs.View.{Node, Out}
use Rattle.sn_view.specs.Next.{start_view}
use Rattle.sn_live.specs.Live.{Step as LiveStep}
use Rattle.sn_live.specs.Parts.{part}
use Rattle.sn_live.specs.Flat.{look, base, steps_eq, FreshAt}
use Rattle.sn_live.specs.Runs.{Starts, RunSane}
use Rattle.sn_live.proofs.Arena.{steps_eq-true}
use Rattle.sn_live.proofs.Fresh.{fresh-from, base-fresh}
use Rattle.sn_live.proofs.FreeLives.{part-Lives}
use Rattle.sn_live.proofs.Runs.{starts, begins, reached}
use Rattle.sn_live.specs.Runs.{Stays}
use Rattle.sn_view.specs.Seen.{step_of, seen_node, seen, live_of, tree_of, running, Can}
use Rattle.sn_view.proofs.Plans.{all-Shaped}

look-fresh : (t : Network) (ns : List Node) (q : List LiveStep) → ((j : ℕ) (m : Node) → slice_get ns j ≡ Some m → (p : List LiveStep) × (map step_of m.steps ≡ p) × FreshAt t p (seen_node m))
    → FreshAt t q (look (base Passing t) (map seen ns) q)
look-fresh t [] q h = base-fresh Passing t q
look-fresh t (m ∷ ns) q h = at (steps_eq q (map step_of m.steps)) refl (h 0 m refl) (look-fresh t ns q (λ j x e. h (suc j) x e))
  where
    at : (b : Bool) → steps_eq q (map step_of m.steps) ≡ b → (p : List LiveStep) × (map step_of m.steps ≡ p) × FreshAt t p (seen_node m)
        → FreshAt t q (look (base Passing t) (map seen ns) q) → FreshAt t q (cond b (seen_node m) (look (base Passing t) (map seen ns) q))
    at false e u later = later
    at true e (p, s, f) later = subst (λ (w : List LiveStep). FreshAt t w (seen_node m)) (sym s ∙ sym (steps_eq-true q (map step_of m.steps) e)) f

module _ (run : Run) where
  pub begun : Starts (part (tree_of (start_view run))) (input_of run) (running (start_view run))
  begun = record {
    all_todo = refl;
    is_fresh = fresh-from (tree_of (start_view run)) (live_of (start_view run))
        (λ q. look-fresh (tree_of (start_view run)) (start_view run).nodes q
        (λ j m e. (all-Shaped (setting_of run) (net_of run)).under [] [] Out 0 j m e));
    none_ready = refl;
    none_out = refl;
  }

  pub can-start : (ys : List ModelItem) → Can (start_view run) ys → MayGive run ys
  can-start ys h = starts (tree_of (start_view run)) (input_of run) ys (running (start_view run)) begun h

  pub start-can : (ys : List ModelItem) → MayGive run ys → Can (start_view run) ys
  start-can ys h = begins (tree_of (start_view run)) (input_of run) ys (running (start_view run)) begun h

  pub sane-start : RunSane (part (tree_of (start_view run))) (running (start_view run))
  sane-start = reached (part (tree_of (start_view run))) (part-Lives (tree_of (start_view run))) (input_of run) (running (start_view run)) (running (start_view run)) begun Stays
