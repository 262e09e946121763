-- Take, Start, Finish and Emit.
use Rattle.std.proofs.Common.{◌≡◌, ℕ, zero, suc, ◌+◌, Bool, true, false, cond, ◌==◌, List, [], ◌∷◌, map, drop, Option, Some, None, refl, sym, ap, ap₂, ◌∙◌, subst, arith, append-nil, inl, inr}
use Rattle.std.proofs.Math.Path.{fun_ext}
use Rattle.std.specs.Prelude.{slice_get}
use Rattle.sn_net.specs.Cell.{Passing}
use Rattle.sn_net.specs.Item.{ModelItem, Rec, Fault, Stuck}
use Rattle.sn_model.specs.Run.{input_of}
use Rattle.sn_view.specs.View.{Entry, It, Mark, End, Waiting, Plain, InFlight, Finished, ToNode, Node, View, first_of, rest_of}
use Rattle.sn_view.specs.Next.{took, next_input, in_call, has_no_call, first_called, started, with_answer, gets_answer, finished, emitted}
use Rattle.sn_live.specs.Entries.{Entry as LiveEntry, It as LiveIt, count}
use Rattle.sn_live.specs.Live.{Step as LiveStep, change, ToNode as LiveToNode, waits_more as live_waits_more}
use Rattle.sn_live.specs.Parts.{part, pushed}
use Rattle.sn_live.specs.Flat.{Flat, look, at_index, base}
use Rattle.sn_live.specs.Runs.{Running, Move, Take, Emit}
use Rattle.sn_live.proofs.Arena.{look-index}
use Rattle.sn_view.specs.Seen.{step_of, erased, entry_of, seen_node, seen, live_of, tree_of, running}
use Rattle.sn_view.specs.Placed.{Shape, shape_of, WellPlaced, Follows}
use Rattle.sn_view.proofs.Lists.{unseen-change, there-unmap}
use Rattle.sn_view.proofs.Seeing.{are-distinct, node-there}
use Rattle.sn_view.proofs.Giving.{S, send-running, nothing-sent, send-shapes}

-- the items that did not come in yet, and the next of them
pub next-todo : {X : Type 0} (xs : List X) (i : ℕ) (x : X) → slice_get xs i ≡ Some x → drop i xs ≡ x ∷ drop (i + 1) xs
next-todo [] i x e = cc
next-todo {X} (y ∷ xs) zero x e = let u : y ≡ x = cc in ap (λ (z : X). z ∷ xs) u
next-todo {X} (y ∷ xs) (suc i) x e = next-todo xs i x e ∙ ap (λ (n : ℕ). x ∷ drop n (y ∷ xs)) later
  where
    later : suc (i + 1) ≡ suc i + 1
    later = omega arith

module _ (g : View) (placed : WellPlaced g) where
  abbrev entry : List LiveStep
  entry = (part (tree_of g)).entry

  pushed-live : (o : List (LiveEntry ModelItem)) → look (base Passing (tree_of g)) (at_index 0 (live_waits_more o) (map seen g.nodes)) ≡ pushed (part (tree_of g)) o (live_of g)
  pushed-live o =
      let n : (x : Node) × (slice_get g.nodes 0 ≡ Some x) × (shape_of x ≡ placed.first.0) = there-unmap shape_of g.nodes 0 placed.first.0 placed.first.1 in
      fun_ext (look-index (base Passing (tree_of g)) (map seen g.nodes) 0 (seen n.0) (live_waits_more o) (are-distinct g.nodes placed.distinct) (node-there g.nodes 0 n.0 n.1))
      ∙ ap (λ (q : List LiveStep). change q (live_waits_more o) (live_of g)) (ap (λ (m : Shape). m.steps) n.2 ∙ placed.first.2)

  take : (o : Option ModelItem) → next_input g ≡ o → Follows g (took o g)
  take None e =
      record {
        moves = inl (send-running (ToNode 0) (LiveToNode entry) (End ∷ []) (record g { ended = true }) placed.first
            ∙ ap₂ (λ (ns : List (Flat ModelItem S)) (r : List (LiveEntry ModelItem)). record (running g) { live = look (base Passing (tree_of g)) ns; ready = r })
            (nothing-sent (LiveToNode entry) 0 (map seen g.nodes)) (append-nil (erased g.ready)));
        shapes = send-shapes (ToNode 0) (End ∷ []) g;
        run = refl;
      }
  take (Some x) e =
      record {
        moves = inr (let P : Running ModelItem S → Type 0 = λ r. Move (part (tree_of g)) (running g) r in
            subst P (sym (send-running (ToNode 0) (LiveToNode entry) (It x ∷ []) (record g { taken = g.taken + 1 }) placed.first))
            (Take x (next-todo (input_of g.run) g.taken x e) (pushed-live (LiveIt x ∷ [])) (append-nil (erased g.ready)) refl));
        shapes = send-shapes (ToNode 0) (It x ∷ []) g;
        run = refl;
      }

  pub take-follows : Follows g (took (next_input g) g)
  take-follows = take (next_input g) refl

-- a call that begins changes nothing that can come
same-entry : (call : ℕ) (w : Waiting) → has_no_call w ≡ true → entry_of (in_call call w) ≡ entry_of w
same-entry call (Plain (It (Rec r))) e = refl
same-entry call (Plain (It (Fault f))) e = cc
same-entry call (Plain (It (Stuck p))) e = cc
same-entry call (Plain Mark) e = cc
same-entry call (Plain End) e = cc
same-entry call (InFlight c r) e = cc
same-entry call (Finished r) e = cc

same-called : (call : ℕ) (ws : List Waiting) → map entry_of (first_called call ws) ≡ map entry_of ws
same-called call [] = refl
same-called call (w ∷ ws) = at (has_no_call w) refl (same-called call ws)
  where
    at : (b : Bool) → has_no_call w ≡ b → map entry_of (first_called call ws) ≡ map entry_of ws → map entry_of (cond b (in_call call w ∷ ws) (w ∷ first_called call ws)) ≡ entry_of w ∷ map entry_of ws
    at true e h = ap (λ (x : Entry ModelItem). x ∷ map entry_of ws) (same-entry call w e)
    at false e h = ap (λ (xs : List (Entry ModelItem)). entry_of w ∷ xs) h

same-nodes : (g : View) (ns : List Node) → map seen ns ≡ map seen g.nodes → record (running g) { live = look (base Passing (tree_of g)) (map seen ns) } ≡ running g
same-nodes g ns e = ap (λ (fs : List (Flat ModelItem S)). record (running g) { live = look (base Passing (tree_of g)) fs }) e

pub start-follows : (g : View) (i : ℕ) → Follows g (started i g)
start-follows g i = record {
  moves = inl (same-nodes g (started i g).nodes
      (unseen-change seen (λ n. record n { waiting = first_called g.calls n.waiting }) g.nodes i
      (λ n e. ap (λ (w : List (Entry ModelItem)). let f : Flat ModelItem S = record { steps = map step_of n.steps; node = record (seen_node n) { waiting = erased w } } in f) (same-called g.calls n.waiting))));
  shapes = unseen-change shape_of (λ n. record n { waiting = first_called g.calls n.waiting }) g.nodes i (λ n e. refl);
  run = refl;
}

same-finished : (call : ℕ) (ws : List Waiting) → map entry_of (map (with_answer call) ws) ≡ map entry_of ws
same-finished call [] = refl
same-finished call (Plain e ∷ ws) = ap (λ (xs : List (Entry ModelItem)). e ∷ xs) (same-finished call ws)
same-finished call (Finished r ∷ ws) = ap (λ (xs : List (Entry ModelItem)). It (Rec r) ∷ xs) (same-finished call ws)
same-finished call (InFlight other r ∷ ws) = ap₂ (λ (x : Entry ModelItem) (xs : List (Entry ModelItem)). x ∷ xs) (at (call == other)) (same-finished call ws)
  where
    at : (b : Bool) → entry_of (cond b (Finished r) (InFlight other r)) ≡ It (Rec r)
    at true = refl
    at false = refl

pub finish-follows : (g : View) (call : ℕ) → Follows g (finished call g)
finish-follows g call = record { moves = inl (same-nodes g (finished call g).nodes (at g.nodes)); shapes = standing g.nodes; run = refl }
  where
    standing : (ns : List Node) → map shape_of (map (gets_answer call) ns) ≡ map shape_of ns
    standing [] = refl
    standing (n ∷ ns) = ap (λ (ms : List Shape). shape_of n ∷ ms) (standing ns)

    at : (ns : List Node) → map seen (map (gets_answer call) ns) ≡ map seen ns
    at [] = refl
    at (n ∷ ns) =
        ap₂ (λ (f : Flat ModelItem S) (fs : List (Flat ModelItem S)). f ∷ fs)
        (ap (λ (w : List (Entry ModelItem)). let f : Flat ModelItem S = record { steps = map step_of n.steps; node = record (seen_node n) { waiting = erased w } } in f) (same-finished call n.waiting))
        (at ns)

-- no mark waits at the root
pub emit-follows : (g : View) → count (erased g.ready) ≡ 0 → Follows g (emitted (first_of g.ready) g)
emit-follows g none = at g.ready refl none
  where
    at : (r : List (Entry ModelItem)) → g.ready ≡ r → count (erased r) ≡ 0 → Follows g (emitted (first_of r) g)
    at [] e none = record { moves = inl refl; shapes = refl; run = refl }
    at (It y ∷ r) e none = record {
      moves = inr (Emit y refl refl (ap erased e ∙ ap (λ (w : List (Entry ModelItem)). LiveIt y ∷ erased (rest_of w)) (sym e)) refl);
      shapes = refl;
      run = refl;
    }
    at (Mark ∷ r) e none = cc
    at (End ∷ r) e none = record {
      moves = inl (ap (λ (w : List (LiveEntry ModelItem)). record (running g) { ready = w }) (ap (λ (w : List (Entry ModelItem)). erased (rest_of w)) e ∙ sym (ap erased e)));
      shapes = refl;
      run = refl;
    }
