-- A call that may be finished was in flight before, in the same box, or was started.
use Rattle.std.proofs.Common.{◌≡◌, ℕ, zero, suc, ◌<◌, ◌==◌, Bool, true, false, ◌&&◌, cond, List, [], ◌∷◌, ◌++◌, map, length, Option, Some, None, refl, sym, ap, ◌∙◌, subst, eq-eqb, ◌⊎◌, inl, inr}
use Rattle.std.specs.Prelude.{slice_get}
use Rattle.std.specs.List.{Any}
use Rattle.std.specs.Option.{option_map}
use Rattle.std.specs.Coded.{Coded-set, coded_list, coded_ℕ}
use Rattle.std.proofs.lemmas.Bool.{eqb-true}
use Rattle.std.proofs.lemmas.Option.{get_or_from_slice_get, slice_get_read, slice_get_within}
use Rattle.sn_record.specs.Record.{Entries}
use Rattle.sn_net.specs.declared.net.Net.{Net}
use Rattle.sn_net.specs.declared.net.Net.TheOpen.{Net-F}
use Rattle.sn_net.specs.declared.net.Net.TheViews.{out-Net}
use Rattle.sn_net.specs.WellFormed.{FitsBoxes}
use Rattle.sn_model.specs.declared.run.Run.{Run}
use Rattle.sn_model.specs.Run.{boxes_of, depth_of, net_of}
use Rattle.sn_view.specs.Calls.{Flies}
use Rattle.sn_view.specs.Chains.{Comes}
use Rattle.sn_view.specs.Next.{HasCall, IsCall, IsEnabled, Next, Routing, adds_child, after, form_of, gets_answer, if_node, is_box_of, key_of, new_nodes, routing_of, unfolded, with_answer}
use Rattle.sn_view.specs.Parts.{part_at}
use Rattle.sn_view.specs.Placed.{IsSane, Shape, WellPlaced, shape_of}
use Rattle.sn_view.specs.View.{Emit, Finish, Finished, Happening, InFlight, Local, Merge, Node, Plain, Route, Start, Take, Unfold, View, Waiting, changed_at}
use Rattle.sn_view.proofs.Came.{by_chained, came_below, came_once}
use Rattle.sn_view.proofs.Coding.{run_once}
use Rattle.sn_view.proofs.Counted.{calls-stay}
use Rattle.sn_view.proofs.Lists.{there-map, there-unmap}
use Rattle.sn_view.proofs.Whole.{follows, next-run}

-- some element, at its place
pub any_there : {X : Type 0} (P : X → Type 0) (xs : List X) → Any P xs → (i : ℕ) × (x : X) × (slice_get xs i ≡ Some x) × P x
any_there P xs (k, x, within, is, p) = (k, x, slice_get_read xs (length xs) k x refl within (sym is), p)

pub there_any : {X : Type 0} (P : X → Type 0) (xs : List X) (i : ℕ) (x : X) → slice_get xs i ≡ Some x → P x → Any P xs
there_any P xs i x there p = (i, x, slice_get_within xs i x there, get_or_from_slice_get xs i x x there, p)

-- NODES KEEP THEIR PATHS
in-front : {X : Type 0} (xs ys : List X) (i : ℕ) (x : X) → slice_get xs i ≡ Some x → slice_get (xs ++ ys) i ≡ Some x
in-front [] ys i x e = cc
in-front (y ∷ xs) ys zero x e = e
in-front (y ∷ xs) ys (suc i) x e = in-front xs ys i x e

one-node : (m n : Node) → Some m ≡ Some n → m.path ≡ n.path
one-node m n e = let u : m ≡ n = cc in ap (λ (x : Node). x.path) u

changed-path : (f : Node → Node) → ((x : Node) → (f x).path ≡ x.path) → (xs ys : List Node) (j i : ℕ) (n m : Node) → slice_get xs i ≡ Some n → slice_get (changed_at j f xs ++ ys) i ≡ Some m → m.path ≡ n.path
changed-path f same [] ys j i n m e h = cc
changed-path f same (x ∷ xs) ys zero zero n m e h = sym (one-node (f x) m h) ∙ same x ∙ one-node x n e
changed-path f same (x ∷ xs) ys zero (suc i) n m e h = one-node m n (sym h ∙ in-front xs ys i n e)
changed-path f same (x ∷ xs) ys (suc j) zero n m e h = one-node m n (sym h ∙ e)
changed-path f same (x ∷ xs) ys (suc j) (suc i) n m e h = changed-path f same xs ys j i n m e h

module _ (g : View) (i : ℕ) (n m : Node) (there : slice_get g.nodes i ≡ Some n) where
  same-shapes : (h : View) → map shape_of h.nodes ≡ map shape_of g.nodes → slice_get h.nodes i ≡ Some m → m.path ≡ n.path
  same-shapes h same at =
      let u : Some (shape_of m) ≡ Some (shape_of n) = sym (there-map shape_of h.nodes i m at) ∙ ap (λ (ss : List Shape). slice_get ss i) same ∙ there-map shape_of g.nodes i n there in
      let v : shape_of m ≡ shape_of n = cc in
      ap (λ (s : Shape). s.path) v

  unfolded-path : (j : ℕ) → slice_get (after g (Unfold j)).nodes i ≡ Some m → m.path ≡ n.path
  unfolded-path j = at (slice_get g.nodes j)
    where
      by : (k : Node) (o : Option Routing) → slice_get (unfolded j k o g).nodes i ≡ Some m → m.path ≡ n.path
      by k None h = one-node m n (sym h ∙ there)
      by k (Some r) h =
          let c = key_of r.router r.entry in
          changed-path (adds_child c (length g.nodes)) (λ x. refl) g.nodes (new_nodes (depth_of g.run) (form_of g k) c j k (length g.nodes)) j i n m there h

      at : (o : Option Node) → slice_get (if_node (λ k. unfolded j k (routing_of g k) g) g o).nodes i ≡ Some m → m.path ≡ n.path
      at None h = one-node m n (sym h ∙ there)
      at (Some k) h = by k (routing_of g k) h

  path-kept : (e : Happening) → WellPlaced g → IsSane g → IsEnabled g e → slice_get (Next g e).nodes i ≡ Some m → m.path ≡ n.path
  path-kept Take k s may h = same-shapes (after g Take) (follows g Take k s may (λ u. u)).shapes h
  path-kept (Start j) k s may h = same-shapes (after g (Start j)) (follows g (Start j) k s may (λ u. u)).shapes h
  path-kept (Finish call number place given) k s may h = same-shapes (after g (Finish call number place given)) (follows g (Finish call number place given) k s may (λ u. u)).shapes h
  path-kept (Local j) k s may h = same-shapes (after g (Local j)) (follows g (Local j) k s may (λ u. u)).shapes h
  path-kept (Route j) k s may h = same-shapes (after g (Route j)) (follows g (Route j) k s may (λ u. u)).shapes h
  path-kept (Unfold j) k s may h = unfolded-path j h
  path-kept (Merge j c) k s may h = same-shapes (after g (Merge j c)) (follows g (Merge j c) k s may (λ u. u)).shapes h
  path-kept Emit k s may h = same-shapes (after g Emit) (follows g Emit k s may (λ u. u)).shapes h

paths_once : (a b : List ℕ) (p q : a ≡ b) → p ≡ q
paths_once = Coded-set (coded_list coded_ℕ)

-- ONE BOX
both-true : (a b : Bool) → (a && b) ≡ true → (a ≡ true) × (b ≡ true)
both-true true b e = (refl, e)
both-true false b e = cc

one-box : (a b c d : ℕ) (form : Option (Net-F Net)) → is_box_of a b form ≡ true → is_box_of c d form ≡ true → (a ≡ c) × (b ≡ d)
one-box a b c d None e h = cc
one-box a b c d (Some (Net-F.Box at own)) e h =
    let (u, v) = both-true (a == own) (b == at) e in
    let (w, x) = both-true (c == own) (d == at) h in
    (eqb-true a own u ∙ sym (eqb-true c own w), eqb-true b at v ∙ sym (eqb-true d at x))
one-box a b c d (Some (Net-F.Filter filter)) e h = cc
one-box a b c d (Some (Net-F.Sync place own)) e h = cc
one-box a b c d (Some (Net-F.Serial left right)) e h = cc
one-box a b c d (Some (Net-F.Choice place merge branches faces)) e h = cc
one-box a b c d (Some (Net-F.Star place merge body exit guard)) e h = cc
one-box a b c d (Some (Net-F.Split place merge body id)) e h = cc

-- a call of a node, at its place
pub call_there : (call : ℕ) (given : Entries) (ws : List Waiting) → Any (IsCall call given) ws → (p : ℕ) × (slice_get ws p ≡ Some (InFlight call given))
call_there call given ws flies =
    let (p, w, is, c) = any_there (IsCall call given) ws flies in
    (p, is ∙ ap (λ (x : Waiting). Some x) c)

module _ (run : Run) (g : View) (came : ∥ Comes run g ∥₁) where
  -- its number was given out
  pub call_below : (call number place : ℕ) (given : Entries) → IsEnabled g (Finish call number place given) → call < g.calls
  call_below call number place given wanted =
      let (i, n, there, has) = any_there (HasCall g call number place given) g.nodes wanted in
      let (p, flies) = call_there call given n.waiting has.flies in came_below run g came i p call given (record { node = n; there = there; flies = flies })

  -- one call has one box, one place and one record
  pub one_call : (i j call a b c d : ℕ) (n m : Node) (r s : Entries) → slice_get g.nodes i ≡ Some n → slice_get g.nodes j ≡ Some m → HasCall g call a b r n → HasCall g call c d s m
      → Finish call a b r ≡ Finish call c d s
  one_call i j call a b c d n m r s there here x y =
      let (p, e) = call_there call r n.waiting x.flies in
      let (q, h) = call_there call s m.waiting y.flies in
      let (same, place) = came_once run g came i p j q call r s (record { node = n; there = there; flies = e }) (record { node = m; there = here; flies = h }) in
      let one : n ≡ m = (let u : Some n ≡ Some m = sym there ∙ ap (slice_get g.nodes) same ∙ here in cc) in
      let (u, v) = one-box a b c d (form_of g m) (subst (λ (k : Node). is_box_of a b (form_of g k) ≡ true) one x.at_box) y.at_box in
      let record_is : r ≡ s = (let w : Some (InFlight call r) ≡ Some (InFlight call s) = sym e ∙ ap (λ (k : Node). slice_get k.waiting p) one ∙ ap (slice_get m.waiting) place ∙ h in cc) in
      ap (λ k. Finish call k b r) u ∙ ap (λ k. Finish call c k r) v ∙ ap (λ k. Finish call c d k) record_is

  module _ (fits : FitsBoxes (boxes_of run) (net_of run)) (e : Happening) (may : IsEnabled g e) where
    form-kept : (i : ℕ) (n m : Node) → slice_get g.nodes i ≡ Some n → slice_get (Next g e).nodes i ≡ Some m → form_of (Next g e) m ≡ form_of g n
    form-kept i n m there here =
        let same_run : (Next g e).run ≡ g.run = by_chained run g came fits (run_once (Next g e).run g.run) (λ h. next-run g e h.placed h.sane may) in
        let same_path : m.path ≡ n.path = by_chained run g came fits (paths_once m.path n.path) (λ h. path-kept g i n m there e h.placed h.sane may here) in
        ap (λ (r : Run). option_map out-Net (part_at (net_of r) m.path)) same_run ∙ ap (λ (path : List ℕ). option_map out-Net (part_at (net_of g.run) path)) same_path

    -- a call that began by this event
    pub record Began (call number place : ℕ) (given : Entries) : Type 0 where
      pub i : ℕ
      pub starts : e ≡ Start i
      pub next_number : call ≡ g.calls
      pub node : Node
      pub there : slice_get (Next g e).nodes i ≡ Some node
      pub has : HasCall (Next g e) call number place given node

    -- WHAT MAY BE FINISHED MIGHT BE BEFORE, OR BEGAN
    pub was_or_began : (call number place : ℕ) (given : Entries) → IsEnabled (Next g e) (Finish call number place given)
        → IsEnabled g (Finish call number place given) ⊎ Began call number place given
    was_or_began call number place given wanted =
        let (i, m, there, has) = any_there (HasCall (Next g e) call number place given) (Next g e).nodes wanted in
        by i m there has (calls-stay g e i call given (record { node = m; there = there; flies = has.flies }))
      where
        by : (i : ℕ) (m : Node) → slice_get (Next g e).nodes i ≡ Some m → HasCall (Next g e) call number place given m → Flies g i call given ⊎ ((e ≡ Start i) × (call ≡ g.calls))
            → IsEnabled g (Finish call number place given) ⊎ Began call number place given
        by i m there has (inl f) =
            let same : is_box_of number place (form_of g f.node) ≡ true = subst (λ (o : Option (Net-F Net)). is_box_of number place o ≡ true) (form-kept i f.node m f.there there) has.at_box in
            inl (there_any (HasCall g call number place given) g.nodes i f.node f.there (record { at_box = same; flies = f.flies }))
        by i m there has (inr (is, counted)) = inr (record { i = i; starts = is; next_number = counted; node = m; there = there; has = has })

-- WHAT IS FINISHED MAY NOT BE FINISHED AGAIN
answered-gone : (call : ℕ) (given : Entries) (w : Waiting) → with_answer call w ≡ InFlight call given → ⊥
answered-gone call given (Plain x) e = cc
answered-gone call given (Finished r) e = cc
answered-gone call given (InFlight other r) e = at (call == other) refl e
  where
    at : (b : Bool) → (call == other) ≡ b → cond b (Finished r) (InFlight other r) ≡ InFlight call given → ⊥
    at true t h = cc
    at false t h = let u : other ≡ call = cc in no (sym (eq-eqb call other (sym u)) ∙ t)
      where
        no : true ≡ false → ⊥
        no v = cc

pub finished_gone : (g : View) (call a b c d : ℕ) (r s : Entries) → IsEnabled (Next g (Finish call a b r)) (Finish call c d s) → ⊥
finished_gone g call a b c d r s wanted =
    let (i, m, there, has) = any_there (HasCall (Next g (Finish call a b r)) call c d s) (map (gets_answer call) g.nodes) wanted in
    let (n, here, same) = there-unmap (gets_answer call) g.nodes i m there in
    let (p, flies) = call_there call s m.waiting has.flies in
    let (w, waits, is) = there-unmap (with_answer call) n.waiting p (InFlight call s) (ap (λ (k : Node). slice_get k.waiting p) same ∙ flies) in
    answered-gone call s w is
