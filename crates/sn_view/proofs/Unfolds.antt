-- Unfold is one move.
use Rattle.std.proofs.Common.{◌≡◌, ℕ, ◌-◌, Bool, true, false, cond, if◌then◌else◌, List, [], ◌∷◌, ◌++◌, map, length, Some, refl, sym, ap, ap₂, ◌∙◌, subst, pred}
use Rattle.std.proofs.Math.Path.{fun_ext}
use Rattle.std.specs.Prelude.{slice_get}
use Rattle.sn_streams.specs.Forks.{Router, Merge as StreamMerge, Free, Deterministic}
use Rattle.sn_streams.specs.Keys.{Key, key_eq, is_among}
use Rattle.sn_streams.specs.Keys as key
use Rattle.sn_streams.specs.Trees.{Fork}
use Rattle.sn_net.specs.Cell.{CellState}
use Rattle.sn_net.specs.Dispatchers.{Network}
use Rattle.sn_net.specs.Item.{ModelItem}
use Rattle.sn_view.specs.Epochs.{Epochs, with_child}
use Rattle.sn_view.specs.View.{Entry, It, Turn, State, InTurn, Freely, Child, Node, View, Waiting, Plain}
use Rattle.sn_view.specs.Next.{adds_child, with_epoch}
use Rattle.sn_live.specs.Entries.{Entry as LiveEntry, It as LiveIt}
use Rattle.sn_live.specs.Live.{Step as LiveStep, At, Live, subs, stands as stands_in}
use Rattle.sn_live.specs.Parts.{part, One, Unfolds, Makes}
use Rattle.sn_live.specs.Flat.{at_steps, steps_eq, FreshAt}
use Rattle.sn_live.specs.Runs.{Move}
use Rattle.sn_view.specs.Seen.{step_of, erased, entry_of, own_groups, seen_turns, turns_of_state, epochs_of, seen_kept, kept_by_key, epoch_by_key, seen_node, live_of, tree_of, running}
use Rattle.sn_view.specs.Placed.{shape_of, DistinctSteps, Stands}
use Rattle.sn_view.proofs.Children.{keys_of}
use Rattle.sn_view.proofs.Giving.{LiveN}
use Rattle.sn_view.proofs.Local.{here}
use Rattle.sn_view.proofs.Unfolding.{g', fresh-before, fresh-after, other-kids, root-after, whole-move}

-- one more child
abbrev pub one_more : Key → ℕ → Child
one_more k entry = record { key = k; entry = entry; kept = [] }

kept-more : (cs : List Child) (k : Key) (entry : ℕ) (j : Key) → kept_by_key (cs ++ one_more k entry ∷ []) j ≡ kept_by_key cs j
kept-more [] k entry j = at (key_eq j k)
  where
    at : (b : Bool) → cond {A = List (LiveEntry ModelItem)} b [] [] ≡ []
    at true = refl
    at false = refl
kept-more (c ∷ cs) k entry j = ap (λ (w : List (LiveEntry ModelItem)). cond (key_eq j c.key) (erased c.kept) w) (kept-more cs k entry j)

pub among-more : (cs : List Child) (k : Key) (entry : ℕ) (j : Key) → is_among j (keys_of (cs ++ one_more k entry ∷ [])) ≡ cond (key_eq j k) true (is_among j (keys_of cs))
among-more [] k entry j = refl
among-more (c ∷ cs) k entry j = ap (λ (b : Bool). cond (key_eq j c.key) true b) (among-more cs k entry j) ∙ at (key_eq j c.key) (key_eq j k)
  where
    at : (a b : Bool) → cond a true (cond b true (is_among j (keys_of cs))) ≡ cond b true (cond a true (is_among j (keys_of cs)))
    at true true = refl
    at true false = refl
    at false b = refl

-- the child's epoch is the last
epoch-more : (cs : List Child) (ns : List ℕ) (k : Key) (entry m : ℕ) (j : Key) → length ns ≡ length cs
    → epoch_by_key (cs ++ one_more k entry ∷ []) (ns ++ m ∷ []) j ≡ cond (is_among j (keys_of cs)) (epoch_by_key cs ns j) (cond (key_eq j k) m 0)
epoch-more [] [] k entry m j e = refl
epoch-more [] (n ∷ ns) k entry m j e = cc
epoch-more (c ∷ cs) [] k entry m j e = cc
epoch-more (c ∷ cs) (n ∷ ns) k entry m j e = ap (λ (w : ℕ). cond (key_eq j c.key) n w) (epoch-more cs ns k entry m j (ap pred e)) ∙ at (key_eq j c.key)
  where
    at : (b : Bool) → cond b n (cond (is_among j (keys_of cs)) (epoch_by_key cs ns j) (cond (key_eq j k) m 0))
        ≡ cond (cond b true (is_among j (keys_of cs))) (cond b n (epoch_by_key cs ns j)) (cond (key_eq j k) m 0)
    at true = refl
    at false = refl

module _ (g : View) (i : ℕ) (n : Node) (new : List Node) (entry : ℕ) (there : slice_get g.nodes i ≡ Some n)
    (d : DistinctSteps (map shape_of g.nodes)) (stands : Stands (tree_of g) g.run (map shape_of g.nodes) (shape_of n)) (k : Key)
    (mk : StreamMerge) (r : Router ModelItem) (child : Key → Network) (is : at_steps (tree_of g) (map step_of n.steps) ≡ Some (Fork mk r child))
    (absent : (j : ℕ) (m : Node) (q : List LiveStep) → slice_get g.nodes j ≡ Some m → steps_eq (map step_of n.steps ++ At k ∷ q) (map step_of m.steps) ≡ false)
    (below : (j : ℕ) (m : Node) → slice_get new j ≡ Some m → (q : List LiveStep) × (map step_of m.steps ≡ map step_of n.steps ++ At k ∷ q) × FreshAt (child k) q (seen_node m))
    (x : ModelItem) (ws : List Waiting) (first : n.waiting ≡ Plain (It x) ∷ ws) where
  abbrev f : Node → Node
  f = adds_child k entry

  abbrev F : Live ModelItem CellState
  F = subs (map step_of n.steps) (live_of g)

  abbrev F' : Live ModelItem CellState
  F' = subs (map step_of n.steps) (live_of (g' g i n f new there refl d k mk r child is absent below))

  before : F [] ≡ seen_node n
  before = here g i n there d stands

  after : F' [] ≡ seen_node (f n)
  after = root-after g i n f new there refl d k mk r child is absent below

  waits : (F []).waiting ≡ LiveIt x ∷ erased (map entry_of ws)
  waits = ap (λ (l : LiveN). l.waiting) before ∙ ap (λ (v : List Waiting). erased (map entry_of v)) first

  waits-same : (F' []).waiting ≡ (F []).waiting
  waits-same = ap (λ (l : LiveN). l.waiting) after ∙ ap (λ (l : LiveN). l.waiting) (sym before)

  pub in-turn-unfolds : mk ≡ Deterministic → (ds : List (Entry Turn)) → n.state ≡ InTurn ds
      → Move (part (tree_of g)) (running g) (running (g' g i n f new there refl d k mk r child is absent below))
  in-turn-unfolds m ds st =
      whole-move g i n f new there refl d k mk r child is absent below
      (let P : StreamMerge → Type 0 = λ v. (part (Fork v r child)).moves F [] F' in
      subst P (sym m)
      (One [] F' (Unfolds k (LiveIt x) (erased (map entry_of ws)) waits
      (fresh-before g i n f new there refl d k mk r child is absent below)
      (fresh-after g i n f new there refl d k mk r child is absent below)
      (other-kids g i n f new there refl d k mk r child is absent below)
      waits-same
      (ap (λ (l : LiveN). l.decisions) after ∙ ap (λ (s : State). seen_turns (turns_of_state (with_epoch s))) st ∙ sym (ap (λ (s : State). seen_turns (turns_of_state s)) st) ∙ ap (λ (l : LiveN). l.decisions) (sym before))
      (ap (λ (l : LiveN). l.kept) after ∙ ap (λ (s : State). seen_kept (with_epoch s) (n.children ++ one_more k entry ∷ [])) st
      ∙ fun_ext (λ j. ap (λ (w : List (LiveEntry ModelItem)). if key_eq j key.Own then own_groups ds else w) (kept-more n.children k entry j))
      ∙ sym (ap (λ (s : State). seen_kept s n.children) st) ∙ ap (λ (l : LiveN). l.kept) (sym before)))))

  pub freely-unfolds : mk ≡ Free → (e : Epochs) → n.state ≡ Freely e → length e.children ≡ length n.children
      → Move (part (tree_of g)) (running g) (running (g' g i n f new there refl d k mk r child is absent below))
  freely-unfolds m e st fits =
      whole-move g i n f new there refl d k mk r child is absent below
      (let P : StreamMerge → Type 0 = λ v. (part (Fork v r child)).moves F [] F' in
      subst P (sym m)
      (One [] F' (Makes k (LiveIt x) (erased (map entry_of ws)) waits
      (fresh-before g i n f new there refl d k mk r child is absent below)
      (fresh-after g i n f new there refl d k mk r child is absent below)
      (other-kids g i n f new there refl d k mk r child is absent below)
      (λ j. ap (λ (l : LiveN). is_among j l.made) after ∙ among-more n.children k entry j ∙ ap (λ (l : LiveN). is_among j (k ∷ l.made)) (sym before))
      (ap (λ (l : LiveN). l.ahead) after ∙ ap (λ (s : State). (epochs_of (with_epoch s)).input - (epochs_of (with_epoch s)).output) st
      ∙ sym (ap (λ (s : State). (epochs_of s).input - (epochs_of s).output) st) ∙ ap (λ (l : LiveN). l.ahead) (sym before))
      (ap (λ (l : LiveN). l.kept) after ∙ ap (λ (s : State). seen_kept (with_epoch s) (n.children ++ one_more k entry ∷ [])) st
      ∙ fun_ext (λ j. kept-more n.children k entry j)
      ∙ sym (ap (λ (s : State). seen_kept s n.children) st) ∙ ap (λ (l : LiveN). l.kept) (sym before))
      waits-same
      (λ j. ap (λ (l : LiveN). stands_in l j) after
      ∙ ap (λ (s : State). stood (n.children ++ one_more k entry ∷ []) (epochs_of (with_epoch s)) j) st
      ∙ same-stand j
      ∙ sym (ap (λ (s : State). stood n.children (epochs_of s) j) st) ∙ ap (λ (l : LiveN). stands_in l j) (sym before)))))
    where
      stood : List Child → Epochs → Key → ℕ
      stood cs q j = cond (is_among j (keys_of cs)) (epoch_by_key cs q.children j - q.output) (q.input - q.output)

      same-stand : (j : Key) → stood (n.children ++ one_more k entry ∷ []) (with_child e) j ≡ stood n.children e j
      same-stand j =
          ap₂ (λ (b : Bool) (w : ℕ). cond b (w - e.output) (e.input - e.output)) (among-more n.children k entry j) (epoch-more n.children e.children k entry e.input j fits)
          ∙ at (is_among j (keys_of n.children)) (key_eq j k)
        where
          at : (a b : Bool) → cond (cond b true a) (cond a (epoch_by_key n.children e.children j) (cond b e.input 0) - e.output) (e.input - e.output)
              ≡ cond a (epoch_by_key n.children e.children j - e.output) (e.input - e.output)
          at true true = refl
          at true false = refl
          at false true = refl
          at false false = refl
