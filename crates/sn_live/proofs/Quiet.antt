-- A state is quiet where each node is.
use Rattle.std.proofs.Common.{◌≡◌, ℕ, suc, List, [], ◌∷◌, Some, refl, subst}
use Rattle.sn_streams.specs.Forks.{Free, Deterministic}
use Rattle.sn_streams.specs.Keys.{Own}
use Rattle.sn_streams.specs.Trees.{Tree, Component, Series, Fork}
use Rattle.sn_live.specs.Live.{Step, Left, Right, At, Node, Live, sub}
use Rattle.sn_live.specs.Parts.{part}
use Rattle.sn_live.specs.Flat.{base, at_steps, QuietAt}

module _ {A S : Type 0} where
  pub quiet-from : (t : Tree A S) (f : Live A S) → ((q : List Step) → QuietAt t q (f q)) → (part t).quiet f
  quiet-from (Component m s) f h = h []
  quiet-from (Series a b) f h = (quiet-from a (sub f Left) (λ q. h (Left ∷ q)), quiet-from b (sub f Right) (λ q. h (Right ∷ q)))
  quiet-from (Fork Free r child) f h = record {
    none_waits = (h []).waits;
    kids_quiet = λ k. quiet-from (child k) (sub f (At k)) (λ q. h (At k ∷ q));
    none_there = (h []).none_there;
    not_past = (h []).not_past;
  }
  quiet-from (Fork Deterministic r child) f h = record {
    none_waits = (h []).waits;
    kids_quiet = λ k. quiet-from (child k) (sub f (At k)) (λ q. h (At k ∷ q));
    first_waits = (h []).first_waits;
    no_mark = (h []).no_mark;
  }

  pub base-quiet : (s : S) (t : Tree A S) (q : List Step) → QuietAt t q (base s t q)
  base-quiet s (Component m z) [] = refl
  base-quiet s (Component m z) (x ∷ q) = tt
  base-quiet s (Series a b) [] = tt
  base-quiet s (Series a b) (Left ∷ q) = base-quiet s a q
  base-quiet s (Series a b) (Right ∷ q) = base-quiet s b q
  base-quiet s (Series a b) (At k ∷ q) = tt
  base-quiet s (Fork Free r child) [] = record { waits = refl; none_there = λ k e. refl; not_past = λ h. zero-is-not (h Own).0 (h Own).1 }
    where
      zero-is-not : (n : ℕ) → 0 ≡ suc n → ⊥
      zero-is-not n e = cc
  base-quiet s (Fork Deterministic r child) [] = record { waits = refl; first_waits = λ k ds e. refl; no_mark = λ ds e. cc }
  base-quiet s (Fork Free r child) (At k ∷ q) = base-quiet s (child k) q
  base-quiet s (Fork Deterministic r child) (At k ∷ q) = base-quiet s (child k) q
  base-quiet s (Fork m r child) (Left ∷ q) = tt
  base-quiet s (Fork m r child) (Right ∷ q) = tt

  pub quiet-at : (t : Tree A S) (q : List Step) (u : Tree A S) (n : Node A S) → at_steps t q ≡ Some u → QuietAt u [] n → QuietAt t q n
  quiet-at t [] u n e h = let i : u ≡ t = cc in subst (λ (v : Tree A S). QuietAt v [] n) i h
  quiet-at (Series a b) (Left ∷ q) u n e h = quiet-at a q u n e h
  quiet-at (Series a b) (Right ∷ q) u n e h = quiet-at b q u n e h
  quiet-at (Fork Free r child) (At k ∷ q) u n e h = quiet-at (child k) q u n e h
  quiet-at (Fork Deterministic r child) (At k ∷ q) u n e h = quiet-at (child k) q u n e h
  quiet-at (Component m s) (x ∷ q) u n e h = cc
  quiet-at (Series a b) (At k ∷ q) u n e h = cc
  quiet-at (Fork m r child) (Left ∷ q) u n e h = cc
  quiet-at (Fork m r child) (Right ∷ q) u n e h = cc
