-- A state is fresh where each node is.
use Rattle.std.proofs.Common.{◌≡◌, List, [], ◌∷◌, ◌++◌, Some, refl, subst}
use Rattle.sn_streams.specs.Forks.{Free, Deterministic}
use Rattle.sn_streams.specs.Keys.{Key}
use Rattle.sn_streams.specs.Trees.{Tree, Component, Series, Fork}
use Rattle.sn_live.specs.Live.{Step, Left, Right, At, Live, sub}
use Rattle.sn_live.specs.Parts.{part, FreshFork}
use Rattle.sn_live.specs.Flat.{FreshNode, FreshAt, base, at_steps}

module _ {A S : Type 0} where
  fork-fresh : (child : Key → Tree A S) (f : Live A S) → FreshNode (f []) → ((k : Key) → (part (child k)).fresh (sub f (At k))) → FreshFork (λ k. part (child k)) f
  fork-fresh child f n h = record { waits = n.waits; decides = n.decides; level = n.level; leads = n.leads; keeps = n.keeps; kids_fresh = h }

  pub fresh-from : (t : Tree A S) (f : Live A S) → ((q : List Step) → FreshAt t q (f q)) → (part t).fresh f
  fresh-from (Component m s) f h = h []
  fresh-from (Series a b) f h = (fresh-from a (sub f Left) (λ q. h (Left ∷ q)), fresh-from b (sub f Right) (λ q. h (Right ∷ q)))
  fresh-from (Fork Free r child) f h = fork-fresh child f (h []) (λ k. fresh-from (child k) (sub f (At k)) (λ q. h (At k ∷ q)))
  fresh-from (Fork Deterministic r child) f h = fork-fresh child f (h []) (λ k. fresh-from (child k) (sub f (At k)) (λ q. h (At k ∷ q)))

  pub base-fresh : (s : S) (t : Tree A S) (q : List Step) → FreshAt t q (base s t q)
  base-fresh s (Component m z) [] = (refl, refl)
  base-fresh s (Component m z) (x ∷ q) = tt
  base-fresh s (Series a b) [] = tt
  base-fresh s (Series a b) (Left ∷ q) = base-fresh s a q
  base-fresh s (Series a b) (Right ∷ q) = base-fresh s b q
  base-fresh s (Series a b) (At k ∷ q) = tt
  base-fresh s (Fork m r child) [] = record { waits = refl; decides = refl; level = refl; leads = λ k. refl; keeps = λ k. refl }
  base-fresh s (Fork m r child) (At k ∷ q) = base-fresh s (child k) q
  base-fresh s (Fork m r child) (Left ∷ q) = tt
  base-fresh s (Fork m r child) (Right ∷ q) = tt

  -- the part of a new state is new
  pub base-at : (s : S) (t : Tree A S) (p q : List Step) (u : Tree A S) → at_steps t p ≡ Some u → FreshAt u q (base s t (p ++ q))
  base-at s t [] q u e = let i : t ≡ u = cc in subst (λ (v : Tree A S). FreshAt v q (base s t q)) i (base-fresh s t q)
  base-at s (Series a b) (Left ∷ p) q u e = base-at s a p q u e
  base-at s (Series a b) (Right ∷ p) q u e = base-at s b p q u e
  base-at s (Fork m r child) (At k ∷ p) q u e = base-at s (child k) p q u e
  base-at s (Component m z) (x ∷ p) q u e = cc
  base-at s (Series a b) (At k ∷ p) q u e = cc
  base-at s (Fork m r child) (Left ∷ p) q u e = cc
  base-at s (Fork m r child) (Right ∷ p) q u e = cc
