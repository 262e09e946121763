-- Facts of the whole at the part behind some steps.
use Rattle.std.proofs.Common.{◌≡◌, List, [], ◌∷◌, ◌++◌, Some, refl, sym, ap, ◌∙◌, subst}
use Rattle.sn_streams.specs.Forks.{Free, Deterministic}
use Rattle.sn_streams.specs.Trees.{Tree, Component, Series, Fork}
use Rattle.sn_live.specs.Live.{Step, Left, Right, At, Live, sub, subs, Target, Out, ToNode, ToKept}
use Rattle.sn_live.specs.Parts.{part, feeds}
use Rattle.sn_live.specs.Flat.{at_steps, base}

module _ {A S : Type 0} where
  pub subs-at : (q p : List Step) (f : Live A S) → subs q f p ≡ f (q ++ p)
  subs-at [] p f = refl
  subs-at (s ∷ q) p f = subs-at q p (sub f s)

  pub at_steps-append : (t : Tree A S) (q p : List Step) (u : Tree A S) → at_steps t q ≡ Some u → at_steps t (q ++ p) ≡ at_steps u p
  at_steps-append t [] p u e = let i : t ≡ u = cc in ap (λ (v : Tree A S). at_steps v p) i
  at_steps-append (Series a b) (Left ∷ q) p u e = at_steps-append a q p u e
  at_steps-append (Series a b) (Right ∷ q) p u e = at_steps-append b q p u e
  at_steps-append (Fork m r child) (At k ∷ q) p u e = at_steps-append (child k) q p u e
  at_steps-append (Component m s) (x ∷ q) p u e = cc
  at_steps-append (Series a b) (At k ∷ q) p u e = cc
  at_steps-append (Fork m r child) (Left ∷ q) p u e = cc
  at_steps-append (Fork m r child) (Right ∷ q) p u e = cc

  -- nothing waits in a new state
  pub base-idle : (s : S) (t : Tree A S) (q : List Step) → (base s t q).waiting ≡ []
  base-idle s (Component m z) q = refl
  base-idle s (Series a b) [] = refl
  base-idle s (Series a b) (Left ∷ q) = base-idle s a q
  base-idle s (Series a b) (Right ∷ q) = base-idle s b q
  base-idle s (Series a b) (At k ∷ q) = refl
  base-idle s (Fork m r child) [] = refl
  base-idle s (Fork m r child) (At k ∷ q) = base-idle s (child k) q
  base-idle s (Fork m r child) (Left ∷ q) = refl
  base-idle s (Fork m r child) (Right ∷ q) = refl

  -- the part behind the steps keeps what every part keeps
  pub sane-at : (t : Tree A S) (q : List Step) (u : Tree A S) (f : Live A S) → at_steps t q ≡ Some u → (part t).sane f → (part u).sane (subs q f)
  sane-at t [] u f e s = let i : t ≡ u = cc in subst (λ (v : Tree A S). (part v).sane f) i s
  sane-at (Series a b) (Left ∷ q) u f e (s, z) = sane-at a q u (sub f Left) e s
  sane-at (Series a b) (Right ∷ q) u f e (s, z) = sane-at b q u (sub f Right) e z
  sane-at (Fork Free r child) (At k ∷ q) u f e s = sane-at (child k) q u (sub f (At k)) e (s.kids_sane k)
  sane-at (Fork Deterministic r child) (At k ∷ q) u f e s = sane-at (child k) q u (sub f (At k)) e (s.kids_sane k)
  sane-at (Component m z) (x ∷ q) u f e s = cc
  sane-at (Series a b) (At k ∷ q) u f e s = cc
  sane-at (Fork m r child) (Left ∷ q) u f e s = cc
  sane-at (Fork m r child) (Right ∷ q) u f e s = cc

-- where what a part gives goes, seen from the whole
abbrev pub from_target : Target → List Step → Target → Target
from_target next q Out = next
from_target next q (ToNode s) = ToNode (q ++ s)
from_target next q (ToKept s k) = ToKept (q ++ s) k

from-root : (t : Target) → t ≡ from_target Out [] t
from-root Out = refl
from-root (ToNode s) = refl
from-root (ToKept s k) = refl

from-further : (next : Target) (x : Step) (t : Target) (q : List Step) (g : Target) → feeds next x (from_target t q g) ≡ from_target (feeds next x t) (x ∷ q) g
from-further next x t q Out = refl
from-further next x t q (ToNode s) = refl
from-further next x t q (ToKept s k) = refl

module _ {A S : Type 0} where
  pub target-root : (t : Tree A S) → (part t).target [] ≡ Out
  target-root (Component m s) = refl
  target-root (Series a b) = refl
  target-root (Fork Free r child) = refl
  target-root (Fork Deterministic r child) = refl

  pub target-append : (t : Tree A S) (q p : List Step) (u : Tree A S) → at_steps t q ≡ Some u → (part t).target (q ++ p) ≡ from_target ((part t).target q) q ((part u).target p)
  target-append t [] p u e =
      let i : t ≡ u = cc in
      ap (λ (v : Tree A S). (part v).target p) i ∙ from-root ((part u).target p)
      ∙ ap (λ (n : Target). from_target n [] ((part u).target p)) (sym (target-root t))
  target-append (Series a b) (Left ∷ q) p u e =
      ap (feeds (ToNode (Right ∷ (part b).entry)) Left) (target-append a q p u e) ∙ from-further (ToNode (Right ∷ (part b).entry)) Left ((part a).target q) q ((part u).target p)
  target-append (Series a b) (Right ∷ q) p u e =
      ap (feeds Out Right) (target-append b q p u e) ∙ from-further Out Right ((part b).target q) q ((part u).target p)
  target-append (Fork Free r child) (At k ∷ q) p u e =
      ap (feeds (ToKept [] k) (At k)) (target-append (child k) q p u e) ∙ from-further (ToKept [] k) (At k) ((part (child k)).target q) q ((part u).target p)
  target-append (Fork Deterministic r child) (At k ∷ q) p u e =
      ap (feeds (ToKept [] k) (At k)) (target-append (child k) q p u e) ∙ from-further (ToKept [] k) (At k) ((part (child k)).target q) q ((part u).target p)
  target-append (Component m s) (x ∷ q) p u e = cc
  target-append (Series a b) (At k ∷ q) p u e = cc
  target-append (Fork m r child) (Left ∷ q) p u e = cc
  target-append (Fork m r child) (Right ∷ q) p u e = cc
