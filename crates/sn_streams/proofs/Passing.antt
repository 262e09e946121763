-- What passes the children of a fork by.
use Rattle.std.proofs.Common.{◌≡◌, List, [], ◌∷◌, map, refl, ap, ap₂, ◌∙◌}
use Rattle.sn_streams.specs.Forks.{Router}
use Rattle.sn_streams.specs.Machines.{Machine, emitted, after, transduced}
use Rattle.sn_streams.specs.Segments.{Segments}

module _ {A S : Type 0} (r : Router A) (s : S) where
  abbrev passes : Machine A S
  passes = record { next = λ q x. q; emits = λ q x. r.own x ∷ [] }

  passed : (xs : List A) → emitted passes s xs ≡ map r.own xs
  passed [] = refl
  passed (x ∷ xs) = ap (λ ys. r.own x ∷ ys) (passed xs)

  after-passes : (xs : List A) → after passes s xs ≡ s
  after-passes [] = refl
  after-passes (x ∷ xs) = after-passes xs

  pub passing-map : (xss : Segments A) → transduced passes s xss ≡ map (map r.own) xss
  passing-map [] = refl
  passing-map (xs ∷ xss) =
      ap₂ (λ ys yss. ys ∷ yss) (passed xs) (ap (λ q. transduced passes q xss) (after-passes xs) ∙ passing-map xss)
