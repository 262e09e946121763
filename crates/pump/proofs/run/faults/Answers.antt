use Rattle.std.proofs.Common.{◌≡◌, ◌<◌, ℕ, zero, suc, List, [], ◌∷◌, ◌++◌, map, sym, subst, not-suc-le-zero, le_of_suc-le-suc}
use Rattle.std.specs.List.{All}
use Rattle.std.proofs.lemmas.List.Elements.{All-append}
use mathlib.Core.List.{map-append}
use Rattle.sn_net.specs.Item.{modelled}
use Rattle.sn_typing.specs.Typed.{IsTyped}
use Rattle.pump.proofs.run.faults.Goals as goal

one : {X : Type 0} (P : X → Type 0) (x : X) → P x → All P (x ∷ [])
one P x p zero d h = p
one P x p (suc k) d h = absurd (not-suc-le-zero (le_of_suc-le-suc h))

-- with one element more
one_more : {X Y : Type 0} (P : Y → Type 0) (f : X → Y) (xs : List X) (x : X) → All P (map f xs) → P (f x) → All P (map f (xs ++ x ∷ []))
one_more P f xs x all p =
    subst (All P) (sym (map-append f xs (x ∷ []))) (All-append P (map f xs) (f x ∷ []) all (one P (f x) p))

pub loop-place-preserved : goal.loop-place-preserved
loop-place-preserved c = λ boxes net.
    subst (λ items. All (IsTyped boxes net) (map modelled items)) (sym c.in_ok-append.ensures.ok)
    (one_more (IsTyped boxes net) modelled c.loop-place.items _ (c.loop-place.invariant boxes net) tt)
