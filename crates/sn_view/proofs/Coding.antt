-- Equations that have one proof alone.
use Rattle.std.proofs.Common.{◌≡◌, ℕ, List, [], ◌∷◌, Bool, Option, None, Some, false, IsTrue, refl}
use Rattle.std.specs.Prelude.{IfSome}
use Rattle.std.specs.Coded.{Coded-set, Unit-prop, code_by, coded_list, coded_ℕ}
use Rattle.sn_streams.specs.Keys.{Key, AreDistinct, is_among}
use Rattle.sn_model.specs.declared.run.Run.{Run}
use Rattle.sn_model.specs.contracts.run.Run as run_code
use mathlib.Core.Bool.{Bool-set}
use mathlib.Core.HLevel.{×_prop}

-- of numbers, and of those that may be there
pub number_once : (i j : ℕ) (p q : i ≡ j) → p ≡ q
number_once = Coded-set coded_ℕ

abbrev option_parts : Option ℕ → List ℕ
option_parts None = []
option_parts (Some i) = i ∷ []

abbrev option_of : List ℕ → Option ℕ
option_of [] = None
option_of (i ∷ is) = Some i

option-parts : (o : Option ℕ) → option_of (option_parts o) ≡ o
option-parts None = refl
option-parts (Some i) = refl

pub place_once : (a b : Option ℕ) (p q : a ≡ b) → p ≡ q
place_once = Coded-set (code_by (List ℕ) (coded_list coded_ℕ) option_parts option_of option-parts)

-- that keys differ
pub distinct_once : (ks : List Key) → IsProp (AreDistinct ks)
distinct_once [] = Unit-prop
distinct_once (k ∷ ks) = ×_prop (Bool-set (is_among k ks) false) (distinct_once ks)

-- what holds of what may be there
pub some_once : {A : Type 0} (test : A → Bool) (o : Option A) → IsProp (IfSome o (λ a. IsTrue (test a)))
some_once test None = Unit-prop
some_once test (Some a) = Bool-set _ _

-- of runs
pub run_once : (a b : Run) (p q : a ≡ b) → p ≡ q
run_once = Coded-set run_code.the_row.coded
