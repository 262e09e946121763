-- The rule of a queue of values of one owner, over what waits in it and what each pass knows.
use Rattle.std.specs.Prelude.{◌≡◌, ℕ, Bool, true, List, [], ◌∷◌, ◌++◌, Option, None, Some, sum_by}
use mathlib.Core.Option.{some}
use lib.ListN.{get_elem?}
use Rattle.sn_ruled.specs.declared.rule.Known.{Known}
use Rattle.sn_ruled.specs.declared.rule.Role.{Role}
use Rattle.sn_ruled.specs.declared.rule.Role.TheVariants.{Maker, Pusher, Popper, GivenBack}

-- what a pass knows
abbrev pub known : {O T : Type 0} → Role O → List T → List T → Known O T
known role pushed popped = record { role = role; pushed = pushed; popped = popped }

-- the first pass, one that has done nothing yet, one that takes in what another did, and one that was given back
abbrev pub maker : {O T : Type 0} → Known O T
maker = known Maker [] []

abbrev pub fresh : {O T : Type 0} → Known O T → Known O T
fresh v = known v.role [] []

abbrev pub both : {O T : Type 0} → Known O T → Known O T → Known O T
both v w = known v.role (v.pushed ++ w.pushed) (v.popped ++ w.popped)

abbrev pub given_back : {O T : Type 0} → Known O T
given_back = known GivenBack [] []

-- the passes of the maker's split
abbrev pub pusher_of : {O : Type 0} → Option O → Role O
pusher_of (Some owner) = Pusher owner
pusher_of None = GivenBack

abbrev pub popper_of : {O : Type 0} → Option O → Role O
popper_of (Some owner) = Popper owner
popper_of None = GivenBack

-- the fact holds of each
abbrev pub Every : {T : Type 0} → (T → Type 0) → List T → Type 0
Every P [] = Unit {0}
Every P (x ∷ xs) = P x × Every P xs

-- the value is of the owner, where there is one
abbrev pub IsOf : {O T : Type 0} → (O → T → Type 0) → Option O → T → Type 0
IsOf {O} of written x = (owner : O) → written ≡ Some owner → of owner x

-- what came to pass in a queue: which owner was written into the views, what was pushed and what of it was popped, each in order, and
-- which passes are the maker's, the pusher's and the popper's, where there is one of these
pub record Past (O T : Type 0) : Type 0 where
  pub owner : Option O
  pub pushed : List T
  pub popped : List T
  pub maker : ℕ
  pub pusher : ℕ
  pub popper : ℕ

module _ {O T : Type 0} (of : O → T → Type 0) (one_pushes one_pops : Bool) where
  -- what a role says of the past. Before the maker's split there is no owner, and nothing was pushed. From then on each pass that was not
  -- given back has the one owner. A pass that alone pushes, or pops, did all that was done
  abbrev pub Stands : Past O T → ℕ → Role O → List T → List T → Type 0
  Stands past pass Maker pushed popped = (pass ≡ past.maker) × (past.owner ≡ None) × (past.pushed ≡ [])
  Stands past pass (Pusher owner) pushed popped = (past.owner ≡ Some owner) × (one_pushes ≡ true → (pass ≡ past.pusher) × (pushed ≡ past.pushed))
  Stands past pass (Popper owner) pushed popped = (past.owner ≡ Some owner) × (one_pops ≡ true → (pass ≡ past.popper) × (popped ≡ past.popped))
  Stands past pass GivenBack pushed popped = Unit {0}

  -- What was pushed is what was popped and then what waits, in order. Each value that was pushed is of the owner. What the passes pushed is,
  -- all together, what was pushed, however values are weighed, and so with what they popped: each value was popped once, by one pass
  pub record Agreed (waiting : List T) (views : List (Known O T)) : Type 0 where
    pub past : Past O T
    pub order : past.pushed ≡ past.popped ++ waiting
    pub of_owner : Every (IsOf of past.owner) past.pushed
    pub pushed : (weight : T → ℕ) → sum_by (λ v. sum_by weight v.pushed) views ≡ sum_by weight past.pushed
    pub popped : (weight : T → ℕ) → sum_by (λ v. sum_by weight v.popped) views ≡ sum_by weight past.popped
    pub stands : (pass : ℕ) (v : Known O T) → get_elem? views pass ≡ some v → Stands past pass v.role v.pushed v.popped

  -- these values waited at one moment, at which a pass knew this
  pub record Moment (v : Known O T) (waiting : List T) : Type 0 where
    pub views : List (Known O T)
    pub pass : ℕ
    pub rule : Agreed waiting views
    pub knows : get_elem? views pass ≡ some v

-- what a push tells
abbrev pub Pushed : {O T : Type 0} → Known O T → T → Known O T → Type 0
Pushed v x w = w ≡ known v.role (v.pushed ++ x ∷ []) v.popped

-- what a pop tells: the value is of the owner
abbrev pub Popped : {O T : Type 0} → (O → T → Type 0) → Known O T → T → Known O T → Type 0
Popped {O} of v x w = (w ≡ known v.role v.pushed (v.popped ++ x ∷ [])) × ((owner : O) → v.role ≡ Popper owner → of owner x)

-- what waits is the last of what was pushed
abbrev pub IsLastOf : {T : Type 0} → List T → List T → Type 0
IsLastOf {T} pushed waiting = (popped : List T) × (pushed ≡ popped ++ waiting)
