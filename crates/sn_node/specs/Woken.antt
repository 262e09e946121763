-- Which children of a free dispatcher are listed, since something of them may be merged.
use Rattle.std.specs.Prelude.{◌≡◌, ℕ, true, List, length, slice_get}
use Rattle.std.specs.Coded.{Coded-set, coded_ℕ, →_prop, Π_prop, Unit-prop, ×_prop}
use mathlib.Core.Bool.{Bool-set}
use Rattle.sn_view.specs.Epochs.{Epochs}
use Rattle.sn_view.specs.Next.{may_merge_by}
use Rattle.sn_view.specs.View as view
use Rattle.sn_node.specs.Agenda.{is_listed}
use Rattle.sn_node.specs.declared.node.State.{State}
use Rattle.sn_node.specs.declared.node.State.TheVariants as state
use Rattle.sn_node.specs.declared.freely.Freely.{Freely}

-- each child of which something may be merged is listed
abbrev pub AreAwake : Epochs → List ℕ → List view.Child → Type 0
AreAwake e listed children = (c : ℕ) → may_merge_by (view.Freely e) c (slice_get children c) ≡ true → is_listed c listed ≡ true

-- so it is at a free dispatcher, and each child has an epoch
abbrev pub IsWoken : Freely → List view.Child → Type 0
IsWoken f children = (length f.fork.children ≡ length children) × AreAwake f.fork f.waking.stack.items children

abbrev pub AreWoken : State → List view.Child → Type 0
AreWoken state.Alone children = Unit {0}
AreWoken (state.Cell cell) children = Unit {0}
AreWoken (state.InTurn decisions) children = Unit {0}
AreWoken (state.Freely f) children = IsWoken f children

-- that it is has one proof alone, so a type may keep it
pub woken_once : (s : State) (children : List view.Child) (p q : AreWoken s children) → p ≡ q
woken_once state.Alone children = Unit-prop
woken_once (state.Cell cell) children = Unit-prop
woken_once (state.InTurn decisions) children = Unit-prop
woken_once (state.Freely f) children = ×_prop (Coded-set coded_ℕ _ _) (Π_prop (λ c. →_prop (Bool-set _ _)))

-- nothing is taken off the list, and the child is on it, if something of it may be merged
pub record Wakes (children : List view.Child) (c : ℕ) (old new : Freely) : Type 0 where
  pub fork : new.fork ≡ old.fork
  pub listed : may_merge_by (view.Freely old.fork) c (slice_get children c) ≡ true → is_listed c new.waking.stack.items ≡ true
  pub others : (d : ℕ) → is_listed d old.waking.stack.items ≡ true → is_listed d new.waking.stack.items ≡ true
