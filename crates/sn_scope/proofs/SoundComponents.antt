-- Components that are sound at each level, and what is made of them.
use Rattle.std.proofs.Common.{◌≡◌, ℕ, ◌≤◌, IsTrue, IfSome, List, length, map as each, Option, refl, sym, ap, ◌∙◌, subst}
use Rattle.sn_net.specs.Filter.{is_over, IsClosed}
use Rattle.sn_net.specs.WellFormed.{most_branches}
use Rattle.sn_net.specs.declared.filter.Filter.{Filter}
use Rattle.sn_net.specs.declared.net.Merge.{Merge}
use Rattle.sn_record.specs.LabelSet.{Labels}
use Rattle.sn_scope.specs.declared.network.Component.{Component}
use Rattle.sn_scope.specs.declared.network.Component.TheFolds.{every-Component, every-Network, every_made-Component, every_made-Network, every_held-Network, map-Component, map-Network}
use Rattle.sn_scope.specs.declared.network.Component.TheOpen.{Component-F, Network-F}
use Rattle.sn_scope.specs.declared.network.Component.TheVariants as component
use Rattle.sn_scope.specs.declared.network.Component.TheViews.{roll-Component, out-Network, out-roll-Network}
use Rattle.sn_scope.specs.declared.network.Network.{Network}
use Rattle.sn_scope.specs.declared.network.Network.TheVariants as network
use Rattle.sn_tagexpr.specs.declared.expr.TagExpr.{TagExpr}

-- one level: a filter is closed, a choice has few enough branches, and a guard has only tags of the exit pattern
abbrev pub IsSoundLevel : Component-F Component Network → Type 0
IsSoundLevel (Component-F.Box place number) = Unit {0}
IsSoundLevel (Component-F.Filter filter) = IsClosed filter
IsSoundLevel (Component-F.Sync place patterns) = Unit {0}
IsSoundLevel (Component-F.Serial parts) = Unit {0}
IsSoundLevel (Component-F.Choice place merge branches) = length branches ≤ most_branches
IsSoundLevel (Component-F.Star place merge body exit guard) = IfSome guard (λ test. IsTrue (is_over exit test))
IsSoundLevel (Component-F.Split place merge body tag) = Unit {0}

-- a name of a net, or a component, asks for nothing more
abbrev pub IsSoundPart : Network-F Component Network → Type 0
IsSoundPart part = Unit {0}

-- each level of the component is sound, at any depth
abbrev pub IsSoundComponent : Component → Type 0
IsSoundComponent = every-Component IsSoundLevel IsSoundPart

-- each level of the network is sound, at any depth
abbrev pub IsSoundNetwork : Network → Type 0
IsSoundNetwork = every-Network IsSoundLevel IsSoundPart

-- a network with its soundness
abbrev pub SoundNetwork : Type 0
SoundNetwork = (network : Network) × IsSoundNetwork network

-- a component with its soundness
abbrev pub SoundComponent : Type 0
SoundComponent = (component : Component) × IsSoundComponent component

-- the networks alone
abbrev pub networks : List SoundNetwork → List Network
networks = each (λ e. e.0)

-- a level of sound parts is sound where it is itself
made : (x : Component-F SoundComponent SoundNetwork) (y : Component-F Component Network) → map-Component SoundComponent SoundNetwork Component Network (λ e. e.0) (λ e. e.0) x ≡ y
    → IsSoundLevel y → IsSoundComponent (roll-Component y)
made x y is level = every_made-Component IsSoundLevel IsSoundPart y x is level

-- a call of a box is sound
pub sound_box : (place number : ℕ) → IsSoundComponent (component.Box place number)
sound_box place number = subst IsSoundComponent (component.rolls-Box place number) (made (Component-F.Box place number) (Component-F.Box place number) refl tt)

-- a closed filter is sound
pub sound_filter : (filter : Filter) → IsClosed filter → IsSoundComponent (component.Filter filter)
sound_filter filter closed = subst IsSoundComponent (component.rolls-Filter filter) (made (Component-F.Filter filter) (Component-F.Filter filter) refl closed)

-- a synchrocell is sound
pub sound_sync : (place : ℕ) (patterns : List Labels) → IsSoundComponent (component.Sync place patterns)
sound_sync place patterns = subst IsSoundComponent (component.rolls-Sync place patterns) (made (Component-F.Sync place patterns) (Component-F.Sync place patterns) refl tt)

-- sound networks in series are sound
pub sound_serial : (parts : List SoundNetwork) → IsSoundComponent (component.Serial (networks parts))
sound_serial parts = subst IsSoundComponent (component.rolls-Serial (networks parts)) (made (Component-F.Serial parts) (Component-F.Serial (networks parts)) refl tt)

-- a choice of few enough sound branches is sound
pub sound_choice : (place : ℕ) (merge : Merge) (branches : List SoundNetwork) → length (networks branches) ≤ most_branches → IsSoundComponent (component.Choice place merge (networks branches))
sound_choice place merge branches few =
    subst IsSoundComponent (component.rolls-Choice place merge (networks branches)) (made (Component-F.Choice place merge branches) (Component-F.Choice place merge (networks branches)) refl few)

-- a star of a sound body is sound, where its guard has only tags of the exit pattern
pub sound_star : (place : ℕ) (merge : Merge) (body : SoundNetwork) (exit : Labels) (guard : Option TagExpr) → IfSome guard (λ test. IsTrue (is_over exit test))
    → IsSoundComponent (component.Star place merge body.0 exit guard)
sound_star place merge body exit guard over =
    subst IsSoundComponent (component.rolls-Star place merge body.0 exit guard) (made (Component-F.Star place merge body exit guard) (Component-F.Star place merge body.0 exit guard) refl over)

-- a split of a sound body is sound
pub sound_split : (place : ℕ) (merge : Merge) (body : SoundNetwork) (tag : ℕ) → IsSoundComponent (component.Split place merge body.0 tag)
sound_split place merge body tag =
    subst IsSoundComponent (component.rolls-Split place merge body.0 tag) (made (Component-F.Split place merge body tag) (Component-F.Split place merge body.0 tag) refl tt)

-- a name of a net is sound
pub sound_named : (number : ℕ) → IsSoundNetwork (network.Named number)
sound_named number = subst IsSoundNetwork (network.rolls-Named number) (every_made-Network IsSoundLevel IsSoundPart (Network-F.Named number) (Network-F.Named number) refl tt)

-- a sound component is a sound network
pub sound_made : (component : Component) → IsSoundComponent component → IsSoundNetwork (network.Made component)
sound_made component sound = subst IsSoundNetwork (network.rolls-Made component) (every_made-Network IsSoundLevel IsSoundPart (Network-F.Made component) (Network-F.Made (component, sound)) refl tt)

-- where it is a component, this is sound
abbrev IsSoundMade : Network-F Component Network → Type 0
IsSoundMade (Network-F.Named number) = Unit {0}
IsSoundMade (Network-F.Made component) = IsSoundComponent component

held_made : (y : Network-F SoundComponent SoundNetwork) → IsSoundMade (map-Network SoundComponent SoundNetwork Component Network (λ e. e.0) (λ e. e.0) y)
held_made (Network-F.Named number) = tt
held_made (Network-F.Made component) = component.1

-- the component that a sound network is made of is sound
pub made_sound : (component : Component) → IsSoundNetwork (network.Made component) → IsSoundComponent component
made_sound component sound =
    let held = every_held-Network IsSoundLevel IsSoundPart (network.Made component) sound in
    subst IsSoundMade (held.1 ∙ ap out-Network (sym (network.rolls-Made component)) ∙ out-roll-Network (Network-F.Made component)) (held_made held.0)
