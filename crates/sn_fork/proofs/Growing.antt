-- What a child that a fork lacks is for.
use Rattle.std.proofs.Common.{◌≡◌, ℕ, true, false, List, refl, sym, ap, subst, ◌∙◌}
use Rattle.std.specs.Prelude.{Option, None, Some, slice_get}
use Rattle.std.specs.List.{position}
use Rattle.std.specs.Option.{option_and_then}
use Rattle.std.proofs.lemmas.Bool.{false≢true}
use Rattle.std.proofs.lemmas.Option.{none-some, same_Some}
use Rattle.std.specs.FinMap.{get}
use mathlib.Core.Logic.{inl, inr, ∥∥₁_elim}
use Rattle.sn_record.specs.LabelSet.{Labels}
use Rattle.sn_record.specs.Record.{Entries}
use Rattle.sn_streams.specs.Keys as stream
use Rattle.sn_streams.specs.Keys.{Own, Branch, is_among, key_eq}
use Rattle.sn_net.specs.declared.expr.BoxProgram.{BoxProgram}
use Rattle.sn_net.specs.declared.net.Net.{Net}
use Rattle.sn_net.specs.declared.net.Net.TheOpen.{Net-F}
use Rattle.sn_net.specs.declared.net.Net.TheViews.{out-Net, roll-out-Net}
use Rattle.sn_net.specs.declared.routing.Key.{Key}
use Rattle.sn_net.specs.Dispatchers.{stream_key}
use Rattle.sn_net.specs.Face.{face}
use Rattle.sn_net.specs.Filter.{tag}
use Rattle.sn_net.specs.Item.{ModelItem, Rec, Fault, Stuck, modelled}
use Rattle.sn_net.specs.Routable.{IsDispatcher}
use Rattle.sn_net.specs.Route.{best_branch, best_score, branch_key, scores}
use Rattle.sn_net.specs.WellFormed.{IsSoundChoice, IsSound, IsWellFormed}
use Rattle.sn_net.proofs.Sound.{level_sound}
use Rattle.sn_component.proofs.Working.{part_of_run}
use Rattle.sn_view.specs.Placed.{HasBranches}
use Rattle.sn_view.proofs.Lists.{position-passes-by, there-unmap}
use Rattle.sn_view.proofs.Making.{split-at, star-key}
use Rattle.sn_fork.specs.Facts.{ForksAt, key_in}
use Rattle.sn_fork.specs.Seen.{Forking, keys_of}
use Rattle.sn_fork.specs.Turns.{Grows, Lacks}
use Rattle.sn_fork.proofs.OneChild.{inside_key, value_key}

not_own : {X : Type 0} (k : Key) → stream_key k ≡ Own → key_eq (stream_key k) Own ≡ false → X
not_own k own apart = absurd (false≢true (sym apart ∙ ap (λ j. key_eq j Own) own))

-- the branch of the face that a record matches best is there
branch_there : (boxes : List BoxProgram) (branches : List Net) (faces : List (List Labels)) → IsSoundChoice boxes branches faces → (r : Entries) (i : ℕ) → best_branch faces r ≡ Some i
    → (branch : Net) × (slice_get branches i ≡ Some branch)
branch_there boxes branches faces sound r i is = at (best_score faces r) is
  where
    at : (o : Option ℕ) → option_and_then (λ n. position (scores r n) faces) o ≡ Some i → (branch : Net) × (slice_get branches i ≡ Some branch)
    at None is = absurd (none-some i is)
    at (Some n) is =
        let best = position-passes-by (scores r n) faces i is in
        let there = there-unmap (face boxes) branches i best.0 (ap (λ (fs : List (List Labels)). slice_get fs i) (sym sound.paired) ∙ best.1) in
        (there.0, there.1)

-- a choice that has all its branches lacks none
choice_has : (boxes : List BoxProgram) (branches : List Net) (faces : List (List Labels)) (keys : List stream.Key) → IsSoundChoice boxes branches faces
    → ((i : ℕ) (branch : Net) → slice_get branches i ≡ Some branch → is_among (Branch i) keys ≡ true) → (r : Entries) (o : Option ℕ) → best_branch faces r ≡ o
    → key_eq (stream_key (branch_key o)) Own ≡ false → is_among (stream_key (branch_key o)) keys ≡ false → ⊥
choice_has boxes branches faces keys sound whole r None is apart none = absurd (false≢true (sym apart))
choice_has boxes branches faces keys sound whole r (Some i) is apart none =
    let there = branch_there boxes branches faces sound r i is in
    absurd (false≢true (sym none ∙ whole i there.0 there.1))

module _ (boxes : List BoxProgram) (left : ℕ) (keys : List stream.Key) where
  by_form : (f : Net-F Net) → IsDispatcher f → HasBranches f keys → ((P : Type 0) → ((a b : P) → a ≡ b) → (IsSound boxes f → P) → P) → (x : ModelItem) (k : Key) → key_in left f x ≡ k
      → key_eq (stream_key k) Own ≡ false → is_among (stream_key k) keys ≡ false → Grows left f k
  by_form (Net-F.Box place number) dispatches whole sound x k is apart none = dispatches
  by_form (Net-F.Filter filter) dispatches whole sound x k is apart none = dispatches
  by_form (Net-F.Sync place patterns) dispatches whole sound x k is apart none = dispatches
  by_form (Net-F.Serial a b) dispatches whole sound x k is apart none = dispatches
  by_form (Net-F.Choice place merge branches faces) dispatches whole sound (Rec r) k is apart none =
      sound ⊥ (λ a b. absurd a) (λ sound. choice_has boxes branches faces keys sound whole r (best_branch faces r) refl
      (ap (λ j. key_eq (stream_key j) Own) is ∙ apart) (ap (λ j. is_among (stream_key j) keys) is ∙ none))
  by_form (Net-F.Choice place merge branches faces) dispatches whole sound (Fault fault) k is apart none = not_own k (ap stream_key (sym is)) apart
  by_form (Net-F.Choice place merge branches faces) dispatches whole sound (Stuck p) k is apart none = not_own k (ap stream_key (sym is)) apart
  by_form (Net-F.Star place merge body exit guard) dispatches whole sound x k is apart none =
      elim (star-key place exit guard left x) [
        | inl own ↦ not_own k (ap stream_key (sym is) ∙ own) apart
        | inr more ↦ (inside_key k (ap stream_key (sym is) ∙ more.2), more.0, more.1)
      ]
  by_form (Net-F.Split place merge body id) dispatches whole sound (Rec r) k is apart none =
      elim (split-at (get r (tag id))) [
        | inl own ↦ not_own k (ap stream_key (sym is) ∙ own) apart
        | inr value ↦ (value.0, value_key k value.0 (ap stream_key (sym is) ∙ value.1))
      ]
  by_form (Net-F.Split place merge body id) dispatches whole sound (Fault fault) k is apart none = not_own k (ap stream_key (sym is)) apart
  by_form (Net-F.Split place merge body id) dispatches whole sound (Stuck p) k is apart none = not_own k (ap stream_key (sym is)) apart

pub lacking_grows : (f : Forking) (s : ForksAt f) (k : Key) → Lacks f k → Grows f.left (out-Net s.net) k
lacking_grows f s k ((net, item, there, waits, is), apart, none) =
    let same : net ≡ s.net = same_Some net s.net (sym there ∙ s.there) in
    by_form f.run.boxes f.left (keys_of f.children) (out-Net s.net) s.dispatches s.whole
    (λ P prop give. ∥∥₁_elim (part_of_run f.run f.path s.net s.there) prop
    (λ formed. give (level_sound f.run.boxes (out-Net s.net) (subst (IsWellFormed f.run.boxes) (sym (roll-out-Net s.net)) formed))))
    (modelled item) k (ap (λ (n : Net). key_in f.left (out-Net n) (modelled item)) (sym same) ∙ is) apart none
