-- The keys of items at dispatchers, with the depth of stars.
use Rattle.std.proofs.Common.{◌≡◌, ℕ, zero, suc, ◌≤◌, true, length, List, refl, sym, ap, subst, ◌∙◌}
use Rattle.std.specs.Prelude.{Option, Some, None}
use Rattle.sn_record.specs.LabelSet.{Labels}
use Rattle.sn_tagexpr.specs.declared.expr.TagExpr.{TagExpr}
use Rattle.sn_net.specs.declared.net.Merge.{Merge}
use Rattle.sn_net.specs.declared.net.Net.{Net}
use Rattle.sn_net.specs.declared.net.Net.TheOpen.{Net-F}
use Rattle.sn_net.specs.declared.net.Net.TheViews.{out-Net, out-roll-Net}
use Rattle.sn_net.specs.declared.net.Net.TheVariants as form
use Rattle.sn_net.specs.declared.routing.Key.{Key}
use Rattle.sn_net.specs.Dispatchers.{stream_key, passed_by, router, level_key, no_way_inside}
use Rattle.sn_net.specs.Item.{ModelItem, Rec, Fault, Stuck}
use Rattle.sn_net.specs.Route.{key_at, of_record, choice_key, tap_key, split_key}
use Rattle.std.proofs.lemmas.Bool.{false≢true}
use Rattle.std.proofs.lemmas.List.{length-map}
use Rattle.sn_net.specs.declared.expr.BoxProgram.{BoxProgram}
use Rattle.sn_net.specs.declared.net.Net.TheFolds.{every_here-Net}
use Rattle.sn_net.specs.Face.{face}
use Rattle.sn_net.specs.Routable.{IsDispatcher}
use Rattle.sn_net.specs.WellFormed.{FitsBoxes, IsSound, most_branches}
use Rattle.std.specs.Coded.{le_prop, Unit-prop}
use Rattle.std.proofs.Props.{props}
use mathlib.Core.Logic.{∥∥₁_elim}
use Rattle.sn_view.specs.View.{Entry, It}
use Rattle.sn_view.specs.Next.{both, key_of, router_of}
use Rattle.sn_view.specs.Parts.{part_at}
use Rattle.sn_view.specs.Routed.{is_dispatching}
use Rattle.sn_node.specs.Routes.{KeyIs, GoesBy, place_of}
use Rattle.sn_node.proofs.Sound.{part_fits}

-- by the key that the router has for the item
by_key : (f : Net-F Net) (left place : ℕ) (key_of : ModelItem → Key) (x : ModelItem) (k : Key) → router_of (Some f) left ≡ Some (router place key_of) → place_of f ≡ place → key_of x ≡ k → KeyIs f left x k
by_key f left place key_of x k found at is = record {
  router = router place key_of;
  found = found;
  key = ap stream_key is;
  own = ap (λ j. passed_by place j x) is ∙ ap (λ p. passed_by p k x) (sym at);
}

pub choice_is : (net : Net) (place : ℕ) (merge : Merge) (branches : List Net) (faces : List (List Labels)) (left : ℕ) (x : ModelItem) (k : Key)
    → net ≡ form.Choice place merge branches faces → k ≡ key_at (out-Net net) x → KeyIs (out-Net net) left x k
choice_is net place merge branches faces left x k is key =
    let f = Net-F.Choice place merge branches faces in
    let e : out-Net net ≡ f = ap out-Net (is ∙ sym (form.rolls-Choice place merge branches faces)) ∙ out-roll-Net f in
    subst (λ g. KeyIs g left x k) (sym e) (by_key f left place (of_record (choice_key faces)) x k refl refl (sym (key ∙ ap (λ g. key_at g x) e)))

pub split_is : (net : Net) (place : ℕ) (merge : Merge) (body : Net) (id left : ℕ) (x : ModelItem) (k : Key)
    → net ≡ form.Split place merge body id → k ≡ key_at (out-Net net) x → KeyIs (out-Net net) left x k
split_is net place merge body id left x k is key =
    let f = Net-F.Split place merge body id in
    let e : out-Net net ≡ f = ap out-Net (is ∙ sym (form.rolls-Split place merge body id)) ∙ out-roll-Net f in
    subst (λ g. KeyIs g left x k) (sym e) (by_key f left place (of_record (split_key id)) x k refl refl (sym (key ∙ ap (λ g. key_at g x) e)))

-- a level of a star without replicas left has no way inside
last_key : (place : ℕ) (exit : Labels) (guard : Option TagExpr) (x : ModelItem) → no_way_inside place (of_record (tap_key place exit guard) x) ≡ of_record (level_key place exit guard zero) x
last_key place exit guard (Rec r) = refl
last_key place exit guard (Fault fault) = refl
last_key place exit guard (Stuck at) = refl

more_key : (place : ℕ) (exit : Labels) (guard : Option TagExpr) (left : ℕ) (x : ModelItem) → of_record (tap_key place exit guard) x ≡ of_record (level_key place exit guard (suc left)) x
more_key place exit guard left (Rec r) = refl
more_key place exit guard left (Fault fault) = refl
more_key place exit guard left (Stuck at) = refl

module _ (net : Net) (place : ℕ) (merge : Merge) (body : Net) (exit : Labels) (guard : Option TagExpr) (x : ModelItem)
    (is : net ≡ form.Star place merge body exit guard) where
  star : Net-F Net
  star = Net-F.Star place merge body exit guard

  shape : out-Net net ≡ Net-F.Star place merge body exit guard
  shape = ap out-Net (is ∙ sym (form.rolls-Star place merge body exit guard)) ∙ out-roll-Net (Net-F.Star place merge body exit guard)

  pub star_last : (k : Key) → k ≡ key_at (out-Net net) x → KeyIs (out-Net net) 0 x (no_way_inside place k)
  star_last k key =
      subst (λ g. KeyIs g 0 x (no_way_inside place k)) (sym shape)
      (by_key (Net-F.Star place merge body exit guard) 0 place (of_record (level_key place exit guard zero)) x (no_way_inside place k) refl refl
      (sym (ap (no_way_inside place) (key ∙ ap (λ g. key_at g x) shape) ∙ last_key place exit guard x)))

  pub star_more : (left : ℕ) (k : Key) → k ≡ key_at (out-Net net) x → KeyIs (out-Net net) (suc left) x k
  star_more left k key =
      subst (λ g. KeyIs g (suc left) x k) (sym shape)
      (by_key (Net-F.Star place merge body exit guard) (suc left) place (of_record (level_key place exit guard (suc left))) x k refl refl
      (sym (key ∙ ap (λ g. key_at g x) shape ∙ more_key place exit guard left x)))

  pub star_left : (left : ℕ) (k : Key) → (left ≡ 0 → ⊥) → k ≡ key_at (out-Net net) x → KeyIs (out-Net net) left x k
  star_left zero k some key = absurd (some refl)
  star_left (suc left) k some key = star_more left k key

-- an item goes by its key
pub item_goes : (f : Net-F Net) (left : ℕ) (x : ModelItem) (k : Key) → KeyIs f left x k → GoesBy (both (router_of (Some f) left) (Some (It x))) k
item_goes f left x k is = record {
  by = record { router = is.router; entry = It x };
  is = ap (λ r. both r (Some (It x))) is.found;
  key = is.key;
  place = place_of f;
  own = λ y same. let Q : ModelItem → Type 0 = λ z. is.router.own z ≡ passed_by (place_of f) k z in subst Q (ap (item_in x) same) is.own;
}
  where
    item_in : ModelItem → Entry ModelItem → ModelItem
    item_in d (It y) = y
    item_in d other = d

-- a dispatcher of a well-formed network may route
pub sound_dispatcher : (boxes : List BoxProgram) (f : Net-F Net) → IsSound boxes f → is_dispatching f ≡ true → IsDispatcher f
sound_dispatcher boxes (Net-F.Choice place merge branches faces) sound is =
    let few : length branches ≤ most_branches = sound.few in
    let n : length faces ≡ length branches = ap (λ (xs : List (List Labels)). length xs) sound.paired ∙ length-map branches (face boxes) in
    subst (λ n. n ≤ most_branches) (sym n) few
sound_dispatcher boxes (Net-F.Star place merge body exit guard) sound is = sound
sound_dispatcher boxes (Net-F.Split place merge body id) sound is = tt
sound_dispatcher boxes (Net-F.Box place number) sound is = absurd (false≢true is)
sound_dispatcher boxes (Net-F.Filter filter) sound is = absurd (false≢true is)
sound_dispatcher boxes (Net-F.Sync place patterns) sound is = absurd (false≢true is)
sound_dispatcher boxes (Net-F.Serial l r) sound is = absurd (false≢true is)

-- in one way alone
dispatches_once : (f : Net-F Net) → IsProp (IsDispatcher f)
dispatches_once (Net-F.Choice place merge branches faces) = le_prop
dispatches_once (Net-F.Star place merge body exit None) = Unit-prop
dispatches_once (Net-F.Star place merge body exit (Some test)) = hlevel props
dispatches_once (Net-F.Split place merge body id) = Unit-prop
dispatches_once (Net-F.Box place number) = λ p q. absurd p
dispatches_once (Net-F.Filter filter) = λ p q. absurd p
dispatches_once (Net-F.Sync place patterns) = λ p q. absurd p
dispatches_once (Net-F.Serial l r) = λ p q. absurd p

pub part_dispatches : (boxes : List BoxProgram) (net : Net) (path : List ℕ) (p : Net) → FitsBoxes boxes net → Some p ≡ part_at net path → is_dispatching (out-Net p) ≡ true → IsDispatcher (out-Net p)
part_dispatches boxes net path p fits there is =
    ∥∥₁_elim (part_fits boxes net path p fits (sym there)) (dispatches_once (out-Net p))
    (λ formed. sound_dispatcher boxes (out-Net p) (every_here-Net (IsSound boxes) p formed.sound) is)
