-- A tree that follows an outline conveys records of safe variants to records of what flows out.
use Rattle.std.proofs.Common.{◌≡◌, ℕ, zero, suc, Bool, true, false, cond, IfSome, List, [], ◌∷◌, Option, None, Some, Result, Ok, Err, refl, sym, ap, ◌∙◌, subst}
use Rattle.std.specs.Prelude.{is_some, slice_get, unwrap_or, pos}
use Rattle.std.specs.List.{AllByRecursion as Each, Contains}
use Rattle.std.specs.FinMap as map
use Rattle.std.specs.Ordering.{int_eq}
use Rattle.sn_record.specs.declared.item.Fault.{Fault as FaultAt}
use Rattle.sn_record.specs.declared.value.Value.{Value}
use Rattle.sn_record.specs.LabelSet.{Labels, union}
use Rattle.sn_record.specs.Record.{Entries, Matches, is_match}
use Rattle.sn_record.proofs.Fitting.{fits_through}
use Rattle.sn_record.proofs.Scores.{is_match-Matches}
use Rattle.sn_streams.specs.Forks.{Router}
use Rattle.sn_streams.specs.Keys.{Key as StreamKey, Own, Branch, Inside, Value as ValueKey}
use Rattle.sn_streams.specs.Machines.{Machine}
use Rattle.sn_streams.specs.Trees.{Component as TreeComponent, Series as TreeSeries, passing, with_own}
use Rattle.sn_tagexpr.specs.declared.expr.TagExpr.{TagExpr}
use Rattle.sn_tagexpr.specs.declared.fault.ExprFault.{ExprFault}
use Rattle.sn_tagexpr.specs.Evaluation.{worth}
use Rattle.sn_net.specs.declared.net.Merge.{Merge}
use Rattle.sn_net.specs.declared.routing.Key.{Key}
use Rattle.sn_net.specs.declared.routing.Key.TheVariants as key
use Rattle.sn_net.specs.Answer.{tag_number}
use Rattle.sn_net.specs.Cell.{CellState, Waiting, Passing}
use Rattle.sn_net.specs.Dispatchers.{Network, stream_key, passed_by, router, dispatched, branch_child, choice, replica_child, split, inside_child, no_way_inside, level_key, level}
use Rattle.sn_net.specs.Filter.{tag}
use Rattle.sn_net.specs.Item.{ModelItem, Rec, Fault, Stuck, is_stuck}
use Rattle.sn_net.specs.Route.{best_branch, branch_key, choice_key, guarded, exit_key, tap_key, replica_key, split_key, of_record}
use Rattle.sn_sound.specs.Conveyed.{Conveys}
use Rattle.sn_sound.proofs.Carried.{conveys_from}
use Rattle.sn_typing.specs.Outline.{Outline, Component, Series, Choice, Star, Split, is_guarded}
use Rattle.sn_typing.specs.Flow.{MayTake, SurelyLeaves, Takes, Comes, Comes.{first, next}, Flows, Safe}
use Rattle.sn_typing.specs.Typed.{MatchesOne, IsOf}
use Rattle.sn_typing.proofs.Subsets.{both_alike, union_fit}
use Rattle.sn_sound.proofs.Scores.{best_is_taken, some_branch}

-- more variants are allowed
pub of_more : (V W : Labels → Type 0) → ((v : Labels) → V v → W v) → (x : ModelItem) → IsOf V x → IsOf W x
of_more V W more (Rec r) is = record { variant = is.variant; listed = more is.variant is.listed; matched = is.matched }
of_more V W more (Fault fault) is = tt
of_more V W more (Stuck place) is = absurd is

pub each_of_more : (V W : Labels → Type 0) → ((v : Labels) → V v → W v) → (xs : List ModelItem) → Each (IsOf V) xs → Each (IsOf W) xs
each_of_more V W more [] each = tt
each_of_more V W more (x ∷ xs) each = (of_more V W more x each.0, each_of_more V W more xs each.1)

-- each record that is held matches one of the variants
abbrev pub Holds : List Labels → CellState → Type 0
Holds takes Passing = Unit {0}
Holds takes (Waiting slots) = Each (λ slot. IfSome slot (MatchesOne (Contains takes))) slots

-- The machine holds records that it takes, answers records of what flows out to a record with a route, and lets faults pass.
pub record Answers (takes : List Labels) (out : Labels → Labels → Type 0) (m : Machine ModelItem CellState) (s : CellState) : Type 0 where
  pub start : Holds takes s
  pub records : (q : CellState) (r : Entries) (v : Labels) → Holds takes q → Takes takes v → Matches r v → Holds takes (m.next q (Rec r)) × Each (IsOf (out v)) (m.emits q (Rec r))
  pub faults : (q : CellState) (fault : FaultAt) → Holds takes q → Holds takes (m.next q (Fault fault)) × (m.emits q (Fault fault) ≡ Fault fault ∷ [])

-- The tree has the form of the outline, and its components answer what the outline says.
pub data Follows : Outline → Network → Type 0 where
  component : (place : ℕ) (takes : List Labels) (named : Labels) (outputs : List Labels) (m : Machine ModelItem CellState) (s : CellState)
      → Answers takes (Flows (Component place takes named outputs)) m s → Follows (Component place takes named outputs) (TreeComponent m s)
  series : (a b : Outline) (t u : Network) → Follows a t → Follows b u → Follows (Series a b) (TreeSeries t u)
  branches : (place : ℕ) (faces : List (List Labels)) (branch : ℕ → Outline) (m : Merge) (trees : List Network)
      → ((i : ℕ) (t : Network) → slice_get trees i ≡ Some t → Follows (branch i) t)
      → ((i : ℕ) → slice_get trees i ≡ None → (v : Labels) → Safe (branch i) v → ⊥)
      → Follows (Choice place faces branch) (choice place m faces trees)
  levels : (place : ℕ) (exit : Labels) (guard : Option TagExpr) (body : Outline) (m : Merge) (t : Network) (depth : ℕ)
      → Follows body t → Follows (Star exit (is_guarded guard) body) (level place m exit guard t depth)
  replicas : (place id : ℕ) (body : Outline) (m : Merge) (t : Network) → Follows body t → Follows (Split place id body) (split place m id t)

-- the item is not stuck
abbrev pub Goes : ModelItem → Type 0
Goes x = is_stuck x ≡ false

pub of_goes : (V : Labels → Type 0) (x : ModelItem) → IsOf V x → Goes x
of_goes V (Rec r) is = refl
of_goes V (Fault fault) is = refl
of_goes V (Stuck place) is = absurd is

-- What passes a fork by becomes what the router makes of it.
passing_conveys : (r : Router ModelItem) (P : ModelItem → Type 0) (W : Labels → Type 0) → ((x : ModelItem) → P x → Goes x) → ((x : ModelItem) → P x → IsOf W (r.own x))
    → Conveys Goes (passing r Passing) P (IsOf W)
passing_conveys r P W going goes = ((λ q. Unit {0}), tt, going, of_goes W, (λ q x here is. (tt, (goes x is, tt))))

-- A dispatcher: what is known of an item and its key is enough for what becomes of it where it passes by, or for its child.
module _ (place : ℕ) (m : Merge) (key_of : ModelItem → Key) (child : Network → StreamKey → Network) (V W : Labels → Type 0) (known : StreamKey → Key → ModelItem → Type 0) where
  abbrev sends : Router ModelItem
  sends = router place key_of

  abbrev known_at : StreamKey → ModelItem → Type 0
  known_at k x = known k (key_of x) x

  abbrev sent_to : StreamKey → ModelItem → Type 0
  sent_to k x = Goes x × known_at k x

  pub dispatched_conveys : ((x : ModelItem) → IsOf V x → known (stream_key (key_of x)) (key_of x) x)
      → ((k : Key) (x : ModelItem) → known Own k x → IsOf W (passed_by place k x))
      → ((i : ℕ) → Conveys Goes (child (passing sends Passing) (Branch i)) (known_at (Branch i)) (IsOf W))
      → Conveys Goes (child (passing sends Passing) Inside) (known_at Inside) (IsOf W)
      → ((n : _) → Conveys Goes (child (passing sends Passing) (ValueKey n)) (known_at (ValueKey n)) (IsOf W))
      → Conveys Goes (dispatched m sends child) (IsOf V) (IsOf W)
  dispatched_conveys sent own to_branch to_inside to_value = (sent_to, of_goes V, of_goes W, (λ x is. (of_goes V x is, sent x is)), children)
    where
      children : (k : StreamKey) → Conveys Goes (with_own sends Passing (child (passing sends Passing)) k) (sent_to k) (IsOf W)
      children Own = passing_conveys sends (sent_to Own) W (λ x is. is.0) (λ x is. own (key_of x) x is.1)
      children (Branch i) = conveys_from Goes (child (passing sends Passing) (Branch i)) (known_at (Branch i)) (sent_to (Branch i)) (IsOf W) (λ x is. is.1) (to_branch i)
      children Inside = conveys_from Goes (child (passing sends Passing) Inside) (known_at Inside) (sent_to Inside) (IsOf W) (λ x is. is.1) to_inside
      children (ValueKey n) = conveys_from Goes (child (passing sends Passing) (ValueKey n)) (known_at (ValueKey n)) (sent_to (ValueKey n)) (IsOf W) (λ x is. is.1) (to_value n)

  -- nothing is sent there
  pub nothing_sent : (k : StreamKey) → ((x : ModelItem) → known_at k x → ⊥) → Conveys Goes (passing sends Passing) (known_at k) (IsOf W)
  nothing_sent k none = passing_conveys sends (known_at k) W (λ x is. absurd (none x is)) (λ x is. absurd (none x is))

-- Choices.
module _ (place : ℕ) (m : Merge) (faces : List (List Labels)) (branch : ℕ → Outline) (trees : List Network) (V W : Labels → Type 0)
    (safe : (v : Labels) → V v → Safe (Choice place faces branch) v) (flows : (v u : Labels) → V v → Flows (Choice place faces branch) v u → W u) where
  -- a variant that comes to branch i
  abbrev pub ToBranch : ℕ → Labels → Type 0
  ToBranch i u = (v : Labels) × V v × ((w : Labels) × MayTake faces i w v × (u ≡ union v w))

  abbrev choice_known : StreamKey → Key → ModelItem → Type 0
  choice_known Own k x = IsOf W (passed_by place k x)
  choice_known (Branch i) k x = IsOf (ToBranch i) x
  choice_known Inside k x = ⊥
  choice_known (ValueKey n) k x = ⊥

  choice_sent : (x : ModelItem) → IsOf V x → choice_known (stream_key (of_record (choice_key faces) x)) (of_record (choice_key faces) x) x
  choice_sent (Fault fault) is = tt
  choice_sent (Stuck at) is = absurd is
  choice_sent (Rec r) is = at (best_branch faces r) refl
    where
      at : (b : Option ℕ) → best_branch faces r ≡ b → choice_known (stream_key (branch_key b)) (branch_key b) (Rec r)
      at None none = absurd (some_branch faces r is.variant is.matched (safe is.variant is.listed).0 none)
      at (Some i) best =
          let chosen = best_is_taken faces r is.variant i is.matched best in
          record { variant = union is.variant chosen.0; listed = (is.variant, is.listed, (chosen.0, chosen.1, refl)); matched = chosen.2 }

  -- the branch is safe for what comes to it, and what flows out of it flows out
  pub branch_safe : (i : ℕ) (u : Labels) → ToBranch i u → Safe (branch i) u
  branch_safe i u (v, is, (w, taken, same)) = subst (Safe (branch i)) (sym same) ((safe v is).1 i w taken)

  pub branch_flows : (i : ℕ) (u z : Labels) → ToBranch i u → Flows (branch i) u z → W z
  branch_flows i u z (v, is, (w, taken, same)) flow =
      flows v z is ((safe v is).0, (i, w, taken, subst (λ t. Flows (branch i) t z) same flow))

  abbrev choice_sends : Router ModelItem
  choice_sends = router place (of_record (choice_key faces))

  -- where there is no branch, no record comes
  missing_branch : (i : ℕ) → ((v : Labels) → Safe (branch i) v → ⊥) → Conveys Goes (passing choice_sends Passing) (IsOf (ToBranch i)) (IsOf W)
  missing_branch i missing = passing_conveys choice_sends (IsOf (ToBranch i)) W (of_goes (ToBranch i)) goes
    where
      goes : (x : ModelItem) → IsOf (ToBranch i) x → IsOf W (choice_sends.own x)
      goes (Rec r) is = absurd (missing is.variant (branch_safe i is.variant is.listed))
      goes (Fault fault) is = tt
      goes (Stuck at) is = absurd is

  to_each_branch : (i : ℕ) → ((t : Network) → slice_get trees i ≡ Some t → Conveys Goes t (IsOf (ToBranch i)) (IsOf W)) → (slice_get trees i ≡ None → (v : Labels) → Safe (branch i) v → ⊥)
      → Conveys Goes (branch_child trees (passing choice_sends Passing) (Branch i)) (IsOf (ToBranch i)) (IsOf W)
  to_each_branch i conveys missing = at (slice_get trees i) refl
    where
      at : (b : Option Network) → slice_get trees i ≡ b → Conveys Goes (unwrap_or b (passing choice_sends Passing)) (IsOf (ToBranch i)) (IsOf W)
      at None none = missing_branch i (missing none)
      at (Some t) there = conveys t there

  pub choice_conveys : ((i : ℕ) (t : Network) → slice_get trees i ≡ Some t → Conveys Goes t (IsOf (ToBranch i)) (IsOf W)) → ((i : ℕ) → slice_get trees i ≡ None → (v : Labels) → Safe (branch i) v → ⊥)
      → Conveys Goes (choice place m faces trees) (IsOf V) (IsOf W)
  choice_conveys conveys missing =
      dispatched_conveys place m (of_record (choice_key faces)) (branch_child trees) V W choice_known
      choice_sent (λ k x is. is) (λ i. to_each_branch i (conveys i) (missing i))
      (nothing_sent place m (of_record (choice_key faces)) (branch_child trees) V W choice_known Inside (λ x none. none))
      (λ n. nothing_sent place m (of_record (choice_key faces)) (branch_child trees) V W choice_known (ValueKey n) (λ x none. none))

-- What the tap of a star says of a record that matches u.
abbrev pub TapSays : Labels → Option TagExpr → Entries → Labels → Key → Type 0
TapSays exit guard r u key.Bypass = Matches r exit
TapSays exit guard r u (key.Broken fault) = Unit {0}
TapSays exit guard r u key.Inside = SurelyLeaves exit (is_guarded guard) u → ⊥
TapSays exit guard r u (key.Branch i) = ⊥
TapSays exit guard r u (key.Value n) = ⊥
TapSays exit guard r u key.Stuck = ⊥

guard_says : (place : ℕ) (exit : Labels) (guard : TagExpr) (r : Entries) (u : Labels) → Matches r exit → (result : Result _ ExprFault) → TapSays exit (Some guard) r u (guarded place result)
guard_says place exit guard r u matches (Err fault) = tt
guard_says place exit guard r u matches (Ok n) = at (int_eq n (pos 0))
  where
    impossible : true ≡ false → ⊥
    impossible e = cc

    at : (b : Bool) → TapSays exit (Some guard) r u (cond b key.Inside key.Bypass)
    at true = λ leaves. impossible leaves.unguarded
    at false = matches

exit_says : (place : ℕ) (exit : Labels) (guard : Option TagExpr) (r : Entries) (u : Labels) → Matches r exit → TapSays exit guard r u (exit_key place guard r)
exit_says place exit None r u matches = matches
exit_says place exit (Some guard) r u matches = guard_says place exit guard r u matches (worth (tag_number r) guard)

pub tap_says : (place : ℕ) (exit : Labels) (guard : Option TagExpr) (r : Entries) (u : Labels) → Matches r u → TapSays exit guard r u (tap_key place exit guard r)
tap_says place exit guard r u matches = at (is_match r exit) refl
  where
    impossible : true ≡ false → ⊥
    impossible e = cc

    at : (b : Bool) → is_match r exit ≡ b → TapSays exit guard r u (cond b (exit_key place guard r) key.Inside)
    at true test = exit_says place exit guard r u ((is_match-Matches r exit).0 test)
    at false test = λ leaves. impossible (sym ((is_match-Matches r exit).1 (fits_through (map.contains_key r) exit u leaves.fits matches)) ∙ test)

-- Stars, a level after another.
module _ (place : ℕ) (m : Merge) (exit : Labels) (guard : Option TagExpr) (body : Outline) (tree : Network) (V W : Labels → Type 0)
    (safe : (v : Labels) → V v → Safe (Star exit (is_guarded guard) body) v) (flows : (v u : Labels) → V v → Flows (Star exit (is_guarded guard) body) v u → W u) where
  -- what comes to a tap, and what goes into the body
  abbrev pub AtTap : Labels → Type 0
  AtTap u = (v : Labels) × V v × Comes exit (is_guarded guard) (Flows body) v u

  abbrev pub ToBody : Labels → Type 0
  ToBody u = AtTap u × (SurelyLeaves exit (is_guarded guard) u → ⊥)

  pub body_safe : (u : Labels) → ToBody u → Safe body u
  body_safe u ((v, is, come), stays) = safe v is u come stays

  pub body_flows : (u z : Labels) → ToBody u → Flows body u z → AtTap z
  body_flows u z ((v, is, come), stays) flow = (v, is, next u z come stays flow)

  abbrev star_known : StreamKey → Key → ModelItem → Type 0
  star_known Own k x = IsOf W (passed_by place k x)
  star_known (Branch i) k x = ⊥
  star_known Inside k x = IsOf ToBody x
  star_known (ValueKey n) k x = ⊥

  -- at the last tap nothing goes inside
  abbrev last_tap_known : StreamKey → Key → ModelItem → Type 0
  last_tap_known Own k x = IsOf W (passed_by place k x)
  last_tap_known other k x = ⊥

  leaves_with_exit : (r : Entries) (is : MatchesOne AtTap r) → Matches r exit → IsOf W (Rec r)
  leaves_with_exit r is matches =
      let (v, in_v, come) = is.listed in
      record {
        variant = union is.variant exit;
        listed = flows v (union is.variant exit) in_v (is.variant, come, both_alike (map.contains_key r) is.variant exit is.matched matches, refl);
        matched = union_fit (map.contains_key r) is.variant exit is.matched matches;
      }

  last_known : (r : Entries) (is : MatchesOne AtTap r) (k : Key) → TapSays exit guard r is.variant k → last_tap_known (stream_key (no_way_inside place k)) (no_way_inside place k) (Rec r)
  last_known r is key.Bypass says = leaves_with_exit r is says
  last_known r is (key.Broken fault) says = tt
  last_known r is key.Inside says = tt
  last_known r is (key.Branch i) says = absurd says
  last_known r is (key.Value n) says = absurd says
  last_known r is key.Stuck says = absurd says

  tap_known : (r : Entries) (is : MatchesOne AtTap r) (k : Key) → TapSays exit guard r is.variant k → star_known (stream_key k) k (Rec r)
  tap_known r is key.Bypass says = leaves_with_exit r is says
  tap_known r is (key.Broken fault) says = tt
  tap_known r is key.Inside says = record { variant = is.variant; listed = (is.listed, says); matched = is.matched }
  tap_known r is (key.Branch i) says = absurd says
  tap_known r is (key.Value n) says = absurd says
  tap_known r is key.Stuck says = absurd says

  last_sent : (x : ModelItem) → IsOf AtTap x → last_tap_known (stream_key (of_record (level_key place exit guard zero) x)) (of_record (level_key place exit guard zero) x) x
  last_sent (Fault fault) is = tt
  last_sent (Stuck at) is = absurd is
  last_sent (Rec r) is = last_known r is (tap_key place exit guard r) (tap_says place exit guard r is.variant is.matched)

  tap_sent : (left : ℕ) (x : ModelItem) → IsOf AtTap x → star_known (stream_key (of_record (level_key place exit guard (suc left)) x)) (of_record (level_key place exit guard (suc left)) x) x
  tap_sent left (Fault fault) is = tt
  tap_sent left (Stuck at) is = absurd is
  tap_sent left (Rec r) is = tap_known r is (tap_key place exit guard r) (tap_says place exit guard r is.variant is.matched)

  abbrev last_child : Network → StreamKey → Network
  last_child otherwise k = otherwise

  pub level_conveys : Conveys Goes tree (IsOf ToBody) (IsOf AtTap) → (left : ℕ) → Conveys Goes (level place m exit guard tree left) (IsOf AtTap) (IsOf W)
  level_conveys body_conveys zero =
      dispatched_conveys place m (of_record (level_key place exit guard zero)) last_child AtTap W last_tap_known
      last_sent (λ k x is. is)
      (λ i. nothing_sent place m (of_record (level_key place exit guard zero)) last_child AtTap W last_tap_known (Branch i) (λ x none. none))
      (nothing_sent place m (of_record (level_key place exit guard zero)) last_child AtTap W last_tap_known Inside (λ x none. none))
      (λ n. nothing_sent place m (of_record (level_key place exit guard zero)) last_child AtTap W last_tap_known (ValueKey n) (λ x none. none))
  level_conveys body_conveys (suc left) =
      let inner = inside_child (TreeSeries tree (level place m exit guard tree left)) in
      dispatched_conveys place m (of_record (level_key place exit guard (suc left))) inner AtTap W star_known
      (tap_sent left) (λ k x is. is)
      (λ i. nothing_sent place m (of_record (level_key place exit guard (suc left))) inner AtTap W star_known (Branch i) (λ x none. none))
      (IsOf AtTap, body_conveys, level_conveys body_conveys left)
      (λ n. nothing_sent place m (of_record (level_key place exit guard (suc left))) inner AtTap W star_known (ValueKey n) (λ x none. none))

-- Splits.
module _ (place id : ℕ) (m : Merge) (body : Outline) (tree : Network) (V W : Labels → Type 0)
    (safe : (v : Labels) → V v → Safe (Split place id body) v) (flows : (v u : Labels) → V v → Flows (Split place id body) v u → W u) where
  abbrev split_known : StreamKey → Key → ModelItem → Type 0
  split_known Own k x = IsOf W (passed_by place k x)
  split_known (Branch i) k x = ⊥
  split_known Inside k x = ⊥
  split_known (ValueKey n) k x = IsOf V x

  split_sent : (x : ModelItem) → IsOf V x → split_known (stream_key (of_record (split_key id) x)) (of_record (split_key id) x) x
  split_sent (Fault fault) is = tt
  split_sent (Stuck at) is = absurd is
  split_sent (Rec r) is = at (map.get r (tag id)) refl
    where
      impossible : true ≡ false → ⊥
      impossible e = cc

      at : (b : Option Value) → map.get r (tag id) ≡ b → split_known (stream_key (replica_key b)) (replica_key b) (Rec r)
      at None none = absurd (impossible (sym (is.matched.within (tag id) (safe is.variant is.listed).0) ∙ ap is_some none))
      at (Some value) there = is

  pub split_conveys : Conveys Goes tree (IsOf V) (IsOf W) → Conveys Goes (split place m id tree) (IsOf V) (IsOf W)
  split_conveys conveys =
      dispatched_conveys place m (of_record (split_key id)) (replica_child tree) V W split_known
      split_sent (λ k x is. is)
      (λ i. nothing_sent place m (of_record (split_key id)) (replica_child tree) V W split_known (Branch i) (λ x none. none))
      (nothing_sent place m (of_record (split_key id)) (replica_child tree) V W split_known Inside (λ x none. none))
      (λ n. conveys)

-- What follows an outline that is safe for V conveys records of V to records of what flows out.
pub follows_conveys : (o : Outline) (t : Network) → Follows o t → (V W : Labels → Type 0) → ((v : Labels) → V v → Safe o v) → ((v u : Labels) → V v → Flows o v u → W u)
    → Conveys Goes t (IsOf V) (IsOf W)
follows_conveys o t (component place takes named outputs m s answers) V W safe flows = (Holds takes, answers.start, of_goes V, of_goes W, keeps)
  where
    keeps : (q : CellState) (x : ModelItem) → Holds takes q → IsOf V x → Holds takes (m.next q x) × Each (IsOf W) (m.emits q x)
    keeps q (Rec r) here is =
        let answered = answers.records q r is.variant here (safe is.variant is.listed) is.matched in (
          answered.0,
          each_of_more (Flows (Component place takes named outputs) is.variant) W (λ u flow. flows is.variant u is.listed flow) (m.emits q (Rec r)) answered.1,
        )
    keeps q (Fault fault) here is =
        let passes = answers.faults q fault here in
        (passes.0, subst (Each (IsOf W)) (sym passes.1) (tt, tt))
    keeps q (Stuck at) here is = absurd is
follows_conveys o t (series a b t' u' left right) V W safe flows =
    let Between : Labels → Type 0 = λ w. (v : Labels) × V v × Flows a v w in (
      IsOf Between,
      follows_conveys a t' left V Between (λ v is. (safe v is).0) (λ v u is flow. (v, is, flow)),
      follows_conveys b u' right Between W (λ w (v, is, flow). (safe v is).1 w flow) (λ w u (v, is, flow) further. flows v u is (w, flow, further)),
    )
follows_conveys o t (branches place faces branch m trees each missing) V W safe flows =
    choice_conveys place m faces branch trees V W safe flows
    (λ i t' there. follows_conveys (branch i) t' (each i t' there) (ToBranch place m faces branch trees V W safe flows i) W (branch_safe place m faces branch trees V W safe flows i) (branch_flows place m faces branch trees V W safe flows i))
    missing
follows_conveys o t (levels place exit guard body m t' depth inner) V W safe flows =
    let tap = AtTap place m exit guard body t' V W safe flows in
    conveys_from Goes (level place m exit guard t' depth) (IsOf tap) (IsOf V) (IsOf W) (of_more V tap (λ v is. (v, is, first)))
    (level_conveys place m exit guard body t' V W safe flows
    (follows_conveys body t' inner (ToBody place m exit guard body t' V W safe flows) tap (body_safe place m exit guard body t' V W safe flows) (body_flows place m exit guard body t' V W safe flows))
    depth)
follows_conveys o t (replicas place id body m t' inner) V W safe flows =
    split_conveys place id m body t' V W safe flows
    (follows_conveys body t' inner V W (λ v is. (safe v is).1) (λ v u is flow. flows v u is ((safe v is).0, flow)))
