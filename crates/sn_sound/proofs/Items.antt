-- Soundness of plain lists: of typed items, and of accepted claims.
use Rattle.std.proofs.Common.{◌≡◌, false, List, [], ◌∷◌, refl}
use Rattle.std.specs.List.{All, AllByRecursion as Each, Contains}
use Rattle.std.proofs.lemmas.List.Elements.{All-nil, All-cons, All-head, All-tail}
use Rattle.std.specs.FinMap as map
use Rattle.sn_record.specs.LabelSet.{Labels}
use Rattle.sn_record.proofs.Fitting.{fits_itself, fits_through}
use Rattle.sn_net.specs.declared.net.Claim.{Claim}
use Rattle.sn_net.specs.declared.net.Net.{Net}
use Rattle.sn_net.specs.Item.{ModelItem, Rec, Fault, Stuck, holds_stuck}
use Rattle.sn_net.specs.WellFormed.{IsWellFormed}
use Rattle.sn_streams.specs.Segments.{Segments}
use Rattle.sn_model.specs.Meaning.{MayAnswer, MayAnswerList, Setting, tree}
use Rattle.sn_typing.specs.Accepted.{IsAccepted}
use Rattle.sn_typing.specs.Flow.{Flows, Safe}
use Rattle.sn_typing.specs.Outline.{outline}
use Rattle.sn_typing.specs.Typed.{IsOf, IsItemOfType, IsTyped, labels_of}
use Rattle.sn_typing.proofs.Subsets.{labels_matched}
use Rattle.sn_sound.specs.Carried.{EachItem}
use Rattle.sn_sound.specs.Conveyed.{Conveys}
use Rattle.sn_sound.proofs.Carried.{conveys_carries, each_more}
use Rattle.sn_sound.proofs.Follows.{Goes, follows_conveys}
use Rattle.sn_sound.proofs.Networks.{net_follows}

pub each_of_all : {A : Type 0} (P : A → Type 0) (xs : List A) → All P xs → Each P xs
each_of_all P [] all = tt
each_of_all P (x ∷ xs) all = (All-head P x xs all, each_of_all P xs (All-tail P x xs all))

all_of_each : {A : Type 0} (P : A → Type 0) (xs : List A) → Each P xs → All P xs
all_of_each P [] each = All-nil P
all_of_each P (x ∷ xs) each = All-cons P x xs each.0 (all_of_each P xs each.1)

-- the same of segments
segments_more : {A : Type 0} (P Q : List A → Type 0) → ((xs : List A) → P xs → Q xs) → (xss : Segments A) → Each P xss → Each Q xss
segments_more P Q more [] each = tt
segments_more P Q more (xs ∷ xss) each = (more xs each.0, segments_more P Q more xss each.1)

-- what is of some variants is not stuck
none_stuck : (V : Labels → Type 0) (xs : List ModelItem) → Each (IsOf V) xs → holds_stuck xs ≡ false
none_stuck V [] each = refl
none_stuck V (Rec r ∷ xs) each = none_stuck V xs each.1
none_stuck V (Fault fault ∷ xs) each = none_stuck V xs each.1
none_stuck V (Stuck place ∷ xs) each = absurd each.0

module _ (s : Setting) (net : Net) (formed : IsWellFormed s.boxes net) where
  abbrev pub safely : Labels → Type 0
  safely v = Safe (outline s.boxes net) v

  pub typed_is_safe : (x : ModelItem) → IsTyped s.boxes net x → IsOf safely x
  typed_is_safe (Rec r) typed = record { variant = labels_of r; listed = typed; matched = labels_matched r (labels_of r) (fits_itself (labels_of r)) }
  typed_is_safe (Fault fault) typed = tt
  typed_is_safe (Stuck place) typed = absurd typed

  -- what flows out of variants
  abbrev pub FlowsFrom : (Labels → Type 0) → Labels → Type 0
  FlowsFrom V u = (v : Labels) × V v × Flows (outline s.boxes net) v u

  pub net_conveys : (V : Labels → Type 0) → ((v : Labels) → V v → safely v) → Conveys Goes (tree s net) (IsOf V) (IsOf (FlowsFrom V))
  net_conveys V safe = follows_conveys (outline s.boxes net) (tree s net) (net_follows s net formed) V (FlowsFrom V) safe (λ v u is flow. (v, is, flow))

  flows_out : (V : Labels → Type 0) → ((v : Labels) → V v → safely v) → (xss yss : Segments ModelItem) → EachItem (IsOf V) xss → MayAnswer s net xss yss → EachItem (IsOf (FlowsFrom V)) yss
  flows_out V safe xss yss each answers =
      conveys_carries Goes (tree s net) (IsOf V) (IsOf (FlowsFrom V)) (net_conveys V safe) xss yss each answers

  pub typed_never_stuck : (xss yss : Segments ModelItem) → EachItem (IsTyped s.boxes net) xss → MayAnswer s net xss yss → Each (λ ys. holds_stuck ys ≡ false) yss
  typed_never_stuck xss yss typed answers =
      segments_more (Each (IsOf (FlowsFrom safely))) (λ ys. holds_stuck ys ≡ false) (none_stuck (FlowsFrom safely)) yss
      (flows_out safely (λ v safe. safe) xss yss (segments_more (Each (IsTyped s.boxes net)) (Each (IsOf safely)) (each_more (IsTyped s.boxes net) (IsOf safely) typed_is_safe) xss typed) answers)

  pub typed_list_never_stuck : (xs ys : List ModelItem) → All (IsTyped s.boxes net) xs → MayAnswerList s net xs ys → holds_stuck ys ≡ false
  typed_list_never_stuck xs ys typed answers = (typed_never_stuck (xs ∷ []) (ys ∷ []) (each_of_all (IsTyped s.boxes net) xs typed, tt) answers).0

module _ (s : Setting) (claim : Claim) (formed : IsWellFormed s.boxes claim.net) (accepted : IsAccepted s.boxes claim) where
  abbrev flowing : Labels → Type 0
  flowing = FlowsFrom s claim.net formed (Contains claim.input)

  declared : (x : ModelItem) → IsOf flowing x → IsItemOfType claim.output x
  declared (Rec r) is =
      let (v, listed, flow) = is.listed in
      let has = accepted.declared v is.variant listed flow in
      record { variant = has.variant; listed = has.listed; matched = fits_through (map.contains_key r) has.variant is.variant has.fits is.matched }
  declared (Fault fault) is = tt
  declared (Stuck place) is = absurd is

  pub accepted_is_sound : (xss yss : Segments ModelItem) → EachItem (IsItemOfType claim.input) xss → MayAnswer s claim.net xss yss
      → EachItem (IsItemOfType claim.output) yss × Each (λ ys. holds_stuck ys ≡ false) yss
  accepted_is_sound xss yss typed answers =
      let answered : EachItem (IsOf flowing) yss = flows_out s claim.net formed (Contains claim.input) (λ v listed. accepted.safe v listed) xss yss typed answers in (
        segments_more (Each (IsOf flowing)) (Each (IsItemOfType claim.output)) (each_more (IsOf flowing) (IsItemOfType claim.output) declared) yss answered,
        segments_more (Each (IsOf flowing)) (λ ys. holds_stuck ys ≡ false) (none_stuck flowing) yss answered,
      )

  pub accepted_list_is_sound : (xs ys : List ModelItem) → All (IsItemOfType claim.input) xs → MayAnswerList s claim.net xs ys → All (IsItemOfType claim.output) ys × (holds_stuck ys ≡ false)
  accepted_list_is_sound xs ys typed answers =
      let both = accepted_is_sound (xs ∷ []) (ys ∷ []) (each_of_all (IsItemOfType claim.input) xs typed, tt) answers in
      (all_of_each (IsItemOfType claim.output) ys both.0.0, both.1.0)
