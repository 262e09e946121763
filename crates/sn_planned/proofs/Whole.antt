-- Plans as a whole.
use Rattle.std.proofs.Common.{ℕ, List, [], ◌∷◌, sym, subst}
use Rattle.std.specs.List.{All, AllByRecursion, Contains}
use Rattle.std.proofs.lemmas.List.Elements.{All-head, All-tail, All-weaker}
use Rattle.sn_record.specs.LabelSet.{Labels}
use Rattle.sn_streams.specs.Segments.{Segments}
use Rattle.sn_nested.specs.Alike.{AnswerAlike, EachItem}
use Rattle.sn_nested.proofs.Items.{each_item_more}
use Rattle.sn_nested.proofs.Reforked.{alike-sym, alike-trans}
use Rattle.sn_net.specs.declared.expr.BoxProgram.{BoxProgram}
use Rattle.sn_net.specs.declared.net.Claim.{Claim}
use Rattle.sn_net.specs.declared.net.Net.{Net}
use Rattle.sn_net.specs.Item.{ModelItem, Rec, Fault, Stuck}
use Rattle.sn_net.specs.WellFormed.{IsWellFormed}
use Rattle.sn_model.specs.Meaning.{Setting, tree}
use Rattle.sn_typing.specs.Accepted.{IsAccepted, IsReached}
use Rattle.sn_typing.specs.Flow.{Safe}
use Rattle.sn_typing.specs.Outline.{Outline, outline}
use Rattle.sn_typing.specs.Reached.{Turn, Reached.{here}}
use Rattle.sn_typing.specs.Typed.{IsItemOfType, IsOf, IsTyped, labels_of}
use Rattle.sn_typing.proofs.MoreLabels.{more_labels}
use Rattle.sn_typing.proofs.Subsets.{matched_labels}
use Rattle.sn_sound.proofs.Follows.{of_more}
use Rattle.sn_planned.specs.Flat.{flattened}
use Rattle.sn_planned.specs.Planned.{IsPlan}
use Rattle.sn_planned.specs.Slim.{slimmed}
use Rattle.sn_planned.specs.Trimmed.{Trimmed}
use Rattle.sn_planned.proofs.Flat.{is_flat}
use Rattle.sn_planned.proofs.FlatTyped.{flat_refines}
use Rattle.sn_planned.proofs.Reaching.{reached_safe}
use Rattle.sn_planned.proofs.Slim.{slim_at}
use Rattle.sn_planned.proofs.SlimFormed.{slim_formed}
use Rattle.sn_planned.proofs.SlimTyped.{slim_refines}
use Rattle.sn_planned.proofs.Trimmed.{trimmed_alike}
use Rattle.sn_planned.proofs.TrimmedFormed.{trimmed_formed}
use Rattle.sn_planned.proofs.TrimmedTyped.{trimmed_within}

-- a variant of the input reaches the whole
pub reaches_root : (root : Outline) (input : List Labels) (v : Labels) → Contains input v → IsReached root input [] root v
reaches_root root input v listed = record { variant = v; listed = listed; reached = here root v }

pub all_safe : (root : Outline) (input : List Labels) → ((v : Labels) → Contains input v → Safe root v)
    → (way : List Turn) (part : Outline) (v : Labels) → IsReached root input way part v → Safe part v
all_safe root input safe way part v from = reached_safe root from.variant way part v (safe from.variant from.listed) from.reached

pub trimmed_is_alike : (s : Setting) (input : List Labels) (net trimmed : Net) → IsWellFormed s.boxes net → ((v : Labels) → Contains input v → Safe (outline s.boxes net) v)
    → Trimmed s.boxes (outline s.boxes net) input [] net trimmed
    → (xss : Segments ModelItem) → EachItem (IsItemOfType input) xss → AnswerAlike (tree s net) (tree s trimmed) xss
trimmed_is_alike s input net trimmed formed safe trims xss each =
    let root : Outline = outline s.boxes net in
    trimmed_alike s root input (all_safe root input safe) [] net trimmed trims formed xss
    (each_item_more (IsItemOfType input) (IsOf (λ v. IsReached root input [] root v)) (of_more (Contains input) (λ v. IsReached root input [] root v) (reaches_root root input)) xss each)

pub slim_is_alike : (s : Setting) (input : List Labels) (net : Net) → IsWellFormed s.boxes net → ((v : Labels) → Contains input v → Safe (outline s.boxes net) v)
    → (xss : Segments ModelItem) → EachItem (IsItemOfType input) xss → AnswerAlike (tree s net) (tree s (slimmed net)) xss
slim_is_alike s input net formed safe xss each =
    let root : Outline = outline s.boxes net in
    slim_at s root input (all_safe root input safe) [] net formed xss
    (each_item_more (IsItemOfType input) (IsOf (λ v. IsReached root input [] root v)) (of_more (Contains input) (λ v. IsReached root input [] root v) (reaches_root root input)) xss each)

-- ---- the plan of an accepted claim

module _ (boxes : List BoxProgram) (claim : Claim) (formed : IsWellFormed boxes claim.net) (accepted : IsAccepted boxes claim) (planned : Net) (plan : IsPlan boxes claim planned) where
  abbrev flat : Net
  flat = flattened boxes claim.net

  abbrev root : Outline
  root = outline boxes flat

  flat_formed : IsWellFormed boxes flat
  flat_formed = (is_flat (record { boxes = boxes; fuel = 0; depth = 0 }) claim.net formed).formed

  -- the flat network is safe for the input
  flat_safe : (v : Labels) → Contains claim.input v → Safe root v
  flat_safe v listed = (flat_refines boxes claim.net formed).safe v (accepted.safe v listed)

  pub plan_formed : IsWellFormed boxes planned
  plan_formed =
      subst (IsWellFormed boxes) (sym plan.slim) (slim_formed boxes plan.trimmed (trimmed_formed boxes root claim.input [] flat plan.trimmed plan.trims flat_formed))

  trimmed_is_formed : IsWellFormed boxes plan.trimmed
  trimmed_is_formed = trimmed_formed boxes root claim.input [] flat plan.trimmed plan.trims flat_formed

  trimmed_safe : (v : Labels) → Contains claim.input v → Safe (outline boxes plan.trimmed) v
  trimmed_safe v listed = (trimmed_within boxes root claim.input (all_safe root claim.input flat_safe) [] flat plan.trimmed plan.trims flat_formed v (reaches_root root claim.input v listed)).safe

  pub plan_safe : (v : Labels) → Contains claim.input v → Safe (outline boxes planned) v
  plan_safe v listed = subst (λ net. Safe (outline boxes net) v) (sym plan.slim) (slim_refines boxes plan.trimmed v (trimmed_safe v listed)).safe

  typed_item : (x : ModelItem) → IsItemOfType claim.input x → IsTyped boxes planned x
  typed_item (Rec r) is = (more_labels (outline boxes planned) is.variant (labels_of r) (matched_labels r is.variant is.matched) (plan_safe is.variant is.listed)).0
  typed_item (Fault fault) is = tt
  typed_item (Stuck at) is = absurd is

  pub plan_typed : (xs : List ModelItem) → All (IsItemOfType claim.input) xs → All (IsTyped boxes planned) xs
  plan_typed xs all = All-weaker (IsItemOfType claim.input) (IsTyped boxes planned) typed_item xs all

  module _ (fuel depth : ℕ) where
    abbrev s : Setting
    s = record { boxes = boxes; fuel = fuel; depth = depth }

    pub plan_alike : (xss : Segments ModelItem) → EachItem (IsItemOfType claim.input) xss → AnswerAlike (tree s planned) (tree s claim.net) xss
    plan_alike xss each =
        alike-trans (tree s planned) (tree s plan.trimmed) (tree s claim.net) xss
        (subst (λ net. AnswerAlike (tree s net) (tree s plan.trimmed) xss) (sym plan.slim)
        (alike-sym (tree s plan.trimmed) (tree s (slimmed plan.trimmed)) xss (slim_is_alike s claim.input plan.trimmed trimmed_is_formed trimmed_safe xss each)))
        (alike-trans (tree s plan.trimmed) (tree s flat) (tree s claim.net) xss
        (alike-sym (tree s flat) (tree s plan.trimmed) xss (trimmed_is_alike s claim.input flat plan.trimmed flat_formed flat_safe plan.trims xss each))
        ((is_flat s claim.net formed).alike xss))

    each_one : (xs : List ModelItem) → All (IsItemOfType claim.input) xs → AllByRecursion (IsItemOfType claim.input) xs
    each_one [] all = tt
    each_one (x ∷ xs) all = (All-head (IsItemOfType claim.input) x xs all, each_one xs (All-tail (IsItemOfType claim.input) x xs all))

    pub plan_list_alike : (xs : List ModelItem) → All (IsItemOfType claim.input) xs → AnswerAlike (tree s planned) (tree s claim.net) (xs ∷ [])
    plan_list_alike xs all = plan_alike (xs ∷ []) (each_one xs all, tt)
