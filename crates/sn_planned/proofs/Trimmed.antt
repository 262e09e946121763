-- A network without branches that nothing is sent to answers as it did what flows into it.
use Rattle.std.proofs.Common.{◌≡◌, ◌↔◌, ℕ, zero, suc, ◌+◌, ◌<◌, Bool, true, false, cond, IsTrue, List, [], ◌∷◌, ◌++◌, length, map, Option, None, Some, refl, sym, ap, ap₂, ◌∙◌, subst, subst₂, arith, append_assoc, length-append}
use Rattle.std.specs.Prelude.{nat_le, pred}
use Rattle.std.proofs.Math.ListN.{length-map}
use Rattle.sn_record.specs.LabelSet.{Labels, union}
use Rattle.sn_record.specs.Record.{Entries}
use Rattle.sn_tagexpr.specs.declared.expr.TagExpr.{TagExpr}
use Rattle.sn_streams.specs.Forks.{Router}
use Rattle.sn_streams.specs.Keys.{Key as StreamKey, Own, Branch as BranchKey, Inside, Value as ValueKey}
use Rattle.sn_streams.specs.Trees.{Series as TreeSeries, Allows, passing}
use Rattle.sn_net.specs.declared.expr.BoxProgram.{BoxProgram}
use Rattle.sn_net.specs.declared.net.Merge.{Merge}
use Rattle.sn_net.specs.declared.net.Net.{Net}
use Rattle.sn_net.specs.declared.net.Net.TheVariants.{Box, Filter as FilterLeaf, Sync, Serial, Choice as ChoiceNet, Star as StarNet, Split as SplitNet}
use Rattle.sn_net.specs.declared.routing.Key.{Key}
use Rattle.sn_net.specs.declared.routing.Key.TheVariants as key
use Rattle.sn_net.specs.Cell.{Passing}
use Rattle.sn_net.specs.Dispatchers.{Network, choice, inside_child, level, level_key, replica_child, router, stream_key}
use Rattle.sn_net.specs.Face.{face}
use Rattle.sn_net.specs.Item.{ModelItem, Rec, Fault, Stuck}
use Rattle.sn_net.specs.Route.{best_branch, of_record, split_key, tap_key}
use Rattle.sn_net.specs.WellFormed.{IsWellFormed}
use Rattle.sn_model.specs.Meaning.{Setting, tree}
use Rattle.sn_model.proofs.Forms.{tree-Serial, tree-Choice, tree-Star, tree-Split}
use Rattle.sn_typing.specs.Outline.{Outline, Series, Choice, Star, Split, branch_of, is_guarded, outline}
use Rattle.sn_typing.specs.Flow.{Comes, Comes.{first, next}, Flows, Safe, SurelyLeaves}
use Rattle.sn_typing.specs.Reached.{Turn, Left, Right, Branch, Body}
use Rattle.sn_typing.specs.Accepted.{IsReached}
use Rattle.sn_typing.specs.Typed.{IsOf}
use Rattle.sn_typing.proofs.Forms.{outline-Serial, outline-Choice, outline-Star, outline-Split}
use Rattle.sn_sound.specs.Carried.{Carries}
use Rattle.sn_sound.proofs.Carried.{conveys_carries}
use Rattle.sn_sound.proofs.Follows.{Goes, TapSays, follows_conveys, of_more, tap_says}
use Rattle.sn_sound.proofs.Networks.{net_follows}
use Rattle.sn_sound.proofs.Scores.{best_is_taken}
use Rattle.sn_planned.specs.Flat.{choice_of}
use Rattle.sn_planned.specs.Trimmed.{IsWay, Kept, keep_or_drop, kept, kept_from, droppable, Trimmed, Trimmed.{box, filter, sync, serial, choice as choice_form, star, split as split_form}}
use Rattle.sn_planned.proofs.Dropped.{dropped_on, dropped_spot}
use Rattle.sn_planned.proofs.Flat.{mapped_append}
use Rattle.sn_planned.proofs.Formed.{choice_sound, serial_parts, split_parts, star_parts}
use Rattle.sn_planned.proofs.On.{AlikeOn, dispatched_on, on_less, on_same, on_sym, on_then, series_on}
use Rattle.sn_planned.proofs.Reaching.{to_body, to_branch, to_left, to_replica, to_right}
use Rattle.sn_planned.proofs.Spots.{Spot, Spot.{neither, on_left, in_middle, on_right}}

differ : true ≡ false → ⊥
differ e = cc

abbrev nets_of : Kept → List Net
nets_of k = k.nets

-- ---- the branches of a choice

module _ (s : Setting) (place : ℕ) (m : Merge) (P : ModelItem → Type 0) (used : ℕ → Bool) where
  abbrev faces_of : List Net → List (List Labels)
  faces_of nets = map (face s.boxes) nets

  abbrev choice_tree : List Net → Network
  choice_tree nets = choice place m (faces_of nets) (map (tree s) nets)

  -- The choice with `fewer` behind some branches answers as that with `nets` there; and what goes to one of the first branches then, went there.
  record Fewer (before nets fewer : List Net) : Type 0 where
    alike : AlikeOn P (choice_tree (before ++ fewer)) (choice_tree (before ++ nets))
    keys : (r : Entries) → P (Rec r) → (j : ℕ) → j < length before → best_branch (faces_of (before ++ fewer)) r ≡ Some j → best_branch (faces_of (before ++ nets)) r ≡ Some j

  -- each record goes to a used branch
  abbrev GoesToUsed : List Net → Type 0
  GoesToUsed nets = (r : Entries) → P (Rec r) → (j : ℕ) → best_branch (faces_of nets) r ≡ Some j → used j ≡ true

  one_more : (before : List Net) (net : Net) (nets : List Net) → (before ++ net ∷ []) ++ nets ≡ before ++ net ∷ nets
  one_more before net nets = append_assoc before (net ∷ []) nets

  length-one_more : (before : List Net) (net : Net) → length (before ++ net ∷ []) ≡ suc (length before)
  length-one_more before net = length-append before (net ∷ []) ∙ plus_one
    where
      plus_one : length before + 1 ≡ suc (length before)
      plus_one = omega arith

  -- the next branch stays
  stays : (before : List Net) (net : Net) (nets fewer : List Net) → Fewer (before ++ net ∷ []) nets fewer → Fewer before (net ∷ nets) (net ∷ fewer)
  stays before net nets fewer rest = record {
    alike = subst₂ (λ us vs. AlikeOn P (choice_tree us) (choice_tree vs)) (one_more before net fewer) (one_more before net nets) rest.alike;
    keys = λ r is j short best.
        subst (λ ns. best_branch (faces_of ns) r ≡ Some j) (one_more before net nets)
        (rest.keys r is j (omega (arith, short, length-one_more before net)) (subst (λ ns. best_branch (faces_of ns) r ≡ Some j) (sym (one_more before net fewer)) best));
  }

  some-is : (i j : ℕ) → Some i ≡ Some j → i ≡ j
  some-is i j e = cc

  -- where a record goes to one of the first branches, once another was dropped
  same_before : (a j : ℕ) (flat outer : Option ℕ) → Spot a 0 None flat outer → j < a → flat ≡ Some j → outer ≡ Some j
  same_before a j flat outer (neither none none') short is = absurd (impossible (sym none ∙ is))
    where
      impossible : None ≡ Some j → ⊥
      impossible e = cc
  same_before a j flat outer (on_left i below there there') short is = there' ∙ sym there ∙ is
  same_before a j flat outer (in_middle d below inner there there') short is = absurd (omega (arith, below))
  same_before a j flat outer (on_right d there there') short is = absurd (past (some-is (a + 0 + d) j (sym there ∙ is)))
    where
      past : a + 0 + d ≡ j → ⊥
      past e = absurd (omega (arith, e, short))

  -- the next branch is dropped, which is not used
  goes : (before : List Net) (net : Net) (nets fewer : List Net) → GoesToUsed (before ++ net ∷ nets) → used (length before) ≡ false
      → Fewer (before ++ net ∷ []) nets fewer → Fewer before (net ∷ nets) fewer
  goes before net nets fewer all_used not rest = record {
    alike = on_then P (choice_tree (before ++ fewer)) (choice_tree (before ++ net ∷ fewer)) (choice_tree (before ++ net ∷ nets)) without here.alike;
    keys = λ r is j short best.
        here.keys r is j short
        (subst (λ fs. best_branch fs r ≡ Some j) (sym (mapped_append (face s.boxes) before (net ∷ fewer)))
        (same_before (length (faces_of before)) j _ _ (dropped_spot r (faces_of before) (faces_of fewer) (face s.boxes net) (elsewhere r is)) (omega (arith, short, length-map before (face s.boxes)))
        (subst (λ fs. best_branch fs r ≡ Some j) (mapped_append (face s.boxes) before fewer) best)));
  }
    where
      here : Fewer before (net ∷ nets) (net ∷ fewer)
      here = stays before net nets fewer rest

      -- no record goes to the branch that is dropped
      elsewhere : (r : Entries) → P (Rec r) → best_branch (faces_of before ++ face s.boxes net ∷ faces_of fewer) r ≡ Some (length (faces_of before)) → ⊥
      elsewhere r is best =
          let there : best_branch (faces_of ((before ++ net ∷ []) ++ fewer)) r ≡ Some (length before) =
          ap (λ ns. best_branch (faces_of ns) r) (one_more before net fewer) ∙ ap (λ fs. best_branch fs r) (mapped_append (face s.boxes) before (net ∷ fewer))
          ∙ best ∙ ap (λ (n : ℕ). Some n) (length-map before (face s.boxes)) in
          let went : best_branch (faces_of (before ++ net ∷ nets)) r ≡ Some (length before) =
          ap (λ ns. best_branch (faces_of ns) r) (sym (one_more before net nets)) ∙ rest.keys r is (length before) (omega (arith, length-one_more before net)) there in
          differ (sym (all_used r is (length before) went) ∙ not)

      without : AlikeOn P (choice_tree (before ++ fewer)) (choice_tree (before ++ net ∷ fewer))
      without =
          subst₂ (λ (t u : Network). AlikeOn P t u)
          (sym (ap₂ (choice place m) (mapped_append (face s.boxes) before fewer) (mapped_append (tree s) before fewer)))
          (sym (ap₂ (choice place m) (mapped_append (face s.boxes) before (net ∷ fewer)) (mapped_append (tree s) before (net ∷ fewer))))
          (dropped_on place m (faces_of before) (faces_of fewer) (face s.boxes net) (map (tree s) before) (map (tree s) fewer) (tree s net)
          (length-map before (tree s) ∙ sym (length-map before (face s.boxes))) P elsewhere)

  kept_alike : (spare i : ℕ) (before nets : List Net) → length before ≡ i → GoesToUsed (before ++ nets) → Fewer before nets (kept_from used spare i nets).nets
  kept_alike spare i before [] is all_used = record { alike = on_same P (choice_tree (before ++ [])); keys = λ r is j short best. best }
  kept_alike spare i before (net ∷ nets) is all_used =
      at (kept_from used spare (suc i) nets) (used i) refl
      (kept_alike spare (suc i) (before ++ net ∷ []) nets (length-one_more before net ∙ ap suc is) (subst GoesToUsed (sym (one_more before net nets)) all_used))
    where
      at : (behind : Kept) (b : Bool) → used i ≡ b → Fewer (before ++ net ∷ []) nets behind.nets → Fewer before (net ∷ nets) (keep_or_drop b net behind).nets
      at behind true e rest = stays before net nets behind.nets rest
      at behind false e rest = which (nat_le behind.spare 0)
        where
          which : (c : Bool) → Fewer before (net ∷ nets) (nets_of (cond c (record { nets = net ∷ behind.nets; spare = behind.spare }) (record { nets = behind.nets; spare = pred behind.spare })))
          which true = stays before net nets behind.nets rest
          which false = goes before net nets behind.nets all_used (ap used is ∙ e) rest

-- ---- networks

module _ (s : Setting) (root : Outline) (input : List Labels) (safe : (way : List Turn) (part : Outline) (v : Labels) → IsReached root input way part v → Safe part v) where
  abbrev boxes : List BoxProgram
  boxes = s.boxes

  -- the variants that reach a part
  abbrev pub At : List Turn → Outline → Labels → Type 0
  At way part v = IsReached root input way part v

  -- the network answers records of what flows out
  pub carries : (net : Net) → IsWellFormed boxes net → (V W : Labels → Type 0) → ((v : Labels) → V v → Safe (outline boxes net) v)
      → ((v u : Labels) → V v → Flows (outline boxes net) v u → W u) → Carries (Allows (tree s net)) (IsOf V) (IsOf W)
  carries net formed V W are_safe flows =
      conveys_carries Goes (tree s net) (IsOf V) (IsOf W) (follows_conveys (outline boxes net) (tree s net) (net_follows s net formed) V W are_safe flows)

  abbrev pub AlikeAt : List Turn → Net → Net → Type 0
  AlikeAt way net other = AlikeOn (IsOf (At way (outline boxes net))) (tree s net) (tree s other)

  pub serial_at : (way : List Turn) (left left' right right' : Net) → IsWellFormed boxes (Serial left right) → AlikeAt (way ++ Left ∷ []) left left' → AlikeAt (way ++ Right ∷ []) right right'
      → AlikeAt way (Serial left right) (Serial left' right')
  serial_at way left left' right right' formed first_alike second_alike =
      subst₂ (λ (t u : Network). AlikeOn (IsOf V) t u) (sym (tree-Serial s left right)) (sym (tree-Serial s left' right'))
      (series_on (IsOf V) (IsOf Q) (tree s left) (tree s left') (tree s right) (tree s right')
      (on_less (IsOf V) (IsOf (At (way ++ Left ∷ []) o)) (tree s left) (tree s left') (of_more V (At (way ++ Left ∷ []) o) goes_left) first_alike)
      (carries left (serial_parts boxes left right formed).0 V Q
      (λ v reached. safe (way ++ Left ∷ []) o v (goes_left v reached))
      (λ v u reached flow. to_right root input way o o' v u (whole v reached) flow))
      second_alike)
    where
      o : Outline
      o = outline boxes left

      o' : Outline
      o' = outline boxes right

      V : Labels → Type 0
      V = At way (outline boxes (Serial left right))

      Q : Labels → Type 0
      Q = At (way ++ Right ∷ []) o'

      whole : (v : Labels) → V v → At way (Series o o') v
      whole v reached = subst (λ part. At way part v) (outline-Serial boxes left right) reached

      goes_left : (v : Labels) → V v → At (way ++ Left ∷ []) o v
      goes_left v reached = to_left root input way o o' v (whole v reached)

  -- what is at a tap of a star, and what goes into its body
  module _ (way : List Turn) (place : ℕ) (m : Merge) (body body' : Net) (exit : Labels) (guard : Option TagExpr) (formed : IsWellFormed boxes body)
      (body_alike : AlikeAt (way ++ Body ∷ []) body body') where
    abbrev o : Outline
    o = outline boxes body

    abbrev whole : Outline
    whole = Star exit (is_guarded guard) o

    abbrev AtTap : Labels → Type 0
    AtTap u = (v : Labels) × At way whole v × Comes exit (is_guarded guard) (Flows o) v u

    abbrev ToBody : Labels → Type 0
    ToBody u = AtTap u × (SurelyLeaves exit (is_guarded guard) u → ⊥)

    reaches : (u : Labels) → ToBody u → At (way ++ Body ∷ []) o u
    reaches u ((v, reached, comes), stay) = to_body root input way exit (is_guarded guard) o v u reached comes stay

    abbrev Known : StreamKey → ModelItem → Type 0
    Known Own x = Unit {0}
    Known (BranchKey i) x = Unit {0}
    Known Inside x = IsOf ToBody x
    Known (ValueKey n) x = Unit {0}

    known_record : (r : Entries) (u : Labels) → AtTap u → (matches : IsOf AtTap (Rec r)) → matches.variant ≡ u → (k : Key) → TapSays exit guard r u k → Known (stream_key k) (Rec r)
    known_record r u tap matches same key.Bypass says = tt
    known_record r u tap matches same (key.Branch i) says = tt
    known_record r u tap matches same key.Inside says =
        record { variant = matches.variant; listed = (matches.listed, subst (λ w. SurelyLeaves exit (is_guarded guard) w → ⊥) (sym same) says); matched = matches.matched }
    known_record r u tap matches same (key.Value n) says = tt
    known_record r u tap matches same (key.Broken fault) says = tt
    known_record r u tap matches same key.Stuck says = tt

    known_at : (left : ℕ) (x : ModelItem) → IsOf AtTap x → Known (stream_key (of_record (level_key place exit guard (suc left)) x)) x
    known_at left (Fault fault) is = tt
    known_at left (Stuck at) is = absurd is
    known_at left (Rec r) is = known_record r is.variant is.listed is refl (tap_key place exit guard r) (tap_says place exit guard r is.variant is.matched)

    level_at : (left : ℕ) → AlikeOn (IsOf AtTap) (level place m exit guard (tree s body) left) (level place m exit guard (tree s body') left)
    level_at zero = on_same (IsOf AtTap) (level place m exit guard (tree s body) zero)
    level_at (suc left) =
        dispatched_on m sends (inside_child (TreeSeries (tree s body) (level place m exit guard (tree s body) left))) (inside_child (TreeSeries (tree s body') (level place m exit guard (tree s body') left)))
        (IsOf AtTap) Known (known_at left)
        (at (series_on (IsOf ToBody) (IsOf AtTap) (tree s body) (tree s body') (level place m exit guard (tree s body) left) (level place m exit guard (tree s body') left)
        (on_less (IsOf ToBody) (IsOf (At (way ++ Body ∷ []) o)) (tree s body) (tree s body') (of_more ToBody (At (way ++ Body ∷ []) o) reaches) body_alike)
        (carries body formed ToBody AtTap (λ u is. safe (way ++ Body ∷ []) o u (reaches u is)) (λ u z ((v, reached, comes), stay) flow. (v, reached, next u z comes stay flow)))
        (level_at left)))
      where
        sends : Router ModelItem
        sends = router place (of_record (level_key place exit guard (suc left)))

        at : AlikeOn (IsOf ToBody) (TreeSeries (tree s body) (level place m exit guard (tree s body) left)) (TreeSeries (tree s body') (level place m exit guard (tree s body') left)) → (k : StreamKey)
            → AlikeOn (Known k) (inside_child (TreeSeries (tree s body) (level place m exit guard (tree s body) left)) (passing sends Passing) k)
            (inside_child (TreeSeries (tree s body') (level place m exit guard (tree s body') left)) (passing sends Passing) k)
        at inner Own = on_same (Known Own) (passing sends Passing)
        at inner (BranchKey i) = on_same (Known (BranchKey i)) (passing sends Passing)
        at inner Inside = inner
        at inner (ValueKey n) = on_same (Known (ValueKey n)) (passing sends Passing)

    pub star_at : AlikeAt way (StarNet place m body exit guard) (StarNet place m body' exit guard)
    star_at =
        subst₂ (λ (t u : Network). AlikeOn (IsOf (At way (outline boxes (StarNet place m body exit guard)))) t u) (sym (tree-Star s place m body exit guard)) (sym (tree-Star s place m body' exit guard))
        (on_less (IsOf (At way (outline boxes (StarNet place m body exit guard)))) (IsOf AtTap) (level place m exit guard (tree s body) s.depth) (level place m exit guard (tree s body') s.depth)
        (of_more (At way (outline boxes (StarNet place m body exit guard))) AtTap
        (λ v reached. (v, subst (λ part. At way part v) (outline-Star boxes place m body exit guard) reached, first)))
        (level_at s.depth))

  module _ (way : List Turn) (place : ℕ) (m : Merge) (body body' : Net) (id : ℕ) (body_alike : AlikeAt (way ++ Body ∷ []) body body') where
    abbrev V : Labels → Type 0
    V = At way (outline boxes (SplitNet place m body id))

    goes_in : (v : Labels) → V v → At (way ++ Body ∷ []) (outline boxes body) v
    goes_in v reached =
        let here : At way (Split place id (outline boxes body)) v = subst (λ part. At way part v) (outline-Split boxes place m body id) reached in
        to_replica root input way place id (outline boxes body) v here (safe way (Split place id (outline boxes body)) v here).0

    pub split_at : AlikeAt way (SplitNet place m body id) (SplitNet place m body' id)
    split_at =
        subst₂ (λ (t u : Network). AlikeOn (IsOf V) t u) (sym (tree-Split s place m body id)) (sym (tree-Split s place m body' id))
        (dispatched_on m sends (replica_child (tree s body)) (replica_child (tree s body')) (IsOf V) (λ k. IsOf V) (λ x is. is) at)
      where
        sends : Router ModelItem
        sends = router place (of_record (split_key id))

        at : (k : StreamKey) → AlikeOn (IsOf V) (replica_child (tree s body) (passing sends Passing) k) (replica_child (tree s body') (passing sends Passing) k)
        at Own = on_same (IsOf V) (passing sends Passing)
        at (BranchKey i) = on_same (IsOf V) (passing sends Passing)
        at Inside = on_same (IsOf V) (passing sends Passing)
        at (ValueKey n) = on_less (IsOf V) (IsOf (At (way ++ Body ∷ []) (outline boxes body))) (tree s body) (tree s body') (of_more V (At (way ++ Body ∷ []) (outline boxes body)) goes_in) body_alike

  choice_at : (way : List Turn) (place : ℕ) (m : Merge) (branches : List Net) (faces : List (List Labels)) (used : ℕ → Bool) → IsWellFormed boxes (ChoiceNet place m branches faces)
      → ((i : ℕ) → IsTrue (used i) ↔ IsWay root input (way ++ Branch i ∷ [])) → AlikeAt way (ChoiceNet place m branches faces) (choice_of boxes place m (kept used branches))
  choice_at way place m branches faces used formed decides =
      subst₂ (λ (t u : Network). AlikeOn P t u)
      (sym (tree-Choice s place m branches faces ∙ ap (λ fs. choice place m fs (map (tree s) branches)) paired))
      (sym (tree-Choice s place m (kept used branches) (map (face boxes) (kept used branches))))
      (on_sym P (choice place m (map (face boxes) (kept used branches)) (map (tree s) (kept used branches))) (choice place m (map (face boxes) branches) (map (tree s) branches))
      (fewer_alike (kept_alike s place m P used (droppable (length branches)) 0 [] branches refl goes_to_used)))
    where
      P : ModelItem → Type 0
      P = IsOf (At way (outline boxes (ChoiceNet place m branches faces)))

      paired : faces ≡ map (face boxes) branches
      paired = (choice_sound boxes place m branches faces formed).paired

      fewer_alike : Fewer s place m P used [] branches (kept used branches)
          → AlikeOn P (choice place m (map (face boxes) (kept used branches)) (map (tree s) (kept used branches))) (choice place m (map (face boxes) branches) (map (tree s) branches))
      fewer_alike found = found.alike

      goes_to_used : (r : Entries) → P (Rec r) → (j : ℕ) → best_branch (map (face boxes) branches) r ≡ Some j → used j ≡ true
      goes_to_used r is j best =
          let parts = branch_of (map (outline boxes) branches) in
          let here : At way (Choice place faces parts) is.variant = subst (λ part. At way part is.variant) (outline-Choice boxes place m branches faces) is.listed in
          let chosen = best_is_taken faces r is.variant j is.matched (ap (λ fs. best_branch fs r) paired ∙ best) in
          (decides j).1 (record {
            part = parts j;
            variant = union is.variant chosen.0;
            reached = to_branch root input way place faces parts is.variant j chosen.0 here (safe way (Choice place faces parts) is.variant here).0 chosen.1;
          })

  -- A trimmed network answers alike what flows into it.
  pub trimmed_alike : (way : List Turn) (net net' : Net) → Trimmed boxes root input way net net' → IsWellFormed boxes net → AlikeAt way net net'
  trimmed_alike way net net' (box w place number) formed = on_same (IsOf (At w (outline boxes (Box place number)))) (tree s (Box place number))
  trimmed_alike way net net' (filter w form) formed = on_same (IsOf (At w (outline boxes (FilterLeaf form)))) (tree s (FilterLeaf form))
  trimmed_alike way net net' (sync w place patterns) formed = on_same (IsOf (At w (outline boxes (Sync place patterns)))) (tree s (Sync place patterns))
  trimmed_alike way net net' (serial w l l' r r' first_trims second_trims) formed =
      let parts = serial_parts boxes l r formed in
      serial_at w l l' r r' formed (trimmed_alike (w ++ Left ∷ []) l l' first_trims parts.0) (trimmed_alike (w ++ Right ∷ []) r r' second_trims parts.1)
  trimmed_alike way net net' (choice_form w place m branches faces used decides) formed = choice_at w place m branches faces used formed decides
  trimmed_alike way net net' (star w place m body body' exit guard trims) formed =
      let parts = star_parts boxes place m body exit guard formed in
      star_at w place m body body' exit guard parts.1 (trimmed_alike (w ++ Body ∷ []) body body' trims parts.1)
  trimmed_alike way net net' (split_form w place m body body' id trims) formed =
      split_at w place m body body' id (trimmed_alike (w ++ Body ∷ []) body body' trims (split_parts boxes place m body id formed))
