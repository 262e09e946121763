-- What flows through a trimmed network for the variants that reach it.
use Rattle.std.proofs.Common.{◌≡◌, ◌↔◌, ℕ, suc, pred, ◌+◌, ◌-◌, ◌<◌, ◌≤◌, Bool, true, false, cond, IsTrue, List, [], ◌∷◌, ◌++◌, length, map, refl, sym, ap, ◌∙◌, subst, subst₂, arith, append_assoc, length-append}
use Rattle.std.specs.Prelude.{nat_le, slice_get, unwrap_or, Option}
use Rattle.std.proofs.Math.ListN.{length-map}
use Rattle.sn_record.specs.LabelSet.{Labels, contains, union}
use Rattle.sn_net.specs.Filter.{tag}
use Rattle.sn_tagexpr.specs.declared.expr.TagExpr.{TagExpr}
use Rattle.sn_net.specs.declared.expr.BoxProgram.{BoxProgram}
use Rattle.sn_net.specs.declared.net.Merge.{Merge}
use Rattle.sn_net.specs.declared.net.Net.{Net}
use Rattle.sn_net.specs.declared.net.Net.TheVariants.{Box, Filter as FilterLeaf, Sync, Serial, Choice as ChoiceNet, Star as StarNet, Split as SplitNet}
use Rattle.sn_net.specs.Face.{face}
use Rattle.sn_net.specs.WellFormed.{IsWellFormed}
use Rattle.sn_typing.specs.Outline.{Outline, Choice, Series, Split, Star, branch_of, is_guarded, nowhere, outline}
use Rattle.sn_typing.specs.Flow.{Comes, Comes.{first, next}, Flows, HasFace, MayTake, Safe}
use Rattle.sn_typing.specs.Reached.{Turn, Left, Right, Branch, Body}
use Rattle.sn_typing.specs.Accepted.{IsReached}
use Rattle.sn_typing.proofs.Forms.{outline-Serial, outline-Choice, outline-Star, outline-Split}
use Rattle.sn_planned.specs.Flat.{choice_of}
use Rattle.sn_planned.specs.Refined.{FlowsWithin}
use Rattle.sn_planned.specs.Trimmed.{IsWay, Kept, keep_or_drop, kept, kept_from, droppable, Trimmed, Trimmed.{box, filter, sync, serial, choice as choice_form, star, split as split_form}}
use Rattle.sn_planned.proofs.DroppedTyped.{Stood, Stood.{stood_left, stood_right}, has_still, stood, taken_before}
use Rattle.sn_planned.proofs.Flat.{mapped_append}
use Rattle.sn_planned.proofs.Formed.{choice_sound, serial_parts, split_parts, star_parts}
use Rattle.sn_planned.proofs.Reaching.{to_body, to_branch, to_left, to_replica, to_right}
use Rattle.sn_planned.proofs.Replaced.{slice-before, slice-behind}

differ : true ≡ false → ⊥
differ e = cc

abbrev nets_of : Kept → List Net
nets_of k = k.nets

-- ---- the branches of a choice, for one variant

module _ (boxes : List BoxProgram) (used : ℕ → Bool) (v : Labels) where
  abbrev faces_of : List Net → List (List Labels)
  faces_of nets = map (face boxes) nets

  abbrev branches_of : List Net → ℕ → Outline
  branches_of nets = branch_of (map (outline boxes) nets)

  -- what a branch of the fewer takes, a branch of all takes, which is the same; and the first branches stand where they stood
  record Took (before nets fewer : List Net) (i : ℕ) (w : Labels) : Type 0 where
    place : ℕ
    taken : MayTake (faces_of (before ++ nets)) place w v
    same : branches_of (before ++ fewer) i ≡ branches_of (before ++ nets) place
    near : i < length before → place ≡ i

  record Fewer (before nets fewer : List Net) : Type 0 where
    takes : (i : ℕ) (w : Labels) → MayTake (faces_of (before ++ fewer)) i w v → Took before nets fewer i w
    has : HasFace (faces_of (before ++ nets)) v → HasFace (faces_of (before ++ fewer)) v

  abbrev TakesUsed : List Net → Type 0
  TakesUsed nets = (i : ℕ) (w : Labels) → MayTake (faces_of nets) i w v → used i ≡ true

  one_more : (before : List Net) (net : Net) (nets : List Net) → (before ++ net ∷ []) ++ nets ≡ before ++ net ∷ nets
  one_more before net nets = append_assoc before (net ∷ []) nets

  length-one_more : (before : List Net) (net : Net) → length (before ++ net ∷ []) ≡ suc (length before)
  length-one_more before net = length-append before (net ∷ []) ∙ plus_one
    where
      plus_one : length before + 1 ≡ suc (length before)
      plus_one = omega arith

  stays : (before : List Net) (net : Net) (nets fewer : List Net) → Fewer (before ++ net ∷ []) nets fewer → Fewer before (net ∷ nets) (net ∷ fewer)
  stays before net nets fewer rest = record {
    takes = λ i w taken.
        let took = rest.takes i w (subst (λ ns. MayTake (faces_of ns) i w v) (sym (one_more before net fewer)) taken) in
        record {
          place = took.place;
          taken = subst (λ ns. MayTake (faces_of ns) took.place w v) (one_more before net nets) took.taken;
          same = ap (λ ns. branches_of ns i) (sym (one_more before net fewer)) ∙ took.same ∙ ap (λ ns. branches_of ns took.place) (one_more before net nets);
          near = λ short. took.near (omega (arith, short, length-one_more before net));
        };
    has = λ has. subst (λ ns. HasFace (faces_of ns) v) (one_more before net fewer) (rest.has (subst (λ ns. HasFace (faces_of ns) v) (sym (one_more before net nets)) has));
  }

  -- the same branch, where one was dropped
  same_branch : (before fewer : List Net) (net : Net) (i j : ℕ) → Stood (faces_of before) (faces_of fewer) (face boxes net) i j → branches_of (before ++ fewer) i ≡ branches_of (before ++ net ∷ fewer) j
  same_branch before fewer net i j up =
      ap (λ os. branch_of os i) (mapped_append (outline boxes) before fewer) ∙ ap (λ t. unwrap_or t (nowhere 0)) (at up) ∙ ap (λ os. branch_of os j) (sym (mapped_append (outline boxes) before (net ∷ fewer)))
    where
      as_long : length (map (outline boxes) before) ≡ length (faces_of before)
      as_long = length-map before (outline boxes) ∙ sym (length-map before (face boxes))

      at : Stood (faces_of before) (faces_of fewer) (face boxes net) i j
          → slice_get (map (outline boxes) before ++ map (outline boxes) fewer) i ≡ slice_get (map (outline boxes) before ++ outline boxes net ∷ map (outline boxes) fewer) j
      at (stood_left short same) =
          let near : i < length (map (outline boxes) before) = omega (arith, as_long, short) in
          slice-before (map (outline boxes) before) (map (outline boxes) fewer) i near
          ∙ sym (ap (slice_get (map (outline boxes) before ++ outline boxes net ∷ map (outline boxes) fewer)) same ∙ slice-before (map (outline boxes) before) (outline boxes net ∷ map (outline boxes) fewer) i near)
      at (stood_right far same) =
          let d : ℕ = i - length (faces_of before) in
          slice-behind (map (outline boxes) before) (map (outline boxes) fewer) i d (omega (arith, as_long, far))
          ∙ sym (slice-behind (map (outline boxes) before) (outline boxes net ∷ map (outline boxes) fewer) j (suc d) (omega (arith, as_long, far, same)))

  goes : (before : List Net) (net : Net) (nets fewer : List Net) → TakesUsed (before ++ net ∷ nets) → used (length before) ≡ false
      → Fewer (before ++ net ∷ []) nets fewer → Fewer before (net ∷ nets) fewer
  goes before net nets fewer all_used not rest = record {
    takes = λ i w taken.
        let up = stood (faces_of before) (faces_of fewer) (face boxes net) i in
        took i up.0 w up.1 (here.takes up.0 w
        (subst (λ fs. MayTake fs up.0 w v) (sym (mapped_append (face boxes) before (net ∷ fewer)))
        (taken_before (faces_of before) (faces_of fewer) (face boxes net) v nothing_taken i up.0 w up.1 (subst (λ fs. MayTake fs i w v) (mapped_append (face boxes) before fewer) taken))));
    has = λ has.
        subst (λ fs. HasFace fs v) (sym (mapped_append (face boxes) before fewer))
        (has_still (faces_of before) (faces_of fewer) (face boxes net) v nothing_taken (subst (λ fs. HasFace fs v) (mapped_append (face boxes) before (net ∷ fewer)) (here.has has)));
  }
    where
      here : Fewer before (net ∷ nets) (net ∷ fewer)
      here = stays before net nets fewer rest

      nothing_taken : (w : Labels) → MayTake (faces_of before ++ face boxes net ∷ faces_of fewer) (length (faces_of before)) w v → ⊥
      nothing_taken w taken =
          let there : MayTake (faces_of ((before ++ net ∷ []) ++ fewer)) (length before) w v =
          subst₂ (λ fs n. MayTake fs n w v) (sym (ap faces_of (one_more before net fewer) ∙ mapped_append (face boxes) before (net ∷ fewer))) (length-map before (face boxes)) taken in
          let was = rest.takes (length before) w there in
          let is : was.place ≡ length before = was.near (omega (arith, length-one_more before net)) in
          let went : MayTake (faces_of (before ++ net ∷ nets)) (length before) w v =
          subst₂ (λ ns n. MayTake (faces_of ns) n w v) (one_more before net nets) is was.taken in
          differ (sym (all_used (length before) w went) ∙ not)

      took : (i j : ℕ) (w : Labels) → Stood (faces_of before) (faces_of fewer) (face boxes net) i j → Took before (net ∷ nets) (net ∷ fewer) j w → Took before (net ∷ nets) fewer i w
      took i j w up found = record {
        place = found.place;
        taken = found.taken;
        same = same_branch before fewer net i j up ∙ found.same;
        near = λ short. near up short;
      }
        where
          near : Stood (faces_of before) (faces_of fewer) (face boxes net) i j → i < length before → found.place ≡ i
          near (stood_left below same) short = found.near (omega (arith, same, short)) ∙ same
          near (stood_right far same) short = absurd (past far)
            where
              past : length (faces_of before) ≤ i → ⊥
              past far = absurd (omega (arith, far, short, length-map before (face boxes)))

  all_of_it : (before nets : List Net) → Fewer before nets nets
  all_of_it before nets = record { takes = λ i w taken. record { place = i; taken = taken; same = refl; near = λ short. refl }; has = λ has. has }

  kept_takes : (spare i : ℕ) (before nets : List Net) → length before ≡ i → TakesUsed (before ++ nets) → Fewer before nets (kept_from used spare i nets).nets
  kept_takes spare i before [] is all_used = all_of_it before []
  kept_takes spare i before (net ∷ nets) is all_used =
      at (kept_from used spare (suc i) nets) (used i) refl
      (kept_takes spare (suc i) (before ++ net ∷ []) nets (length-one_more before net ∙ ap suc is) (subst TakesUsed (sym (one_more before net nets)) all_used))
    where
      at : (behind : Kept) (b : Bool) → used i ≡ b → Fewer (before ++ net ∷ []) nets behind.nets → Fewer before (net ∷ nets) (keep_or_drop b net behind).nets
      at behind true e rest = stays before net nets behind.nets rest
      at behind false e rest = which (nat_le behind.spare 0)
        where
          which : (c : Bool) → Fewer before (net ∷ nets) (nets_of (cond c (record { nets = net ∷ behind.nets; spare = behind.spare }) (record { nets = behind.nets; spare = pred behind.spare })))
          which true = stays before net nets behind.nets rest
          which false = goes before net nets behind.nets all_used (ap used is ∙ e) rest

-- ---- networks

module _ (boxes : List BoxProgram) (root : Outline) (input : List Labels) (safe : (way : List Turn) (part : Outline) (v : Labels) → IsReached root input way part v → Safe part v) where
  abbrev At : List Turn → Outline → Labels → Type 0
  At way part v = IsReached root input way part v

  abbrev WithinAt : List Turn → Net → Net → Type 0
  WithinAt way net other = (v : Labels) → At way (outline boxes net) v → FlowsWithin (outline boxes other) (outline boxes net) v

  moved : (o' o p' p : Outline) (v : Labels) → p' ≡ o' → p ≡ o → FlowsWithin o' o v → FlowsWithin p' p v
  moved o' o p' p v same' same within = subst₂ (λ q' q. FlowsWithin q' q v) (sym same') (sym same) within

  unchanged : (way : List Turn) (net : Net) → WithinAt way net net
  unchanged way net v reached = record { flows = λ u flow. flow; safe = safe way (outline boxes net) v reached }

  serial_within : (way : List Turn) (l l' r r' : Net) → WithinAt (way ++ Left ∷ []) l l' → WithinAt (way ++ Right ∷ []) r r' → WithinAt way (Serial l r) (Serial l' r')
  serial_within way l l' r r' one two v reached =
      moved (Series (outline boxes l') (outline boxes r')) (Series (outline boxes l) (outline boxes r)) (outline boxes (Serial l' r')) (outline boxes (Serial l r)) v
      (outline-Serial boxes l' r') (outline-Serial boxes l r)
      (record {
        flows = λ u (w, flow, more). (w, here.flows w flow, (behind w (here.flows w flow)).flows u more);
        safe = (here.safe, λ u flow. (behind u (here.flows u flow)).safe);
      })
    where
      whole : At way (Series (outline boxes l) (outline boxes r)) v
      whole = subst (λ part. At way part v) (outline-Serial boxes l r) reached

      here : FlowsWithin (outline boxes l') (outline boxes l) v
      here = one v (to_left root input way (outline boxes l) (outline boxes r) v whole)

      behind : (u : Labels) → Flows (outline boxes l) v u → FlowsWithin (outline boxes r') (outline boxes r) u
      behind u flow = two u (to_right root input way (outline boxes l) (outline boxes r) v u whole flow)

  module _ (way : List Turn) (place : ℕ) (m : Merge) (body body' : Net) (exit : Labels) (guard : Option TagExpr) (inner : WithinAt (way ++ Body ∷ []) body body') (v : Labels)
      (reached : At way (Star exit (is_guarded guard) (outline boxes body)) v) where
    comes_within : (u : Labels) → Comes exit (is_guarded guard) (Flows (outline boxes body')) v u → Comes exit (is_guarded guard) (Flows (outline boxes body)) v u
    comes_within u first = first
    comes_within u (next w z come stay flow) =
        let before = comes_within w come in
        next w z before stay ((inner w (to_body root input way exit (is_guarded guard) (outline boxes body) v w reached before stay)).flows z flow)

    star_within : FlowsWithin (Star exit (is_guarded guard) (outline boxes body')) (Star exit (is_guarded guard) (outline boxes body)) v
    star_within = record {
      flows = λ u (w, come, alike, same). (w, comes_within w come, alike, same);
      safe = λ u come stay. (inner u (to_body root input way exit (is_guarded guard) (outline boxes body) v u reached (comes_within u come) stay)).safe;
    }

  split_within : (way : List Turn) (place : ℕ) (m : Merge) (body body' : Net) (id : ℕ) → WithinAt (way ++ Body ∷ []) body body' → WithinAt way (SplitNet place m body id) (SplitNet place m body' id)
  split_within way place m body body' id inner v reached =
      moved (Split place id (outline boxes body')) (Split place id (outline boxes body)) (outline boxes (SplitNet place m body' id)) (outline boxes (SplitNet place m body id)) v
      (outline-Split boxes place m body' id) (outline-Split boxes place m body id)
      (record { flows = λ u (there, flow). (there, here.flows u flow); safe = (tagged, here.safe) })
    where
      whole : At way (Split place id (outline boxes body)) v
      whole = subst (λ part. At way part v) (outline-Split boxes place m body id) reached

      tagged : IsTrue (contains v (tag id))
      tagged = (safe way (Split place id (outline boxes body)) v whole).0

      here : FlowsWithin (outline boxes body') (outline boxes body) v
      here = inner v (to_replica root input way place id (outline boxes body) v whole tagged)

  choice_within : (way : List Turn) (place : ℕ) (m : Merge) (branches : List Net) (faces : List (List Labels)) (used : ℕ → Bool) → IsWellFormed boxes (ChoiceNet place m branches faces)
      → ((i : ℕ) → IsTrue (used i) ↔ IsWay root input (way ++ Branch i ∷ [])) → WithinAt way (ChoiceNet place m branches faces) (choice_of boxes place m (kept used branches))
  choice_within way place m branches faces used formed decides v reached =
      moved (Choice place (map (face boxes) (kept used branches)) (branch_of (map (outline boxes) (kept used branches)))) (Choice place (map (face boxes) branches) (branch_of (map (outline boxes) branches)))
      (outline boxes (choice_of boxes place m (kept used branches))) (outline boxes (ChoiceNet place m branches faces)) v
      (outline-Choice boxes place m (kept used branches) (map (face boxes) (kept used branches))) is
      (within (kept_takes boxes used v (droppable (length branches)) 0 [] branches refl takes_used))
    where
      paired : faces ≡ map (face boxes) branches
      paired = (choice_sound boxes place m branches faces formed).paired

      is : outline boxes (ChoiceNet place m branches faces) ≡ Choice place (map (face boxes) branches) (branch_of (map (outline boxes) branches))
      is = outline-Choice boxes place m branches faces ∙ ap (λ fs. Choice place fs (branch_of (map (outline boxes) branches))) paired

      whole : At way (Choice place (map (face boxes) branches) (branch_of (map (outline boxes) branches))) v
      whole = subst (λ part. At way part v) is reached

      all_safe : Safe (Choice place (map (face boxes) branches) (branch_of (map (outline boxes) branches))) v
      all_safe = safe way (Choice place (map (face boxes) branches) (branch_of (map (outline boxes) branches))) v whole

      takes_used : (i : ℕ) (w : Labels) → MayTake (map (face boxes) branches) i w v → used i ≡ true
      takes_used i w taken =
          (decides i).1 (record {
            part = branch_of (map (outline boxes) branches) i;
            variant = union v w;
            reached = to_branch root input way place (map (face boxes) branches) (branch_of (map (outline boxes) branches)) v i w whole all_safe.0 taken;
          })

      within : Fewer boxes used v [] branches (kept used branches)
          → FlowsWithin (Choice place (map (face boxes) (kept used branches)) (branch_of (map (outline boxes) (kept used branches)))) (Choice place (map (face boxes) branches) (branch_of (map (outline boxes) branches))) v
      within fewer = record {
        flows = λ u (has, (i, w, taken, flow)).
            let took = fewer.takes i w taken in
            (all_safe.0, (took.place, w, took.taken, subst (λ o. Flows o (union v w) u) took.same flow));
        safe = (
          fewer.has all_safe.0,
          λ i w taken.
              let took = fewer.takes i w taken in
              subst (λ o. Safe o (union v w)) (sym took.same) (all_safe.1 took.place w took.taken),
        );
      }

  -- A trimmed network is safe for what reaches it, and no more flows through it.
  pub trimmed_within : (way : List Turn) (net net' : Net) → Trimmed boxes root input way net net' → IsWellFormed boxes net → WithinAt way net net'
  trimmed_within way net net' (box w place number) formed = unchanged w (Box place number)
  trimmed_within way net net' (filter w form) formed = unchanged w (FilterLeaf form)
  trimmed_within way net net' (sync w place patterns) formed = unchanged w (Sync place patterns)
  trimmed_within way net net' (serial w l l' r r' one two) formed =
      let parts = serial_parts boxes l r formed in
      serial_within w l l' r r' (trimmed_within (w ++ Left ∷ []) l l' one parts.0) (trimmed_within (w ++ Right ∷ []) r r' two parts.1)
  trimmed_within way net net' (choice_form w place m branches faces used decides) formed = choice_within w place m branches faces used formed decides
  trimmed_within way net net' (star w place m body body' exit guard trims) formed = λ v reached.
      moved (Star exit (is_guarded guard) (outline boxes body')) (Star exit (is_guarded guard) (outline boxes body)) (outline boxes (StarNet place m body' exit guard)) (outline boxes (StarNet place m body exit guard)) v
      (outline-Star boxes place m body' exit guard) (outline-Star boxes place m body exit guard)
      (star_within w place m body body' exit guard (trimmed_within (w ++ Body ∷ []) body body' trims (star_parts boxes place m body exit guard formed).1) v
      (subst (λ part. IsReached root input w part v) (outline-Star boxes place m body exit guard) reached))
  trimmed_within way net net' (split_form w place m body body' id trims) formed =
      split_within w place m body body' id (trimmed_within (w ++ Body ∷ []) body body' trims (split_parts boxes place m body id formed))
