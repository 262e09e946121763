-- A fork as a fork of groups of its keys, each of which is the same fork again.
use Rattle.std.proofs.Common.{◌≡◌, Bool, true, false, cond, [], length, refl, sym, ap, ◌∙◌, subst}
use Rattle.std.proofs.Math.ListN.{length-map}
use Rattle.std.proofs.Math.Path.{fun_ext}
use Rattle.sn_streams.specs.Forks.{Router, by_segment, by_item, in_turn, Merge, Free, Deterministic}
use Rattle.sn_streams.specs.Keys.{Key, key_eq}
use Rattle.sn_streams.specs.Machines.{transduced}
use Rattle.sn_streams.specs.Segments.{Segments}
use Rattle.sn_streams.specs.Trees.{Tree, Fork, Allows, one}
use Rattle.sn_streams.proofs.Keys.{key_eq-refl}
use Rattle.sn_streams.proofs.Silence.{emptied}
use Rattle.sn_streams.proofs.Trees.{tree_keeps}
use Rattle.sn_nested.specs.Alike.{AllowAlike, OneAlike, IsSilent, grouped}
use Rattle.sn_nested.proofs.Grouped.{split_segments, join_segments, streams_of}
use Rattle.sn_nested.proofs.Items.{within_segments, silent_segments, within_single, no_single}
use Rattle.sn_nested.proofs.Silent.{silent_same, silent_allowed, silent_answer, silent_emptied, length-emptied}
use Rattle.sn_nested.proofs.Turns.{transduced-groups}

module _ {A S : Type 0} (r : Router A) (up : Key → Key) (child : Key → Tree A S) where
  abbrev groups : Router A
  groups = grouped r up

  -- the groups
  abbrev pub by_groups : Merge → Tree A S
  by_groups m = Fork m groups (λ group. Fork m r child)

  freely_down : (xss yss : Segments A) → Allows (Fork Free r child) xss yss → Allows (by_groups Free) xss yss
  freely_down xss yss h =
      let parts = split_segments up yss h.answers h.shuffled in
      record {
        answers = parts.parts;
        answered = λ group. record {
          answers = streams_of up group yss h.answers;
          answered = λ k. at group k (key_eq group (up k)) refl;
          shuffled = parts.each group;
        };
        shuffled = parts.whole;
      }
    where
      at : (group k : Key) (b : Bool) → key_eq group (up k) ≡ b → Allows (child k) (by_segment r k (by_segment groups group xss)) (cond b (h.answers k) (emptied yss))
      at group k true is = subst (λ (zss : Segments A). Allows (child k) zss (h.answers k)) (sym (within_segments r up group k is xss)) (h.answered k)
      at group k false is =
          let silent : IsSilent (by_segment r k (by_segment groups group xss)) = silent_segments r up group k is xss in
          let lengths : length (by_segment r k (by_segment groups group xss)) ≡ length (emptied yss) =
          length-map _ _ ∙ length-map _ _ ∙ sym (tree_keeps (Fork Free r child) xss yss h) ∙ sym (length-emptied yss) in
          subst (λ (zss : Segments A). Allows (child k) (by_segment r k (by_segment groups group xss)) zss)
          (silent_same (by_segment r k (by_segment groups group xss)) (emptied yss) silent (silent_emptied yss) lengths)
          (silent_allowed (child k) (by_segment r k (by_segment groups group xss)) silent)

  freely_up : (xss yss : Segments A) → Allows (by_groups Free) xss yss → Allows (Fork Free r child) xss yss
  freely_up xss yss h = record {
    answers = λ k. (h.answered (up k)).answers k;
    answered = λ k. subst (λ (zss : Segments A). Allows (child k) zss ((h.answered (up k)).answers k)) (within_segments r up (up k) k (key_eq-refl (up k)) xss) ((h.answered (up k)).answered k);
    shuffled = join_segments up yss h.answers (λ group. (h.answered group).answers) h.shuffled (λ group. (h.answered group).shuffled)
        (λ group k apart.
        let silent : IsSilent (by_segment r k (by_segment groups group xss)) = silent_segments r up group k apart xss in
        subst IsSilent (sym (silent_answer (child k) (by_segment r k (by_segment groups group xss)) silent ((h.answered group).answers k) ((h.answered group).answered k))) silent);
  }

  in_turn_down : (xss yss : Segments A) → Allows (Fork Deterministic r child) xss yss → Allows (by_groups Deterministic) xss yss
  in_turn_down xss yss h = record {
    answers = λ group. transduced (in_turn r) (within group) (by_item groups group xss);
    answered = λ group. record {
      answers = within group;
      answered = λ k. at group k (key_eq group (up k)) refl;
      in_order = refl;
    };
    in_order =
        h.in_order
        ∙ ap (λ (answers : Key → Segments A). transduced (in_turn r) answers xss) (sym (fun_ext (λ k. ap (λ b. cond b (h.answers k) []) (key_eq-refl (up k)))))
        ∙ sym (transduced-groups r up within xss);
  }
    where
      within : Key → Key → Segments A
      within group k = cond (key_eq group (up k)) (h.answers k) []

      at : (group k : Key) (b : Bool) → key_eq group (up k) ≡ b → Allows (child k) (by_item r k (by_item groups group xss)) (cond b (h.answers k) [])
      at group k true is = subst (λ (zss : Segments A). Allows (child k) zss (h.answers k)) (sym (within_single r up group k is xss)) (h.answered k)
      at group k false is = subst (λ (zss : Segments A). Allows (child k) zss []) (sym (no_single r up group k is xss)) (silent_allowed (child k) [] tt)

  in_turn_up : (xss yss : Segments A) → Allows (by_groups Deterministic) xss yss → Allows (Fork Deterministic r child) xss yss
  in_turn_up xss yss h = record {
    answers = λ k. (h.answered (up k)).answers k;
    answered = λ k. subst (λ (zss : Segments A). Allows (child k) zss ((h.answered (up k)).answers k)) (within_single r up (up k) k (key_eq-refl (up k)) xss) ((h.answered (up k)).answered k);
    in_order =
        h.in_order
        ∙ ap (λ (answers : Key → Segments A). transduced (in_turn groups) answers xss) (fun_ext (λ group. (h.answered group).in_order))
        ∙ transduced-groups r up (λ group. (h.answered group).answers) xss;
  }

  pub groups_alike : (m : Merge) (xss : Segments A) → AllowAlike (Fork m r child) (by_groups m) xss
  groups_alike Free xss yss = (freely_down xss yss, freely_up xss yss)
  groups_alike Deterministic xss yss = (in_turn_down xss yss, in_turn_up xss yss)

  pub groups_same : (m : Merge) (xss : Segments A) → OneAlike (Fork m r child) (by_groups m) xss
  groups_same m xss =
      ap (λ (answers : Key → Segments A). transduced (in_turn r) answers xss)
      (fun_ext (λ k. ap (one (child k)) (sym (within_single r up (up k) k (key_eq-refl (up k)) xss))))
      ∙ sym (transduced-groups r up (λ group k. one (child k) (by_item r k (by_item groups group xss))) xss)
