-- The laws of every tree, from those of what it is made of.
use Rattle.std.proofs.Common.{◌≡◌, ℕ, List, [], ◌∷◌, length, refl, sym, ap, ◌∙◌, subst}
use Rattle.std.proofs.Math.ListN.{length-map}
use Rattle.std.proofs.Math.Path.{fun_ext}
use Rattle.sn_streams.specs.Forks.{Relation, exactly, InSeries, Router, items_of, by_segment, by_item, in_turn, Merge, Free, Deterministic, Forked, FreelyForked, ForkedInTurn}
use Rattle.sn_streams.specs.Keys.{Key, Own}
use Rattle.sn_streams.specs.Machines.{Machine, transduced}
use Rattle.sn_streams.specs.Segments.{Segments, joined, regrouped}
use Rattle.sn_streams.specs.Shuffles.{SegmentShuffles}
use Rattle.sn_streams.specs.Trees.{Tree, Component, Series, Fork, Allows, one, IsDeterministic, AllDeterministic}
use Rattle.sn_streams.proofs.Forks.{by_segment-regrouped, by_item-regrouped, counts, by_item_by_segment, turns_shuffle_segments}
use Rattle.sn_streams.proofs.Machines.{transduced-regrouped, length-transduced}
use Rattle.sn_streams.proofs.Shuffles.{shuffles-regrouped, shuffles-length}

-- A relation that goes on holding where borders are taken away, and a function whose answers it has.
pub record IsLawful {A : Type 0} (allowed : Relation A) (f : Segments A → Segments A) : Type 0 where
  pub regroups : (ns : List ℕ) (xss yss : Segments A) → allowed xss yss → allowed (regrouped ns xss) (regrouped ns yss)
  pub allows : (xss : Segments A) → allowed xss (f xss)
  pub keeps : (xss : Segments A) → length (f xss) ≡ length xss

machine_is_lawful : {A S : Type 0} (m : Machine A S) (s : S) → IsLawful (exactly (transduced m s)) (transduced m s)
machine_is_lawful m s = record {
  regroups = λ ns xss yss is. ap (regrouped ns) is ∙ sym (transduced-regrouped m ns s xss);
  allows = λ xss. refl;
  keeps = λ xss. length-transduced m s xss;
}

series_is_lawful : {A : Type 0} (a b : Relation A) (f g : Segments A → Segments A) → IsLawful a f → IsLawful b g → IsLawful (InSeries a b) (λ xss. g (f xss))
series_is_lawful a b f g first second = record {
  regroups = λ ns xss yss h. record {
    between = regrouped ns h.between;
    from_first = first.regroups ns xss h.between h.from_first;
    from_second = second.regroups ns h.between yss h.from_second;
  };
  allows = λ xss. record {
    between = f xss;
    from_first = first.allows xss;
    from_second = second.allows (f xss);
  };
  keeps = λ xss. second.keeps (f xss) ∙ first.keeps xss;
}

module _ {A : Type 0} (r : Router A) (child : Key → Relation A) (f : Key → Segments A → Segments A) (lawful : (k : Key) → IsLawful (child k) (f k)) where
  abbrev answers_in_turn : Segments A → Segments A
  answers_in_turn xss = transduced (in_turn r) (λ k. f k (by_item r k xss)) xss

  in_turn_is_lawful : IsLawful (ForkedInTurn r child) answers_in_turn
  in_turn_is_lawful = record {
    regroups = λ ns xss yss h. record {
      answers = h.answers;
      answered = λ k.
          let P : Segments A → Type 0 = λ zss. child k zss (h.answers k) in
          subst P (sym (by_item-regrouped r k ns xss)) (h.answered k);
      in_order = ap (regrouped ns) h.in_order ∙ sym (transduced-regrouped (in_turn r) ns h.answers xss);
    };
    allows = λ xss. record {
      answers = λ k. f k (by_item r k xss);
      answered = λ k. (lawful k).allows (by_item r k xss);
      in_order = refl;
    };
    keeps = λ xss. length-transduced (in_turn r) (λ k. f k (by_item r k xss)) xss;
  }

  freely_is_lawful : IsLawful (FreelyForked r child) answers_in_turn
  freely_is_lawful = record {
    regroups = λ ns xss yss h. record {
      answers = λ k. regrouped ns (h.answers k);
      answered = λ k.
          let P : Segments A → Type 0 = λ zss. child k zss (regrouped ns (h.answers k)) in
          subst P (sym (by_segment-regrouped r k ns xss)) ((lawful k).regroups ns (by_segment r k xss) (h.answers k) (h.answered k));
      shuffled = shuffles-regrouped ns yss h.answers h.shuffled;
    };
    allows = λ xss. record {
      answers = λ k. regrouped (counts r k xss) (f k (by_item r k xss));
      answered = λ k.
          let P : Segments A → Type 0 = λ zss. child k zss (regrouped (counts r k xss) (f k (by_item r k xss))) in
          subst P (by_item_by_segment r k xss)
          ((lawful k).regroups (counts r k xss) (by_item r k xss) (f k (by_item r k xss)) ((lawful k).allows (by_item r k xss)));
      shuffled = turns_shuffle_segments r xss (λ k. f k (by_item r k xss))
          (λ k. (lawful k).keeps (by_item r k xss) ∙ length-map (items_of r k (joined xss)) (λ x. x ∷ []));
    };
    keeps = λ xss. length-transduced (in_turn r) (λ k. f k (by_item r k xss)) xss;
  }

  fork_is_lawful : (merge : Merge) → IsLawful (Forked merge r child) answers_in_turn
  fork_is_lawful Free = freely_is_lawful
  fork_is_lawful Deterministic = in_turn_is_lawful

pub tree_is_lawful : {A S : Type 0} (t : Tree A S) → IsLawful (Allows t) (one t)
tree_is_lawful (Component m s) = machine_is_lawful m s
tree_is_lawful (Series a b) = series_is_lawful (Allows a) (Allows b) (one a) (one b) (tree_is_lawful a) (tree_is_lawful b)
tree_is_lawful (Fork merge r child) = fork_is_lawful r (λ k. Allows (child k)) (λ k. one (child k)) (λ k. tree_is_lawful (child k)) merge

fork_has_one : {A : Type 0} (merge : Merge) (r : Router A) (child : Key → Relation A) (f : Key → Segments A → Segments A) → IsDeterministic merge
    → ((k : Key) (xss yss : Segments A) → child k xss yss → yss ≡ f k xss)
    → (xss yss : Segments A) → Forked merge r child xss yss → yss ≡ transduced (in_turn r) (λ k. f k (by_item r k xss)) xss
fork_has_one Free r child f is only xss yss h = absurd is
fork_has_one {A} Deterministic r child f is only xss yss h =
    h.in_order ∙ ap (λ (answers : Key → Segments A). transduced (in_turn r) answers xss) (fun_ext (λ k. only k (by_item r k xss) (h.answers k) (h.answered k)))

pub tree_has_one : {A S : Type 0} (t : Tree A S) → AllDeterministic t → (xss yss : Segments A) → Allows t xss yss → yss ≡ one t xss
tree_has_one (Component m s) all xss yss h = h
tree_has_one (Series a b) all xss yss h =
    tree_has_one b all.1 h.between yss h.from_second ∙ ap (one b) (tree_has_one a all.0 xss h.between h.from_first)
tree_has_one (Fork merge r child) all xss yss h =
    fork_has_one merge r (λ k. Allows (child k)) (λ k. one (child k)) all.0 (λ k. tree_has_one (child k) (all.1 k)) xss yss h

fork_keeps : {A : Type 0} (merge : Merge) (r : Router A) (child : Key → Relation A) → ((k : Key) (xss yss : Segments A) → child k xss yss → length yss ≡ length xss)
    → (xss yss : Segments A) → Forked merge r child xss yss → length yss ≡ length xss
fork_keeps Free r child keeps xss yss h =
    shuffles-length yss h.answers Own h.shuffled ∙ keeps Own (by_segment r Own xss) (h.answers Own) (h.answered Own) ∙ length-map xss (items_of r Own)
fork_keeps Deterministic r child keeps xss yss h = ap length h.in_order ∙ length-transduced (in_turn r) h.answers xss

pub tree_keeps : {A S : Type 0} (t : Tree A S) (xss yss : Segments A) → Allows t xss yss → length yss ≡ length xss
tree_keeps (Component m s) xss yss h = ap length h ∙ length-transduced m s xss
tree_keeps (Series a b) xss yss h = tree_keeps b h.between yss h.from_second ∙ tree_keeps a xss h.between h.from_first
tree_keeps (Fork merge r child) xss yss h = fork_keeps merge r (λ k. Allows (child k)) (λ k. tree_keeps (child k)) xss yss h

-- What a deterministic fork answers, with the borders between the items of a segment taken away, is an answer of a free one.
pub also_freely : {A S : Type 0} (r : Router A) (child : Key → Tree A S) (xss yss : Segments A)
    → Allows (Fork Deterministic r child) xss yss → Allows (Fork Free r child) xss yss
also_freely {A} r child xss yss h = record {
  answers = λ k. regrouped (counts r k xss) (h.answers k);
  answered = λ k.
      subst (λ (zss : Segments A). Allows (child k) zss (regrouped (counts r k xss) (h.answers k))) (by_item_by_segment r k xss)
      ((tree_is_lawful (child k)).regroups (counts r k xss) (by_item r k xss) (h.answers k) (h.answered k));
  shuffled = subst (λ (zss : Segments A). SegmentShuffles zss (λ k. regrouped (counts r k xss) (h.answers k))) (sym h.in_order)
      (turns_shuffle_segments r xss h.answers
      (λ k. tree_keeps (child k) (by_item r k xss) (h.answers k) (h.answered k) ∙ length-map (items_of r k (joined xss)) (λ x. x ∷ [])));
}
