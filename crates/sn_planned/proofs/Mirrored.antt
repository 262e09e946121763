-- Where the parts of a network mirror those of another, it is bounded where that is.
use Rattle.std.proofs.Common.{◌≡◌, ℕ, suc, ◌+◌, Bool, IsTrue, List, [], ◌∷◌, ◌++◌, length, refl, sym, ap, ◌∙◌, subst}
use Rattle.std.specs.List.{Contains}
use Rattle.sn_record.specs.LabelSet.{Labels, contains, union}
use Rattle.sn_net.specs.Filter.{tag}
use Rattle.sn_typing.specs.Outline.{Outline, Choice, Series, Split, Star, branch_of}
use Rattle.sn_typing.specs.Flow.{Comes, Flows, HasFace, IsFaceVariant, MayTake, SurelyLeaves}
use Rattle.sn_typing.specs.Reached.{Reached, Reached.{here, left, right, branch, inside, replica}, Turn, Left, Right, Branch, Body}
use Rattle.sn_typing.specs.Accepted.{AreFew, ComesTo, IsBounded, IsReached}
use Rattle.sn_planned.specs.Mirrored.{Mirror, Mirrors, Within}
use Rattle.sn_planned.specs.Refined.{Refines}
use Rattle.sn_planned.proofs.InlinedTyped.{Place, Place.{on_left, in_middle, on_right}, branch_here, branch_left, branch_middle, branch_right, has_inner, has_outer, inlined_refines, place_of, taken_inner, taken_outer, Up, Up.{up_left, up_middle, up_right}}
use Rattle.sn_planned.proofs.Refined.{comes_more, refines_same, refines_then, refines_series, refines_star, refines_split, refines_choice, union-again}

-- the first turn of a way, and what is reached then
abbrev Turned : Outline → Labels → List Turn → Outline → Labels → Type 0
Turned o v [] part u = (part ≡ o) × (u ≡ v)
Turned (Series a b) v (Left ∷ way) part u = Reached a v way part u
Turned (Series a b) v (Right ∷ way) part u = (w : Labels) × Flows a v w × Reached b w way part u
Turned (Choice place faces branches) v (Branch i ∷ way) part u = HasFace faces v × ((w : Labels) × MayTake faces i w v × Reached (branches i) (union v w) way part u)
Turned (Star exit guarded body) v (Body ∷ way) part u = (w : Labels) × Comes exit guarded (Flows body) v w × (SurelyLeaves exit guarded w → ⊥) × Reached body w way part u
Turned (Split place id body) v (Body ∷ way) part u = IsTrue (contains v (tag id)) × Reached body v way part u
Turned _ v (turn ∷ way) part u = ⊥

turned : (o : Outline) (v : Labels) (way : List Turn) (part : Outline) (u : Labels) → Reached o v way part u → Turned o v way part u
turned o v way part u (here n w) = (refl, refl)
turned o v way part u (left a b w before p z rest) = rest
turned o v way part u (right a b w x before p z flow rest) = (x, flow, rest)
turned o v way part u (branch place faces branches w i x before p z has taken rest) = (has, (x, taken, rest))
turned o v way part u (inside exit guarded body w x before p z comes stays rest) = (x, comes, stays, rest)
turned o v way part u (replica place id body w before p z there rest) = (there, rest)

within_same : (o : Outline) → Within o o
within_same o = record { flows = λ v u flow. flow; comes = λ v u come. come }

-- the whole mirrors the whole
whole : (o' o part : Outline) → Within o' o → (v u : Labels) → Reached o' v [] part u → Within part o
whole o' o part within v u reached = subst (λ p. Within p o) (sym (turned o' v [] part u reached).0) within

whole_reached : (o' o part : Outline) (v u : Labels) → Reached o' v [] part u → Reached o v [] o u
whole_reached o' o part v u reached = subst (λ w. Reached o v [] o w) (sym (turned o' v [] part u reached).1) (here o v)

abbrev at_whole : (o' o : Outline) → Within o' o → (part : Outline) → Mirror o' o [] part
at_whole o' o within part = record { place = []; other = o; reached = whole_reached o' o part; within = whole o' o part within }

-- nothing is reached by a turn that there is not
nowhere_to : (o' o : Outline) (way : List Turn) (part : Outline) → ((v u : Labels) → Reached o' v way part u → ⊥) → Mirror o' o way part
nowhere_to o' o way part none = record { place = []; other = o; reached = λ v u reached. absurd (none v u reached); within = λ v u reached. absurd (none v u reached) }

-- No more flows through a network than through another, and each part mirrors one of that.
pub record Subsumes (o' o : Outline) : Type 0 where
  pub refines : Refines o' o
  pub mirrors : Mirrors o' o

pub subsumes_same : (o : Outline) → Subsumes o o
subsumes_same o = record {
  refines = refines_same o;
  mirrors = λ way part. record { place = way; other = part; reached = λ v u reached. reached; within = λ v u reached. within_same part };
}

pub subsumes_then : (a b c : Outline) → Subsumes a b → Subsumes b c → Subsumes a c
subsumes_then a b c one two = record {
  refines = refines_then a b c one.refines two.refines;
  mirrors = λ way part.
      let first = one.mirrors way part in
      let second = two.mirrors first.place first.other in
      record {
        place = second.place;
        other = second.other;
        reached = λ v u reached. second.reached v u (first.reached v u reached);
        within = λ v u reached.
            let near = first.within v u reached in
            let far = second.within v u (first.reached v u reached) in
            record { flows = λ w z flow. far.flows w z (near.flows w z flow); comes = λ w z come. far.comes w z (near.comes w z come) };
      };
}

pub subsumes_series : (a' a b' b : Outline) → Subsumes a' a → Subsumes b' b → Subsumes (Series a' b') (Series a b)
subsumes_series a' a b' b one two = record { refines = refines; mirrors = at }
  where
    refines : Refines (Series a' b') (Series a b)
    refines = refines_series a' a b' b one.refines two.refines

    at : Mirrors (Series a' b') (Series a b)
    at [] part = at_whole (Series a' b') (Series a b) (record { flows = refines.flows; comes = λ v u come. come }) part
    at (Left ∷ way) part =
        let m = one.mirrors way part in
        record {
          place = Left ∷ m.place;
          other = m.other;
          reached = λ v u reached. left a b v m.place m.other u (m.reached v u (turned (Series a' b') v (Left ∷ way) part u reached));
          within = λ v u reached. m.within v u (turned (Series a' b') v (Left ∷ way) part u reached);
        }
    at (Right ∷ way) part =
        let m = two.mirrors way part in
        record {
          place = Right ∷ m.place;
          other = m.other;
          reached = λ v u reached.
              let t = turned (Series a' b') v (Right ∷ way) part u reached in
              right a b v t.0 m.place m.other u (one.refines.flows v t.0 t.1) (m.reached t.0 u t.2);
          within = λ v u reached.
              let t = turned (Series a' b') v (Right ∷ way) part u reached in
              m.within t.0 u t.2;
        }
    at (Branch i ∷ way) part = nowhere_to (Series a' b') (Series a b) (Branch i ∷ way) part (λ v u reached. turned (Series a' b') v (Branch i ∷ way) part u reached)
    at (Body ∷ way) part = nowhere_to (Series a' b') (Series a b) (Body ∷ way) part (λ v u reached. turned (Series a' b') v (Body ∷ way) part u reached)

pub subsumes_star : (exit : Labels) (guarded : Bool) (b' b : Outline) → Subsumes b' b → Subsumes (Star exit guarded b') (Star exit guarded b)
subsumes_star exit guarded b' b one = record { refines = refines; mirrors = at }
  where
    refines : Refines (Star exit guarded b') (Star exit guarded b)
    refines = refines_star exit guarded b' b one.refines

    at : Mirrors (Star exit guarded b') (Star exit guarded b)
    at [] part = at_whole (Star exit guarded b') (Star exit guarded b) (record { flows = refines.flows; comes = comes_more exit guarded b' b one.refines }) part
    at (Body ∷ way) part =
        let m = one.mirrors way part in
        record {
          place = Body ∷ m.place;
          other = m.other;
          reached = λ v u reached.
              let t = turned (Star exit guarded b') v (Body ∷ way) part u reached in
              inside exit guarded b v t.0 m.place m.other u (comes_more exit guarded b' b one.refines v t.0 t.1) t.2 (m.reached t.0 u t.3);
          within = λ v u reached.
              let t = turned (Star exit guarded b') v (Body ∷ way) part u reached in
              m.within t.0 u t.3;
        }
    at (Left ∷ way) part = nowhere_to (Star exit guarded b') (Star exit guarded b) (Left ∷ way) part (λ v u reached. turned (Star exit guarded b') v (Left ∷ way) part u reached)
    at (Right ∷ way) part = nowhere_to (Star exit guarded b') (Star exit guarded b) (Right ∷ way) part (λ v u reached. turned (Star exit guarded b') v (Right ∷ way) part u reached)
    at (Branch i ∷ way) part = nowhere_to (Star exit guarded b') (Star exit guarded b) (Branch i ∷ way) part (λ v u reached. turned (Star exit guarded b') v (Branch i ∷ way) part u reached)

pub subsumes_split : (place id : ℕ) (b' b : Outline) → Subsumes b' b → Subsumes (Split place id b') (Split place id b)
subsumes_split place id b' b one = record { refines = refines; mirrors = at }
  where
    refines : Refines (Split place id b') (Split place id b)
    refines = refines_split place id b' b one.refines

    at : Mirrors (Split place id b') (Split place id b)
    at [] part = at_whole (Split place id b') (Split place id b) (record { flows = refines.flows; comes = λ v u come. come }) part
    at (Body ∷ way) part =
        let m = one.mirrors way part in
        record {
          place = Body ∷ m.place;
          other = m.other;
          reached = λ v u reached.
              let t = turned (Split place id b') v (Body ∷ way) part u reached in
              replica place id b v m.place m.other u t.0 (m.reached v u t.1);
          within = λ v u reached. m.within v u (turned (Split place id b') v (Body ∷ way) part u reached).1;
        }
    at (Left ∷ way) part = nowhere_to (Split place id b') (Split place id b) (Left ∷ way) part (λ v u reached. turned (Split place id b') v (Left ∷ way) part u reached)
    at (Right ∷ way) part = nowhere_to (Split place id b') (Split place id b) (Right ∷ way) part (λ v u reached. turned (Split place id b') v (Right ∷ way) part u reached)
    at (Branch i ∷ way) part = nowhere_to (Split place id b') (Split place id b) (Branch i ∷ way) part (λ v u reached. turned (Split place id b') v (Branch i ∷ way) part u reached)

pub subsumes_choice : (place : ℕ) (faces : List (List Labels)) (b' b : ℕ → Outline) → ((i : ℕ) → Subsumes (b' i) (b i)) → Subsumes (Choice place faces b') (Choice place faces b)
subsumes_choice place faces b' b each = record { refines = refines; mirrors = at }
  where
    refines : Refines (Choice place faces b') (Choice place faces b)
    refines = refines_choice place faces b' b (λ i. (each i).refines)

    at : Mirrors (Choice place faces b') (Choice place faces b)
    at [] part = at_whole (Choice place faces b') (Choice place faces b) (record { flows = refines.flows; comes = λ v u come. come }) part
    at (Branch i ∷ way) part =
        let m = (each i).mirrors way part in
        record {
          place = Branch i ∷ m.place;
          other = m.other;
          reached = λ v u reached.
              let t = turned (Choice place faces b') v (Branch i ∷ way) part u reached in
              branch place faces b v i t.1.0 m.place m.other u t.0 t.1.1 (m.reached (union v t.1.0) u t.1.2);
          within = λ v u reached.
              let t = turned (Choice place faces b') v (Branch i ∷ way) part u reached in
              m.within (union v t.1.0) u t.1.2;
        }
    at (Left ∷ way) part = nowhere_to (Choice place faces b') (Choice place faces b) (Left ∷ way) part (λ v u reached. turned (Choice place faces b') v (Left ∷ way) part u reached)
    at (Right ∷ way) part = nowhere_to (Choice place faces b') (Choice place faces b) (Right ∷ way) part (λ v u reached. turned (Choice place faces b') v (Right ∷ way) part u reached)
    at (Body ∷ way) part = nowhere_to (Choice place faces b') (Choice place faces b) (Body ∷ way) part (λ v u reached. turned (Choice place faces b') v (Body ∷ way) part u reached)

-- the branches of an inner choice in its place
module _ (place q : ℕ) (lefts inner rights : List (List Labels)) (face : List Labels) (bleft binner bright : List Outline)
    (as_left : length bleft ≡ length lefts) (as_inner : length binner ≡ length inner)
    (to_inner : (w : Labels) → Contains face w → (d : ℕ) × IsFaceVariant inner d w) (from_inner : (d : ℕ) (w : Labels) → IsFaceVariant inner d w → Contains face w) where
  abbrev flat_faces : List (List Labels)
  flat_faces = lefts ++ (inner ++ rights)

  abbrev outer_faces : List (List Labels)
  outer_faces = lefts ++ face ∷ rights

  abbrev inner_choice : Outline
  inner_choice = Choice q inner (branch_of binner)

  abbrev flat_branches : ℕ → Outline
  flat_branches = branch_of (bleft ++ (binner ++ bright))

  abbrev outer_branches : ℕ → Outline
  outer_branches = branch_of (bleft ++ inner_choice ∷ bright)

  abbrev flat : Outline
  flat = Choice place flat_faces flat_branches

  abbrev outer : Outline
  outer = Choice place outer_faces outer_branches

  refines : Refines flat outer
  refines = inlined_refines place q lefts inner rights face bleft binner bright as_left as_inner to_inner from_inner

  taken_there : (i j : ℕ) (w v : Labels) → Up place q lefts inner rights face bleft binner bright as_left as_inner to_inner from_inner i j → MayTake flat_faces i w v → MayTake outer_faces j w v
  taken_there i j w v up taken = taken_outer place q lefts inner rights face bleft binner bright as_left as_inner to_inner from_inner i j w v up taken

  has : (v : Labels) → HasFace flat_faces v → HasFace outer_faces v
  has v there = has_outer place q lefts inner rights face bleft binner bright as_left as_inner to_inner from_inner v there

  at_branch : (i : ℕ) (way : List Turn) (part : Outline) → Place (length lefts) (length inner) i → Mirror flat outer (Branch i ∷ way) part
  at_branch i way part (on_left short) = record {
    place = Branch i ∷ way;
    other = part;
    reached = λ v u reached.
        let t = turned flat v (Branch i ∷ way) part u reached in
        branch place outer_faces outer_branches v i t.1.0 way part u (has v t.0) (taken_there i i t.1.0 v (up_left short refl) t.1.1)
        (subst (λ o. Reached o (union v t.1.0) way part u) (branch_left place q lefts inner rights face bleft binner bright as_left as_inner to_inner from_inner i short) t.1.2);
    within = λ v u reached. within_same part;
  }
  at_branch i way part (in_middle d short is) = record {
    place = Branch (length lefts) ∷ (Branch d ∷ way);
    other = part;
    reached = λ v u reached.
        let t = turned flat v (Branch i ∷ way) part u reached in
        let w : Labels = t.1.0 in
        let through : Reached (branch_of binner d) (union v w) way part u =
        subst (λ o. Reached o (union v w) way part u) (ap flat_branches is ∙ branch_middle place q lefts inner rights face bleft binner bright as_left as_inner to_inner from_inner d short) t.1.2 in
        branch place outer_faces outer_branches v (length lefts) w (Branch d ∷ way) part u (has v t.0) (taken_there i (length lefts) w v (up_middle d short is refl) t.1.1)
        (subst (λ o. Reached o (union v w) (Branch d ∷ way) part u) (sym (branch_here place q lefts inner rights face bleft binner bright as_left as_inner to_inner from_inner))
        (branch q inner (branch_of binner) (union v w) d w way part u (has_inner place q lefts inner rights face bleft binner bright as_left as_inner to_inner from_inner d i w v short is t.1.1)
        (taken_inner place q lefts inner rights face bleft binner bright as_left as_inner to_inner from_inner d i w v short is t.1.1)
        (subst (λ s. Reached (branch_of binner d) s way part u) (sym (union-again v w)) through)));
    within = λ v u reached. within_same part;
  }
  at_branch i way part (on_right d is) = record {
    place = Branch (length lefts + suc d) ∷ way;
    other = part;
    reached = λ v u reached.
        let t = turned flat v (Branch i ∷ way) part u reached in
        branch place outer_faces outer_branches v (length lefts + suc d) t.1.0 way part u (has v t.0) (taken_there i (length lefts + suc d) t.1.0 v (up_right d is refl) t.1.1)
        (subst (λ o. Reached o (union v t.1.0) way part u) (ap flat_branches is ∙ branch_right place q lefts inner rights face bleft binner bright as_left as_inner to_inner from_inner d) t.1.2);
    within = λ v u reached. within_same part;
  }

  pub inlined_subsumes : Subsumes (Choice place (lefts ++ (inner ++ rights)) (branch_of (bleft ++ (binner ++ bright)))) (Choice place (lefts ++ face ∷ rights) (branch_of (bleft ++ inner_choice ∷ bright)))
  inlined_subsumes = record { refines = refines; mirrors = at }
    where
      at : Mirrors flat outer
      at [] part = at_whole flat outer (record { flows = refines.flows; comes = λ v u come. come }) part
      at (Branch i ∷ way) part = at_branch i way part (place_of (length lefts) (length inner) i)
      at (Left ∷ way) part = nowhere_to flat outer (Left ∷ way) part (λ v u reached. turned flat v (Left ∷ way) part u reached)
      at (Right ∷ way) part = nowhere_to flat outer (Right ∷ way) part (λ v u reached. turned flat v (Right ∷ way) part u reached)
      at (Body ∷ way) part = nowhere_to flat outer (Body ∷ way) part (λ v u reached. turned flat v (Body ∷ way) part u reached)

-- fewer are few
fewer_few : (among others : Labels → Type 0) → ((v : Labels) → among v → others v) → AreFew others → AreFew among
fewer_few among others more few = record { all = few.all; few = few.few; listed = λ v is. few.listed v (more v is) }

pub subsumes_bounded : (o' o : Outline) (input : List Labels) → Subsumes o' o → IsBounded o input → IsBounded o' input
subsumes_bounded o' o input h bounded = record {
  parts = λ way part.
      let m = h.mirrors way part in
      fewer_few (IsReached o' input way part) (IsReached o input m.place m.other) (moved way part) (bounded.parts m.place m.other);
  flows = λ way part u from.
      let m = h.mirrors way part in
      fewer_few (Flows part u) (Flows m.other u) (λ z flow. (m.within from.variant u from.reached).flows u z flow) (bounded.flows m.place m.other u (moved way part u from));
  stars = λ way part u from.
      let m = h.mirrors way part in
      fewer_few (ComesTo part u) (ComesTo m.other u) (λ z come. (m.within from.variant u from.reached).comes u z come) (bounded.stars m.place m.other u (moved way part u from));
}
  where
    moved : (way : List Turn) (part : Outline) (u : Labels) → IsReached o' input way part u → IsReached o input (h.mirrors way part).place (h.mirrors way part).other u
    moved way part u from = record { variant = from.variant; listed = from.listed; reached = (h.mirrors way part).reached from.variant u from.reached }
