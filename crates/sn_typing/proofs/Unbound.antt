-- Where no label is a binding tag, flows and safe networks are told by subsets alone.
use Rattle.std.proofs.Common.{◌||◌, ℕ, Bool, true, false, IsTrue, ◌↔◌, List, refl, sym, subst, ◌∙◌}
use Rattle.std.specs.List.{Contains}
use Rattle.sn_record.specs.LabelSet.{Labels, contains, union, minus}
use Rattle.sn_record.proofs.Sets.{contains-union, IsSubset-minus}
use Rattle.sn_types.specs.Subsets.{HasSubset, IsUnbound}
use Rattle.sn_types.proofs.Unbound.{fits_unbound, subset_has, subset_unbound, unbound_alike}
use Rattle.sn_typing.specs.Outline.{Outline, Component, Series, Choice, Star, Split}
use Rattle.sn_typing.specs.Flow.{IsFaceVariant, MayTake, HasFace, Takes, SurelyLeaves, Comes, Comes.{first, next}, Flows, Safe}
use Rattle.sn_typing.specs.Subsets as plain
use Rattle.sn_typing.specs.Subsets.{NamesNone, Comes as PlainComes, Comes.{first as plain_first, next as plain_next}}

pub union_unbound : (s t : Labels) → IsUnbound s → IsUnbound t → IsUnbound (union s t)
union_unbound s t one other l binds there =
    apart (contains s l) (contains t l) (one l binds) (other l binds) (sym (contains-union s t l) ∙ there)
  where
    apart : (a b : Bool) → (IsTrue a → ⊥) → (IsTrue b → ⊥) → IsTrue (a || b) → ⊥
    apart true b f g h = f refl
    apart false b f g h = g h

minus_unbound : (s t : Labels) → IsUnbound s → IsUnbound (minus s t)
minus_unbound s t none = subset_unbound (minus s t) s (IsSubset-minus s t) none

-- ---- the parts

takes_subset : (takes : List Labels) (v : Labels) → ((s : Labels) → Contains takes s → IsUnbound s) → IsUnbound v → Takes takes v ↔ HasSubset takes v
takes_subset takes v names none = (
  λ takes_it. (subset_has takes v none).0 takes_it.has,
  λ has. record { has = (subset_has takes v none).1 has; alike = λ s t one other. unbound_alike s t (names s one) (names t other) },
)

pub face_subset : (faces : List (List Labels)) (v : Labels) → IsUnbound v → HasFace faces v ↔ plain.HasFace faces v
face_subset faces v none = (
  λ has. record { branch = has.branch; variant = has.variant; own = has.own; within = has.fits.within },
  λ has. record { branch = has.branch; variant = has.variant; own = has.own; fits = (fits_unbound has.variant v none).1 has.within },
)

pub taken_unbeaten : (faces : List (List Labels)) (i : ℕ) (w v : Labels) → ((j : ℕ) (x : Labels) → IsFaceVariant faces j x → IsUnbound x) → IsUnbound v
    → MayTake faces i w v ↔ plain.IsUnbeaten faces i w (union v w)
taken_unbeaten faces i w v names none = (
  λ taken.
      let whole = union_unbound v w none (names i w taken.own) in
      record {
        own = taken.own;
        best = λ beaten. taken.best (record {
          branch = beaten.branch;
          variant = beaten.variant;
          other = beaten.other;
          fits = (fits_unbound beaten.variant (union v w) whole).1 beaten.within;
          before = beaten.before;
        });
      },
  λ unbeaten. record {
    own = unbeaten.own;
    alike = unbound_alike w v (names i w unbeaten.own) none;
    best = λ beaten. unbeaten.best (record {
      branch = beaten.branch;
      variant = beaten.variant;
      other = beaten.other;
      within = beaten.fits.within;
      before = beaten.before;
    });
  },
)

pub leaves_subset : (exit : Labels) (guarded : Bool) (v : Labels) → IsUnbound v → SurelyLeaves exit guarded v ↔ plain.SurelyLeaves exit guarded v
leaves_subset exit guarded v none = (
  λ leaves. record { unguarded = leaves.unguarded; within = leaves.fits.within },
  λ leaves. record { unguarded = leaves.unguarded; fits = (fits_unbound exit v none).1 leaves.within },
)

-- ---- the whole

-- a network answers v the same, told by what fits and told by subsets
pub record Same (net : Outline) (v : Labels) : Type 0 where
  pub there : (u : Labels) → Flows net v u → plain.Flows net v u
  pub back : (u : Labels) → plain.Flows net v u → Flows net v u
  pub unbound : (u : Labels) → Flows net v u → IsUnbound u
  pub safe : Safe net v ↔ plain.Safe net v

-- what comes to a star whose body answers the same
module _ (exit : Labels) (guarded : Bool) (body : Outline) (v : Labels) (none : IsUnbound v) (same : (u : Labels) → IsUnbound u → Same body u) where
  pub comes_unbound : (u : Labels) → Comes exit guarded (Flows body) v u → IsUnbound u
  comes_unbound u first = none
  comes_unbound u (next t w come stays flow) = (same t (comes_unbound t come)).unbound w flow

  pub comes_there : (u : Labels) → Comes exit guarded (Flows body) v u → PlainComes exit guarded (plain.Flows body) v u
  comes_there u first = plain_first
  comes_there u (next t w come stays flow) =
      let own = comes_unbound t come in
      plain_next t w (comes_there t come) (λ leaves. stays ((leaves_subset exit guarded t own).1 leaves)) ((same t own).there w flow)

  pub comes_back : (u : Labels) → PlainComes exit guarded (plain.Flows body) v u → Comes exit guarded (Flows body) v u
  comes_back u plain_first = first
  comes_back u (plain_next t w come stays flow) =
      let before = comes_back t come in
      let own = comes_unbound t before in
      next t w before (λ leaves. stays ((leaves_subset exit guarded t own).0 leaves)) ((same t own).back w flow)

pub same_net : (net : Outline) → NamesNone net → (v : Labels) → IsUnbound v → Same net v
same_net (Component place takes named outputs) names v none =
    let law = takes_subset takes v names.0 none in
    record {
      there = λ u (has, rest). (law.0 has, rest);
      back = λ u (has, rest). (law.1 has, rest);
      unbound = λ u (has, (o, listed, is)). subst IsUnbound (sym is) (union_unbound o (minus v named) (names.1 o listed) (minus_unbound v named none));
      safe = law;
    }
same_net (Series left right) names v none =
    let front = same_net left names.0 v none in
    let back = λ (w : Labels) (flow : Flows left v w). same_net right names.1 w (front.unbound w flow) in
    record {
      there = λ u (w, flow, further). (w, front.there w flow, (back w flow).there u further);
      back = λ u (w, flow, further). (w, front.back w flow, (back w (front.back w flow)).back u further);
      unbound = λ u (w, flow, further). (back w flow).unbound u further;
      safe = (
        λ safe. (front.safe.0 safe.0, λ w flow. (back w (front.back w flow)).safe.0 (safe.1 w (front.back w flow))),
        λ safe. (front.safe.1 safe.0, λ w flow. (back w flow).safe.1 (safe.1 w (front.there w flow))),
      );
    }
same_net (Choice place faces branch) names v none =
    let law = face_subset faces v none in
    let taken = λ (i : ℕ) (w : Labels). taken_unbeaten faces i w v names.0 none in
    let inner = λ (i : ℕ) (w : Labels) (own : IsFaceVariant faces i w). same_net (branch i) (names.1 i) (union v w) (union_unbound v w none (names.0 i w own)) in
    record {
      there = λ u (has, (i, w, take, flow)). (law.0 has, (i, w, (taken i w).0 take, (inner i w take.own).there u flow));
      back = λ u (has, (i, w, take, flow)). (law.1 has, (i, w, (taken i w).1 take, (inner i w take.own).back u flow));
      unbound = λ u (has, (i, w, take, flow)). (inner i w take.own).unbound u flow;
      safe = (
        λ safe. (law.0 safe.0, λ i w take. (inner i w take.own).safe.0 (safe.1 i w ((taken i w).1 take))),
        λ safe. (law.1 safe.0, λ i w take. (inner i w take.own).safe.1 (safe.1 i w ((taken i w).0 take))),
      );
    }
same_net (Star exit guarded body) names v none =
    let same = λ (u : Labels) (own : IsUnbound u). same_net body names.1 u own in
    let unbound = comes_unbound exit guarded body v none same in
    let there = comes_there exit guarded body v none same in
    let back = comes_back exit guarded body v none same in
    record {
      there = λ u (w, come, alike, is). (w, there w come, is);
      back = λ u (w, come, is). (w, back w come, unbound_alike w exit (unbound w (back w come)) names.0, is);
      unbound = λ u (w, come, alike, is). subst IsUnbound (sym is) (union_unbound w exit (unbound w come) names.0);
      safe = (
        λ safe u come stays.
            let own = unbound u (back u come) in
            (same u own).safe.0 (safe u (back u come) (λ leaves. stays ((leaves_subset exit guarded u own).0 leaves))),
        λ safe u come stays.
            let own = unbound u come in
            (same u own).safe.1 (safe u (there u come) (λ leaves. stays ((leaves_subset exit guarded u own).1 leaves))),
      );
    }
same_net (Split place id body) names v none =
    let inner = same_net body names v none in
    record {
      there = λ u (has, flow). (has, inner.there u flow);
      back = λ u (has, flow). (has, inner.back u flow);
      unbound = λ u (has, flow). inner.unbound u flow;
      safe = (λ safe. (safe.0, inner.safe.0 safe.1), λ safe. (safe.0, inner.safe.1 safe.1));
    }
