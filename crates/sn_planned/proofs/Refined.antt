-- Networks through which no more flows than through others, and that are safe where those are.
use Rattle.std.proofs.Common.{◌≡◌, ℕ, ◌||◌, ◌&&◌, Bool, true, false, not, is_some, List, refl, sym, ap, ◌∙◌}
use Rattle.std.specs.FinMap as finite
use Rattle.sn_record.specs.declared.label.Label.{Label}
use Rattle.sn_record.specs.Label.{label_cmp}
use Rattle.sn_record.specs.LabelSet.{Labels, contains, minus, union}
use Rattle.sn_record.proofs.Sets.{contains-minus, contains-union, same_labels}
use Rattle.sn_typing.specs.Outline.{Outline, Choice, Series, Split, Star}
use Rattle.sn_typing.specs.Flow.{Comes, Comes.{first, next}, Flows}
use Rattle.sn_planned.specs.Refined.{Refines, RefinesSafe}

either_again : (a b : Bool) → ((a || b) || b) ≡ (a || b)
either_again true b = refl
either_again false true = refl
either_again false false = refl

-- a variant that was added is there
pub union-again : (v w : Labels) → union (union v w) w ≡ union v w
union-again v w = same_labels (union (union v w) w) (union v w) (λ l.
    contains-union (union v w) w l ∙ ap (λ b. b || contains w l) (contains-union v w l) ∙ either_again (contains v l) (contains w l) ∙ sym (contains-union v w l))

and_true : (b : Bool) → (b && true) ≡ b
and_true true = refl
and_true false = refl

-- nothing is taken, and nothing added
pub union-nothing : (v : Labels) → v ≡ union finite.empty (minus v finite.empty)
union-nothing v = same_labels v (union finite.empty (minus v finite.empty)) (λ l. sym
    (contains-union finite.empty (minus v finite.empty) l ∙ ap (λ b. b || contains (minus v finite.empty) l) (nothing l)
    ∙ contains-minus v finite.empty l ∙ ap (λ b. contains v l && not b) (nothing l) ∙ and_true (contains v l)))
  where
    nothing : (l : Label) → contains finite.empty l ≡ false
    nothing l = ap is_some (finite.get-empty label_cmp l)

pub refines_same : (o : Outline) → Refines o o
refines_same o = record { flows = λ v u flow. flow; safe = λ v safe. safe }

pub refines_then : (a b c : Outline) → Refines a b → Refines b c → Refines a c
refines_then a b c one two = record { flows = λ v u flow. two.flows v u (one.flows v u flow); safe = λ v safe. one.safe v (two.safe v safe) }

pub refines_series : (a' a b' b : Outline) → Refines a' a → Refines b' b → Refines (Series a' b') (Series a b)
refines_series a' a b' b one two = record {
  flows = λ v u (w, flow, more). (w, one.flows v w flow, two.flows w u more);
  safe = λ v (here, behind). (one.safe v here, λ u flow. two.safe u (behind u (one.flows v u flow)));
}

pub comes_more : (exit : Labels) (guarded : Bool) (b' b : Outline) → Refines b' b → (v u : Labels) → Comes exit guarded (Flows b') v u → Comes exit guarded (Flows b) v u
comes_more exit guarded b' b fewer v u first = first
comes_more exit guarded b' b fewer v u (next w z come stays flow) = next w z (comes_more exit guarded b' b fewer v w come) stays (fewer.flows w z flow)

pub refines_star : (exit : Labels) (guarded : Bool) (b' b : Outline) → Refines b' b → Refines (Star exit guarded b') (Star exit guarded b)
refines_star exit guarded b' b fewer = record {
  flows = λ v u (w, come, alike, same). (w, comes_more exit guarded b' b fewer v w come, alike, same);
  safe = λ v safe u come stays. fewer.safe u (safe u (comes_more exit guarded b' b fewer v u come) stays);
}

pub refines_split : (place id : ℕ) (b' b : Outline) → Refines b' b → Refines (Split place id b') (Split place id b)
refines_split place id b' b fewer = record {
  flows = λ v u (there, flow). (there, fewer.flows v u flow);
  safe = λ v (there, safe). (there, fewer.safe v safe);
}

pub refines_choice : (place : ℕ) (faces : List (List Labels)) (b' b : ℕ → Outline) → ((i : ℕ) → Refines (b' i) (b i)) → Refines (Choice place faces b') (Choice place faces b)
refines_choice place faces b' b each = record {
  flows = λ v u (has, (i, w, taken, flow)). (has, (i, w, taken, (each i).flows (union v w) u flow));
  safe = λ v (has, safe). (has, λ i w taken. (each i).safe (union v w) (safe i w taken));
}

-- ---- the same for the variants for which the second is safe

pub safely_same : (o : Outline) → RefinesSafe o o
safely_same o v safe = record { flows = λ u flow. flow; safe = safe }

pub safely_then : (a b c : Outline) → RefinesSafe a b → RefinesSafe b c → RefinesSafe a c
safely_then a b c one two v safe =
    let second = two v safe in
    let first = one v second.safe in
    record { flows = λ u flow. second.flows u (first.flows u flow); safe = first.safe }

pub safely_series : (a' a b' b : Outline) → RefinesSafe a' a → RefinesSafe b' b → RefinesSafe (Series a' b') (Series a b)
safely_series a' a b' b one two v (here, behind) =
    let first = one v here in
    record {
      flows = λ u (w, flow, more). (w, first.flows w flow, (two w (behind w (first.flows w flow))).flows u more);
      safe = (first.safe, λ u flow. (two u (behind u (first.flows u flow))).safe);
    }

pub safely_star : (exit : Labels) (guarded : Bool) (b' b : Outline) → RefinesSafe b' b → RefinesSafe (Star exit guarded b') (Star exit guarded b)
safely_star exit guarded b' b fewer v safe = record {
  flows = λ u (w, come, alike, same). (w, comes w come, alike, same);
  safe = λ u come stays. (fewer u (safe u (comes u come) stays)).safe;
}
  where
    comes : (u : Labels) → Comes exit guarded (Flows b') v u → Comes exit guarded (Flows b) v u
    comes u first = first
    comes u (next w z come stays flow) = next w z (comes w come) stays ((fewer w (safe w (comes w come) stays)).flows z flow)

pub safely_split : (place id : ℕ) (b' b : Outline) → RefinesSafe b' b → RefinesSafe (Split place id b') (Split place id b)
safely_split place id b' b fewer v (there, safe) = record {
  flows = λ u (tagged, flow). (tagged, (fewer v safe).flows u flow);
  safe = (there, (fewer v safe).safe);
}

pub safely_choice : (place : ℕ) (faces : List (List Labels)) (b' b : ℕ → Outline) → ((i : ℕ) → RefinesSafe (b' i) (b i)) → RefinesSafe (Choice place faces b') (Choice place faces b)
safely_choice place faces b' b each v (has, safe) = record {
  flows = λ u (faced, (i, w, taken, flow)). (faced, (i, w, taken, (each i (union v w) (safe i w taken)).flows u flow));
  safe = (has, λ i w taken. (each i (union v w) (safe i w taken)).safe);
}
