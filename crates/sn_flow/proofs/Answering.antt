-- The answers of a check are told apart, and each is the only one.
use Rattle.std.proofs.Common.{◌≡◌, inl, inr, ℕ, List, [], ◌∷◌, refl, sym, ap, ◌∙◌}
use Rattle.std.specs.Prelude.{Result, Ok, Err}
use Rattle.std.specs.List.{Contains}
use Rattle.std.specs.declared.cmp.Ordering.{Ordering}
use Rattle.std.specs.declared.cmp.Ordering.TheVariants.{Less, Equal, Greater}
use Rattle.std.specs.Ordering.{is_eq, nat_cmp, ordering_reverse, ordering_then}
use Rattle.std.specs.FinMap.{nat_cmp-IsAntisymmetric}
use Rattle.sn_record.specs.LabelSet.{Labels}
use Rattle.sn_net.specs.Face.{variant_cmp}
use Rattle.sn_net.specs.declared.expr.BoxProgram.{BoxProgram}
use Rattle.sn_net.specs.declared.net.Claim.{Claim}
use Rattle.sn_net.proofs.SortedSets.{only_ascending, ascending-same}
use Rattle.sn_net.proofs.Orders.{same_variant}
use Rattle.sn_typing.specs.Outline.{Outline, outline}
use Rattle.sn_typing.specs.Flow.{Safe}
use Rattle.sn_typing.proofs.Routes.{reached_routed}
use Rattle.sn_flow.specs.declared.fault.FlowFault.{FlowFault}
use Rattle.sn_flow.specs.declared.fault.FlowFault.TheVariants.{NoRoute, BadOutput, TooManyVariants, Memory}
use Rattle.sn_flow.specs.Spots.{spot, spot_cmp}
use Rattle.sn_flow.specs.Verdicts.{AreOne, Checked, Decided, FlowFound, IsFirst, IsFlowOf, IsUndeclared, IsUnrouted}
use Rattle.sn_flow.proofs.Least.{spot_cmp_total}

-- what is unrouted isn't safe
not_safe : (net : Outline) (input : List Labels) (place : ℕ) (u : Labels) → IsUnrouted net input place u → ((v : Labels) → Contains input v → Safe net v) → ⊥
not_safe net input place u is safe = is.unrouted (reached_routed net is.reached.variant is.way is.part u (safe is.reached.variant is.reached.listed) is.reached.reached)

pub decided : (boxes : List BoxProgram) (claim : Claim) (r : Result (Unit {0}) FlowFault) → Checked boxes claim r → Decided boxes claim r
decided boxes claim (Ok done) told = told
decided boxes claim (Err (NoRoute at u)) told = λ accepted. not_safe (outline boxes claim.net) claim.input at u told.1.is accepted.safe
decided boxes claim (Err (BadOutput at u)) told = λ accepted. told.1.is.1.undeclared (accepted.declared told.1.is.1.from u told.1.is.1.listed told.1.is.1.flow)
decided boxes claim (Err (TooManyVariants at)) told = λ accepted. told.1 accepted.bounded
decided boxes claim (Err Memory) told = tt

-- neither is greater, so they tie
tie : (r t : Ordering) → t ≡ ordering_reverse r → (r ≡ Greater → ⊥) → (t ≡ Greater → ⊥) → r ≡ Equal
tie Less t is a b = absurd (b is)
tie Equal t is a b = refl
tie Greater t is a b = absurd (a refl)

both : (r t : Ordering) → ordering_then r t ≡ Equal → (r ≡ Equal) × (t ≡ Equal)
both Less t e = cc
both Equal t e = (refl, e)
both Greater t e = cc

first_is_one : (among : ℕ → Labels → Type 0) (p q : ℕ) (u w : Labels) → IsFirst among p u → IsFirst among q w → (p ≡ q) × (u ≡ w)
first_is_one among p q u w one other =
    let ties = tie (spot_cmp (spot p u) (spot q w)) (spot_cmp (spot q w) (spot p u)) (spot_cmp_total.antisymm (spot q w) (spot p u)) (one.first q w other.is) (other.first p u one.is) in
    let parts = both (nat_cmp p q) (variant_cmp u w) ties in
    (nat_cmp-IsAntisymmetric p q parts.0, same_variant u w (ap is_eq parts.1))

fault_at : {A : Type 0} (fault : ℕ → Labels → FlowFault) (p q : ℕ) (u w : Labels) → (p ≡ q) × (u ≡ w) → AreOne {A = A} (Err (fault p u)) (Err (fault q w))
fault_at fault p q u w (places, variants) = inl (λ i. Err (fault (places i) (variants i)))

pub one_check : (boxes : List BoxProgram) (claim : Claim) (r s : Result (Unit {0}) FlowFault) → Checked boxes claim r → Checked boxes claim s → AreOne r s
one_check boxes claim (Ok a) (Ok b) x y = inl refl
one_check boxes claim (Ok a) (Err (NoRoute q w)) x y = absurd (decided boxes claim (Err (NoRoute q w)) y x)
one_check boxes claim (Ok a) (Err (BadOutput q w)) x y = absurd (decided boxes claim (Err (BadOutput q w)) y x)
one_check boxes claim (Ok a) (Err (TooManyVariants q)) x y = absurd (decided boxes claim (Err (TooManyVariants q)) y x)
one_check boxes claim (Err (NoRoute p u)) (Ok b) x y = absurd (decided boxes claim (Err (NoRoute p u)) x y)
one_check boxes claim (Err (BadOutput p u)) (Ok b) x y = absurd (decided boxes claim (Err (BadOutput p u)) x y)
one_check boxes claim (Err (TooManyVariants p)) (Ok b) x y = absurd (decided boxes claim (Err (TooManyVariants p)) x y)
one_check boxes claim (Err (NoRoute p u)) (Err (NoRoute q w)) x y = fault_at (λ n v. NoRoute n v) p q u w (first_is_one (IsUnrouted (outline boxes claim.net) claim.input) p q u w x.1 y.1)
one_check boxes claim (Err (NoRoute p u)) (Err (BadOutput q w)) x y = absurd (not_safe (outline boxes claim.net) claim.input p u x.1.is y.0.safe)
one_check boxes claim (Err (NoRoute p u)) (Err (TooManyVariants q)) x y = absurd (y.1 x.0)
one_check boxes claim (Err (BadOutput p u)) (Err (NoRoute q w)) x y = absurd (not_safe (outline boxes claim.net) claim.input q w y.1.is x.0.safe)
one_check boxes claim (Err (BadOutput p u)) (Err (BadOutput q w)) x y =
    fault_at (λ n v. BadOutput n v) p q u w (first_is_one (λ n v. (n ≡ claim.place) × IsUndeclared (outline boxes claim.net) claim.input claim.output v) p q u w x.1 y.1)
one_check boxes claim (Err (BadOutput p u)) (Err (TooManyVariants q)) x y = absurd (y.1 x.0.bounded)
one_check boxes claim (Err (TooManyVariants p)) (Err (NoRoute q w)) x y = absurd (x.1 y.0)
one_check boxes claim (Err (TooManyVariants p)) (Err (BadOutput q w)) x y = absurd (x.1 y.0.bounded)
one_check boxes claim (Err (TooManyVariants p)) (Err (TooManyVariants q)) x y = inl (λ i. Err (TooManyVariants ((x.0 ∙ sym y.0) i)))
one_check boxes claim (Err Memory) s x y = inr (inl refl)
one_check boxes claim (Ok a) (Err Memory) x y = inr (inr refl)
one_check boxes claim (Err (NoRoute p u)) (Err Memory) x y = inr (inr refl)
one_check boxes claim (Err (BadOutput p u)) (Err Memory) x y = inr (inr refl)
one_check boxes claim (Err (TooManyVariants p)) (Err Memory) x y = inr (inr refl)

-- lists in order with the same variants are one
one_flow : (net : Outline) (v : Labels) (us ws : List Labels) → IsFlowOf net v us → IsFlowOf net v ws → us ≡ ws
one_flow net v us ws a b =
    only_ascending us ws a.ascending (λ u. ((λ there. (b.same u).1 ((a.same u).0 there)), (λ there. (a.same u).1 ((b.same u).0 there)))) ∙ ascending-same ws b.ascending

pub one_found : (net : Outline) (v : Labels) (r s : Result (List Labels) FlowFault) → FlowFound net v r → FlowFound net v s → AreOne r s
one_found net v (Ok a) (Ok b) x y = inl (ap (λ us. Ok us) (one_flow net v a b x.1 y.1))
one_found net v (Ok a) (Err (NoRoute q w)) x y = absurd (not_safe net (v ∷ []) q w y.1.is x.0.safe)
one_found net v (Ok a) (Err (TooManyVariants q)) x y = absurd (y.1 x.0.bounded)
one_found net v (Err (NoRoute p u)) (Ok b) x y = absurd (not_safe net (v ∷ []) p u x.1.is y.0.safe)
one_found net v (Err (TooManyVariants p)) (Ok b) x y = absurd (x.1 y.0.bounded)
one_found net v (Err (NoRoute p u)) (Err (NoRoute q w)) x y = fault_at (λ n z. NoRoute n z) p q u w (first_is_one (IsUnrouted net (v ∷ [])) p q u w x.1 y.1)
one_found net v (Err (NoRoute p u)) (Err (TooManyVariants q)) x y = absurd (y.1 x.0)
one_found net v (Err (TooManyVariants p)) (Err (NoRoute q w)) x y = absurd (x.1 y.0)
one_found net v (Err (TooManyVariants p)) (Err (TooManyVariants q)) x y = inl (λ i. Err (TooManyVariants ((x.0 ∙ sym y.0) i)))
one_found net v (Err (BadOutput p u)) s x y = absurd x
one_found net v (Err Memory) s x y = inr (inl refl)
one_found net v (Ok a) (Err (BadOutput q w)) x y = absurd y
one_found net v (Err (NoRoute p u)) (Err (BadOutput q w)) x y = absurd y
one_found net v (Err (TooManyVariants p)) (Err (BadOutput q w)) x y = absurd y
one_found net v (Ok a) (Err Memory) x y = inr (inr refl)
one_found net v (Err (NoRoute p u)) (Err Memory) x y = inr (inr refl)
one_found net v (Err (TooManyVariants p)) (Err Memory) x y = inr (inr refl)
