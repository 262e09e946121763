-- What a network answers to a variant is finitely many variants, and so is what comes to a star.
use Rattle.std.proofs.Common.{◌≡◌, inl, inr, Bool, true, false, List, refl, sym, subst}
use Rattle.std.specs.List.{Contains}
use Rattle.std.proofs.Math.Decide.{map_dec}
use Rattle.sn_record.specs.LabelSet.{Labels, contains, union, minus}
use Rattle.sn_net.specs.Filter.{tag}
use Rattle.sn_typing.specs.Outline.{Outline, Component, Series, Choice, Star, Split}
use Rattle.sn_typing.specs.Flow.{Comes, Comes.{first, next}, Flows, IsClosedSet, Safe, SurelyLeaves}
use Rattle.sn_typing.proofs.Listed.{Listed, among_contained, contained_among, dec_both, dec_listed, dec_not}
use Rattle.sn_typing.proofs.Listed.{listed_among, listed_as, listed_both, listed_one, listed_through, listed_where}
use Rattle.sn_typing.proofs.Ways.{IsReached, listed_reached, reached_next, way_along}
use Rattle.sn_typing.proofs.SubsetLists.{dec_alike, dec_fits, dec_same, dec_takes, dec_true, subset_among, subsets_of}
use Rattle.sn_typing.proofs.FaceVariants.{placed, face_variants, dec_has_face, dec_beaten}
use Rattle.sn_typing.proofs.Mentioned.{mentions, flows_mentioned, comes_mentioned}

dec_false : (b : Bool) → Dec (b ≡ false)
dec_false true = no (λ e. cc)
dec_false false = yes refl

dec_leaves : (exit : Labels) (guarded : Bool) (v : Labels) → Dec (SurelyLeaves exit guarded v)
dec_leaves exit guarded v = map_dec
    (λ (unguarded, fit). record { unguarded = unguarded; fits = fit })
    (λ leaves. (leaves.unguarded, leaves.fits))
    (dec_both (dec_false guarded) (dec_fits exit v))

comes_chain : (exit : Labels) (guarded : Bool) (body : Labels → Labels → Type 0) (u t : Labels) → Comes exit guarded body u t
    → (w : Labels) → Comes exit guarded body t w → Comes exit guarded body u w
comes_chain exit guarded body u t come w first = come
comes_chain exit guarded body u t come w (next s w' later stays flow) = next s w (comes_chain exit guarded body u t come s later) stays flow

module _ (exit : Labels) (guarded : Bool) (body : Outline) (each : (u : Labels) → Listed (Flows body u)) (v : Labels) where
  -- the body answers w to u, which does not surely leave
  abbrev Step : Labels → Labels → Type 0
  Step u w = (SurelyLeaves exit guarded u → ⊥) × Flows body u w

  dec_step : (u w : Labels) → Dec (Step u w)
  dec_step u w = dec_both (dec_not (dec_leaves exit guarded u)) (dec_listed dec_same (each u) w)

  abbrev places : List Labels
  places = subsets_of (union v (mentions body))

  comes_reached : (w : Labels) → Comes exit guarded (Flows body) v w → IsReached Step places v w
  comes_reached w first = inl refl
  comes_reached w (next u w' come stays flow) =
      let within = comes_mentioned exit guarded (Flows body) v (mentions body) (flows_mentioned body) w (next u w come stays flow) in
      reached_next Step places v u w (comes_reached u come) (stays, flow) (subset_among (union v (mentions body)) w within)

  reached_comes : (w : Labels) → IsReached Step places v w → Comes exit guarded (Flows body) v w
  reached_comes w (inl same) = subst (Comes exit guarded (Flows body) v) same first
  reached_comes w (inr (at, way)) =
      way_along Step (Comes exit guarded (Flows body))
      (λ u t step. next u t first step.0 step.1)
      (λ u t s come later. comes_chain exit guarded (Flows body) u t come s later)
      places v w way

  pub listed_comes : Listed (Comes exit guarded (Flows body) v)
  listed_comes = listed_as reached_comes comes_reached (listed_reached Step dec_step places v)

pub listing : (net : Outline) (v : Labels) → Listed (Flows net v)
listing (Component place takes named outputs) v =
    let given = listed_through (λ o u. union o (minus v named) ≡ u) (listed_among outputs) (λ o. listed_one (union o (minus v named))) in
    listed_where (dec_takes takes v) (listed_as
    (λ u (o, among, same). (o, among_contained outputs o among, sym same))
    (λ u (o, listed, is). (o, contained_among outputs o listed, sym is))
    given)
listing (Series left right) v = listed_through (Flows right) (listing left v) (λ w. listing right w)
listing (Choice place faces branch) v =
    let unbeaten = listed_both (face_variants faces) (λ p. dec_both (dec_alike p.1 v) (dec_not (dec_beaten faces p.0 p.1 (union v p.1)))) in
    let given = listed_through (λ p u. Flows (branch p.0) (union v p.1) u) unbeaten (λ p. listing (branch p.0) (union v p.1)) in
    listed_where (dec_has_face faces v) (listed_as
    (λ u (p, (own, (alike, best)), flow). (p.0, p.1, record { own = own; alike = alike; best = best }, flow))
    (λ u (i, w, taken, flow). (placed i w, (taken.own, (taken.alike, taken.best)), flow))
    given)
listing (Star exit guarded body) v =
    let leaving = listed_both (listed_comes exit guarded body (λ u. listing body u) v) (λ w. dec_alike w exit) in
    let given = listed_through (λ w u. union w exit ≡ u) leaving (λ w. listed_one (union w exit)) in
    listed_as (λ u (w, (come, alike), same). (w, come, alike, sym same)) (λ u (w, come, alike, is). (w, (come, alike), sym is)) given
listing (Split place id body) v = listed_where (dec_true (contains v (tag id))) (listing body v)

-- all that comes to a safe star is a closed set
pub safe_closed_set : (exit : Labels) (guarded : Bool) (body : Outline) (v : Labels) → Safe (Star exit guarded body) v
    → (members : List Labels) × IsClosedSet exit guarded body v members
safe_closed_set exit guarded body v safe =
    let all = listed_comes exit guarded body (listing body) v in
    let comes : (u : Labels) → Contains all.answers u → Comes exit guarded (Flows body) v u = λ u listed. all.sound u (contained_among all.answers u listed) in
    let held : (u : Labels) → Comes exit guarded (Flows body) v u → Contains all.answers u = λ u come. among_contained all.answers u (all.complete u come) in (
      all.answers,
      record {
        start = held v first;
        closed = λ u w listed stays flow. held w (next u w (comes u listed) stays flow);
        safe = λ u listed stays. safe u (comes u listed) stays;
      },
    )
