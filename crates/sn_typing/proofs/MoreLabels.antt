-- A network that is safe for a variant is safe for one that it fits, and what it answers to the first has one that fits what it
-- answers to the second.
use Rattle.std.proofs.Common.{ℕ, Bool, List, refl, sym, subst}
use Rattle.sn_record.specs.LabelSet.{Labels, union, minus}
use Rattle.sn_record.specs.Fits.{Fits}
use Rattle.sn_record.proofs.Fitting.{bind_alike_through, bind_alike_turned, fits_bind_alike, fits_chain, fits_itself}
use Rattle.sn_net.specs.Filter.{tag}
use Rattle.sn_typing.specs.Outline.{Outline, Component, Series, Choice, Star, Split}
use Rattle.sn_types.specs.RecordType.{HasFit}
use Rattle.sn_typing.specs.Flow.{Below, HasFace, MayTake, Takes, SurelyLeaves, Comes, Comes.{first, next}, Flows, Safe}
use Rattle.sn_typing.proofs.Subsets.{union_fits, minus_fits}

pub fit_more : (variants : List Labels) (v v' : Labels) → Fits v v' → HasFit variants v → HasFit variants v'
fit_more variants v v' more has = record { variant = has.variant; listed = has.listed; fits = fits_chain has.variant v v' has.fits more }

pub takes_more : (variants : List Labels) (v v' : Labels) → Fits v v' → Takes variants v → Takes variants v'
takes_more variants v v' more takes = record { has = fit_more variants v v' more takes.has; alike = takes.alike }

pub face_more : (faces : List (List Labels)) (v v' : Labels) → Fits v v' → HasFace faces v → HasFace faces v'
face_more faces v v' more has = record { branch = has.branch; variant = has.variant; own = has.own; fits = fits_chain has.variant v v' has.fits more }

-- what beats a variant goes on beating it, so what may be taken where there is more may be taken where there is less
pub taken_before : (faces : List (List Labels)) (i : ℕ) (w v v' : Labels) → Fits v v' → MayTake faces i w v' → MayTake faces i w v
taken_before faces i w v v' more taken =
    let same = bind_alike_through w v' v taken.alike (bind_alike_turned v v' (fits_bind_alike v v' more)) in
    record {
      own = taken.own;
      alike = same;
      best = λ beaten. taken.best (record {
        branch = beaten.branch;
        variant = beaten.variant;
        other = beaten.other;
        fits = fits_chain beaten.variant (union v w) (union v' w) beaten.fits (union_fits v v' w w more (fits_itself w));
        before = beaten.before;
      });
    }

pub leaves_more : (exit : Labels) (guarded : Bool) (v v' : Labels) → Fits v v' → SurelyLeaves exit guarded v → SurelyLeaves exit guarded v'
leaves_more exit guarded v v' more leaves = record { unguarded = leaves.unguarded; fits = fits_chain exit v v' leaves.fits more }

-- what comes to a star from a variant has one that fits it, which comes from a variant that fits
pub comes_below : (exit : Labels) (guarded : Bool) (body : Labels → Labels → Type 0) (v v' : Labels) → Fits v v'
    → ((u u' : Labels) → Comes exit guarded body v u → (SurelyLeaves exit guarded u → ⊥) → Fits u u' → (w' : Labels) → body u' w' → Below (body u) w')
    → (u' : Labels) → Comes exit guarded body v' u' → Below (Comes exit guarded body v) u'
comes_below exit guarded body v v' more step u' first = record { variant = v; listed = first; fits = more }
comes_below exit guarded body v v' more step u' (next t w come stays flow) =
    let before = comes_below exit guarded body v v' more step t come in
    let stays_before : SurelyLeaves exit guarded before.variant → ⊥ = λ leaves. stays (leaves_more exit guarded before.variant t before.fits leaves) in
    let answer = step before.variant t before.listed stays_before before.fits w flow in
    record { variant = answer.variant; listed = next before.variant answer.variant before.listed stays_before answer.listed; fits = answer.fits }

pub more_labels : (net : Outline) (v v' : Labels) → Fits v v' → Safe net v → Safe net v' × ((u' : Labels) → Flows net v' u' → Below (Flows net v) u')
more_labels (Component place takes named outputs) v v' more safe = (
  takes_more takes v v' more safe,
  λ u' (has, (o, listed, is)). record {
    variant = union o (minus v named);
    listed = (safe, (o, listed, refl));
    fits = subst (λ t. Fits (union o (minus v named)) t) (sym is) (union_fits o o (minus v named) (minus v' named) (fits_itself o) (minus_fits v v' named more));
  },
)
more_labels (Series left right) v v' more safe = (
  (
    (more_labels left v v' more safe.0).0,
    λ u' flow.
        let below = (more_labels left v v' more safe.0).1 u' flow in
        (more_labels right below.variant u' below.fits (safe.1 below.variant below.listed)).0,
  ),
  λ u' (w', flow, further).
      let below = (more_labels left v v' more safe.0).1 w' flow in
      let last = (more_labels right below.variant w' below.fits (safe.1 below.variant below.listed)).1 u' further in
      record { variant = last.variant; listed = (below.variant, below.listed, last.listed); fits = last.fits },
)
more_labels (Choice place faces branch) v v' more safe = (
  (
    face_more faces v v' more safe.0,
    λ i w taken.
        let larger = union_fits v v' w w more (fits_itself w) in
        (more_labels (branch i) (union v w) (union v' w) larger (safe.1 i w (taken_before faces i w v v' more taken))).0,
  ),
  λ u' (has, (i, w, taken, flow)).
      let larger = union_fits v v' w w more (fits_itself w) in
      let before = taken_before faces i w v v' more taken in
      let below = (more_labels (branch i) (union v w) (union v' w) larger (safe.1 i w before)).1 u' flow in
      record { variant = below.variant; listed = (safe.0, (i, w, before, below.listed)); fits = below.fits },
)
more_labels (Star exit guarded body) v v' more safe =
    let coming = comes_below exit guarded (Flows body) v v' more (λ u u' come stays larger w' flow. (more_labels body u u' larger (safe u come stays)).1 w' flow) in (
      λ u' come stays.
          let below = coming u' come in
          let stays_below : SurelyLeaves exit guarded below.variant → ⊥ = λ leaves. stays (leaves_more exit guarded below.variant u' below.fits leaves) in
          (more_labels body below.variant u' below.fits (safe below.variant below.listed stays_below)).0,
      λ u' (w', come, same, is).
          let below = coming w' come in
          record {
            variant = union below.variant exit;
            listed = (below.variant, below.listed, bind_alike_through below.variant w' exit (fits_bind_alike below.variant w' below.fits) same, refl);
            fits = subst (λ t. Fits (union below.variant exit) t) (sym is) (union_fits below.variant w' exit exit below.fits (fits_itself exit));
          },
    )
more_labels (Split place id body) v v' more safe = (
  (more.within (tag id) safe.0, (more_labels body v v' more safe.1).0),
  λ u' (there, flow).
      let below = (more_labels body v v' more safe.1).1 u' flow in
      record { variant = below.variant; listed = (safe.0, below.listed); fits = below.fits },
)
