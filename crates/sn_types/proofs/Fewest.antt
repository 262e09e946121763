-- What stays in a minimal type: no variant that another one fits, and one that fits each variant that was there.
use Rattle.std.proofs.Common.{◌≡◌, zero, suc, ◌++◌, ◌||◌, ◌⊎◌, inl, inr, Bool, true, false, cond, not, List, [], ◌∷◌, refl, sym, ap, ◌∙◌, subst, arith}
use Rattle.std.specs.List.{All, Contains, list_any}
use Rattle.std.proofs.lemmas.Bool.{and_cases, and_parts, both_ways, or_parts}
use Rattle.std.proofs.lemmas.List.Elements.{All-cons, All-contains_itself, All-head, All-nil, All-tail, All-weaker, Contains-append_left, Contains-push, Contains-push_cases}
use Rattle.std.proofs.lemmas.List.Folds.{Any-from_list_any, list_any_at}
use Rattle.std.proofs.lemmas.List.Kept.{AllPairs-cons}
use Rattle.sn_record.specs.LabelSet.{Labels}
use Rattle.sn_record.specs.Fits.{Fits, fits}
use Rattle.sn_record.proofs.Fitting.{fits-Fits, fits_chain, fits_itself}
use Rattle.sn_types.specs.RecordType.{HasFit, IsMinimal, IsSubtype, is_same, fits_properly, is_needless, minimal, minimal_from}

-- ---- tests that fail

no_fit : (s t : Labels) → fits s t ≡ false → ¬ Fits s t
no_fit s t fails fit = both_ways (fits s t) fails ((fits-Fits s t).1 fit)

turned : (b : Bool) → not b ≡ false → b ≡ true
turned true e = refl
turned false e = cc

turned_back : (b : Bool) → not b ≡ true → b ≡ false
turned_back true e = cc
turned_back false e = refl

-- what fits and does not fit properly has all labels
not_proper : (s t : Labels) → fits_properly s t ≡ false → Fits s t → Fits t s
not_proper s t fails fit = which (and_cases (fits s t) (not (fits t s)) fails)
  where
    which : (fits s t ≡ false) ⊎ (not (fits t s) ≡ false) → Fits t s
    which (inl e) = absurd (no_fit s t e fit)
    which (inr e) = (fits-Fits t s).0 (turned (fits t s) e)

not_same : (s t : Labels) → is_same s t ≡ false → Fits s t → ¬ Fits t s
not_same s t fails over under = which (and_cases (fits s t) (fits t s) fails)
  where
    which : (fits s t ≡ false) ⊎ (fits t s ≡ false) → ⊥
    which (inl e) = no_fit s t e over
    which (inr e) = no_fit t s e under

-- where no element passes a test, each of them fails it
passed_by : (test : Labels → Bool) (vs : List Labels) → list_any test vs ≡ false → (v : Labels) → Contains vs v → test v ≡ false
passed_by test vs none v there =
    elim (test v) as (λ b. test v ≡ b → b ≡ false) [
      | true ↦ λ passes. absurd (both_ways (list_any test vs) none (list_any_at test vs there.0 v there.1 (ap test there.2 ∙ passes)))
      | false ↦ λ _. refl
    ] refl

-- ---- what stays is apart

-- v is of the type, has the labels of no earlier variant, and no different one of the type fits it
record Stays (whole earlier : List Labels) (v : Labels) : Type 0 where
  listed : Contains whole v
  fresh : (w : Labels) → Contains earlier w → Fits w v → ¬ Fits v w
  least : (w : Labels) → Contains whole w → Fits w v → Fits v w

stays : (whole earlier : List Labels) (v : Labels) → Contains whole v → is_needless whole earlier v ≡ false → Stays whole earlier v
stays whole earlier v there needed =
    let parts = or_parts _ _ needed in
    record {
      listed = there;
      fresh = λ w at. not_same w v (passed_by (λ u. is_same u v) earlier parts.0 w at);
      least = λ w at. not_proper w v (passed_by (λ u. fits_properly u v) whole parts.1 w at);
    }

with_fewer_earlier : (whole earlier : List Labels) (v u : Labels) → Stays whole (earlier ++ v ∷ []) u → Stays whole earlier u
with_fewer_earlier whole earlier v u kept =
    record { listed = kept.listed; fresh = λ w at. kept.fresh w (Contains-append_left earlier (v ∷ []) w at); least = kept.least }

all_stay : (whole earlier later : List Labels) → All (Contains whole) later → All (Stays whole earlier) (minimal_from whole earlier later)
all_stay whole earlier [] listed = All-nil (Stays whole earlier)
all_stay whole earlier (v ∷ later) listed =
    let rest = minimal_from whole (earlier ++ v ∷ []) later in
    let others = All-weaker (Stays whole (earlier ++ v ∷ [])) (Stays whole earlier) (with_fewer_earlier whole earlier v) rest (all_stay whole (earlier ++ v ∷ []) later (All-tail (Contains whole) v later listed)) in
    elim (is_needless whole earlier v) as (λ b. is_needless whole earlier v ≡ b → All (Stays whole earlier) (cond b rest (v ∷ rest))) [
      | true ↦ λ _. others
      | false ↦ λ needed. All-cons (Stays whole earlier) v rest (stays whole earlier v (All-head (Contains whole) v later listed) needed) others
    ] refl

-- a variant that stays, and one that stays behind it
apart : (whole earlier : List Labels) (v u : Labels) → Stays whole earlier v → Stays whole (earlier ++ v ∷ []) u → (¬ Fits v u) × (¬ Fits u v)
apart whole earlier v u first second = (
  λ fit. second.fresh v (Contains-push earlier v) fit (second.least v first.listed fit),
  λ fit. second.fresh v (Contains-push earlier v) (first.least u second.listed fit) fit,
)

stays_apart : (whole earlier later : List Labels) → All (Contains whole) later → IsMinimal (minimal_from whole earlier later)
stays_apart whole earlier [] listed = λ i j d before below. absurd (omega arith)
stays_apart whole earlier (v ∷ later) listed =
    let rest = minimal_from whole (earlier ++ v ∷ []) later in
    let tail = All-tail (Contains whole) v later listed in
    let others = stays_apart whole (earlier ++ v ∷ []) later tail in
    elim (is_needless whole earlier v) as (λ b. is_needless whole earlier v ≡ b → IsMinimal (cond b rest (v ∷ rest))) [
      | true ↦ λ _. others
      | false ↦ λ needed.
          let own = stays whole earlier v (All-head (Contains whole) v later listed) needed in
          AllPairs-cons (λ v w. (¬ Fits v w) × (¬ Fits w v)) v rest
          (All-weaker (Stays whole (earlier ++ v ∷ [])) (λ u. (¬ Fits v u) × (¬ Fits u v)) (λ u. apart whole earlier v u own) rest (all_stay whole (earlier ++ v ∷ []) later tail))
          others
    ] refl

pub minimal-apart : (whole : List Labels) → IsMinimal (minimal whole)
minimal-apart whole = stays_apart whole [] whole (All-contains_itself whole)

-- ---- what stays was there

of_itself : (vs : List Labels) (v : Labels) → Contains vs v → HasFit vs v
of_itself vs v there = record { variant = v; listed = there; fits = fits_itself v }

pub minimal-narrower : (whole : List Labels) → IsSubtype (minimal whole) whole
minimal-narrower whole = All-weaker (Stays whole []) (HasFit whole) (λ v kept. of_itself whole v kept.listed) (minimal whole) (all_stay whole [] whole (All-contains_itself whole))

-- ---- what stays fits what was there

-- no different one of the variants fits r
abbrev IsLeast : List Labels → Labels → Type 0
IsLeast vs r = (w : Labels) → Contains vs w → Fits w r → Fits r w

least_none : (r : Labels) → IsLeast [] r
least_none r w (k, past, is) = absurd (omega arith)

least_more : (v : Labels) (vs : List Labels) (r : Labels) → (Fits v r → Fits r v) → IsLeast vs r → IsLeast (v ∷ vs) r
least_more v vs r first others w (zero, past, is) = subst (λ (u : Labels). Fits u r → Fits r u) is first
least_more v vs r first others w (suc k, past, is) = others w (k, omega arith, is)

-- a variant of the type that fits v, and that no different one of the others fits
record Below (whole others : List Labels) (v : Labels) : Type 0 where
  variant : Labels
  listed : Contains whole variant
  fits : Fits variant v
  least : IsLeast others variant

-- it is found by going down to each of the others that fits
below : (whole others : List Labels) → All (Contains whole) others → (v : Labels) → Contains whole v → Below whole others v
below whole [] listed v there = record { variant = v; listed = there; fits = fits_itself v; least = least_none v }
below whole (w ∷ others) listed v there =
    let tail = All-tail (Contains whole) w others listed in
    elim (fits w v) as (λ b. fits w v ≡ b → Below whole (w ∷ others) v) [
      | true ↦ λ is.
          let lower = below whole others tail w (All-head (Contains whole) w others listed) in
          record {
            variant = lower.variant;
            listed = lower.listed;
            fits = fits_chain lower.variant w v lower.fits ((fits-Fits w v).0 is);
            least = least_more w others lower.variant (λ _. lower.fits) lower.least;
          }
      | false ↦ λ is_not.
          let lower = below whole others tail v there in
          record {
            variant = lower.variant;
            listed = lower.listed;
            fits = lower.fits;
            least = least_more w others lower.variant (λ fit. absurd (no_fit w v is_not (fits_chain w lower.variant v fit lower.fits))) lower.least;
          }
    ] refl

nothing_in_none : (r : Labels) → ¬ HasFit [] r
nothing_in_none r has = absurd (omega (arith, has.listed.1))

fit_first : (v : Labels) (vs : List Labels) (r : Labels) → Fits v r → HasFit (v ∷ vs) r
fit_first v vs r fit = record { variant = v; listed = (0, omega arith, refl); fits = fit }

fit_more : (v : Labels) (vs : List Labels) (r : Labels) → HasFit vs r → HasFit (v ∷ vs) r
fit_more v vs r has = record { variant = has.variant; listed = (suc has.listed.0, omega (arith, has.listed.1), has.listed.2); fits = has.fits }

first_or_more : (v : Labels) (vs : List Labels) (r : Labels) → HasFit (v ∷ vs) r → Fits v r ⊎ HasFit vs r
first_or_more v vs r has = which has.listed
  where
    which : Contains (v ∷ vs) has.variant → Fits v r ⊎ HasFit vs r
    which (zero, past, is) = inl (subst (λ (u : Labels). Fits u r) (sym is) has.fits)
    which (suc k, past, is) = inr (record { variant = has.variant; listed = (k, omega arith, is); fits = has.fits })

before_or_last : (v : Labels) (vs : List Labels) (r : Labels) → HasFit (vs ++ v ∷ []) r → HasFit vs r ⊎ Fits v r
before_or_last v vs r has = which (Contains-push_cases vs v has.variant has.listed)
  where
    which : Contains vs has.variant ⊎ (v ≡ has.variant) → HasFit vs r ⊎ Fits v r
    which (inl listed) = inl (record { variant = has.variant; listed = listed; fits = has.fits })
    which (inr is) = inr (subst (λ (u : Labels). Fits u r) (sym is) has.fits)

-- what fits r and is needless repeats an earlier variant, where no different one of the type fits r
repeats : (whole earlier : List Labels) (v r : Labels) → IsLeast whole r → Fits v r → is_needless whole earlier v ≡ true → HasFit earlier r
repeats whole earlier v r least fit needless =
    elim (list_any (λ w. is_same w v) earlier) as (λ b. list_any (λ w. is_same w v) earlier ≡ b → (b || list_any (λ w. fits_properly w v) whole) ≡ true → HasFit earlier r) [
      | true ↦ λ repeated _.
          let found = Any-from_list_any (λ w. is_same w v) earlier repeated in
          let under = (fits-Fits found.1 v).0 (and_parts _ _ found.4).0 in
          record { variant = found.1; listed = (found.0, found.2, found.3); fits = fits_chain found.1 v r under fit }
      | false ↦ λ _ larger.
          let found = Any-from_list_any (λ w. fits_properly w v) whole larger in
          let parts = and_parts _ _ found.4 in
          let under = (fits-Fits found.1 v).0 parts.0 in
          let over = least found.1 (found.0, found.2, found.3) (fits_chain found.1 v r under fit) in
          absurd (both_ways (fits v found.1) (turned_back _ parts.1) ((fits-Fits v found.1).1 (fits_chain v r found.1 fit over)))
    ] refl needless

-- r is over an earlier variant, or over one that stays: the rest, and v before it unless that is needless
abbrev IsOver : List Labels → Labels → List Labels → Labels → Bool → Type 0
IsOver earlier v rest r needless = HasFit earlier r ⊎ HasFit (cond needless rest (v ∷ rest)) r

over_first : (whole earlier : List Labels) (v : Labels) (rest : List Labels) (r : Labels) → IsLeast whole r → Fits v r → IsOver earlier v rest r (is_needless whole earlier v)
over_first whole earlier v rest r least fit =
    elim (is_needless whole earlier v) as (λ b. is_needless whole earlier v ≡ b → IsOver earlier v rest r b) [
      | true ↦ λ needless. inl (repeats whole earlier v r least fit needless)
      | false ↦ λ _. inr (fit_first v rest r fit)
    ] refl

over_rest : (earlier : List Labels) (v : Labels) (rest : List Labels) (r : Labels) (needless : Bool) → HasFit rest r → IsOver earlier v rest r needless
over_rest earlier v rest r true has = inr has
over_rest earlier v rest r false has = inr (fit_more v rest r has)

-- a variant that no different one of the type fits is over an earlier one, or over one that stays
over_one : (whole earlier later : List Labels) (r : Labels) → IsLeast whole r → HasFit later r → HasFit earlier r ⊎ HasFit (minimal_from whole earlier later) r
over_one whole earlier [] r least has = absurd (nothing_in_none r has)
over_one whole earlier (v ∷ later) r least has = which (first_or_more v later r has) (λ more. over_one whole (earlier ++ v ∷ []) later r least more)
  where
    rest : List Labels
    rest = minimal_from whole (earlier ++ v ∷ []) later

    before : HasFit earlier r ⊎ Fits v r → IsOver earlier v rest r (is_needless whole earlier v)
    before (inl earlier_one) = inl earlier_one
    before (inr fit) = over_first whole earlier v rest r least fit

    behind : HasFit (earlier ++ v ∷ []) r ⊎ HasFit rest r → IsOver earlier v rest r (is_needless whole earlier v)
    behind (inl more) = before (before_or_last v earlier r more)
    behind (inr more) = over_rest earlier v rest r (is_needless whole earlier v) more

    which : Fits v r ⊎ HasFit later r → (HasFit later r → HasFit (earlier ++ v ∷ []) r ⊎ HasFit rest r) → IsOver earlier v rest r (is_needless whole earlier v)
    which (inl fit) next = over_first whole earlier v rest r least fit
    which (inr more) next = behind (next more)

over_kept : (whole : List Labels) (v : Labels) → Below whole whole v → HasFit (minimal whole) v
over_kept whole v lower = which (over_one whole [] whole lower.variant lower.least (of_itself whole lower.variant lower.listed))
  where
    which : HasFit [] lower.variant ⊎ HasFit (minimal whole) lower.variant → HasFit (minimal whole) v
    which (inl none) = absurd (nothing_in_none lower.variant none)
    which (inr has) = record { variant = has.variant; listed = has.listed; fits = fits_chain has.variant lower.variant v has.fits lower.fits }

pub minimal-wider : (whole : List Labels) → IsSubtype whole (minimal whole)
minimal-wider whole =
    let listed = All-contains_itself whole in
    All-weaker (Contains whole) (HasFit (minimal whole)) (λ v there. over_kept whole v (below whole whole listed v there)) whole listed
