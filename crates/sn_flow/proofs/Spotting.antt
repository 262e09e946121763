-- The spots of a table are the reached pairs without a route.
use Rattle.std.proofs.Common.{◌≡◌, ◌⊎◌, inl, inr, ℕ, zero, suc, ◌<◌, Bool, true, false, List, [], ◌∷◌, ◌++◌, length, refl, sym, ap, ◌∙◌, subst, arith}
use Rattle.std.specs.Prelude.{if◌then◌else◌}
use Rattle.std.specs.List.{Contains}
use Rattle.std.proofs.lemmas.List.Elements.{Contains-append_left, Contains-append_right, Contains-append_cases}
use Rattle.std.proofs.lemmas.Option.{slice_get_within}
use Rattle.sn_record.specs.LabelSet.{Labels, contains, union}
use Rattle.sn_net.specs.Filter.{tag}
use Rattle.sn_types.specs.RecordType.{has_fit}
use Rattle.sn_types.proofs.Subtypes.{has_fit-HasFit}
use Rattle.sn_typing.specs.Outline.{Outline, Component, Series, Choice, Star, Split}
use Rattle.sn_types.specs.RecordType.{HasFit}
use Rattle.sn_typing.specs.Flow.{IsRouted}
use Rattle.sn_typing.specs.Reached.{Turn, Left, Right, Branch, Body, Reached, Reached.{here, left, right, branch, inside, replica}}
use Rattle.sn_flow.specs.declared.spots.Spot.{Spot}
use Rattle.sn_flow.specs.declared.table.Row.{Row}
use Rattle.sn_flow.specs.declared.table.Table.{Table}
use Rattle.sn_flow.specs.Tables.{Covers, child, rows_of}
use Rattle.sn_flow.specs.Rows.{RowAt, RowAt.{here as row_here, left as row_left, right as row_right, branch as row_branch, inside as row_inside, replica as row_replica}}
use Rattle.sn_flow.specs.Spots.{is_routed, joined, place_of, row_spots, spot, spots}
use Rattle.sn_flow.specs.Taken.{is_taken}
use Rattle.sn_flow.proofs.Taking.{is_taken-Takes}
use Rattle.sn_flow.proofs.Goings.{face_found, no_face}
use Rattle.sn_flow.proofs.Lists.{behind, cases, head, none}

pub either : {A B C : Type 0} → A ⊎ B → (A → C) → (B → C) → C
either (inl a) f g = f a
either (inr b) f g = g b

pub truth : (b : Bool) → (b ≡ true) ⊎ (b ≡ false)
truth true = inl refl
truth false = inr refl

differ : (b : Bool) → b ≡ true → b ≡ false → ⊥
differ true e f = cc
differ false e f = cc

pub has_is : (variants : List Labels) (v : Labels) → has_fit variants v ≡ true → HasFit variants v
has_is variants v e = (has_fit-HasFit variants v).0 e

pub has_not : (variants : List Labels) (v : Labels) → has_fit variants v ≡ false → HasFit variants v → ⊥
has_not variants v e has = differ (has_fit variants v) ((has_fit-HasFit variants v).1 has) e

pub routed_is : (net : Outline) (v : Labels) → is_routed net v ≡ true → IsRouted net v
routed_is (Component place takes named outputs) v e = (is_taken-Takes takes v).0 e
routed_is (Series a b) v e = tt
routed_is (Choice place faces branches) v e = face_found faces v true (sym e) refl
routed_is (Star exit guarded body) v e = tt
routed_is (Split place id body) v e = e

pub routed_not : (net : Outline) (v : Labels) → is_routed net v ≡ false → IsRouted net v → ⊥
routed_not (Component place takes named outputs) v e is = differ (is_taken takes v) ((is_taken-Takes takes v).1 is) e
routed_not (Series a b) v e is = differ true refl e
routed_not (Choice place faces branches) v e is = no_face faces v false (sym e) refl is
routed_not (Star exit guarded body) v e is = differ true refl e
routed_not (Split place id body) v e is = differ (contains v (tag id)) is e

-- rows
pub record Origin (net : Outline) (rows : List Row) (s : Spot) : Type 0 where
  pub row : Row
  pub listed : Contains rows row
  pub is : spot (place_of net) row.variant ≡ s
  pub unrouted : is_routed net row.variant ≡ false

later : (net : Outline) (row : Row) (rows : List Row) (s : Spot) → Origin net rows s → Origin net (row ∷ rows) s
later net row rows s o = record { row = o.row; listed = behind row rows o.row o.listed; is = o.is; unrouted = o.unrouted }

origin : (net : Outline) (rows : List Row) (s : Spot) → Contains (row_spots net rows) s → Origin net rows s
origin net [] s there = absurd (none s there)
origin net (row ∷ rows) s there = at (is_routed net row.variant) refl there (λ rest. origin net rows s rest)
  where
    at : (t : Bool) → is_routed net row.variant ≡ t → Contains (if t then row_spots net rows else spot (place_of net) row.variant ∷ row_spots net rows) s
        → (Contains (row_spots net rows) s → Origin net rows s) → Origin net (row ∷ rows) s
    at true is listed rest = later net row rows s (rest listed)
    at false is listed rest = either (cases (spot (place_of net) row.variant) (row_spots net rows) s listed)
        (λ same. record { row = row; listed = head row rows; is = same; unrouted = is })
        (λ more. later net row rows s (rest more))

row_spotted : (net : Outline) (rows : List Row) (row : Row) → Contains rows row → is_routed net row.variant ≡ false → Contains (row_spots net rows) (spot (place_of net) row.variant)
row_spotted net [] row there not = absurd (none row there)
row_spotted net (first ∷ rows) row there not = at (is_routed net first.variant) refl (cases first rows row there) (λ rest. row_spotted net rows row rest not)
  where
    at : (t : Bool) → is_routed net first.variant ≡ t → (first ≡ row) ⊎ Contains rows row → (Contains rows row → Contains (row_spots net rows) (spot (place_of net) row.variant))
        → Contains (if t then row_spots net rows else spot (place_of net) first.variant ∷ row_spots net rows) (spot (place_of net) row.variant)
    at true is (inl same) rest = absurd (differ (is_routed net first.variant) is (ap (λ (r : Row). is_routed net r.variant) same ∙ not))
    at true is (inr more) rest = rest more
    at false is (inl same) rest = subst (λ (r : Row). Contains (spot (place_of net) first.variant ∷ row_spots net rows) (spot (place_of net) r.variant)) same (head (spot (place_of net) first.variant) (row_spots net rows))
    at false is (inr more) rest = behind (spot (place_of net) first.variant) (row_spots net rows) (spot (place_of net) row.variant) (rest more)

-- parts
record Part (n : ℕ) (each : ℕ → List Spot) (s : Spot) : Type 0 where
  index : ℕ
  listed : Contains (each index) s

part_of : (n : ℕ) (each : ℕ → List Spot) (s : Spot) → Contains (joined n each) s → Part n each s
part_of zero each s there = absurd (none s there)
part_of (suc n) each s there = either (Contains-append_cases (joined n each) (each n) s there)
    (λ before. let found = part_of n each s before in record { index = found.index; listed = found.listed })
    (λ last. record { index = n; listed = last })

below_cases : (i n : ℕ) → i < suc n → (i ≡ n) ⊎ (i < n)
below_cases zero zero b = inl refl
below_cases zero (suc n) b = inr (omega arith)
below_cases (suc i) zero b = absurd (omega (arith, b))
below_cases (suc i) (suc n) b = either (below_cases i n (omega (arith, b))) (λ same. inl (ap suc same)) (λ less. inr (omega (arith, less)))

in_part : (n : ℕ) (each : ℕ → List Spot) (i : ℕ) (s : Spot) → i < n → Contains (each i) s → Contains (joined n each) s
in_part zero each i s below there = absurd (omega (arith, below))
in_part (suc n) each i s below there = either (below_cases i n below)
    (λ same. Contains-append_right (joined n each) (each n) s (subst (λ (k : ℕ). Contains (each k) s) same there))
    (λ less. Contains-append_left (joined n each) (each n) s (in_part n each i s less there))

-- each spot is of a row without a route
pub record Spotted (net : Outline) (t : Table) (s : Spot) : Type 0 where
  pub way : List Turn
  pub part : Outline
  pub variant : Labels
  pub at : RowAt net t way part variant
  pub is : spot (place_of part) variant ≡ s
  pub unrouted : is_routed part variant ≡ false

own : (net : Outline) (t : Table) (s : Spot) → Contains (row_spots net (rows_of t)) s → Spotted net t s
own net t s there =
    let o = origin net (rows_of t) s there in
    record { way = []; part = net; variant = o.row.variant; at = row_here net t o.row o.listed; is = o.is; unrouted = o.unrouted }

pub spotted : (net : Outline) (t : Table) (s : Spot) → Contains (spots net t) s → Spotted net t s
spotted (Component place takes named outputs) t s there = own (Component place takes named outputs) t s there
spotted (Series a b) t s there =
    either (Contains-append_cases (row_spots (Series a b) (rows_of t)) (spots a (child t 0) ++ spots b (child t 1)) s there)
    (λ first. own (Series a b) t s first)
    (λ rest. either (Contains-append_cases (spots a (child t 0)) (spots b (child t 1)) s rest)
    (λ l. let f = spotted a (child t 0) s l in
    record { way = Left ∷ f.way; part = f.part; variant = f.variant; at = row_left a b t f.way f.part f.variant f.at; is = f.is; unrouted = f.unrouted })
    (λ r. let f = spotted b (child t 1) s r in
    record { way = Right ∷ f.way; part = f.part; variant = f.variant; at = row_right a b t f.way f.part f.variant f.at; is = f.is; unrouted = f.unrouted }))
spotted (Choice place faces branches) t s there =
    either (Contains-append_cases (row_spots (Choice place faces branches) (rows_of t)) (joined (length faces) (λ i. spots (branches i) (child t i))) s there)
    (λ first. own (Choice place faces branches) t s first)
    (λ rest. let p = part_of (length faces) (λ i. spots (branches i) (child t i)) s rest in
    let f = spotted (branches p.index) (child t p.index) s p.listed in
    record { way = Branch p.index ∷ f.way; part = f.part; variant = f.variant; at = row_branch place faces branches t p.index f.way f.part f.variant f.at; is = f.is; unrouted = f.unrouted })
spotted (Star exit guarded body) t s there =
    either (Contains-append_cases (row_spots (Star exit guarded body) (rows_of t)) (spots body (child t 0)) s there)
    (λ first. own (Star exit guarded body) t s first)
    (λ rest. let f = spotted body (child t 0) s rest in
    record { way = Body ∷ f.way; part = f.part; variant = f.variant; at = row_inside exit guarded body t f.way f.part f.variant f.at; is = f.is; unrouted = f.unrouted })
spotted (Split place id body) t s there =
    either (Contains-append_cases (row_spots (Split place id body) (rows_of t)) (spots body (child t 0)) s there)
    (λ first. own (Split place id body) t s first)
    (λ rest. let f = spotted body (child t 0) s rest in
    record { way = Body ∷ f.way; part = f.part; variant = f.variant; at = row_replica place id body t f.way f.part f.variant f.at; is = f.is; unrouted = f.unrouted })

-- and each reached pair without a route is a spot
covered_spot : (net : Outline) (v : Labels) (t : Table) → Covers net t v → is_routed net v ≡ false → Contains (row_spots net (rows_of t)) (spot (place_of net) v)
covered_spot net v t covers not =
    subst (λ (u : Labels). Contains (row_spots net (rows_of t)) (spot (place_of net) u)) covers.0.variant
    (row_spotted net (rows_of t) covers.0.row covers.0.listed (ap (is_routed net) covers.0.variant ∙ not))

own_spots : (net : Outline) (t : Table) (s : Spot) → Contains (row_spots net (rows_of t)) s → Contains (spots net t) s
own_spots (Component place takes named outputs) t s there = there
own_spots (Series a b) t s there = Contains-append_left (row_spots (Series a b) (rows_of t)) (spots a (child t 0) ++ spots b (child t 1)) s there
own_spots (Choice place faces branches) t s there = Contains-append_left (row_spots (Choice place faces branches) (rows_of t)) (joined (length faces) (λ i. spots (branches i) (child t i))) s there
own_spots (Star exit guarded body) t s there = Contains-append_left (row_spots (Star exit guarded body) (rows_of t)) (spots body (child t 0)) s there
own_spots (Split place id body) t s there = Contains-append_left (row_spots (Split place id body) (rows_of t)) (spots body (child t 0)) s there

pub reached_spot : (net : Outline) (v : Labels) (way : List Turn) (part : Outline) (u : Labels) (t : Table) → Reached net v way part u → Covers net t v → is_routed part u ≡ false → Contains (spots net t) (spot (place_of part) u)
reached_spot net v way part u t (here net' v') covers not = own_spots net t (spot (place_of net) v) (covered_spot net v t covers not)
reached_spot net v way part u t (left a b v' way' part' u' reached) covers not =
    Contains-append_right (row_spots (Series a b) (rows_of t)) (spots a (child t 0) ++ spots b (child t 1)) (spot (place_of part) u)
    (Contains-append_left (spots a (child t 0)) (spots b (child t 1)) (spot (place_of part) u) (reached_spot a v way' part u (child t 0) reached covers.1.0 not))
reached_spot net v way part u t (right a b v' w way' part' u' flow reached) covers not =
    Contains-append_right (row_spots (Series a b) (rows_of t)) (spots a (child t 0) ++ spots b (child t 1)) (spot (place_of part) u)
    (Contains-append_right (spots a (child t 0)) (spots b (child t 1)) (spot (place_of part) u) (reached_spot b w way' part u (child t 1) reached (covers.1.1 w flow) not))
reached_spot net v way part u t (branch place faces branches v' i w way' part' u' has unbeaten reached) covers not =
    Contains-append_right (row_spots (Choice place faces branches) (rows_of t)) (joined (length faces) (λ j. spots (branches j) (child t j))) (spot (place_of part) u)
    (in_part (length faces) (λ j. spots (branches j) (child t j)) i (spot (place_of part) u) (slice_get_within faces i unbeaten.own.face unbeaten.own.here)
    (reached_spot (branches i) (union v w) way' part u (child t i) reached (covers.1 has i w unbeaten) not))
reached_spot net v way part u t (inside exit guarded body v' w way' part' u' come stays reached) covers not =
    Contains-append_right (row_spots (Star exit guarded body) (rows_of t)) (spots body (child t 0)) (spot (place_of part) u) (reached_spot body w way' part u (child t 0) reached (covers.1.1 w come stays) not)
reached_spot net v way part u t (replica place id body v' way' part' u' there reached) covers not =
    Contains-append_right (row_spots (Split place id body) (rows_of t)) (spots body (child t 0)) (spot (place_of part) u) (reached_spot body v way' part u (child t 0) reached (covers.1 there) not)
