-- What a table that holds says of the network: that it is bounded, and what reaches its parts.
use Rattle.std.proofs.Common.{◌≤◌, List, [], ◌∷◌, ◌++◌, length, sym, subst, arith, append_assoc, append-nil}
use Rattle.std.specs.List.{Contains}
use Rattle.std.proofs.Math.ListN.{length-map}
use Rattle.sn_record.specs.LabelSet.{Labels, union}
use Rattle.sn_typing.specs.Outline.{Outline, Component, Series, Choice, Star, Split}
use Rattle.sn_typing.specs.Reached.{Turn, Left, Right, Branch, Body, Reached, Reached.{here, left, right, branch, inside, replica}}
use Rattle.sn_typing.specs.Accepted.{AreFew, ComesTo, IsBounded, IsReached, most_variants}
use Rattle.sn_flow.specs.declared.table.Row.{Row}
use Rattle.sn_flow.specs.declared.table.Table.{Table}
use Rattle.sn_flow.specs.Tables.{Came, Covers, Holds, child, rows_of, variants_of}
use Rattle.sn_flow.specs.Rows.{RowAt, RowAt.{here as row_here, left as row_left, right as row_right, branch as row_branch, inside as row_inside, replica as row_replica}}
use Rattle.sn_flow.proofs.Lists.{mapped}

-- the table of the part at the way
abbrev pub table_at : Table → List Turn → Table
table_at t [] = t
table_at t (Left ∷ way) = table_at (child t 0) way
table_at t (Right ∷ way) = table_at (child t 1) way
table_at t (Branch i ∷ way) = table_at (child t i) way
table_at t (Body ∷ way) = table_at (child t 0) way

-- what is reached from a variant that is covered is covered
pub covers_reached : (net : Outline) (v : Labels) (way : List Turn) (part : Outline) (u : Labels) (t : Table) → Reached net v way part u → Covers net t v → Covers part (table_at t way) u
covers_reached net v way part u t (here net' v') covers = covers
covers_reached net v way part u t (left a b v' way' part' u' reached) covers = covers_reached a v way' part u (child t 0) reached covers.1.0
covers_reached net v way part u t (right a b v' w way' part' u' flow reached) covers = covers_reached b w way' part u (child t 1) reached (covers.1.1 w flow)
covers_reached net v way part u t (branch place faces branches v' i w way' part' u' has unbeaten reached) covers =
    covers_reached (branches i) (union v w) way' part u (child t i) reached (covers.1 has i w unbeaten)
covers_reached net v way part u t (inside exit guarded body v' w way' part' u' come stays reached) covers =
    covers_reached body w way' part u (child t 0) reached (covers.1.1 w come stays)
covers_reached net v way part u t (replica place id body v' way' part' u' there reached) covers = covers_reached body v way' part u (child t 0) reached (covers.1 there)

-- the variants of the rows of the part at the way; where no such part is, none
abbrev pub variants_at : Outline → Table → List Turn → List Labels
variants_at net t [] = variants_of (rows_of t)
variants_at (Series a b) t (Left ∷ way) = variants_at a (child t 0) way
variants_at (Series a b) t (Right ∷ way) = variants_at b (child t 1) way
variants_at (Choice place faces branches) t (Branch i ∷ way) = variants_at (branches i) (child t i) way
variants_at (Star exit guarded body) t (Body ∷ way) = variants_at body (child t 0) way
variants_at (Split place id body) t (Body ∷ way) = variants_at body (child t 0) way
variants_at net t way = []

few_at : (net : Outline) (t : Table) (way : List Turn) → Holds net t → length (variants_at net t way) ≤ most_variants
few_at net t [] holds = omega (arith, length-map (rows_of t) (λ (row : Row). row.variant), holds.0.few)
few_at (Series a b) t (Left ∷ way) holds = few_at a (child t 0) way holds.1.0
few_at (Series a b) t (Right ∷ way) holds = few_at b (child t 1) way holds.1.1
few_at (Choice place faces branches) t (Branch i ∷ way) holds = few_at (branches i) (child t i) way (holds.1 i)
few_at (Star exit guarded body) t (Body ∷ way) holds = few_at body (child t 0) way holds.1
few_at (Split place id body) t (Body ∷ way) holds = few_at body (child t 0) way holds.1
few_at net t way holds = omega arith

-- what is reached from a variant that is covered is among them
listed_at : (net : Outline) (v : Labels) (way : List Turn) (part : Outline) (u : Labels) (t : Table) → Reached net v way part u → Covers net t v → Contains (variants_at net t way) u
listed_at net v way part u t (here net' v') covers = subst (Contains (variants_of (rows_of t))) covers.0.variant (mapped (λ (row : Row). row.variant) (rows_of t) covers.0.row covers.0.listed)
listed_at net v way part u t (left a b v' way' part' u' reached) covers = listed_at a v way' part u (child t 0) reached covers.1.0
listed_at net v way part u t (right a b v' w way' part' u' flow reached) covers = listed_at b w way' part u (child t 1) reached (covers.1.1 w flow)
listed_at net v way part u t (branch place faces branches v' i w way' part' u' has unbeaten reached) covers =
    listed_at (branches i) (union v w) way' part u (child t i) reached (covers.1 has i w unbeaten)
listed_at net v way part u t (inside exit guarded body v' w way' part' u' come stays reached) covers = listed_at body w way' part u (child t 0) reached (covers.1.1 w come stays)
listed_at net v way part u t (replica place id body v' way' part' u' there reached) covers = listed_at body v way' part u (child t 0) reached (covers.1 there)

nothing_comes : (among : Labels → Type 0) → ((v : Labels) → among v → ⊥) → AreFew among
nothing_comes among never = record { all = []; few = omega arith; listed = λ v is. absurd (never v is) }

few_come : (part : Outline) (t : Table) (u : Labels) → Covers part t u → AreFew (ComesTo part u)
few_come (Component place takes named outputs) t u covers = nothing_comes (ComesTo (Component place takes named outputs) u) (λ v is. is)
few_come (Series a b) t u covers = nothing_comes (ComesTo (Series a b) u) (λ v is. is)
few_come (Choice place faces branches) t u covers = nothing_comes (ComesTo (Choice place faces branches) u) (λ v is. is)
few_come (Star exit guarded body) t u covers = covers.1.0
few_come (Split place id body) t u covers = nothing_comes (ComesTo (Split place id body) u) (λ v is. is)

module _ (net : Outline) (input : List Labels) (t : Table) (holds : Holds net t) (covers : (v : Labels) → Contains input v → Covers net t v) where
  -- the network is bounded
  pub table_bounded : IsBounded net input
  table_bounded = record {
    parts = λ way part. record {
      all = variants_at net t way;
      few = few_at net t way holds;
      listed = λ u is. listed_at net is.variant way part u t is.reached (covers is.variant is.listed);
    };
    flows = λ way part u is.
        let known = covers_reached net is.variant way part u t is.reached (covers is.variant is.listed) in
        record { all = known.0.row.flow; few = known.0.flow.few; listed = λ w flow. (known.0.flow.same w).1 flow };
    stars = λ way part u is. few_come part (table_at t way) u (covers_reached net is.variant way part u t is.reached (covers is.variant is.listed));
  }

-- each row is of a variant that reaches its part
pub row_reached : (root : Outline) (input : List Labels) (before : List Turn) (net : Outline) (t : Table) (way : List Turn) (part : Outline) (u : Labels)
    → Came root input before net t → RowAt net t way part u → IsReached root input (before ++ way) part u
row_reached root input before net t way part u came (row_here net' t' row there) =
    subst (λ ws. IsReached root input ws net row.variant) (sym (append-nil before)) (came.0 row there)
row_reached root input before net t way part u came (row_left a b t' way' part' u' at) =
    subst (λ ws. IsReached root input ws part u) (append_assoc before (Left ∷ []) way') (row_reached root input (before ++ Left ∷ []) a (child t 0) way' part u came.1.0 at)
row_reached root input before net t way part u came (row_right a b t' way' part' u' at) =
    subst (λ ws. IsReached root input ws part u) (append_assoc before (Right ∷ []) way') (row_reached root input (before ++ Right ∷ []) b (child t 1) way' part u came.1.1 at)
row_reached root input before net t way part u came (row_branch place faces branches t' i way' part' u' at) =
    subst (λ ws. IsReached root input ws part u) (append_assoc before (Branch i ∷ []) way') (row_reached root input (before ++ Branch i ∷ []) (branches i) (child t i) way' part u (came.1 i) at)
row_reached root input before net t way part u came (row_inside exit guarded body t' way' part' u' at) =
    subst (λ ws. IsReached root input ws part u) (append_assoc before (Body ∷ []) way') (row_reached root input (before ++ Body ∷ []) body (child t 0) way' part u came.1 at)
row_reached root input before net t way part u came (row_replica place id body t' way' part' u' at) =
    subst (λ ws. IsReached root input ws part u) (append_assoc before (Body ∷ []) way') (row_reached root input (before ++ Body ∷ []) body (child t 0) way' part u came.1 at)
