-- A row more, no row more, and no room for one.
use Rattle.std.proofs.Common.{true, false, cond, Some, ◌≡◌, ◌⊎◌, inl, inr, ◌<◌, ◌≤◌, List, [], ◌∷◌, length, refl, sym, ap, ◌∙◌, subst, arith, length-append}
use Rattle.std.specs.Prelude.{unwrap_or}
use Rattle.std.specs.Option.{option_map}
use Rattle.std.proofs.lemmas.List.{map-append}
use Rattle.std.proofs.Math.ListN.{length-map}
use Rattle.std.specs.List.{Contains}
use Rattle.std.proofs.lemmas.List.Elements.{Contains-append_left, Contains-append_right, Contains-append_cases}
use Rattle.sn_record.specs.LabelSet.{Labels}
use Rattle.sn_typing.specs.Outline.{Outline}
use Rattle.sn_typing.specs.Reached.{Turn}
use Rattle.sn_typing.specs.Accepted.{IsReached, most_variants}
use Rattle.sn_flow.specs.declared.table.Row.{Row}
use Rattle.sn_flow.specs.declared.table.Table.{Table}
use Rattle.sn_flow.specs.Tables.{AreDistinct, Came, Holds, Inner, IsFlow, RowsHold, rows_of, variants_of}
use Rattle.sn_types.specs.RecordType.{is_same}
use Rattle.sn_flow.specs.Places.{first_of}
use Rattle.sn_flow.specs.Visits.{AddsRow, Refuted, Visits, flow_in, row_of}
use Rattle.sn_flow.proofs.Lists.{cases, none, head, unmapped, distinct_push, too_many}

-- no row is of the variant
abbrev pub IsNew : Table → Labels → Type 0
IsNew t v = Contains (variants_of (rows_of t)) v → ⊥

module _ (net : Outline) (v : Labels) (before t : Table) (flow : List Labels) (adds : AddsRow net v before t flow) where
  old_row : (row : Row) → Contains (rows_of before) row → Contains (rows_of t) row
  old_row row there = subst (λ rows. Contains rows row) (sym adds.rows) (Contains-append_left (rows_of before) (row_of v flow ∷ []) row there)

  new_row : Contains (rows_of t) (row_of v flow)
  new_row = subst (λ rows. Contains rows (row_of v flow)) (sym adds.rows) (Contains-append_right (rows_of before) (row_of v flow ∷ []) (row_of v flow) (head (row_of v flow) []))

  which_row : (row : Row) → Contains (rows_of t) row → Contains (rows_of before) row ⊎ (row_of v flow ≡ row)
  which_row row there = at (Contains-append_cases (rows_of before) (row_of v flow ∷ []) row (subst (λ rows. Contains rows row) adds.rows there))
    where
      last : (row_of v flow ≡ row) ⊎ Contains [] row → Contains (rows_of before) row ⊎ (row_of v flow ≡ row)
      last (inl same) = inr same
      last (inr nothing) = absurd (none row nothing)

      at : Contains (rows_of before) row ⊎ Contains (row_of v flow ∷ []) row → Contains (rows_of before) row ⊎ (row_of v flow ≡ row)
      at (inl front) = inl front
      at (inr back) = last (cases (row_of v flow) [] row back)

  rows_hold : IsNew before v → length (rows_of before) < most_variants → Holds net before → RowsHold net t
  rows_hold new room holds = record {
    few = subst (λ rows. length rows ≤ most_variants) (sym adds.rows) (omega (arith, length-append (rows_of before) (row_of v flow ∷ []), room));
    distinct = subst AreDistinct (sym (ap variants_of adds.rows ∙ map-append (λ (row : Row). row.variant) (rows_of before) (row_of v flow ∷ []))) (distinct_push (variants_of (rows_of before)) v holds.0.distinct new);
    covered = λ row there. at row (which_row row there);
  }
    where
      at : (row : Row) → Contains (rows_of before) row ⊎ (row_of v flow ≡ row) → IsFlow net row.variant row.flow × Inner net t row.variant
      at row (inl old) = let known = holds.0.covered row old in (known.0, adds.keeps row.variant known.1)
      at row (inr same) = subst (λ (r : Row). IsFlow net r.variant r.flow × Inner net t r.variant) same (adds.is holds, adds.inner holds)

  pub row_added : IsNew before v → length (rows_of before) < most_variants → Visits net v before t
  row_added new room = record {
    holds = λ holds. (rows_hold new room holds, adds.holds holds);
    covers = λ holds. (record { row = row_of v flow; listed = new_row; variant = refl; flow = adds.is holds }, adds.inner holds);
    keeps = λ u known. (record { row = known.0.row; listed = old_row known.0.row known.0.listed; variant = known.0.variant; flow = known.0.flow }, adds.keeps u known.1);
    came = λ root input way holds reached came. (λ row there. at root input way reached came row (which_row row there), adds.came root input way holds reached came);
  }
    where
      at : (root : Outline) (input : List Labels) (way : List Turn) → IsReached root input way net v → Came root input way net before
          → (row : Row) → Contains (rows_of before) row ⊎ (row_of v flow ≡ row) → IsReached root input way net row.variant
      at root input way reached came row (inl old) = came.0 row old
      at root input way reached came row (inr same) = subst (λ (r : Row). IsReached root input way net r.variant) same reached

-- a variant that has a row is known
pub row_known : (net : Outline) (v : Labels) (t : Table) → Contains (variants_of (rows_of t)) v → Visits net v t t
row_known net v t there = record {
  holds = λ holds. holds;
  covers = λ holds.
      let found = unmapped (λ (row : Row). row.variant) (rows_of t) v there in
      let known = holds.0.covered found.origin found.listed in (
        record { row = found.origin; listed = found.listed; variant = found.is; flow = subst (λ (u : Labels). IsFlow net u found.origin.flow) found.is known.0 },
        subst (Inner net t) found.is known.1,
      );
  keeps = λ u known. known;
  came = λ root input way holds reached came. came;
}

-- where there is no room for a new row, too many variants reach the part
pub no_room : (net : Outline) (v : Labels) (t : Table) → IsNew t v → most_variants ≤ length (rows_of t) → Refuted net v t
no_room net v t new full holds root input way reached came bounded =
    too_many (variants_of (rows_of t)) v (IsReached root input way net) holds.0.distinct new
    (omega (arith, full, length-map (rows_of t) (λ (row : Row). row.variant)))
    (λ u there. let found = unmapped (λ (row : Row). row.variant) (rows_of t) u there in subst (IsReached root input way net) found.is (came.0 found.origin found.listed))
    reached (bounded.parts way net)

-- the flow of a variant is that of the first row of it
pub flow_found : (rows : List Row) (v : Labels) → flow_in rows v ≡ unwrap_or (option_map (λ (row : Row). row.flow) (first_of (λ (row : Row). row.variant) rows v)) []
flow_found [] v = refl
flow_found (row ∷ rows) v =
    elim (is_same row.variant v) as (λ b. cond b row.flow (flow_in rows v) ≡ unwrap_or (option_map (λ (r : Row). r.flow) (cond b (Some row) (first_of (λ (r : Row). r.variant) rows v))) []) [
      | true ↦ refl
      | false ↦ flow_found rows v
    ]
