-- Tables of nothing.
use Rattle.std.proofs.Common.{◌≡◌, ◌≤◌, ℕ, List, [], ◌∷◌, ◌++◌, length, sym, ap, subst, arith}
use Rattle.std.specs.List.{Contains}
use Rattle.sn_record.specs.LabelSet.{Labels}
use Rattle.sn_typing.specs.Outline.{Outline, Component, Series, Choice, Star, Split}
use Rattle.sn_typing.specs.Reached.{Turn, Left, Right, Branch, Body}
use Rattle.sn_typing.specs.Accepted.{most_variants}
use Rattle.sn_flow.specs.declared.table.Row.{Row}
use Rattle.sn_flow.specs.declared.table.Table.{Table}
use Rattle.sn_flow.specs.declared.table.Table.TheOpen.{Table-F}
use Rattle.sn_flow.specs.declared.table.Table.TheViews.{out-Table, out-roll-Table}
use Rattle.sn_flow.specs.Tables.{AreDistinct, Came, Holds, RowsHold, child, no_table, part_at, rows_of, variants_of}
use Rattle.sn_flow.proofs.Lists.{none}

opened : out-Table no_table ≡ record { rows = []; parts = [] }
opened = out-roll-Table (record { rows = []; parts = [] })

no_rows : rows_of no_table ≡ []
no_rows = ap (λ (t : Table-F Table). t.rows) opened

no_child : (i : ℕ) → child no_table i ≡ no_table
no_child i = ap (λ (t : Table-F Table). part_at t.parts i) opened

no_row : (row : Row) → Contains (rows_of no_table) row → ⊥
no_row row there = none row (subst (λ (rows : List Row). Contains rows row) no_rows there)

rows_hold : (net : Outline) → RowsHold net no_table
rows_hold net = record {
  few = subst (λ (rows : List Row). length rows ≤ most_variants) (sym no_rows) (omega arith);
  distinct = subst (λ (rows : List Row). AreDistinct (variants_of rows)) (sym no_rows) tt;
  covered = λ row there. absurd (no_row row there);
}

at_child : (i : ℕ) (net : Outline) → Holds net no_table → Holds net (child no_table i)
at_child i net holds = subst (Holds net) (sym (no_child i)) holds

pub empty_holds : (net : Outline) → Holds net no_table
empty_holds (Component place takes named outputs) = (rows_hold (Component place takes named outputs), tt)
empty_holds (Series a b) = (rows_hold (Series a b), (at_child 0 a (empty_holds a), at_child 1 b (empty_holds b)))
empty_holds (Choice place faces branch) = (rows_hold (Choice place faces branch), λ i. at_child i (branch i) (empty_holds (branch i)))
empty_holds (Star exit guarded body) = (rows_hold (Star exit guarded body), at_child 0 body (empty_holds body))
empty_holds (Split place id body) = (rows_hold (Split place id body), at_child 0 body (empty_holds body))

module _ (root : Outline) (input : List Labels) where
  came_child : (i : ℕ) (way : List Turn) (net : Outline) → Came root input way net no_table → Came root input way net (child no_table i)
  came_child i way net came = subst (Came root input way net) (sym (no_child i)) came

  pub empty_came : (way : List Turn) (net : Outline) → Came root input way net no_table
  empty_came way (Component place takes named outputs) = (λ row there. absurd (no_row row there), tt)
  empty_came way (Series a b) = (λ row there. absurd (no_row row there), (came_child 0 (way ++ Left ∷ []) a (empty_came (way ++ Left ∷ []) a), came_child 1 (way ++ Right ∷ []) b (empty_came (way ++ Right ∷ []) b)))
  empty_came way (Choice place faces branch) = (λ row there. absurd (no_row row there), λ i. came_child i (way ++ Branch i ∷ []) (branch i) (empty_came (way ++ Branch i ∷ []) (branch i)))
  empty_came way (Star exit guarded body) = (λ row there. absurd (no_row row there), came_child 0 (way ++ Body ∷ []) body (empty_came (way ++ Body ∷ []) body))
  empty_came way (Split place id body) = (λ row there. absurd (no_row row there), came_child 0 (way ++ Body ∷ []) body (empty_came (way ++ Body ∷ []) body))
