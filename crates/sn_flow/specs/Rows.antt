-- Rows at any depth.
use Rattle.std.specs.Prelude.{ℕ, List, [], ◌∷◌}
use Rattle.std.specs.List.{Contains}
use Rattle.sn_record.specs.LabelSet.{Labels}
use Rattle.sn_typing.specs.Outline.{Outline, Series, Choice, Star, Split}
use Rattle.sn_typing.specs.Reached.{Turn, Left, Right, Branch, Body}
use Rattle.sn_flow.specs.declared.table.Row.{Row}
use Rattle.sn_flow.specs.declared.table.Table.{Table}
use Rattle.sn_flow.specs.Tables.{child, rows_of}

-- the table of the part at the way has a row for the variant
pub data RowAt : Outline → Table → List Turn → Outline → Labels → Type 0 where
  here : (net : Outline) (t : Table) (row : Row) → Contains (rows_of t) row → RowAt net t [] net row.variant
  left : (a b : Outline) (t : Table) (way : List Turn) (part : Outline) (u : Labels) → RowAt a (child t 0) way part u → RowAt (Series a b) t (Left ∷ way) part u
  right : (a b : Outline) (t : Table) (way : List Turn) (part : Outline) (u : Labels) → RowAt b (child t 1) way part u → RowAt (Series a b) t (Right ∷ way) part u
  branch : (place : ℕ) (faces : List (List Labels)) (branches : ℕ → Outline) (t : Table) (i : ℕ) (way : List Turn) (part : Outline) (u : Labels)
      → RowAt (branches i) (child t i) way part u → RowAt (Choice place faces branches) t (Branch i ∷ way) part u
  inside : (exit : Labels) (guarded : _) (body : Outline) (t : Table) (way : List Turn) (part : Outline) (u : Labels) → RowAt body (child t 0) way part u → RowAt (Star exit guarded body) t (Body ∷ way) part u
  replica : (place id : ℕ) (body : Outline) (t : Table) (way : List Turn) (part : Outline) (u : Labels) → RowAt body (child t 0) way part u → RowAt (Split place id body) t (Body ∷ way) part u
