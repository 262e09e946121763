-- The soonest spot, row by row and part by part.
use Rattle.std.proofs.Common.{◌≡◌, ℕ, zero, suc, ◌+◌, ◌<◌, Bool, true, false, List, ◌∷◌, ◌++◌, length, get_or, drop, Option, Some, None, sym, ap, ◌∙◌, subst, arith}
use Rattle.std.specs.Prelude.{if◌then◌else◌, Result, Ok, Err, OnOk}
use Rattle.std.specs.Ordering.{is_lt}
use Rattle.std.proofs.lemmas.List.{drop_more}
use Rattle.sn_record.specs.LabelSet.{Labels}
use Rattle.sn_typing.specs.Outline.{Outline, Component, Series, Choice, Star, Split}
use Rattle.sn_flow.specs.declared.spots.Spot.{Spot}
use Rattle.sn_flow.specs.declared.table.Row.{Row}
use Rattle.sn_flow.specs.declared.table.Table.{Table}
use Rattle.sn_flow.specs.Tables.{child, rows_of}
use Rattle.sn_flow.specs.Visits.{flow_in}
use Rattle.sn_flow.specs.Spots.{bad_spots, flow_spots, is_routed, joined, least, place_of, row_spots, sooner, spot, spot_cmp, spots}
use Rattle.sn_flow.proofs.Least.{least_append}

dropped : {X : Type 0} (xs : List X) (i : ℕ) (x : X) → i < length xs → get_or xs i x ≡ x → drop i xs ≡ x ∷ drop (i + 1) xs
dropped xs i x below here = drop_more xs i x below ∙ ap (λ (y : _). y ∷ drop (i + 1) xs) here

pub bad_goes : (place : ℕ) (output : List Labels) (rows : List Row) (input : List Labels) (i : ℕ) (v : Labels) (best last whole : Option Spot) (flow : List Labels)
    → i < length input → get_or input i v ≡ v → flow ≡ flow_in rows v → last ≡ least best (flow_spots place output flow)
    → least best (bad_spots place output rows (drop i input)) ≡ whole → least last (bad_spots place output rows (drop (i + 1) input)) ≡ whole
bad_goes place output rows input i v best last whole flow below here flow_eq is before =
    ap (λ (b : Option Spot). least b (bad_spots place output rows (drop (i + 1) input))) (is ∙ ap (λ (us : List Labels). least best (flow_spots place output us)) flow_eq)
    ∙ sym (least_append (flow_spots place output (flow_in rows v)) (bad_spots place output rows (drop (i + 1) input)) best)
    ∙ sym (ap (λ (vs : List Labels). least best (bad_spots place output rows vs)) (dropped input i v below here))
    ∙ before

module _ (net : Outline) (rows : List Row) (i : ℕ) (row : Row) (best whole : Option Spot) (below : i < length rows) (here : get_or rows i row ≡ row)
    (before : least best (row_spots net (drop i rows)) ≡ whole) (routed : Bool) (is : routed ≡ is_routed net row.variant) where
  tested : least best (if routed then row_spots net (drop (i + 1) rows) else spot (place_of net) row.variant ∷ row_spots net (drop (i + 1) rows)) ≡ whole
  tested =
      ap (λ (b : Bool). least best (if b then row_spots net (drop (i + 1) rows) else spot (place_of net) row.variant ∷ row_spots net (drop (i + 1) rows))) is
      ∙ sym (ap (λ (rs : List Row). least best (row_spots net rs)) (dropped rows i row below here))
      ∙ before

  pub row_passes : routed ≡ true → least best (row_spots net (drop (i + 1) rows)) ≡ whole
  row_passes so = ap (λ (b : Bool). least best (if b then row_spots net (drop (i + 1) rows) else spot (place_of net) row.variant ∷ row_spots net (drop (i + 1) rows))) (sym so) ∙ tested

  pub row_goes : (last : Option Spot) (p : ℕ) → routed ≡ false → p ≡ place_of net → last ≡ sooner best (spot p row.variant) → least last (row_spots net (drop (i + 1) rows)) ≡ whole
  row_goes last p nay p_is last_is =
      ap (λ (b : Option Spot). least b (row_spots net (drop (i + 1) rows))) (last_is ∙ ap (λ (q : ℕ). sooner best (spot q row.variant)) p_is)
      ∙ ap (λ (b : Bool). least best (if b then row_spots net (drop (i + 1) rows) else spot (place_of net) row.variant ∷ row_spots net (drop (i + 1) rows))) (sym nay) ∙ tested

pub softer : {A E : Type 0} (P Q : Type 0) (r : Result A E) → (P → Q) → OnOk r P → OnOk r Q
softer P Q (Ok x) f p = f p
softer P Q (Err e) f p = p

-- the best so far, and one more
pub better_some : (best : Option Spot) (b s : Spot) (r : Bool) → best ≡ Some b → r ≡ is_lt (spot_cmp s b) → sooner best s ≡ (if r then Some s else best)
better_some best b s r is test = ap (λ (o : Option Spot). sooner o s) is ∙ ap (λ (t : Bool). if t then Some s else Some b) (sym test) ∙ ap (λ (o : Option Spot). if r then Some s else o) (sym is)

pub better_none : (best : Option Spot) (s : Spot) → best ≡ None → sooner best s ≡ Some s
better_none best s is = ap (λ (o : Option Spot). sooner o s) is

pub best_stays : (best : Option Spot) (s : Spot) (r : Bool) → sooner best s ≡ (if r then Some s else best) → r ≡ false → best ≡ sooner best s
best_stays best s r is test = sym (is ∙ ap (λ (t : Bool). if t then Some s else best) test)

pub best_goes : (best last : Option Spot) (s found : Spot) (r : Bool) → sooner best s ≡ (if r then Some s else best) → r ≡ true → found ≡ s → last ≡ Some found → last ≡ sooner best s
best_goes best last s found r is test same new = new ∙ ap (λ (x : Spot). Some x) same ∙ sym (is ∙ ap (λ (t : Bool). if t then Some s else best) test)

module _ (net : Outline) (t : Table) (best own : Option Spot) (rows : List Row) (rows_is : rows ≡ rows_of t) (start : own ≡ least best (row_spots net rows)) where
  begun : own ≡ least best (row_spots net (rows_of t))
  begun = start ∙ ap (λ (rs : List Row). least best (row_spots net rs)) rows_is

  pub leaf_walked : (place : ℕ) (takes : List Labels) (named : Labels) (outputs : List Labels) → net ≡ Component place takes named outputs → own ≡ least best (spots net t)
  leaf_walked place takes named outputs is = subst (λ (o : Outline). own ≡ least best (row_spots o (rows_of t)) → own ≡ least best (spots o t)) (sym is) (λ e. e) begun

  -- behind the rows of the form itself
  then_rest : (o : Outline) (rest : List Spot) (last : Option Spot) → own ≡ least best (row_spots o (rows_of t)) → last ≡ least own rest → last ≡ least best (row_spots o (rows_of t) ++ rest)
  then_rest o rest last e is = is ∙ ap (λ (b : Option Spot). least b rest) e ∙ sym (least_append (row_spots o (rows_of t)) rest best)

  pub series_walked : (a b : Outline) → net ≡ Series a b → (first second : Table) → first ≡ child t 0 → second ≡ child t 1 → (mid last : Option Spot)
      → mid ≡ least own (spots a first) → last ≡ least mid (spots b second) → last ≡ least best (spots net t)
  series_walked a b is first second first_is second_is mid last mid_is last_is =
      subst (λ (o : Outline). own ≡ least best (row_spots o (rows_of t)) → last ≡ least best (spots o t)) (sym is)
      (λ e. then_rest (Series a b) (spots a (child t 0) ++ spots b (child t 1)) last e
      (last_is ∙ ap (λ (s : Table). least mid (spots b s)) second_is ∙ ap (λ (m : Option Spot). least m (spots b (child t 1))) (mid_is ∙ ap (λ (s : Table). least own (spots a s)) first_is)
      ∙ sym (least_append (spots a (child t 0)) (spots b (child t 1)) own)))
      begun

  pub star_walked : (exit : Labels) (guarded : Bool) (body : Outline) → net ≡ Star exit guarded body → (inner : Table) → inner ≡ child t 0 → (last : Option Spot)
      → last ≡ least own (spots body inner) → last ≡ least best (spots net t)
  star_walked exit guarded body is inner inner_is last last_is =
      subst (λ (o : Outline). own ≡ least best (row_spots o (rows_of t)) → last ≡ least best (spots o t)) (sym is)
      (λ e. then_rest (Star exit guarded body) (spots body (child t 0)) last e (last_is ∙ ap (λ (s : Table). least own (spots body s)) inner_is))
      begun

  pub split_walked : (place id : ℕ) (body : Outline) → net ≡ Split place id body → (inner : Table) → inner ≡ child t 0 → (last : Option Spot)
      → last ≡ least own (spots body inner) → last ≡ least best (spots net t)
  split_walked place id body is inner inner_is last last_is =
      subst (λ (o : Outline). own ≡ least best (row_spots o (rows_of t)) → last ≡ least best (spots o t)) (sym is)
      (λ e. then_rest (Split place id body) (spots body (child t 0)) last e (last_is ∙ ap (λ (s : Table). least own (spots body s)) inner_is))
      begun

  pub choice_walked : (place : ℕ) (faces : List (List Labels)) (branches : ℕ → Outline) → net ≡ Choice place faces branches → (n : ℕ) → n ≡ length faces → (last : Option Spot)
      → last ≡ least own (joined n (λ i. spots (branches i) (child t i))) → last ≡ least best (spots net t)
  choice_walked place faces branches is n n_is last last_is =
      subst (λ (o : Outline). own ≡ least best (row_spots o (rows_of t)) → last ≡ least best (spots o t)) (sym is)
      (λ e. then_rest (Choice place faces branches) (joined (length faces) (λ i. spots (branches i) (child t i))) last e
      (last_is ∙ ap (λ (k : ℕ). least own (joined k (λ i. spots (branches i) (child t i)))) n_is))
      begun

-- the branches of a choice, one after another
pub branch_walked : (each : ℕ → List Spot) (i : ℕ) (own before last : Option Spot) (here : List Spot) → before ≡ least own (joined i each) → here ≡ each i → last ≡ least before here → last ≡ least own (joined (i + 1) each)
branch_walked each i own before last here before_is here_is last_is =
    last_is ∙ ap (λ (xs : List Spot). least before xs) here_is ∙ ap (λ (b : Option Spot). least b (each i)) before_is ∙ sym (least_append (joined i each) (each i) own)
    ∙ ap (λ (n : ℕ). least own (joined n each)) one_more
  where
    one_more : suc i ≡ i + 1
    one_more = omega arith

pub one_apart : suc zero ≡ zero → ⊥
one_apart e = cc

-- a branch's spots by what was read of it
pub here_spots : (a b : Outline) (s t : Table) → a ≡ b → s ≡ t → spots a s ≡ spots b t
here_spots a b s t outlines tables = ap (λ (o : Outline). spots o s) outlines ∙ ap (λ (z : Table). spots b z) tables
