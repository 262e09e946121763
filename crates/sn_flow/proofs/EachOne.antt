-- Visits with all variants of an input, one after another, from a table of nothing.
use Rattle.std.proofs.Common.{◌≡◌, ℕ, ◌+◌, ◌<◌, ◌≤◌, List, [], ◌∷◌, ◌++◌, length, get_or, take, sym, ap, ◌∙◌, subst}
use Rattle.std.specs.Prelude.{Ok, Err}
use Rattle.std.specs.List.{Contains}
use Rattle.std.proofs.lemmas.List.{take_more, take_all}
use Rattle.sn_record.specs.LabelSet.{Labels}
use Rattle.sn_typing.specs.Outline.{Outline}
use Rattle.sn_typing.specs.Reached.{Reached.{here}}
use Rattle.sn_typing.specs.Accepted.{IsReached}
use Rattle.sn_flow.specs.declared.stop.Stop.{Stop}
use Rattle.sn_flow.specs.declared.stop.Stop.TheVariants.{TooMany, Memory}
use Rattle.sn_flow.specs.declared.table.Table.{Table}
use Rattle.sn_flow.specs.Tables.{no_table}
use Rattle.sn_flow.specs.Visits.{Visited, Visits, VisitsAll}
use Rattle.sn_flow.specs.Whole.{EachVisited}
use Rattle.sn_flow.proofs.Adding.{taken_within}
use Rattle.sn_flow.proofs.Empty.{empty_came, empty_holds}
use Rattle.sn_flow.proofs.Parts.{no_visit, visit_more}

module _ (net : Outline) (input : List Labels) where
  at_root : (v : Labels) → Contains input v → IsReached net input [] net v
  at_root v there = record { variant = v; listed = there; reached = here net v }

  abbrev pub Far : Table → ℕ → Type 0
  Far t i = VisitsAll net (take i input) no_table t

  pub whole_begins : (t : Table) → t ≡ no_table → Far t 0
  whole_begins t is = subst (λ (s : Table). Far s 0) (sym is) (no_visit net no_table)

  pub whole_goes : (t last : Table) (i : ℕ) (v : Labels) → i < length input → get_or input i v ≡ v → Far t i → Visits net v t last → Far last (i + 1)
  whole_goes t last i v below place far visits =
      subst (λ (vs : List Labels). VisitsAll net vs no_table last) (sym (take_more input i v below ∙ ap (λ (u : Labels). take i input ++ u ∷ []) place)) (visit_more net (take i input) v no_table t last far visits)

  pub whole_stops : (t : Table) (i : ℕ) (v : Labels) (stop : Stop) → i < length input → get_or input i v ≡ v → Far t i → Visited net v t (Err stop) → EachVisited net input (Err stop)
  whole_stops t i v TooMany below place far stops = λ bounded.
      stops (far.holds (empty_holds net)) net input [] (at_root v (i, below, place))
      (far.came net input [] (empty_holds net) (λ w there. at_root w (taken_within i input w there)) (empty_came net input [] net)) bounded
  whole_stops t i v Memory below place far stops = tt

  pub whole_ends : (t : Table) (i : ℕ) → length input ≤ i → Far t i → EachVisited net input (Ok t)
  whole_ends t i past far =
      let all : VisitsAll net input no_table t = subst (λ (vs : List Labels). VisitsAll net vs no_table t) (take_all i input past) far in
      record {
        holds = all.holds (empty_holds net);
        covers = all.covers (empty_holds net);
        came = all.came net input [] (empty_holds net) at_root (empty_came net input [] net);
      }
