-- What comes out by a trace.
use Rattle.std.proofs.Common.{◌≡◌, ℕ, List, true, false, sym, ap, ◌∙◌, subst, inl, inr}
use Rattle.std.specs.List.{list_any}
use Rattle.sn_net.specs.Item.{ModelItem}
use Rattle.sn_net.specs.WellFormed.{IsWellFormed}
use Rattle.sn_model.specs.declared.run.Run.{Run}
use Rattle.sn_model.specs.Run.{MayGive, boxes_of, net_of}
use Rattle.sn_live.specs.Runs.{IsPrefixOf}
use Rattle.sn_view.specs.Chains.{Comes, Started}
use Rattle.sn_view.specs.Next.{start_view}
use Rattle.sn_view.proofs.Chains.{begun, whole}
use Rattle.sn_event_lines.specs.Naming.{is_fault}
use Rattle.sn_event_lines.proofs.Leading.{leads_come}
use Rattle.sn_replay.specs.Replays.{Replays}

module _ (run : Run) (text : List ℕ) (ys : List ModelItem) (formed : IsWellFormed (boxes_of run) (net_of run)) (replays : Replays run text ys) where
  came : Comes run replays.last
  came = leads_come run replays.lines (start_view run) replays.last Started replays.accepts.leads

  pub trace_begun : (zs : List ModelItem) × MayGive run zs × IsPrefixOf ys zs
  trace_begun =
      let (zs, may, prefix) = begun run replays.last formed came in
      (zs, may, subst (λ xs. IsPrefixOf xs zs) (sym replays.out) prefix)

  pub trace_whole : list_any is_fault ys ≡ false → MayGive run ys
  trace_whole sound = elim replays.ends [
    | inl rest ↦ subst (MayGive run) (sym replays.out) (whole run replays.last formed came rest)
    | inr fault ↦ no (sym fault ∙ ap (list_any is_fault) (sym replays.out) ∙ sound)
  ]
    where
      no : {X : Type 0} → true ≡ false → X
      no u = cc
