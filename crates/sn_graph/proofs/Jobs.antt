-- That a record which waits at a box makes a job.
use Rattle.std.proofs.Common.{◌≡◌, ℕ, ◌<◌, Bool, true, false, true≢false, cond, List, [], ◌∷◌, length, refl, sym, ap, ◌∙◌, IsTrue}
use Rattle.std.specs.Prelude.{slice_get, Option, Some, None}
use Rattle.std.proofs.lemmas.Option.{same_Some, slice_get_within}
use Rattle.sn_record.specs.Record.{Entries, is_match}
use Rattle.sn_record.proofs.Scores.{is_match-Matches}
use Rattle.sn_net.specs.declared.expr.BoxProgram.{BoxProgram}
use Rattle.sn_net.specs.declared.net.Net.TheOpen.{Net-F}
use Rattle.sn_net.specs.BoxEvaluation.{box_answer}
use Rattle.sn_net.specs.Face.{variant_of}
use Rattle.sn_net.specs.Item.{Stuck, holds_stuck}
use Rattle.sn_model.specs.declared.run.Run.{Run}
use Rattle.sn_model.specs.Components.{call_record}
use Rattle.sn_model.specs.Run.{boxes_of, fuel_of, net_of}
use Rattle.sn_boxrun.specs.Job.{IsJobOf}
use Rattle.sn_boxrun.specs.declared.job.Job.{Job}
use Rattle.sn_view.specs.Routed.{BoxesAreFed}
use Rattle.sn_node.specs.Answered.{form_at}
use Rattle.sn_node.specs.Calls.{IsNextCall}
use Rattle.sn_node.specs.Seen.{node_of}
use Rattle.sn_node.specs.declared.node.Node.{Node}
use Rattle.sn_graph.specs.Arena.{view_of}
use Rattle.sn_graph.specs.declared.arena.Arena.{Arena}
use Rattle.sn_graph.proofs.Changes.{seen_get}
use Rattle.std.proofs.Common.{get_or}

-- what is answered without a stuck record has a box, whose input the record matches
module _ (boxes : List BoxProgram) (fuel place number : ℕ) (r : Entries) where
  fed_program : (o : Option BoxProgram) → holds_stuck (call_record o place fuel r) ≡ false → (program : BoxProgram) × (o ≡ Some program) × IsTrue (is_match r (variant_of program.input))
  fed_program None fed = absurd (true≢false fed)
  fed_program (Some program) fed = (program, refl, by (is_match r (variant_of program.input)) refl fed)
    where
      by : (b : Bool) → is_match r (variant_of program.input) ≡ b → holds_stuck (cond b (box_answer program place r fuel) (Stuck place ∷ [])) ≡ false → is_match r (variant_of program.input) ≡ true
      by true is fed = is
      by false is fed = absurd (true≢false fed)

  fed_job : (run : Run) (job : Job) → boxes_of run ≡ boxes → job.number ≡ number → job.given ≡ r → holds_stuck (call_record (slice_get boxes number) place fuel r) ≡ false → IsJobOf run job
  fed_job run job same its_number its_given fed =
      let (program, is, match) = fed_program (slice_get boxes number) fed in
      let there : slice_get (boxes_of run) job.number ≡ Some program = ap (λ bs. slice_get bs job.number) same ∙ ap (slice_get boxes) its_number ∙ is in
      record {
        within = slice_get_within (boxes_of run) job.number program there;
        matches = λ other at.
            (is_match-Matches job.given (variant_of other.input)).0
            (ap (λ (g : Entries). is_match g (variant_of other.input)) its_given ∙ ap (λ (b : BoxProgram). is_match r (variant_of b.input)) (same_Some other program (sym at ∙ there)) ∙ match);
      }

-- the first record at a box that has no call
pub next_job : (arena : Arena) (run : Run) (i p : ℕ) (a : Node) (job : Job) → arena.run.value ≡ run → BoxesAreFed (view_of arena) → i < length arena.nodes.items → a ≡ get_or arena.nodes.items i a
    → form_at (net_of run) a.made.path ≡ Some (Net-F.Box job.place job.number) → IsNextCall p job.given (node_of a) → IsJobOf run job
next_job arena run i p a job made fed within read form next =
    fed_job (boxes_of arena.run.value) (fuel_of arena.run.value) job.place job.number job.given run job (ap boxes_of (sym made)) refl refl
    (fed i p job.place job.number (node_of a) job.given (seen_get node_of arena.nodes.items i a within read) (ap (λ r. form_at (net_of r) a.made.path) made ∙ form) next.here)
