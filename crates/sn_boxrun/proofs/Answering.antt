-- What a box answers to a record that its input matches.
use Rattle.std.proofs.Common.{◌≡◌, ℕ, Some, slice_get, List, ap, sym, ◌∙◌, if◌then◌else◌, Bool, ◌∷◌, []}
use Rattle.sn_record.specs.Record.{Entries, Matches}
use Rattle.sn_record.proofs.Scores.{is_match-Matches}
use Rattle.sn_net.specs.declared.expr.BoxProgram.{BoxProgram}
use Rattle.sn_net.specs.BoxEvaluation.{box_answer}
use Rattle.sn_net.specs.Face.{variant_of}
use Rattle.sn_net.specs.Item.{Rec, Stuck}
use Rattle.sn_model.specs.Components.{box_item, call_record}

pub answers_job : (boxes : List BoxProgram) (fuel place number : ℕ) (b : BoxProgram) (r : Entries) → slice_get boxes number ≡ Some b
    → Matches r (variant_of b.input) → box_answer b place r fuel ≡ box_item boxes fuel place number (Rec r)
answers_job boxes fuel place number b r at matches =
    sym (ap (λ found. call_record found place fuel r) at
    ∙ ap (λ (test : Bool). if test then box_answer b place r fuel else Stuck place ∷ []) ((is_match-Matches r (variant_of b.input)).1 matches))
