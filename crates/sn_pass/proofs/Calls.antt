-- Calls of boxes, whose input labels stand ready.
use Rattle.std.proofs.Common.{◌≡◌, ℕ, ◌<◌, List, [], ◌∷◌, length, get_or, true, false, sym, ap, ◌∙◌, if◌then◌else◌}
use Rattle.std.specs.Prelude.{Bool, Option, Some, slice_get}
use Rattle.std.specs.Option.{option_map}
use Rattle.std.proofs.lemmas.List.{length-map}
use Rattle.std.proofs.lemmas.Option.{slice_get-map, slice_get_read}
use Rattle.sn_record.specs.LabelSet.{Labels}
use Rattle.sn_record.specs.Record.{Entries, is_match}
use Rattle.sn_net.specs.declared.expr.BoxProgram.{BoxProgram}
use Rattle.sn_net.specs.BoxEvaluation.{box_answer}
use Rattle.sn_net.specs.Face.{variant_of}
use Rattle.sn_net.specs.Item.{Stuck}
use Rattle.sn_model.specs.Components.{call_record}
use Rattle.sn_pass.specs.Inputs.{input_sets}

-- the set at a box's number is that of its input
pub input_there : (boxes : List BoxProgram) (sets : List Labels) (i : ℕ) (program : BoxProgram) (input : Labels) → sets ≡ input_sets boxes → i < length boxes
    → slice_get boxes i ≡ Some program → input ≡ get_or sets i input → input ≡ variant_of program.input
input_there boxes sets i program input are below there read =
    let found : slice_get sets i ≡ Some input = slice_get_read sets (length boxes) i input (sym (ap length are ∙ length-map boxes (λ (b : BoxProgram). variant_of b.input))) below read in
    let made : slice_get sets i ≡ Some (variant_of program.input) =
    ap (λ (ls : List Labels). slice_get ls i) are ∙ slice_get-map (λ (b : BoxProgram). variant_of b.input) boxes i ∙ ap (option_map (λ (b : BoxProgram). variant_of b.input)) there in
    let same : Some input ≡ Some (variant_of program.input) = sym found ∙ made in cc

module _ (boxes : List BoxProgram) (number place fuel : ℕ) (r : Entries) (program : BoxProgram) (input : Labels)
    (there : slice_get boxes number ≡ Some program) (is_input : input ≡ variant_of program.input) where
  -- what the call answers, by whether the record has the input labels
  by_match : (matching : Bool) → is_match r input ≡ matching → call_record (slice_get boxes number) place fuel r ≡ (if matching then box_answer program place r fuel else Stuck place ∷ [])
  by_match matching is =
      ap (λ (o : Option BoxProgram). call_record o place fuel r) there
      ∙ ap (λ (test : Bool). if test then box_answer program place r fuel else Stuck place ∷ []) (ap (is_match r) (sym is_input) ∙ is)

  pub no_route : is_match r input ≡ false → call_record (slice_get boxes number) place fuel r ≡ Stuck place ∷ []
  no_route is = by_match false is

  pub routed : is_match r input ≡ true → call_record (slice_get boxes number) place fuel r ≡ box_answer program place r fuel
  routed is = by_match true is
