-- The input labels of boxes.
use Rattle.std.specs.Prelude.{◌≡◌, List, map}
use Rattle.sn_record.specs.LabelSet.{Labels}
use Rattle.sn_net.specs.declared.expr.BoxProgram.{BoxProgram}
use Rattle.sn_net.specs.Face.{variant_of}
use Rattle.sn_model.specs.Run.{boxes_of}
use Rattle.sn_pass.specs.declared.walk.Walk.{Walk}

-- the set of each box's input labels, by the numbers of the boxes
abbrev pub input_sets : List BoxProgram → List Labels
input_sets boxes = map (λ (b : BoxProgram). variant_of b.input) boxes

-- the sets at hand are those of the boxes of the run
abbrev pub HasInputs : Walk → Type 0
HasInputs walk = walk.inputs.now ≡ input_sets (boxes_of walk.run.now)
