-- Networks beside their faces.
use Rattle.std.specs.Prelude.{◌≡◌, List}
use Rattle.sn_record.specs.LabelSet.{Labels}
use Rattle.sn_net.specs.declared.expr.BoxProgram.{BoxProgram}
use Rattle.sn_net.specs.declared.faced.Faced.{Faced}
use Rattle.sn_net.specs.declared.net.Net.{Net}
use Rattle.sn_net.specs.Face.{face}

-- what stands beside the network is its face
abbrev pub IsFaced : List BoxProgram → Faced → Type 0
IsFaced boxes faced = faced.face ≡ face boxes faced.net

-- the two parts
abbrev pub net_of : Faced → Net
net_of faced = faced.net

abbrev pub face_of : Faced → List Labels
face_of faced = faced.face
