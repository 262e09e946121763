use Rattle.sn_typing.specs.Outline.{outline}
use Rattle.sn_typing.specs.Typed.{labels_of}
use Rattle.sn_typing.proofs.MoreLabels.{more_labels}
use Rattle.sn_typing.proofs.Subsets.{matched_labels}
use Rattle.sn_typing.proofs.laws.matching_records_are_typed.Goals as goal

pub returns : goal.returns
returns c = λ boxes net v r safe matches. (more_labels (outline boxes net) v (labels_of r) (matched_labels r v matches) safe).0
