use Rattle.std.proofs.Common.{rules}
use Rattle.std.specs.Prelude.{FitsSigned}
use Rattle.std.specs.Int.{w64}
use Rattle.std.proofs.lemmas.Int.{to_z-of_z}
use Rattle.sn_record_parser.proofs.Entries.{has_tag}
use Rattle.sn_record_parser.proofs.labelled.tag.Goals as goal

pub returns : goal.returns
returns c =
    let fits : FitsSigned w64 c.in-Number.n = search rules in
    rw (to_z-of_z w64 c.in-Number.n fits) (has_tag c.in_ok-want.ensures (rw c.in-Number.is at c.in_ok-n.ensures))
