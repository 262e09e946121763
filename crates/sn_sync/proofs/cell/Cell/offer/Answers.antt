use Rattle.std.proofs.Common.{◌≡◌, List, subst}
use Rattle.std.specs.Prelude.{OnErr}
use Rattle.sn_record.specs.LabelSet.{Labels}
use Rattle.sn_record.specs.Record.{Entries}
use Rattle.sn_net.specs.Cell.{Joined, reception}
use Rattle.sn_sync.specs.Synchrocell.{Synchrocell}
use Rattle.sn_sync.proofs.cell.Cell.offer.Goals as goal

pub returns-clause-joining : goal.returns-clause-joining
returns-clause-joining c =
    subst (λ (cell : Synchrocell). OnErr c.offer.result ((both : Entries) × (reception cell.patterns cell.state c.args.r ≡ Joined both))) c.self.view_is
    (subst (λ (patterns : List Labels). OnErr c.offer.result ((both : Entries) × (reception patterns c.self.inside.holding c.args.r ≡ Joined both))) c.as_slice.ensures c.offer.ensures.joining)
