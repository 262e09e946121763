use Rattle.std.proofs.Common.{◌||◌, ap, sym, ◌∙◌}
use Rattle.std.specs.List.{list_any}
use Rattle.sn_record.specs.Record.{is_match}
use Rattle.sn_sync.proofs.Receptions.{accepted-matched}
use Rattle.sn_sync.proofs.cell.Holding.accepts.Goals as goal

pub returns-else-has_joined-clause-matched : goal.returns-else-has_joined-clause-matched
returns-else-has_joined-clause-matched c =
    let law = accepted-matched c.args.patterns.now c.args.self.now c.args.r.now in
    let same = c.matches_any.ensures ∙ ap (λ joined. joined || list_any (is_match c.args.r.now) c.args.patterns.now) (sym c.if-has_joined.false ∙ c.has_joined.ensures) in
    (λ accepted. law.0 (sym same ∙ accepted), λ matched. same ∙ law.1 matched)
