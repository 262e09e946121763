use Rattle.std.proofs.Common.{◌≡◌, drop}
use Rattle.sn_record.specs.Record.{greater, score as best_size}
use Rattle.sn_record.proofs.best.score.Given as goal

abbrev pub invariant-loop-variant : goal.invariant-loop-variant
invariant-loop-variant l = greater l.best (best_size (drop l.variant-index l.variants) l.r) ≡ best_size l.variants l.r
