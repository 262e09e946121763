use Rattle.std.proofs.Common.{ap}
use Rattle.sn_record.specs.LabelSet.{Labels}
use Rattle.sn_flow.specs.Spots.{spot}
use Rattle.sn_flow.proofs.Walking.{best_goes, best_stays}
use Rattle.sn_flow.proofs.spots.keep_sooner.Goals as goal

pub returns-then-not-is_better : goal.returns-then-not-is_better
returns-then-not-is_better c = best_stays c.args.best.now (spot c.args.place c.args.variant.now) c.is_better.result c.is_better.ensures c.if-not-is_better.true

pub returns : goal.returns
returns c =
    best_goes c.args.best.now c.replace.new.dest (spot c.args.place c.args.variant.now) (spot c.args.place c.in_ok-variant.variant) c.is_better.result c.is_better.ensures c.if-not-is_better.false
    (ap (λ (v : Labels). spot c.args.place v) c.in_ok-variant.ensures) c.replace.ensures.after
