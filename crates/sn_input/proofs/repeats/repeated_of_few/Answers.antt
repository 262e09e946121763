use Rattle.std.proofs.Common.{◌≡◌, ◌∙◌, take, true, false, sym}
use Rattle.std.specs.List.{list_any}
use Rattle.sn_input.specs.Numbered.{same_label}
use Rattle.sn_input.proofs.Repeating.{labels_of, among_labels, goes_on, stops}
use Rattle.sn_input.proofs.repeats.repeated_of_few.Goals as goal

pub returns-then-is_among : goal.returns-then-is_among
returns-then-is_among c =
    let at = c.index-entries-i.result in
    let entries = c.args.entries.now in
    let old : list_any (same_label at.label) (labels_of (take c.loop-i.i entries)) ≡ true = among_labels at.label (take c.loop-i.i entries) ∙ sym c.if-is_among.ensures in
    stops entries c.loop-i.i at c.loop-i-test.true c.index-entries-i.is c.loop-i.invariant old

pub loop-i-preserved : goal.loop-i-preserved
loop-i-preserved c =
    let at = c.index-entries-i.result in
    let entries = c.args.entries.now in
    let new' : list_any (same_label at.label) (labels_of (take c.loop-i.i entries)) ≡ false = among_labels at.label (take c.loop-i.i entries) ∙ sym c.if-is_among.ensures in
    goes_on entries c.loop-i.i at c.loop-i-test.true c.index-entries-i.is c.loop-i.invariant new'
