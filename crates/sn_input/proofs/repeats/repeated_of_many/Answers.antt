use Rattle.std.proofs.Common.{◌≡◌, ◌∙◌, take, true, false, sym}
use Rattle.std.specs.List.{list_any}
use Rattle.sn_input.specs.Numbered.{same_label}
use Rattle.sn_input.proofs.Repeating.{labels_of, labels_more, goes_on, stops}
use Rattle.sn_input.proofs.Tables.{among_more}
use Rattle.sn_input.proofs.repeats.repeated_of_many.Goals as goal

pub returns-then-has : goal.returns-then-has
returns-then-has c =
    let at = c.entry-item.result in
    let entries = c.args.entries.now in
    let old : list_any (same_label at.label) (labels_of (take c.loop-entry.entry-index entries)) ≡ true = sym (c.loop-entry.invariant.seen at.label) ∙ sym c.if-has.ensures in
    stops entries c.loop-entry.entry-index at c.loop-entry-test.true c.entry-item.is c.loop-entry.invariant.so_far old

pub loop-entry-preserved : goal.loop-entry-preserved
loop-entry-preserved c =
    let at = c.entry-item.result in
    let entries = c.args.entries.now in
    let i = c.loop-entry.entry-index in
    let new' : list_any (same_label at.label) (labels_of (take i entries)) ≡ false = sym (c.loop-entry.invariant.seen at.label) ∙ sym c.if-has.ensures in
    record {
      so_far = goes_on entries i at c.loop-entry-test.true c.entry-item.is c.loop-entry.invariant.so_far new';
      seen = λ other. among_more at.label other (labels_of (take i entries)) _ _ _ (labels_more entries i at c.loop-entry-test.true c.entry-item.is c.loop-entry.invariant.so_far) (c.loop-entry.invariant.seen other) (c.in_ok-add.ensures other);
    }
