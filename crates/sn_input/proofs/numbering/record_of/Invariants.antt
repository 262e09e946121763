use Rattle.std.proofs.Common.{◌≡◌, ◌≤◌, ◌++◌, map, length}
use Rattle.std.specs.Vec.Iter.{into_iter_items}
use Rattle.sn_input.specs.Numbered.{with_entries, entry_in}
use Rattle.sn_input.specs.Reading.{most_names}
use Rattle.sn_input.proofs.numbering.record_of.Given as goal

abbrev pub invariant-loop-entry : goal.invariant-loop-entry
invariant-loop-entry l =
    let entries = into_iter_items l.initial.entry-iterator in
    record {
      all : l.yielded ++ into_iter_items l.entry-iterator ≡ entries;
      names : l.names ≡ with_entries l.initial.names l.yielded;
      few : length l.names ≤ most_names;
      made : l.made.items ≡ map (entry_in (with_entries l.initial.names entries)) l.yielded;
    }
