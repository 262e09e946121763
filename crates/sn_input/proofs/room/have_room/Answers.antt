use Rattle.std.proofs.Common.{◌≤◌, length, arith}
use Rattle.std.proofs.lemmas.Bool.Decides.{nat_tests}
use Rattle.sn_input.specs.Numbered.{with_entries}
use Rattle.sn_input.specs.Reading.{most_names}
use Rattle.sn_input.proofs.Rooms.{all_fit}
use Rattle.sn_input.proofs.room.have_room.Goals as goal

pub returns-then-entries-held : goal.returns-then-entries-held
returns-then-entries-held c =
    let held : length c.args.names.now ≤ most_names = omega (arith, c.count-held.ensures.number, c.count-held.ensures.most) in
    let fit : length (with_entries c.args.names.now c.args.entries.now) ≤ most_names = all_fit c.args.names.now c.args.entries.now most_names held (omega (arith, c.count-held.ensures.number, c.if-entries-held.true)) in
    grind (arith, nat_tests)
