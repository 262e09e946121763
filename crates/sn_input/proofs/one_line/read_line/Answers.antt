use Rattle.std.proofs.Common.{refl, sym, inr}
use Rattle.sn_input.specs.OneLine.{GivesLine}
use Rattle.sn_input.proofs.Fitting.{line_fits}
use Rattle.sn_input.proofs.OneLine.{takes, too_many}
use Rattle.sn_input.proofs.one_line.read_line.Goals as goal

pub returns-then-is_blank_line-clause-given : goal.returns-then-is_blank_line-clause-given
returns-then-is_blank_line-clause-given c = GivesLine.blank (sym c.if-is_blank_line.ensures)

pub returns-then-not-have-clause-refused : goal.returns-then-not-have-clause-refused
returns-then-not-have-clause-refused c =
    let entries = c.in_ok-entries in
    inr (too_many c.args.names.now c.args.line.now entries.entries c.as_slice.result.now c.in_ok-have.have entries.ensures.spelled.spelled entries.ensures.distinct c.as_slice.ensures c.in_ok-have.ensures c.if-not-have.true, refl)

pub record_of-requires : goal.record_of-requires
record_of-requires c = line_fits c.in_ok-entries.ensures.spelled.spelled.parsed

pub returns-in-Ok-clause-given : goal.returns-in-Ok-clause-given
returns-in-Ok-clause-given c =
    let entries = c.in_ok-entries in
    takes c.args.names.now c.args.line.now entries.entries c.in-Ok.made c.record_of.new.names entries.ensures.spelled.spelled entries.ensures.distinct c.in-Ok.ensures.entered c.in-Ok.ensures.few c.in-Ok.ensures.numbered
