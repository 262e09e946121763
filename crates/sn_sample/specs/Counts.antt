-- The counters as the code keeps them.
use Rattle.sn_sample.specs.Tally.{Counts}
use Rattle.sn_sample.specs.declared.tally.Tally.{Tally}

abbrev pub counts_of : Tally → Counts
counts_of tally = record { records = tally.records; s = tally.s; w = tally.w; mix = tally.mix }
