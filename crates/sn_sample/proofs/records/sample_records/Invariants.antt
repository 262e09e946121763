use Rattle.std.proofs.Common.{◌≡◌}
use Rattle.sn_sample.specs.Numbers.{number_at}
use Rattle.sn_sample.specs.Records.{sample_items}
use Rattle.sn_sample.proofs.records.sample_records.Given as goal

abbrev pub invariant-loop : goal.invariant-loop
invariant-loop l = record {
  number : l.x ≡ number_at l.fn.number l.counter;
  items : l.items ≡ sample_items l.names l.fn.number l.counter;
}
