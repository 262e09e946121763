-- What contracts see of a sink in memory.
use Rattle.std.specs.Prelude.{◌≡◌, ℕ, ◌-◌, min, List, length, vec_len, vec_capacity}
use Rattle.sn_io.specs.declared.plan.Plan.{Plan}
use Rattle.sn_io.specs.declared.mem_sink.MemSink.{MemSink}

-- what it holds
abbrev pub sink_bytes : MemSink → List ℕ
sink_bytes sink = sink.held.items

abbrev pub sink_faults : MemSink → ℕ
sink_faults sink = sink.faults

abbrev pub sink_plan : MemSink → Plan
sink_plan sink = sink.plan

-- how many bytes it takes in one write
abbrev pub sink_piece : MemSink → ℕ
sink_piece sink = sink.piece

-- how many bytes more were reserved
abbrev pub sink_room : MemSink → ℕ
sink_room sink = vec_capacity sink.held - vec_len sink.held

-- how many of these bytes one write takes
abbrev pub share_of : MemSink → List ℕ → ℕ
share_of sink bytes = min (min (length bytes) (sink_piece sink)) (sink_room sink)

-- what is held, the count of faults and the size of a piece stay
pub record KeepsContent (old new : MemSink) : Type 0 where
  pub bytes : sink_bytes new ≡ sink_bytes old
  pub faults : sink_faults new ≡ sink_faults old
  pub piece : sink_piece new ≡ sink_piece old
