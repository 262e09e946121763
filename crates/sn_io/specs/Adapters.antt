-- What contracts see of the adapters to std.
use Rattle.std.specs.Prelude.{ℕ}
use Rattle.sn_io.specs.declared.std_sink.StdSink.{StdSink}

-- the writer that a sink passes its bytes to
abbrev pub writer_of : {W : Type 0} → StdSink W → W
writer_of sink = sink.writer

abbrev pub faults_of : {W : Type 0} → StdSink W → ℕ
faults_of sink = sink.faults
