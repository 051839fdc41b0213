-- What stands behind the adapters of std's streams.
use Rattle.std.specs.Prelude.{ℕ}
use Rattle.edge_io.specs.declared.streams.StdSource.{StdSource}
use Rattle.edge_io.specs.declared.streams.StdSink.{StdSink}

abbrev pub reader_of : {R : Type 0} → StdSource R → R
reader_of source = source.inner

-- how often the reader answered an error
abbrev pub source_faults : {R : Type 0} → StdSource R → ℕ
source_faults source = source.faults

abbrev pub writer_of : {W : Type 0} → StdSink W → W
writer_of sink = sink.inner

-- how often the writer answered an error, or took nothing
abbrev pub sink_faults : {W : Type 0} → StdSink W → ℕ
sink_faults sink = sink.faults
