-- The adapters over readers and writers of std (this project's profile).
use Rattle.wrp_io.specs.declared.adapters.StdSink.{StdSink}

-- the writer that a sink writes to
abbrev pub writer_of : {W : Type 0} → StdSink W → W
writer_of sink = sink.writer
