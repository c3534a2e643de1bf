-- What a sink in memory has taken.
use Rattle.std.specs.Prelude.{ℕ, List}
use Rattle.byte_sinks.specs.declared.memory.MemorySink.{MemorySink}

abbrev pub bytes_of : MemorySink → List ℕ
bytes_of s = s.bytes.items
