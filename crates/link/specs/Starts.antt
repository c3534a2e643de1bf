-- Data segments over the bytes of a memory.
use Rattle.std.specs.Prelude.{◌≡◌, ℕ, ◌+◌, ◌<◌, ◌≤◌, List, Option, Some, None, All, length, slice_index, unwrap_or}
use Rattle.spec_modules.specs.Syntax.{DataSegment}
use Rattle.spec_typing.specs.Linking.{offset_number}
use Rattle.spec_execution.specs.Configuration.{with_datas}

-- the segment has a place, and ends within so many bytes
abbrev pub EndsWithin : ℕ → DataSegment → Type 0
EndsWithin size d = (at : ℕ) × (offset_number d.offset ≡ Some at) × (at + length d.bytes ≤ size)

-- What segments leave of a memory: where one of these bytes stands, that byte, and else what was there.
pub record IsLaid (start : ℕ → Option ℕ) (ds : List DataSegment) : Type 0 where
  pub over : (bytes : List ℕ) → All (EndsWithin (length bytes)) ds → (k : ℕ) → k < length bytes → slice_index (with_datas ds bytes) k ≡ unwrap_or (start k) (slice_index bytes k)
  pub ends : (size : ℕ) → All (EndsWithin size) ds → (k : ℕ) → size ≤ k → start k ≡ None
