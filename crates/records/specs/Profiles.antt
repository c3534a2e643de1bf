-- Reading lock profiles from front to back.
use Rattle.std.specs.Prelude.{◌≡◌, ℕ, zero, suc, ◌<◌, ◌^◌, List, length, Bool, true, Option, Some, None, Ok, Err, if◌then◌else◌}
use Rattle.std.specs.List.{AllByRecursion}
use Rattle.std.specs.Int.{w32, w64}
use Rattle.std.specs.Ordering.{is_lt}
use Rattle.spec_ledger.specs.declared.Kind.{Kind}
use Rattle.spec_ledger.specs.declared.Kind.TheVariants.{Map, Counter}
use Rattle.spec_ledger.specs.declared.Mode.{Mode}
use Rattle.spec_ledger.specs.declared.Mode.TheVariants as modes
use Rattle.spec_ledger.specs.declared.Lock.{Lock}
use Rattle.spec_ledger.specs.declared.Entry.{Entry}
use Rattle.spec_ledger.specs.Cells.{lock_cmp}
use Rattle.spec_block.specs.Bytes.{IsEntry, AreRising, counted, entry_bytes}
use Rattle.records.specs.declared.fault.Fault.TheVariants.{Malformed}
use Rattle.records.specs.Reading.{Read, ◌>>=◌, byte_at, number_at, found, after_count}

abbrev pub kind_of : ℕ → Option Kind
kind_of zero = Some Map
kind_of (suc zero) = Some Counter
kind_of (suc (suc n)) = None

unfoldable pub kind_at : List ℕ → Read Kind
kind_at bytes = do
  code ← byte_at bytes
  found (kind_of code.0) (length bytes) code.1

abbrev pub mode_of : ℕ → Option Mode
mode_of zero = Some modes.Read
mode_of (suc zero) = Some modes.Add
mode_of (suc (suc zero)) = Some modes.Excl
mode_of (suc (suc (suc n))) = None

unfoldable pub mode_at : List ℕ → Read Mode
mode_at bytes = do
  code ← byte_at bytes
  found (mode_of code.0) (length bytes) code.1

-- whether a lock is above that of the entry before it, if there is one
abbrev pub is_after : Option Entry → Lock → Bool
is_after None lock = true
is_after (Some before) lock = is_lt (lock_cmp before.lock lock)

-- a lock is one field: one that is not above the one before it is a fault at its first byte
unfoldable pub lock_at : Option Entry → List ℕ → Read Lock
lock_at before bytes = do
  contract ← number_at w32 bytes
  kind ← kind_at contract.1
  key ← number_at w64 kind.1
  if is_after before (record { contract = contract.0; kind = kind.0; key = key.0 }) then Ok (record { contract = contract.0; kind = kind.0; key = key.0 }, key.1) else Err (Malformed (length bytes))

unfoldable pub entry_at : Option Entry → List ℕ → Read Entry
entry_at before bytes = do
  lock ← lock_at before bytes
  mode ← mode_at lock.1
  turn ← number_at w32 mode.1
  Ok (record { lock = lock.0; mode = mode.0; turn = turn.0 }, turn.1)

-- an entry has 18 bytes
unfoldable pub profile_at : List ℕ → Read (List Entry)
profile_at bytes = do
  count ← number_at w32 bytes
  after_count entry_at 18 (length bytes) count

-- ---- what is read

-- an entry that may stand after this one
pub record IsEntryAfter (before : Option Entry) (e : Entry) : Type 0 where
  pub entry : IsEntry e
  pub after : is_after before e.lock ≡ true

-- a profile of a block
pub record IsBlockProfile (es : List Entry) : Type 0 where
  pub count : length es < 2 ^ 32
  pub entries : AllByRecursion IsEntry es
  pub rising : AreRising es

abbrev pub profile_bytes : List Entry → List ℕ
profile_bytes es = counted entry_bytes es
