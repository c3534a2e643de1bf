-- A journal gone over once, with a place in the entries of each shard.
use Rattle.std.specs.Prelude.{◌≡◌, ◌↔◌, ℕ, ◌<◌, ◌≤◌, List, length, drop, slice_index_or}
use Rattle.spec_ledger.specs.declared.Lock.{Lock}
use Rattle.spec_ledger.specs.Book.{CommittedCall}
use Rattle.spec_ledger.specs.Shards.{entries_in, shard_of}
use Rattle.sharding.specs.Parts.{Part}

-- a shard's entries from this place on are those of the journal from this position on just where all of them are those of the whole journal
pub record IsAt (home : Lock → ℕ) (shard : ℕ) (own journal : List CommittedCall) (place position : ℕ) : Type 0 where
  pub left : (own ≡ entries_in home shard journal) ↔ (drop place own ≡ entries_in home shard (drop position journal))
  pub within : place ≤ length own

-- each shard is at its place
pub record AreAt (journal : List CommittedCall) (parts : List Part) (places : List ℕ) (position : ℕ) : Type 0 where
  pub size : length parts ≤ length places
  pub each : (shard : ℕ) (other : Part) → shard < length parts
      → IsAt (shard_of (length parts)) shard (slice_index_or parts shard other).entries journal (slice_index_or places shard 0) position

-- the entries of each shard are those of the journal that touch it
abbrev pub HaveEntriesOf : List CommittedCall → List Part → Type 0
HaveEntriesOf journal parts = (shard : ℕ) (other : Part) → shard < length parts → (slice_index_or parts shard other).entries ≡ entries_in (shard_of (length parts)) shard journal
