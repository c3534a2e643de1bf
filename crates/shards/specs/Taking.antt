-- What one taking of a lock tells: that of the journal, or that of a shard.
use Rattle.std.specs.Prelude.{◌≡◌, ◌⊎◌, ℕ, Bool, false, List, [], slice_index_or}
use Rattle.spec_ledger.specs.declared.TraceStep.{TraceStep}
use Rattle.spec_ledger.specs.Events.{IsOther}
use Rattle.spec_ledger.specs.Modes.{ops_of}
use Rattle.spec_ledger.specs.Shards.{part, shard_of}
use Rattle.shards.specs.Marks.{marks_of}
use Rattle.sharding.specs.Journals.{IsJournal, Journal}
use Rattle.spec_ledger.specs.Facts.{CellsAreSettledButForHolders, EntriesAreSerialRun, LiveAttemptsGoTogether, LiveTracesGetReplies}
use Rattle.sharding.specs.Shard.{IsShard, Shard}

-- this holds of the journal that was found under the lock, of which no more is known than what its type keeps
pub record HoldsOfTheJournal (fact : Journal → Type 0) : Type 0 where
  pub journal : Journal
  pub lawful : IsJournal journal
  pub holds : fact journal

-- all that the type of a shard keeps
pub record IsLawful (shard : Shard) : Type 0 where
  pub entries : EntriesAreSerialRun shard.book
  pub cells : CellsAreSettledButForHolders shard.book
  pub replies : LiveTracesGetReplies shard.book
  pub modes : LiveAttemptsGoTogether shard.book
  pub positions : IsShard shard

-- this holds of the shard that was found under its lock, of which no more is known than what its type keeps
pub record HoldsOfAShard (fact : Shard → Type 0) : Type 0 where
  pub shard : Shard
  pub lawful : IsLawful shard
  pub holds : fact shard

-- in a shard that was found under its lock the attempt has other steps than the run's part for it
abbrev pub HasOtherPart : ℕ → ℕ → ℕ → List TraceStep → Type 0
HasOtherPart shards call number trace = (shard : ℕ) × HoldsOfAShard (λ old. IsOther old.book call number (part (shard_of shards) shard trace))

-- the run has an operation in a shard that the attempt has not touched
abbrev pub HasStrayed : ℕ → List Bool → List TraceStep → Type 0
HasStrayed shards touched trace = (shard : ℕ) × (slice_index_or touched shard false ≡ false) × ¬ ([] ≡ ops_of (part (shard_of shards) shard trace))

-- the steps of the run are not those of the attempt, whose ticket has these marks
abbrev pub HasOtherSteps : ℕ → ℕ → ℕ → List Bool → List TraceStep → List TraceStep → Type 0
HasOtherSteps shards call number touched marks trace = HasOtherPart shards call number trace ⊎ (HasStrayed shards touched trace ⊎ ¬ (marks ≡ marks_of trace))
