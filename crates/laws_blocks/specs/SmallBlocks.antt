-- Small profiles, positions and a block.
use Rattle.std.specs.Prelude.{ℕ, List, [], ◌∷◌, None}
use Rattle.std.specs.FinMap.{empty}
use Rattle.sha2.specs.Sha256.{sha256}
use Rattle.wtypes.specs.declared.TrapCode.TheVariants.{Unreachable}
use Rattle.spec_ledger.specs.declared.Kind.TheVariants.{Counter}
use Rattle.spec_ledger.specs.declared.Lock.{Lock}
use Rattle.spec_ledger.specs.declared.Mode.{Mode}
use Rattle.spec_ledger.specs.declared.Mode.TheVariants.{Read, Add as Adding, Excl}
use Rattle.spec_ledger.specs.declared.Entry.{Entry}
use Rattle.spec_ledger.specs.declared.Outcome.{Outcome}
use Rattle.spec_ledger.specs.declared.Outcome.TheVariants as outcome
use Rattle.spec_ledger.specs.declared.Version.TheVariants.{Two}
use Rattle.spec_ledger.specs.Book.{after}
use Rattle.spec_ledger.specs.Cells.{Cells}
use Rattle.spec_block.specs.Worlds.{Block, Call, Position, World}
use Rattle.spec_block.specs.Blocks.{world_after}
use Rattle.spec_block.specs.Bytes.{block_bytes, calls_bytes, world_bytes}
use Rattle.figures.specs.declared.hottest.SharedLock.{SharedLock}
use Rattle.figures.specs.declared.outcomes.OutcomeCount.{OutcomeCount}
use Rattle.figures.specs.declared.outcomes.OutcomeKind.{OutcomeKind}
use Rattle.laws_blocks.specs.CallsWorked.{adds_and_reads, alone_with, counts, on_key_nine, returned}

-- a counter of contract 0
abbrev pub counter : (key : ℕ) → Lock
counter key = record { contract = 0; kind = Counter; key = key }

-- what a position holds that asks for one lock alone
abbrev pub holds : Lock → Mode → (turn : ℕ) → List Entry
holds lock mode turn = record { lock = lock; mode = mode; turn = turn } ∷ []

-- ---- figures

-- the second reads the counter to which the first adds
abbrev pub adds_then_reads : List (List Entry)
adds_then_reads = holds (counter 7) Adding 0 ∷ holds (counter 7) Read 1 ∷ []

-- the same turns, in the other order
abbrev pub reads_then_adds : List (List Entry)
reads_then_adds = holds (counter 7) Read 1 ∷ holds (counter 7) Adding 0 ∷ []

-- two add to one counter, the third to another
abbrev pub two_and_one : List (List Entry)
two_and_one = holds (counter 7) Adding 0 ∷ holds (counter 7) Adding 0 ∷ holds (counter 8) Adding 0 ∷ []

-- so many hold this lock
abbrev pub shared_by : Lock → ℕ → SharedLock
shared_by lock number = record { lock = lock; positions = number }

-- a call that came to this and held nothing
abbrev pub came_to : (call : ℕ) → Outcome → Position
came_to call o = record { call = call; receipt = alone_with o 3; profile = [] }

-- call 0 returned, and call 1 trapped
abbrev pub one_trapped : List Position
one_trapped = came_to 0 (outcome.Returned None) ∷ came_to 1 (outcome.Trapped Unreachable) ∷ []

-- one position has this kind of outcome
abbrev pub one_of : OutcomeKind → OutcomeCount
one_of kind = record { kind = kind; positions = 1 }

-- ---- a block

-- the contract that adds 5 to a counter and returns its total, and no cells
abbrev pub one_counter : World
one_counter = record { contracts = counts ∷ []; cells = empty }

-- two calls of it, with one counter
abbrev pub two_calls : List Call
two_calls = on_key_nine 5 ∷ on_key_nine 5 ∷ []

-- the cells after the first, and after both
abbrev pub left_by_the_first : Cells
left_by_the_first = after (adds_and_reads 5) empty

abbrev pub left_by_both : Cells
left_by_both = after (adds_and_reads 10) left_by_the_first

-- a call that comes to this total, and has this turn at the counter
abbrev pub at_turn : (call total turn : ℕ) → Position
at_turn call total turn = record { call = call; receipt = alone_with (returned total) 5; profile = holds (counter 9) Excl turn }

-- the block of both, in their order
abbrev pub both : Block
both = record {
  version = Two;
  before = sha256 (world_bytes one_counter);
  calls = sha256 (calls_bytes two_calls);
  positions = at_turn 0 5 0 ∷ at_turn 1 10 1 ∷ [];
  fuel = 10;
  after = sha256 (world_bytes (world_after one_counter left_by_both));
}

abbrev pub both_bytes : List ℕ
both_bytes = block_bytes both
