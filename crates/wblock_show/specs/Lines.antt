-- The lines of a block that is shown.
use Rattle.std.specs.Prelude.{◌==◌, ℕ, ◌+◌, ◌*◌, ◌/◌, Option, Some, None, List, [], ◌∷◌, ◌++◌, if◌then◌else◌, codes, decimal, slice_get, slice_index}
use Rattle.std.specs.Borrow.{Bor}
use Rattle.hex.specs.Hex.{encode_lower}
use Rattle.wtypes.specs.declared.Value.{Value}
use Rattle.spec_ledger.specs.declared.Entry.{Entry}
use Rattle.spec_block.specs.Worlds.{Block, Call, Position}
use Rattle.spec_block.specs.Bytes.{trap_code, version_code}
use Rattle.wblock_calls.specs.Texts.{value_text}
use Rattle.wblock_calls.specs.Receipts.{position_text}
use Rattle.figures.specs.Words.{hundredth, lock_text, mode_word}
use Rattle.figures.specs.declared.figures.Chains.{Chains}
use Rattle.figures.specs.declared.figures.Figures.{Figures}
use Rattle.figures.specs.declared.hottest.SharedLock.{SharedLock}
use Rattle.figures.specs.declared.outcomes.OutcomeCount.{OutcomeCount}
use Rattle.figures.specs.declared.outcomes.OutcomeKind.{OutcomeKind}
use Rattle.figures.specs.declared.outcomes.OutcomeKind.TheVariants.{Returned, Trapped, OutOfFuel, Rejected}

-- the calls, where they are known
abbrev pub calls_of : Option (Bor (List Call)) → Option (List Call)
calls_of None = None
calls_of (Some calls) = Some calls.now

-- ` LOCK MODE turn T`
abbrev pub entry_text : Entry → List ℕ
entry_text e = codes " " ++ lock_text e.lock ++ codes " " ++ mode_word e.mode ++ codes " turn " ++ decimal e.turn

-- the entries after the first, with a comma before each
abbrev pub more_entries : List Entry → List ℕ
more_entries [] = []
more_entries (e ∷ es) = (codes "," ++ entry_text e) ++ more_entries es

abbrev pub entries_text : List Entry → List ℕ
entries_text [] = []
entries_text (e ∷ es) = entry_text e ++ more_entries es

-- each with a space before it
abbrev pub args_text : List Value → List ℕ
args_text [] = []
args_text (v ∷ vs) = (codes " " ++ value_text v) ++ args_text vs

-- ` of contract K ENTRY ARG...`
unfoldable pub call_text : Call → List ℕ
call_text c = codes " of contract " ++ (decimal c.contract ++ (codes " " ++ (c.entry ++ args_text c.args)))

-- the call, if there is one
abbrev pub maybe_call_text : Option Call → List ℕ
maybe_call_text None = []
maybe_call_text (Some c) = call_text c

-- the call of this number, where the calls are known
abbrev pub called_text : Option (List Call) → ℕ → List ℕ
called_text None number = []
called_text (Some calls) number = maybe_call_text (slice_get calls number)

abbrev pub wave_text : Option Chains → ℕ → List ℕ
wave_text None position = codes "-"
wave_text (Some c) position = decimal (slice_index c.waves.items position)

-- `POS call C RECEIPT wave W`, the call, and its locks
abbrev pub position_line : Option (List Call) → Option Chains → ℕ → Position → List ℕ
position_line calls chains n p = position_text n p.call p.receipt ++ codes " wave " ++ wave_text chains n ++ called_text calls p.call ++ entries_text p.profile ++ 10 ∷ []

-- a line for each position, the first of them n
abbrev pub position_lines : Option (List Call) → Option Chains → ℕ → List Position → List ℕ
position_lines calls chains n [] = []
position_lines calls chains n (p ∷ ps) = position_line calls chains n p ++ position_lines calls chains (n + 1) ps

unfoldable pub digest_line : List ℕ → List ℕ → List ℕ
digest_line name digest = name ++ (codes " " ++ (encode_lower digest ++ 10 ∷ []))

-- `version V`
unfoldable pub version_line : Block → List ℕ
version_line b = codes "version " ++ (decimal (version_code b.version) ++ 10 ∷ [])

-- `fuel N`
unfoldable pub fuel_line : Block → List ℕ
fuel_line b = codes "fuel " ++ (decimal b.fuel ++ 10 ∷ [])

-- `version V`, `before HEX`, `calls HEX`, `after HEX` and `fuel N`
unfoldable pub head_lines : Block → List ℕ
head_lines b = version_line b ++ (digest_line (codes "before") b.before ++ (digest_line (codes "calls") b.calls ++ (digest_line (codes "after") b.after ++ fuel_line b)))

-- one number by another, with two decimals, rounded down
abbrev pub ratio_text : ℕ → ℕ → List ℕ
ratio_text total part = if part == 0 then codes "-" else hundredth (100 * total / part)

-- the three lines below, with a dash for what there is not
unfoldable pub no_chain_lines : ℕ → List ℕ
no_chain_lines total = codes "waves -\nchain - fuel - of " ++ (decimal total ++ codes "\nspeed-up at most -\n")

-- `waves N`
unfoldable pub waves_line : Chains → List ℕ
waves_line c = codes "waves " ++ (decimal c.wave_count ++ 10 ∷ [])

-- `chain N fuel F of TOTAL`
unfoldable pub chain_line : Chains → ℕ → List ℕ
chain_line c total = codes "chain " ++ (decimal c.wave_count ++ (codes " fuel " ++ (decimal c.chain_fuel ++ (codes " of " ++ (decimal total ++ 10 ∷ [])))))

-- `speed-up at most X.YY`
unfoldable pub ratio_line : Chains → ℕ → List ℕ
ratio_line c total = codes "speed-up at most " ++ (ratio_text total c.chain_fuel ++ 10 ∷ [])

abbrev pub chain_lines : Option Chains → ℕ → List ℕ
chain_lines None total = no_chain_lines total
chain_lines (Some c) total = waves_line c ++ (chain_line c total ++ ratio_line c total)

-- `shared LOCK by N positions`
unfoldable pub shared_line : SharedLock → List ℕ
shared_line s = codes "shared " ++ (lock_text s.lock ++ (codes " by " ++ (decimal s.positions ++ codes " positions\n")))

-- a line for each of these locks
abbrev pub shared_lines : List SharedLock → List ℕ
shared_lines [] = []
shared_lines (s ∷ ss) = shared_line s ++ shared_lines ss

abbrev pub kind_text : OutcomeKind → List ℕ
kind_text Returned = codes "returned"
kind_text (Trapped t) = codes "trapped " ++ decimal (trap_code t)
kind_text OutOfFuel = codes "out-of-fuel"
kind_text (Rejected code) = codes "rejected " ++ decimal code

-- `returned N`, `trapped KIND N`, `out-of-fuel N` or `rejected KIND N`
abbrev pub outcome_lines : List OutcomeCount → List ℕ
outcome_lines [] = []
outcome_lines (o ∷ os) = (kind_text o.kind ++ codes " " ++ decimal o.positions ++ 10 ∷ []) ++ outcome_lines os

abbrev pub block_text : Block → Option (List Call) → Figures → List ℕ
block_text b calls f = head_lines b ++ (position_lines calls f.chains 0 b.positions ++ (chain_lines f.chains f.total_fuel ++ (shared_lines f.hottest.items ++ outcome_lines f.outcomes.items)))
