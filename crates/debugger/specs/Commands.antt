-- What the commands of a session do.
use Rattle.std.specs.Prelude.{◌≡◌, ℕ, ◌+◌, ◌*◌, ◌<◌, ◌≤◌, ◌⊎◌, false, true, List, [], Result, Ok, Err, None, IsSome, take, drop, length, Vec}
use Rattle.debugger.specs.declared.place.Place.{Place}
use Rattle.debugger.specs.declared.session.Refusal.{Refusal}
use Rattle.debugger.specs.declared.session.Refusal.TheVariants.{BeforeStart, NoSuchPlace, OutOfRange, NoMemory}
use Rattle.spec_ledger.specs.Cells.{Cells}
use Rattle.spec_execution.specs.Configuration.{Setting}
use Rattle.spec_execution.specs.Run.{ContractCall}
use Rattle.debugger.specs.Breaks.{is_set_at, with_break, without_break, instr_there}
use Rattle.debugger.specs.SessionView.{SessionView, IsSessionView, ending_at, break_place_at, memory_at}

-- the number of each refusal
abbrev pub code_of : Refusal → ℕ
code_of BeforeStart = 1
code_of NoSuchPlace = 2
code_of OutOfRange = 3
code_of NoMemory = 4

-- the call over these cells, before its first turn, without a break
pub record IsOpened (setting : Setting) (call : ContractCall) (cells : Cells) (s : SessionView) : Type 0 where
  pub setting_is : s.setting ≡ setting
  pub call_is : s.call ≡ call
  pub cells_are : s.cells ≡ cells
  pub turns : s.turns ≡ 0
  pub breaks : s.breaks ≡ []

-- the same call over the same cells
pub record IsSameRun (s t : SessionView) : Type 0 where
  pub setting : t.setting ≡ s.setting
  pub call : t.call ≡ s.call
  pub contract : t.contract ≡ s.contract
  pub cells : t.cells ≡ s.cells

-- the same run, with the same breaks
pub record IsSame (s t : SessionView) : Type 0 where
  pub run : IsSameRun s t
  pub breaks : t.breaks ≡ s.breaks

-- so many turns more: n, or as many as there are
pub record HasStepped (s : SessionView) (n made : ℕ) (t : SessionView) : Type 0 where
  pub same : IsSame s t
  pub turns : t.turns ≡ s.turns + made
  pub most : made ≤ n
  pub all : (made ≡ n) ⊎ IsSome (ending_at t)

-- n turns less
pub record HasGoneBack (s : SessionView) (n : ℕ) (t : SessionView) : Type 0 where
  pub same : IsSame s t
  pub turns : t.turns + n ≡ s.turns

-- few turns are made again: fewer than 1,024, or at most a 32nd of the fuel
abbrev pub AreFew : (fuel again : ℕ) → Type 0
AreFew fuel again = (again < 1024) ⊎ (32 * again ≤ fuel)

-- a state has a break at its place, in the contract that its innermost level runs
abbrev pub IsAtBreak : List Place → SessionView → Type 0
IsAtBreak breaks s = is_set_at breaks (break_place_at s) ≡ true

-- on to the least later state that has a break at its place, or to the end; at the end it stays
pub record HasContinued (s : SessionView) (made : ℕ) (t : SessionView) : Type 0 where
  pub same : IsSame s t
  pub turns : t.turns ≡ s.turns + made
  pub moves : (0 < made) ⊎ IsSome (ending_at s)
  pub stops : IsAtBreak s.breaks t ⊎ IsSome (ending_at t)
  pub least : (u : SessionView) → IsSessionView u → IsSameRun s u → s.turns < u.turns → u.turns < t.turns → is_set_at s.breaks (break_place_at u) ≡ false

-- what a command answers and what it leaves; a refusal leaves all as it was
abbrev pub Steps : SessionView → ℕ → Result ℕ Refusal → SessionView → Type 0
Steps s n (Ok made) t = HasStepped s n made t
Steps s n (Err r) t = (r ≡ NoMemory) × (t ≡ s)

abbrev pub GoesBack : SessionView → ℕ → Result ℕ Refusal → SessionView → Type 0
GoesBack s n (Ok again) t = HasGoneBack s n t × AreFew s.call.fuel again
GoesBack s n (Err BeforeStart) t = (s.turns < n) × (t ≡ s)
GoesBack s n (Err r) t = (r ≡ NoMemory) × (n ≤ s.turns) × (t ≡ s)

abbrev pub Continues : SessionView → Result ℕ Refusal → SessionView → Type 0
Continues s (Ok made) t = HasContinued s made t
Continues s (Err r) t = (r ≡ NoMemory) × (t ≡ s)

abbrev pub Breaks : {U : Type 0} → SessionView → Place → Result U Refusal → SessionView → Type 0
Breaks s p (Ok u) t = IsSome (instr_there s.setting.contracts p) × (t ≡ record s { breaks = with_break s.breaks p })
Breaks s p (Err NoSuchPlace) t = (instr_there s.setting.contracts p ≡ None) × (t ≡ s)
Breaks s p (Err r) t = (r ≡ NoMemory) × IsSome (instr_there s.setting.contracts p) × (t ≡ s)

abbrev pub Clears : {U : Type 0} → SessionView → Place → Result U Refusal → SessionView → Type 0
Clears s p (Ok u) t = IsSome (instr_there s.setting.contracts p) × (t ≡ record s { breaks = without_break s.breaks p })
Clears s p (Err r) t = (r ≡ NoSuchPlace) × (instr_there s.setting.contracts p ≡ None) × (t ≡ s)

-- the bytes, exactly where all of them lie in memory
abbrev pub Reads : {A : Type 0} → SessionView → (from count : ℕ) → Result (Vec ℕ A) Refusal → Type 0
Reads s from count (Ok bytes) = (from + count ≤ length (memory_at s)) × (bytes.items ≡ take count (drop from (memory_at s)))
Reads s from count (Err OutOfRange) = length (memory_at s) < from + count
Reads s from count (Err r) = (r ≡ NoMemory) × (from + count ≤ length (memory_at s))
