-- The lines that commands print, each ended by a newline.
use Rattle.std.specs.Prelude.{◌≡◌, ℕ, zero, suc, Bool, false, List, [], ◌∷◌, ◌++◌, Option, Some, None, codes, decimal}
use Rattle.hex.specs.Hex.{encode_lower}
use Rattle.wtypes.specs.declared.Value.{Value}
use Rattle.std.specs.FinMap.{entries, get}
use Rattle.spec_ledger.specs.declared.Lock.{Lock}
use Rattle.spec_ledger.specs.declared.Outcome.{Outcome}
use Rattle.spec_ledger.specs.Modes.{touched}
use Rattle.interp_state.specs.declared.frames.OpenFrame.{OpenFrame}
use Rattle.debugger.specs.SessionView.{SessionView, ending_at, place_at, contract_at, level_at, asks_at, cells_at, frames_at}
use Rattle.debugger.specs.declared.session.Refusal.{Refusal}
use Rattle.debugger.specs.Commands.{code_of}
use Rattle.wblock_calls.specs.Texts.{value_text}
use Rattle.wblock_calls.specs.Receipts.{receipt_text}
use Rattle.wblock_call.specs.Effects.{change_lines, maybe_number}

-- ` in C level L`, where a level is inside the outer one
abbrev pub level_text : (contract level : ℕ) → List ℕ
level_text contract zero = []
level_text contract (suc n) = codes " in " ++ decimal contract ++ codes " level " ++ decimal (suc n)

-- where a call stands: how it has ended, or else the function and the ordinal of the instruction to come
abbrev pub standing_text : SessionView → Option Outcome → Option (ℕ × ℕ) → List ℕ
standing_text s (Some o) place = codes " done " ++ receipt_text (record { outcome = o; used = s.turns; asks = asks_at s })
standing_text s None (Some p) = codes " at " ++ decimal p.0 ++ codes " " ++ decimal p.1 ++ level_text (contract_at s) (level_at s)
standing_text s None None = []

-- `K at F O`, `K at F O in C level L` or `K done RECEIPT`
abbrev pub state_line : SessionView → List ℕ
state_line s = decimal s.turns ++ standing_text s (ending_at s) (place_at s) ++ 10 ∷ []

-- ` VALUE` for each value
abbrev pub values_text : List Value → List ℕ
values_text [] = []
values_text (v ∷ vs) = (codes " " ++ value_text v) ++ values_text vs

-- a name and the values
abbrev pub values_line : List ℕ → List Value → List ℕ
values_line name vs = name ++ values_text vs ++ 10 ∷ []

-- `bytes HEX`
abbrev pub bytes_line : List ℕ → List ℕ
bytes_line bytes = codes "bytes " ++ encode_lower bytes ++ 10 ∷ []

-- `at F O in C level L`, or `-` in the place of O at the end of the body
abbrev pub frame_line : OpenFrame → List ℕ
frame_line f = codes "at " ++ decimal f.func ++ codes " " ++ maybe_number false f.ordinal ++ codes " in " ++ decimal f.contract ++ codes " level " ++ decimal f.level ++ 10 ∷ []

abbrev pub frame_lines : List OpenFrame → List ℕ
frame_lines [] = []
frame_lines (f ∷ fs) = frame_line f ++ frame_lines fs

-- `where`, and a line for each frame that is open, from the outer level on
abbrev pub where_text : SessionView → List ℕ
where_text s = codes "where\n" ++ frame_lines (frames_at s)

-- `cells`, and a line for each cell that stands otherwise than at the start, in the order of locks, keys and numbers signed or not
abbrev pub cells_text : (signed : Bool) → SessionView → List ℕ
cells_text signed s = codes "cells\n" ++ change_lines signed s.cells (cells_at s) (entries (touched s.trace))

-- a cell at a lock that the call has not asked for is as at the start
abbrev pub OthersAreAsBefore : SessionView → Type 0
OthersAreAsBefore s = (lock : Lock) → get (touched s.trace) lock ≡ None → get (cells_at s) lock ≡ get s.cells lock

-- `ok`
abbrev pub ok_line : List ℕ
ok_line = codes "ok" ++ 10 ∷ []

-- `refused N`
abbrev pub refusal_line : Refusal → List ℕ
refusal_line r = codes "refused " ++ decimal (code_of r) ++ 10 ∷ []

-- `refused start N`
abbrev pub start_line : ℕ → List ℕ
start_line code = codes "refused start " ++ decimal code ++ 10 ∷ []

-- `refused left C`
abbrev pub left_line : ℕ → List ℕ
left_line call = codes "refused left " ++ decimal call ++ 10 ∷ []
