-- Worked rows of calls between contracts.
use Rattle.std.proofs.Common.{◌≡◌, ℕ, ◌+◌, List, [], ◌∷◌, refl, ap, arith}
use Rattle.spec_ledger.specs.declared.TraceStep.{TraceStep}
use Rattle.spec_ledger.specs.declared.TraceStep.TheVariants.{Kept, Dropped}
use Rattle.spec_ledger.specs.declared.Outcome.{Outcome}
use Rattle.spec_ledger.specs.declared.Outcome.TheVariants.{OutOfFuel}
use Rattle.spec_ledger.specs.Cells.{Cells}
use Rattle.std.specs.FinMap.{empty}
use Rattle.spec_ledger.specs.Book.{after, GetsReplies}
use Rattle.spec_ledger.specs.Modes.{touched}
use Rattle.spec_execution.specs.Reduction.{reduce, execute, execute_plain}
use Rattle.spec_execution.specs.Run.{ContractCall}
use Rattle.spec_execution.specs.Levels.{RunsWith}
use Rattle.spec_execution.specs.Exec.{Executes}
use Rattle.spec_execution.specs.Unique.{CallsAreUnique}
use Rattle.spec_execution.specs.Walk.{walk, over}
use Rattle.spec_execution.proofs.Executing.{answered}
use Rattle.laws_blocks.specs.CallsWorked.{asking, only, tries, goes_deep, adds_in_a_level, adds_ten, four_levels, two_levels, returned}
use Rattle.laws_blocks.proofs.Rows.{says, says_fit, five_fits}
use Rattle.laws_blocks.proofs.Computing.{is_run}

pub level_returns : RunsWith (only asking) (tries 0) (adds_in_a_level Kept) (returned 7) 13
unfolding walk reduce execute execute_plain
level_returns = is_run (says 5) (says_fit 5 five_fits) 60 (only asking) (tries 0) (record { trace = adds_in_a_level Kept; outcome = returned 7; fuel = 13 }) refl

pub level_traps : RunsWith (only asking) (tries 1) (adds_in_a_level Dropped) (returned 0) 13
unfolding walk reduce execute execute_plain
level_traps = is_run (says 5) (says_fit 5 five_fits) 60 (only asking) (tries 1) (record { trace = adds_in_a_level Dropped; outcome = returned 0; fuel = 13 }) refl

pub other_type : RunsWith (only asking) (tries 2) adds_ten (returned 0) 9
unfolding walk reduce execute execute_plain
other_type = is_run (says 5) (says_fit 5 five_fits) 60 (only asking) (tries 2) (record { trace = adds_ten; outcome = returned 0; fuel = 9 }) refl

pub not_there : RunsWith (only asking) (tries 9) adds_ten (returned 0) 9
unfolding walk reduce execute execute_plain
not_there = is_run (says 5) (says_fit 5 five_fits) 60 (only asking) (tries 9) (record { trace = adds_ten; outcome = returned 0; fuel = 9 }) refl

pub four_deep : RunsWith (only asking) (goes_deep 25) four_levels (returned 0) 25
unfolding walk reduce execute execute_plain
four_deep = is_run (says 5) (says_fit 5 five_fits) 120 (only asking) (goes_deep 25) (record { trace = four_levels; outcome = returned 0; fuel = 25 }) refl

pub out_of_fuel_outside : RunsWith (only asking) (goes_deep 24) four_levels OutOfFuel 24
unfolding walk reduce execute execute_plain
out_of_fuel_outside = is_run (says 5) (says_fit 5 five_fits) 120 (only asking) (goes_deep 24) (record { trace = four_levels; outcome = OutOfFuel; fuel = 24 }) refl

pub out_of_fuel_inside : RunsWith (only asking) (goes_deep 10) two_levels OutOfFuel 10
unfolding walk reduce execute execute_plain
out_of_fuel_inside = is_run (says 5) (says_fit 5 five_fits) 120 (only asking) (goes_deep 10) (record { trace = two_levels; outcome = OutOfFuel; fuel = 10 }) refl

-- sums give no reply
kept_replies : (cells : Cells) → GetsReplies (adds_in_a_level Kept) cells
kept_replies cells = (refl, (refl, tt))

dropped_replies : (cells : Cells) → GetsReplies (adds_in_a_level Dropped) cells
dropped_replies cells = (refl, (refl, tt))

pub executes : (cells : Cells) → Executes (only asking) (tries 1) cells (after adds_ten cells) (record { outcome = returned 0; used = 13; asks = 1 }) (touched (adds_in_a_level Dropped))
executes cells = record { trace = adds_in_a_level Dropped; run = level_traps; asks = refl; replies = dropped_replies cells; later_is = refl; locks_are = refl }

-- how many levels were kept
abbrev kept_in : List TraceStep → ℕ
kept_in [] = 0
kept_in (Kept ∷ t) = 1 + kept_in t
kept_in (_ ∷ t) = kept_in t

module _ (unique : CallsAreUnique) where
  -- two runs over the cells without an entry are one
  one : (call : ContractCall) (t u : List TraceStep) (o p : Outcome) (m n : ℕ) → GetsReplies t empty → GetsReplies u empty → RunsWith (only asking) call t o m → RunsWith (only asking) call u p n → (t ≡ u) × (o ≡ p) × (m ≡ n)
  one call t u o p m n g h a b = unique (only asking) call (over empty) t u o p m n (answered t empty g) (answered u empty h) a b

  pub not_kept : RunsWith (only asking) (tries 1) (adds_in_a_level Kept) (returned 0) 13 → ⊥
  not_kept run = let same = one (tries 1) (adds_in_a_level Dropped) (adds_in_a_level Kept) (returned 0) (returned 0) 13 13 (dropped_replies empty) (kept_replies empty) level_traps run in let kept : 0 ≡ 1 = ap kept_in same.0 in omega (arith, kept)

  pub no_less_fuel : RunsWith (only asking) (tries 0) (adds_in_a_level Kept) (returned 7) 12 → ⊥
  no_less_fuel run = let same = one (tries 0) (adds_in_a_level Kept) (adds_in_a_level Kept) (returned 7) (returned 7) 13 12 (kept_replies empty) (kept_replies empty) level_returns run in omega (arith, same.2)
