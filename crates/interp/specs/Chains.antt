-- The frames of all levels of a call that runs.
use Rattle.std.specs.Prelude.{ℕ, ◌+◌, List, [], ◌∷◌, ◌++◌, reverse}
use Rattle.spec_execution.specs.Levels.{Level, Levels}
use Rattle.interp_state.specs.Frames.{frames_of, in_level}
use Rattle.interp_state.specs.Unwinding.{part_frames}
use Rattle.interp_state.specs.declared.frames.OpenFrame.{OpenFrame}
use Rattle.interp.specs.declared.run.Level as waiting

abbrev pub chain_from : ℕ → List Level → List OpenFrame
chain_from n [] = []
chain_from n (l ∷ ls) = in_level n l.contract.number (frames_of l.config) ++ chain_from (n + 1) ls

-- from the outer level on
abbrev pub chain : Levels → List OpenFrame
chain c = chain_from 0 (reverse c.outer ++ c.inner ∷ [])

-- ---- of a machine

-- of levels that wait, of which the first has so many around it
abbrev pub waiting_frames : {A : Type 0} → ℕ → List (waiting.Level A) → List OpenFrame
waiting_frames n [] = []
waiting_frames n (l ∷ ls) = in_level n l.lent.number (part_frames l.parts) ++ waiting_frames (n + 1) ls
