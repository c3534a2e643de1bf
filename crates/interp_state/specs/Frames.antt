-- The frames in a sequence, and what each goes on with (Core 4.2.12, Stack).
use Rattle.std.specs.Prelude.{ℕ, List, [], ◌∷◌, Option, Some, None, map}
use Rattle.spec_execution.specs.Configuration.{Seq, End, Val, Code, Free, Label, Frame, Invoke, Config, Running, Trap}
use Rattle.interp_state.specs.declared.frames.OpenFrame.{OpenFrame}

-- the first of two that is there
abbrev pub first_of : Option ℕ → Option ℕ → Option ℕ
first_of None second = second
first_of (Some n) second = Some n

-- the ordinal of the instruction that a sequence goes on with, once the frame or the call in it is done
abbrev pub next_in : Seq → Option ℕ
next_in End = None
next_in (Val v rest) = next_in rest
next_in (Code n i rest) = Some n
next_in (Free i rest) = None
next_in (Label n at k inside rest) = first_of (next_in inside) (next_in rest)
next_in (Frame f n locals inside rest) = next_in rest
next_in (Invoke f rest) = next_in rest

-- the frames in a sequence, the outer one first, each with its function and the ordinal that it goes on with
abbrev pub frames_in : Seq → List (ℕ × Option ℕ)
frames_in End = []
frames_in (Val v rest) = frames_in rest
frames_in (Code n i rest) = []
frames_in (Free i rest) = []
frames_in (Label n at k inside rest) = frames_in inside
frames_in (Frame f n locals inside rest) = (f, next_in inside) ∷ frames_in inside
frames_in (Invoke f rest) = []

abbrev pub frames_of : Config → List (ℕ × Option ℕ)
frames_of (Running s seq) = frames_in seq
frames_of (Trap s t) = []

-- as a frame of a level, around which so many are, and of the contract that it runs
abbrev pub frame_in : (level contract : ℕ) → ℕ × Option ℕ → OpenFrame
frame_in level contract frame = record { contract = contract; level = level; func = frame.0; ordinal = frame.1 }

abbrev pub in_level : (level contract : ℕ) → List (ℕ × Option ℕ) → List OpenFrame
in_level level contract frames = map (frame_in level contract) frames
