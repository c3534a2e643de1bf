-- The frames among what is open in the parts of a machine.
use Rattle.std.specs.Prelude.{ℕ, List, [], ◌∷◌, ◌++◌, Option}
use Rattle.laws_reduction.specs.Meaning.{Item, Scope, Block, Loop, Frame, Open, behind}
use Rattle.interp_state.specs.declared.parts.Parts.{Parts}
use Rattle.interp_state.specs.Frames.{first_of}
use Rattle.interp_state.specs.Innermost.{first_ordinal}
use Rattle.interp_state.specs.Views.{opens_of, items_of}

-- what goes on outside of a label or a frame, where this goes on inside
abbrev pub next_out : Scope → List Item → Option ℕ → Option ℕ
next_out Block is next = first_of next (first_ordinal (behind Block is))
next_out Loop is next = first_of next (first_ordinal (behind Loop is))
next_out (Frame f saved) is next = first_ordinal (behind (Frame f saved) is)

-- the frame itself
abbrev pub frame_at : Scope → Option ℕ → List (ℕ × Option ℕ)
frame_at Block next = []
frame_at Loop next = []
frame_at (Frame f saved) next = (f, next) ∷ []

-- the frames of these, of which the innermost is first, round others, where this goes on inside
abbrev pub frames_from : List Open → Option ℕ → List (ℕ × Option ℕ) → List (ℕ × Option ℕ)
frames_from [] next inner = inner
frames_from (e ∷ es) next inner = frames_from es (next_out e.scope e.from next) (frame_at e.scope next ++ inner)

abbrev pub part_frames : {A : Type 0} → Parts A → List (ℕ × Option ℕ)
part_frames p = frames_from (opens_of p.entries.items) (first_ordinal (items_of p.code.now)) []
