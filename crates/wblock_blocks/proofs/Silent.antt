-- Nothing is said behind a refusal.
use Rattle.std.proofs.Common.{◌≡◌, Bool, List, ℕ, [], refl, inr}
use Rattle.wblock_line.specs.declared.answer.Answer.{Answer}
use Rattle.wblock_line.specs.declared.answer.Answer.TheVariants.{Done, Refused}
use Rattle.wblock_line.specs.Answers.{upshot_of}
use Rattle.wblock_line.specs.Forms.{IsRefusalIn}
use Rattle.wblock_blocks.specs.Notes.{Notes}

pub of_refusal : (json : Bool) (line : List ℕ) (a : Answer) (note : List ℕ) → IsRefusalIn json line a → note ≡ [] → Notes (upshot_of a) note
of_refusal json line (Done writes text) note h none = absurd h
of_refusal json line (Refused told why) note h none = inr (refl, none)
