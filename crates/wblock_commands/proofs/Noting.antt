-- What `mine` says of calls that did not return is nothing, or ends with a newline.
use Rattle.std.proofs.Common.{◌≡◌, ℕ, ◌⊎◌, List, [], ◌∷◌, inl, inr}
use Rattle.std.specs.List.{AllByRecursion}
use Rattle.spec_ledger.specs.declared.Outcome.{Outcome}
use Rattle.spec_ledger.specs.declared.Outcome.TheVariants.{Returned, Trapped, OutOfFuel, Rejected}
use Rattle.wblock_line.specs.Answers.{EndsLine, IsSaid, Upshot, upshot_of}
use Rattle.wblock_line.specs.declared.answer.Answer.{Answer}
use Rattle.wblock_blocks.specs.Notes.{IsReturn, HasReturned, Notes}
use Rattle.wblock_commands.specs.Does.{IsMine, IsNote, SaysNote}
use Rattle.wblock_commands.specs.declared.command.Command.{Command}
use Rattle.wblock_commands.specs.declared.command.Command.TheVariants.{Stored, Help, Version, Asm, Text, Check, Deploy, Mine, Validate, Call, Debug, Show}

returned_or_not : (o : Outcome) → IsReturn o ⊎ (IsReturn o → ⊥)
returned_or_not (Returned value) = inl tt
returned_or_not (Trapped code) = inr (λ x. x)
returned_or_not OutOfFuel = inr (λ x. x)
returned_or_not (Rejected code) = inr (λ x. x)

both_or_not : {A B : Type 0} → A ⊎ (A → ⊥) → B ⊎ (B → ⊥) → (A × B) ⊎ (A × B → ⊥)
both_or_not (inl a) (inl b) = inl (a, b)
both_or_not (inl a) (inr not) = inr (λ x. not x.1)
both_or_not (inr not) other = inr (λ x. not x.0)

-- what can be told of each item can be told of all
all_or_not : {A : Type 0} (P : A → Type 0) → ((x : A) → P x ⊎ (P x → ⊥)) → (xs : List A) → AllByRecursion P xs ⊎ (AllByRecursion P xs → ⊥)
all_or_not P tell [] = inl tt
all_or_not P tell (x ∷ xs) = both_or_not (tell x) (all_or_not P tell xs)

of_either : {All N E : Type 0} → All ⊎ (All → ⊥) → (All → N) → ((All → ⊥) → E) → N ⊎ E
of_either (inl all) silent told = inl (silent all)
of_either (inr not) silent told = inr (told not)

pub is_note : (u : Upshot) (note : List ℕ) → Notes u note → (note ≡ []) ⊎ EndsLine note
is_note u note (inl h) = of_either (all_or_not HasReturned (λ p. returned_or_not p.receipt.outcome) h.block.positions) h.is_note.silent h.is_note.told
is_note u note (inr h) = inl h.1

is_text : (c : Command) (a : Answer) (note : List ℕ) → IsNote c a note → (note ≡ []) ⊎ EndsLine note
is_text Stored a note h = inl h
is_text (Help words) a note h = inl h
is_text Version a note h = inl h
is_text (Asm text target json) a note h = inl h
is_text (Text source target unchecked json) a note h = inl h
is_text (Check target heap json) a note h = inl h
is_text (Deploy task) a note h = inl h
is_text (Mine task) a note h = is_note (upshot_of a) note h
is_text (Validate task) a note h = inl h
is_text (Call task) a note h = inl h
is_text (Debug task) a note h = inl h
is_text (Show task) a note h = inl h

pub says_note : (c : Command) (a : Answer) (note old new : List ℕ) (failed fails : ℕ) → IsNote c a note → IsSaid note old new failed fails → SaysNote old new failed fails
says_note c a note old new failed fails is said = record { text = note; is_note = is_text c a note is; said = said }

-- what a command that mines is allowed, said of a command of the line
pub of_command : {B : Type 0} (P : Command → Type 0) (c : Command) → P c → IsMine c ⊎ B → ((d : Command) × P d × IsMine d) ⊎ B
of_command P c says (inl mines) = inl (c, says, mines)
of_command P c says (inr b) = inr b
