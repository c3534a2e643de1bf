-- What `mine` says on standard error.
use Rattle.std.specs.Prelude.{◌≡◌, ℕ, ◌⊎◌, List, [], ◌∷◌}
use Rattle.std.specs.List.{AllByRecursion}
use Rattle.spec_ledger.specs.declared.Outcome.{Outcome}
use Rattle.spec_ledger.specs.declared.Outcome.TheVariants.{Returned}
use Rattle.spec_block.specs.Worlds.{Position, Block}
use Rattle.spec_block.specs.Bytes.{block_bytes}
use Rattle.wblock_line.specs.Answers.{EndsLine, Written, Upshot}
use Rattle.wblock_line.specs.declared.perform.Status.TheVariants as status

abbrev pub IsReturn : Outcome → Type 0
IsReturn (Returned value) = Unit {0}
IsReturn o = ⊥

-- the call at a position returned
abbrev pub HasReturned : Position → Type 0
HasReturned p = IsReturn p.receipt.outcome

-- nothing is said of calls that all returned, and else a text that ends with a newline
pub record IsNoteOf (positions : List Position) (note : List ℕ) : Type 0 where
  pub silent : AllByRecursion HasReturned positions → note ≡ []
  pub told : (AllByRecursion HasReturned positions → ⊥) → EndsLine note

-- what is said is of the block that is to be written first
pub record NotesBlock (u : Upshot) (note : List ℕ) : Type 0 where
  pub block : Block
  pub name : List ℕ
  pub others : List Written
  pub writes : u.writes ≡ (name, block_bytes block) ∷ others
  pub is_note : IsNoteOf block.positions note

-- of a refusal nothing is said here
abbrev pub Notes : Upshot → List ℕ → Type 0
Notes u note = NotesBlock u note ⊎ ((u.status ≡ status.Refused) × (note ≡ []))
