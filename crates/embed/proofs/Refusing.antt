-- What a refusal tells follows from what was found.
use Rattle.std.proofs.Common.{◌≡◌, ◌⊎◌, ⊎_elim, ℕ, List, Some, false, inl, inr, sym}
use Rattle.std.proofs.lemmas.Option.{same_Some}
use Rattle.spec_block.specs.Worlds.{Block}
use Rattle.spec_block.specs.Bytes.{SpellsBlock}
use Rattle.records.specs.declared.refusal.BlockRefusal.{BlockRefusal}
use Rattle.records.specs.declared.refusal.BlockRefusal.TheVariants as of_block
use Rattle.world.specs.Reading.{IsNoWorld, Refuses}
use Rattle.records.specs.declared.refusal.ReadRefusal.{ReadRefusal}
use Rattle.records.specs.declared.refusal.ReadRefusal.TheVariants as cause
use Rattle.text_resolve.specs.Refusals.{Unless}
use Rattle.text_resolve.specs.declared.refusal.AsmRefusal.{AsmRefusal}
use Rattle.text_resolve.specs.declared.refusal.AsmRefusal.TheVariants as of_text
use Rattle.wblock_modules.specs.Assembles.{told}
use Rattle.wblock_modules.specs.Texts.{IsFound}
use Rattle.wblock_modules.specs.declared.text.Found.{Found}
use Rattle.wblock_modules.specs.declared.text.Found.TheVariants as found
use Rattle.embed.specs.Refusals.{IfRefused, IsUnwritten, RefusesBlock, RefusesWorld, RefusesWriting, block_refusal, world_refusal}
use Rattle.embed.specs.declared.failure.Refusal.{Refusal}
use Rattle.embed.specs.declared.failure.Failure.{Failure}
use Rattle.embed.specs.declared.failure.Failure.TheVariants as failure

pub if_refused : (f : Failure) (P Q : Refusal → Type 0) → ((r : Refusal) → P r → Q r) → IfRefused f P → IfRefused f Q
if_refused (failure.Refused r sentence) P Q g p = g r p
if_refused failure.NoMemory P Q g p = tt

-- a refusal that is told is not for memory
pub no_world : (bytes : List ℕ) (c : ReadRefusal) (r : Refusal) → ((c ≡ cause.NoMemory) ⊎ IsNoWorld bytes) → Refuses bytes c → world_refusal c ≡ Some r → RefusesWorld bytes r
no_world bytes (cause.Malformed at) r none first told = record { none = ⊎_elim (λ same. absurd (cc)) (λ n. n) none; cause = cause.Malformed at; first = first; told_is = told }
no_world bytes cause.TooLarge r none first told = record { none = ⊎_elim (λ same. absurd (cc)) (λ n. n) none; cause = cause.TooLarge; first = first; told_is = told }
no_world bytes cause.NoMemory r none first told = absurd (cc)

-- so is one of bytes that spell no block
pub no_block : (bytes : List ℕ) (c : BlockRefusal) (r : Refusal) → ((c ≡ of_block.NoMemory) ⊎ ((b : Block) → ¬ (SpellsBlock bytes b))) → block_refusal c ≡ Some r → RefusesBlock bytes r
no_block bytes (of_block.Malformed at) r none told = record { none = ⊎_elim (λ same. absurd (cc)) (λ n. n) none; told_is = same_Some _ _ (sym told) }
no_block bytes of_block.TooLarge r none told = record { none = ⊎_elim (λ same. absurd (cc)) (λ n. n) none; told_is = same_Some _ _ (sym told) }
no_block bytes of_block.NoMemory r none told = absurd (cc)

-- so is a refusal of a text
pub unless_told : (P : Type 0) (c : AsmRefusal) (n : ℕ × ℕ) → Unless P c → told c ≡ Some n → P
unless_told P of_text.NoMemory n p is = absurd (cc)
unless_told P (of_text.Lex refusal) n p is = p
unless_told P (of_text.Unexpected at) n p is = p
unless_told P (of_text.UnknownName at) n p is = p
unless_told P (of_text.RepeatedName at) n p is = p
unless_told P (of_text.NumberRange at) n p is = p
unless_told P (of_text.TooLarge limit) n p is = p

-- what was found of a module is no text
pub unwritten : (bytes : List ℕ) (f : Found) (r : Refusal) → IsFound false bytes f → IsUnwritten f r → RefusesWriting bytes r
unwritten bytes (found.Text text) r is none = absurd none
unwritten bytes found.TooLong r is none = inr (is, inl none)
unwritten bytes found.Unwritten r is none = inr (is, inr none)
