-- What a call across the border answers, and what it writes to the caller's buffers.
use Rattle.std.specs.Prelude.{◌≡◌, ◌⊎◌, ℕ, ◌-◌, ◌<◌, ◌≤◌, ◌^◌, List, ◌++◌, Option, Some, None, length, take, drop, string_bytes}
use Rattle.embed.specs.declared.failure.Refusal.{Refusal}
use Rattle.embed.specs.declared.failure.Failure.{Failure}
use Rattle.embed.specs.declared.failure.Failure.TheVariants as failure
use Rattle.embed.specs.declared.failure.Subject.{Subject}
use Rattle.embed.specs.declared.failure.Subject.TheVariants.{Load, Check, Deploy, Assemble, Text, World, Calls, Block}
use Rattle.foshqarel_c.specs.declared.told.Told.{Told}

-- ---- statuses

abbrev pub done : ℕ
done = 0

abbrev pub refused : ℕ
refused = 1

abbrev pub short : ℕ
short = 2

abbrev pub no_memory : ℕ
no_memory = 3

-- ---- what is told

abbrev pub subject_number : Subject → ℕ
subject_number Load = 1
subject_number Check = 2
subject_number Deploy = 3
subject_number Assemble = 4
subject_number Text = 5
subject_number World = 6
subject_number Calls = 7
subject_number Block = 8

-- no place is the greatest number of 64 bits
abbrev pub or_nowhere : Option ℕ → ℕ
or_nowhere (Some n) = n
or_nowhere None = 2 ^ 64 - 1

-- so much is to be given, and so much of a world after it
abbrev pub told_given : (size : ℕ) → (next_size : ℕ) → Told
told_given size next_size = record { size = size; next_size = next_size; place = 2 ^ 64 - 1; function = 2 ^ 64 - 1; subject = 0; number = 0 }

-- the refusal, whose sentence has so many bytes
abbrev pub told_refusal : Refusal → (size : ℕ) → Told
told_refusal r size = record { size = size; next_size = 0; place = or_nowhere r.place; function = or_nowhere r.function; subject = subject_number r.subject; number = r.number }

-- ---- what is written

-- bytes go to a buffer: where they fit they are its front, and what stands behind them is as it was; else all of it is as it was
pub record IsPut (status_done : ℕ) (bytes old new : List ℕ) (status : ℕ) : Type 0 where
  pub fits : length bytes ≤ length old → (new ≡ bytes ++ drop (length bytes) old) × (status ≡ status_done)
  pub short : length old < length bytes → (new ≡ old) × (status ≡ short)

-- items fill a list from its front on, as many as it holds, and what stands behind them is as it was
abbrev pub laid : {X : Type 0} → List X → List X → List X
laid items old = take (length old) items ++ drop (length items) old

-- ---- what a call comes to

-- bytes of which this is true
pub record IsGiven (Given : List ℕ → Type 0) (old new : List ℕ) (told : Told) (status : ℕ) : Type 0 where
  pub bytes : List ℕ
  pub is : Given bytes
  pub put : IsPut done bytes old new status
  pub told_is : told ≡ told_given (length bytes) 0

-- a number of which this is true; the buffer is for a sentence, and is as it was
pub record IsCounted (Given : ℕ → Type 0) (old new : List ℕ) (told : Told) (status : ℕ) : Type 0 where
  pub count : ℕ
  pub is : Given count
  pub kept : new ≡ old
  pub status_is : status ≡ done
  pub told_is : told ≡ told_given count 0

-- a refusal of which this is true, and its sentence
pub record IsRefused (Refuses : Refusal → Type 0) (old new : List ℕ) (told : Told) (status : ℕ) : Type 0 where
  pub refusal : Refusal
  pub is : Refuses refusal
  pub sentence : List ℕ
  pub put : IsPut refused sentence old new status
  pub told_is : told ≡ told_refusal refusal (length sentence)

-- memory was refused
pub record IsLack (old new : List ℕ) (told : Told) (status : ℕ) : Type 0 where
  pub kept : new ≡ old
  pub status_is : status ≡ no_memory
  pub told_is : told ≡ told_given 0 0

-- what is answered to a failure
abbrev pub IsFailure : Failure → (old new : List ℕ) → Told → (status : ℕ) → Type 0
IsFailure (failure.Refused r sentence) old new told status = IsPut refused (string_bytes sentence) old new status × (told ≡ told_refusal r (length (string_bytes sentence)))
IsFailure failure.NoMemory old new told status = IsLack old new told status

-- a refusal or a lack of memory
abbrev pub Fails : (Refuses : Refusal → Type 0) → (old new : List ℕ) → Told → (status : ℕ) → Type 0
Fails Refuses old new told status = IsRefused Refuses old new told status ⊎ IsLack old new told status

abbrev pub Comes : (Given : List ℕ → Type 0) → (Refuses : Refusal → Type 0) → (old new : List ℕ) → Told → (status : ℕ) → Type 0
Comes Given Refuses old new told status = IsGiven Given old new told status ⊎ Fails Refuses old new told status

abbrev pub Counts : (Given : ℕ → Type 0) → (Refuses : Refusal → Type 0) → (old new : List ℕ) → Told → (status : ℕ) → Type 0
Counts Given Refuses old new told status = IsCounted Given old new told status ⊎ Fails Refuses old new told status

-- items of which this is true, from a place on; the buffer of the sentence is as it was
pub record IsListed {X : Type 0} (Given : List X → Type 0) (from : ℕ) (items_old items_new : List X) (old new : List ℕ) (told : Told) (status : ℕ) : Type 0 where
  pub items : List X
  pub is : Given items
  pub laid_are : items_new ≡ laid (drop from items) items_old
  pub counted : IsCounted (λ count. count ≡ length items) old new told status

-- a refusal or a lack of memory, and no item is written
abbrev pub FailsListing : {X : Type 0} → (Refuses : Refusal → Type 0) → (items_old items_new : List X) → (old new : List ℕ) → Told → (status : ℕ) → Type 0
FailsListing Refuses items_old items_new old new told status = (items_new ≡ items_old) × Fails Refuses old new told status

abbrev pub Lists : {X : Type 0} → (Given : List X → Type 0) → (Refuses : Refusal → Type 0) → (from : ℕ) → (items_old items_new : List X) → (old new : List ℕ) → Told → (status : ℕ) → Type 0
Lists Given Refuses from items_old items_new old new told status = IsListed Given from items_old items_new old new told status ⊎ FailsListing Refuses items_old items_new old new told status

-- two outputs, which both fit and are both written, or neither is
pub record ArePut (first second first_old first_new second_old second_new : List ℕ) (status : ℕ) : Type 0 where
  pub fits : length first ≤ length first_old → length second ≤ length second_old → (first_new ≡ first ++ drop (length first) first_old) × (second_new ≡ second ++ drop (length second) second_old) × (status ≡ done)
  pub short : (length first_old < length first) ⊎ (length second_old < length second) → (first_new ≡ first_old) × (second_new ≡ second_old) × (status ≡ short)

pub record AreGiven (Given : List ℕ → List ℕ → Type 0) (first_old first_new second_old second_new : List ℕ) (told : Told) (status : ℕ) : Type 0 where
  pub first : List ℕ
  pub second : List ℕ
  pub are : Given first second
  pub put : ArePut first second first_old first_new second_old second_new status
  pub told_is : told ≡ told_given (length first) (length second)

abbrev pub ComeBoth : (Given : List ℕ → List ℕ → Type 0) → (Refuses : Refusal → Type 0) → (first_old first_new second_old second_new : List ℕ) → Told → (status : ℕ) → Type 0
ComeBoth Given Refuses first_old first_new second_old second_new told status =
    AreGiven Given first_old first_new second_old second_new told status ⊎ ((second_new ≡ second_old) × Fails Refuses first_old first_new told status)
