-- What is answered to a failure is a refusal or a lack of memory.
use Rattle.std.proofs.Common.{ℕ, List, string_bytes, inl, inr}
use Rattle.embed.specs.declared.failure.Refusal.{Refusal}
use Rattle.embed.specs.declared.failure.Failure.{Failure}
use Rattle.embed.specs.declared.failure.Failure.TheVariants as failure
use Rattle.embed.specs.Refusals.{IfRefused}
use Rattle.foshqarel_c.specs.Buffers.{Fails, IsFailure}
use Rattle.foshqarel_c.specs.declared.told.Told.{Told}

pub fails : (f : Failure) (Refuses : Refusal → Type 0) (old new : List ℕ) (told : Told) (status : ℕ) → IfRefused f Refuses → IsFailure f old new told status → Fails Refuses old new told status
fails (failure.Refused r sentence) Refuses old new told status is put = inl (record { refusal = r; is = is; sentence = string_bytes sentence; put = put.0; told_is = put.1 })
fails failure.NoMemory Refuses old new told status is lack = inr lack
