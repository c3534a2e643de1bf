use Rattle.std.proofs.Common.{◌≡◌, ℕ, List, length, refl, subst}
use Rattle.foshqarel_c.specs.Buffers.{IsPut, refused, told_refusal}
use Rattle.foshqarel_c.proofs.buffers.fail.Goals as goal

pub returns-in-Refused : goal.returns-in-Refused
returns-in-Refused c =
    rw c.in-Refused.is (subst (λ (bytes : List ℕ). IsPut refused bytes c.args.sentence.now c.put.new.out c.put.result × (c.refused.result ≡ told_refusal c.in-Refused.refusal (length bytes)))
    c.as_bytes-bytes.ensures.value (c.put.ensures, c.refused.ensures))

pub returns-in-NoMemory : goal.returns-in-NoMemory
returns-in-NoMemory c = rw c.in-NoMemory.is (record { kept = refl; status_is = c.lack.ensures.status; told_is = c.lack.ensures.told })
