-- Bytes of a slice.
use Rattle.std.proofs.Common.{◌≡◌, ℕ, suc, true, List, [], ◌∷◌, refl, Fits, w8, arith}
use Rattle.std.specs.Prelude.{slice_index_or}
use Rattle.std.specs.List.{list_all}
use Rattle.std.proofs.lemmas.Bool.{lt-ltb}
use Rattle.spec_modules.specs.Limits.{is_byte}

pub all_bytes : (bytes : List ℕ) → ((i : ℕ) → Fits w8 (slice_index_or bytes i 0)) → list_all is_byte bytes ≡ true
all_bytes [] h = refl
all_bytes (b ∷ bs) h =
    let here : Fits w8 b = h 0 in
    let t : is_byte b ≡ true = lt-ltb b 256 (omega (arith, here)) in
    rw t (all_bytes bs (λ i. h (suc i)))
