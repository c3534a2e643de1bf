-- The bytes of a number, the first of them.
use Rattle.leb.specs.Signs.{signed_part, low_bits}
use Rattle.std.proofs.Common.{Bool, true, false, ◌≡◌, ℕ, zero, suc, ◌+◌, ◌-◌, ◌/◌, ◌%◌, ◌<◌, ◌≤◌, List, [], ◌∷◌, ◌++◌, sym, ap, ◌∙◌, arith, append_assoc}
use Rattle.std.proofs.lemmas.Bool.{le-ltb, lt-ltb}
use Rattle.spec_modules.specs.Shortest.{unsigned_bytes, signed_bytes}

pub bytes_more : (more n : ℕ) → 0 < more → 128 ≤ n → unsigned_bytes more n ≡ (n % 128 + 128) ∷ unsigned_bytes (more - 1) (n / 128)
bytes_more zero n lt le = absurd (omega arith)
bytes_more (suc more) n lt le =
    let s : more ≡ suc more - 1 = omega arith in
    let b : 128 + n % 128 ≡ n % 128 + 128 = omega arith in
    rw (le-ltb n 128 le) (ap (λ x. x ∷ unsigned_bytes more (n / 128)) b ∙ ap (λ m. (n % 128 + 128) ∷ unsigned_bytes m (n / 128)) s)

pub bytes_join : (old mid new : List ℕ) (more n : ℕ) → 0 < more → 128 ≤ n → mid ≡ old ++ (n % 128 + 128) ∷ [] → new ≡ mid ++ unsigned_bytes (more - 1) (n / 128) → new ≡ old ++ unsigned_bytes more n
bytes_join old mid new more n lt le e f =
    f ∙ ap (λ l. l ++ unsigned_bytes (more - 1) (n / 128)) e ∙ append_assoc old ((n % 128 + 128) ∷ []) (unsigned_bytes (more - 1) (n / 128)) ∙ ap (λ l. old ++ l) (sym (bytes_more more n lt le))

pub signed_last : (neg : Bool) (more n : ℕ) → n < 64 → signed_bytes more (signed_part neg n) ≡ low_bits neg n ∷ []
signed_last false zero n lt = ap (λ x. x ∷ []) (let e : n ≡ n % 128 = omega arith in e)
signed_last false (suc more) n lt = rw (lt-ltb n 64 lt) (ap (λ x. x ∷ []) (let e : n ≡ n % 128 = omega arith in e))
signed_last true zero n lt = ap (λ x. x ∷ []) (let e : 127 - n ≡ 127 - n % 128 = omega arith in e)
signed_last true (suc more) n lt = rw (lt-ltb n 64 lt) (ap (λ x. x ∷ []) (let e : 127 - n ≡ 127 - n % 128 = omega arith in e))

pub signed_more : (neg : Bool) (more n : ℕ) → 0 < more → 64 ≤ n → signed_bytes more (signed_part neg n) ≡ (low_bits neg n + 128) ∷ signed_bytes (more - 1) (signed_part neg (n / 128))
signed_more neg zero n lt le = absurd (omega arith)
signed_more false (suc more) n lt le =
    let s : more ≡ suc more - 1 = omega arith in
    let b : 128 + n % 128 ≡ n % 128 + 128 = omega arith in
    rw (le-ltb n 64 le) (ap (λ x. x ∷ signed_bytes more (signed_part false (n / 128))) b ∙ ap (λ m. (n % 128 + 128) ∷ signed_bytes m (signed_part false (n / 128))) s)
signed_more true (suc more) n lt le =
    let s : more ≡ suc more - 1 = omega arith in
    let b : 255 - n % 128 ≡ (127 - n % 128) + 128 = omega arith in
    rw (le-ltb n 64 le) (ap (λ x. x ∷ signed_bytes more (signed_part true (n / 128))) b ∙ ap (λ m. ((127 - n % 128) + 128) ∷ signed_bytes m (signed_part true (n / 128))) s)

pub signed_join : (old mid new : List ℕ) (neg : Bool) (more n : ℕ) → 0 < more → 64 ≤ n → mid ≡ old ++ (low_bits neg n + 128) ∷ [] → new ≡ mid ++ signed_bytes (more - 1) (signed_part neg (n / 128)) → new ≡ old ++ signed_bytes more (signed_part neg n)
signed_join old mid new neg more n lt le e f =
    let high = signed_bytes (more - 1) (signed_part neg (n / 128)) in
    f ∙ ap (λ l. l ++ high) e ∙ append_assoc old ((low_bits neg n + 128) ∷ []) high ∙ ap (λ l. old ++ l) (sym (signed_more neg more n lt le))
