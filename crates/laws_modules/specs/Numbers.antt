-- A number that bytes spell is in range, and its shortest bytes are no more than those.
use Rattle.std.proofs.lemmas.Int.{ints}
use Rattle.std.proofs.Common.{◌≡◌, ℕ, zero, suc, ◌+◌, ◌-◌, ◌*◌, ◌/◌, ◌^◌, ◌<◌, ◌≤◌, true, ◌&&◌, List, [], ◌∷◌, ◌++◌, length, refl, sym, ap, ◌∙◌, ⊎_elim, arith, ℤ, pos, negsuc, ◌+ℤ◌, ◌-ℤ◌, ◌*ℤ◌}
use Rattle.std.specs.List.{list_all}
use Rattle.std.proofs.lemmas.Bool.{ltb-true, lt-ltb, le-ltb, cases_lt}
use Rattle.std.proofs.lemmas.List.Folds.{list_all-append}
use Rattle.std.proofs.lemmas.Nat.{pow-add}
use Rattle.spec_modules.specs.Limits.{is_byte, is_signed, first, second}
use Rattle.spec_modules.specs.Leb.{unsigned, signed}
use Rattle.spec_modules.specs.Shortest.{unsigned_bytes, signed_bytes}
use Rattle.laws_modules.specs.ShortestBytes.{Bytes}

pub parts : (a b bs : List ℕ) → bs ≡ a ++ b → Bytes bs → Bytes a × Bytes b
parts a b bs e w =
    let all : (list_all is_byte a && list_all is_byte b) ≡ true = sym (list_all-append is_byte a b) ∙ sym (ap (list_all is_byte) e) ∙ w in
    (first (list_all is_byte a) (list_all is_byte b) all, second (list_all is_byte a) (list_all is_byte b) all)

first_byte : (b : ℕ) (bs : List ℕ) → Bytes (b ∷ bs) → b < 256
first_byte b bs w = ltb-true b 256 (first (is_byte b) (list_all is_byte bs) w)

other_bytes : (b : ℕ) (bs : List ℕ) → Bytes (b ∷ bs) → Bytes bs
other_bytes b bs w = second (is_byte b) (list_all is_byte bs) w

-- ---- The number of shortest bytes of an unsigned number

pub count_some : (more n : ℕ) → 0 < length (unsigned_bytes more n)
count_some zero n = omega arith
count_some (suc more) n = ⊎_elim (λ small. rw (lt-ltb n 128 small) (omega arith)) (λ large. rw (le-ltb n 128 large) (omega arith)) (cases_lt n 128)

count_small : (more n : ℕ) → n < 128 → length (unsigned_bytes more n) ≡ 1
count_small zero n l = refl
count_small (suc more) n l = rw (lt-ltb n 128 l) refl

count_large : (more n : ℕ) → 128 ≤ n → length (unsigned_bytes (suc more) n) ≡ suc (length (unsigned_bytes more (n / 128)))
count_large more n l = rw (le-ltb n 128 l) refl

pub count_rises : (more m n : ℕ) → m ≤ n → length (unsigned_bytes more m) ≤ length (unsigned_bytes more n)
count_rises zero m n l = omega arith
count_rises (suc more) m n l =
    ⊎_elim
    (λ small. omega (arith, count_small (suc more) m small, count_some (suc more) n))
    (λ large. omega (arith, count_large more m large, count_large more n (omega arith), count_rises more (m / 128) (n / 128) (omega arith)))
    (cases_lt m 128)

-- one more bit takes at most one more byte
count_doubled : (more m n : ℕ) → m ≤ 2 * n + 1 → length (unsigned_bytes more m) ≤ length (unsigned_bytes more n) + 1
count_doubled zero m n l = omega arith
count_doubled (suc more) m n l =
    ⊎_elim
    (λ small. omega (arith, count_small (suc more) m small))
    (λ large. ⊎_elim
    (λ few. omega (arith, count_large more m large, count_small more (m / 128) (omega arith), count_some (suc more) n))
    (λ many. omega (arith, count_large more m large, count_large more n many, count_doubled more (m / 128) (n / 128) (omega arith)))
    (cases_lt n 128))
    (cases_lt m 128)

pub count_sum : (more m n : ℕ) → length (unsigned_bytes more (m + n)) ≤ length (unsigned_bytes more m) + length (unsigned_bytes more n)
count_sum more m n =
    ⊎_elim
    (λ l. omega (arith, count_doubled more (m + n) n (omega arith), count_some more m))
    (λ l. omega (arith, count_doubled more (m + n) m (omega arith), count_some more n))
    (cases_lt m n)

-- ---- Unsigned numbers that are spelled

pub unsigned_short : (more bits n : ℕ) (bs : List ℕ) → Bytes bs → unsigned bits n bs → length (unsigned_bytes more n) ≤ length bs
unsigned_short more bits n [] w s = absurd s
unsigned_short zero bits n (b ∷ bs) w s = omega arith
unsigned_short (suc more) bits n (b ∷ []) w s = omega (arith, count_small (suc more) n (omega (arith, s.0, s.2)))
unsigned_short (suc more) bits n (b ∷ c ∷ bs) w s =
    ⊎_elim
    (λ small. omega (arith, count_small (suc more) n small))
    (λ large.
    let high : n / 128 ≡ s.2 = omega (arith, first_byte b (c ∷ bs) w, s.4) in
    omega (arith, count_large more n large, ap (λ k. length (unsigned_bytes more k)) high, unsigned_short more (bits - 7) s.2 (c ∷ bs) (other_bytes b (c ∷ bs) w) s.3))
    (cases_lt n 128)

pub unsigned_below : (bits n : ℕ) (bs : List ℕ) → Bytes bs → unsigned bits n bs → n < 2 ^ bits
unsigned_below bits n [] w s = absurd s
unsigned_below bits n (b ∷ []) w s = omega (arith, s.1, s.2)
unsigned_below bits n (b ∷ c ∷ bs) w s =
    let e : 7 + (bits - 7) ≡ bits = omega (arith, s.1) in
    let split : 128 * 2 ^ (bits - 7) ≡ 2 ^ bits = sym (pow-add 2 7 (bits - 7)) ∙ ap (λ k. 2 ^ k) e in
    let high = unsigned_below (bits - 7) s.2 (c ∷ bs) (other_bytes b (c ∷ bs) w) s.3 in
    omega (arith, split, high, first_byte b (c ∷ bs) w, s.4)

-- ---- The number of shortest bytes of a signed number

last_one : (z : ℤ) → length (signed_bytes 0 z) ≡ 1
last_one (pos n) = refl
last_one (negsuc n) = refl

small_pos : (more n : ℕ) → n < 64 → length (signed_bytes more (pos n)) ≡ 1
small_pos zero n l = refl
small_pos (suc more) n l = rw (lt-ltb n 64 l) refl

small_negsuc : (more n : ℕ) → n < 64 → length (signed_bytes more (negsuc n)) ≡ 1
small_negsuc zero n l = refl
small_negsuc (suc more) n l = rw (lt-ltb n 64 l) refl

large_pos : (more n : ℕ) → 64 ≤ n → length (signed_bytes (suc more) (pos n)) ≡ suc (length (signed_bytes more (pos (n / 128))))
large_pos more n l = rw (le-ltb n 64 l) refl

large_negsuc : (more n : ℕ) → 64 ≤ n → length (signed_bytes (suc more) (negsuc n)) ≡ suc (length (signed_bytes more (negsuc (n / 128))))
large_negsuc more n l = rw (le-ltb n 64 l) refl

more_pos : (more m n : ℕ) → n / 128 ≡ m → length (signed_bytes (suc more) (pos n)) ≤ suc (length (signed_bytes more (pos m)))
more_pos more m n e =
    ⊎_elim
    (λ small. omega (arith, small_pos (suc more) n small))
    (λ large. omega (arith, large_pos more n large, ap (λ k. length (signed_bytes more (pos k))) e))
    (cases_lt n 64)

more_negsuc : (more m n : ℕ) → n / 128 ≡ m → length (signed_bytes (suc more) (negsuc n)) ≤ suc (length (signed_bytes more (negsuc m)))
more_negsuc more m n e =
    ⊎_elim
    (λ small. omega (arith, small_negsuc (suc more) n small))
    (λ large. omega (arith, large_negsuc more n large, ap (λ k. length (signed_bytes more (negsuc k))) e))
    (cases_lt n 64)

-- seven more bits below a number
below_pos : (m d : ℕ) (z : ℤ) → z ≡ (pos 128 *ℤ pos m) +ℤ pos d → z ≡ pos (128 * m + d)
below_pos m d z e = omega (arith, ints, e)

below_negsuc : (m d : ℕ) (z : ℤ) → d < 128 → z ≡ (pos 128 *ℤ negsuc m) +ℤ pos d → z ≡ negsuc (128 * m + (127 - d))
below_negsuc m d z l e = omega (arith, ints, e)

more_signed : (more d : ℕ) (m z : ℤ) → d < 128 → z ≡ (pos 128 *ℤ m) +ℤ pos d → length (signed_bytes (suc more) z) ≤ suc (length (signed_bytes more m))
more_signed more d (pos m) z l e =
    omega (arith, ap (λ y. length (signed_bytes (suc more) y)) (below_pos m d z e), more_pos more m (128 * m + d) (omega arith))
more_signed more d (negsuc m) z l e =
    omega (arith, ap (λ y. length (signed_bytes (suc more) y)) (below_negsuc m d z l e), more_negsuc more m (128 * m + (127 - d)) (omega arith))

-- ---- Signed numbers that are spelled

minus_128 : (b : ℕ) (z : ℤ) → b < 128 → z ≡ pos b -ℤ pos 128 → z ≡ negsuc (127 - b)
minus_128 b z l e = omega (arith, ints, e)

pub signed_short : (more bits : ℕ) (z : ℤ) (bs : List ℕ) → Bytes bs → signed bits z bs → length (signed_bytes more z) ≤ length bs
signed_short more bits z [] w s = absurd s
signed_short zero bits z (b ∷ bs) w s = omega (arith, last_one z)
signed_short (suc more) bits z (b ∷ []) w s =
    ⊎_elim
    (λ p. omega (arith, ap (λ y. length (signed_bytes (suc more) y)) p.2, small_pos (suc more) b p.0))
    (λ p. omega (arith, ap (λ y. length (signed_bytes (suc more) y)) (minus_128 b z p.1 p.3), small_negsuc (suc more) (127 - b) (omega (arith, p.0))))
    s
signed_short (suc more) bits z (b ∷ c ∷ bs) w s =
    let d : b - 128 < 128 = omega (arith, first_byte b (c ∷ bs) w) in
    omega (arith, more_signed more (b - 128) s.2 z d s.4, signed_short more (bits - 7) s.2 (c ∷ bs) (other_bytes b (c ∷ bs) w) s.3)

within_more : (half high d : ℕ) (m z : ℤ) → 128 * high ≡ half → d < 128 → z ≡ (pos 128 *ℤ m) +ℤ pos d → is_signed high m ≡ true → is_signed half z ≡ true
within_more half high d (pos m) z h l e w =
    let k = ltb-true m high w in
    rw (below_pos m d z e) (lt-ltb (128 * m + d) half (omega (arith, k, h)))
within_more half high d (negsuc m) z h l e w =
    let k = ltb-true m high w in
    rw (below_negsuc m d z l e) (lt-ltb (128 * m + (127 - d)) half (omega (arith, k, h)))

pub signed_within : (bits : ℕ) (z : ℤ) (bs : List ℕ) → Bytes bs → signed bits z bs → is_signed (2 ^ (bits - 1)) z ≡ true
signed_within bits z [] w s = absurd s
signed_within bits z (b ∷ []) w s =
    ⊎_elim
    (λ p. rw p.2 (lt-ltb b (2 ^ (bits - 1)) p.1))
    (λ p. rw (minus_128 b z p.1 p.3) (lt-ltb (127 - b) (2 ^ (bits - 1)) (omega (arith, p.1, p.2))))
    s
signed_within bits z (b ∷ c ∷ bs) w s =
    let d : b - 128 < 128 = omega (arith, first_byte b (c ∷ bs) w) in
    let e : 7 + ((bits - 7) - 1) ≡ bits - 1 = omega (arith, s.1) in
    let split : 128 * 2 ^ ((bits - 7) - 1) ≡ 2 ^ (bits - 1) = sym (pow-add 2 7 ((bits - 7) - 1)) ∙ ap (λ k. 2 ^ k) e in
    within_more (2 ^ (bits - 1)) (2 ^ ((bits - 7) - 1)) (b - 128) s.2 z split d s.4 (signed_within (bits - 7) s.2 (c ∷ bs) (other_bytes b (c ∷ bs) w) s.3)
