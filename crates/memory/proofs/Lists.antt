-- Lists of pieces and the bytes that they stand for.
use Rattle.std.proofs.Common.{true≢false, ◌≡◌, ℕ, zero, suc, ◌+◌, ◌-◌, ◌*◌, ◌/◌, ◌%◌, ◌^◌, ◌<◌, ◌≤◌, refl, sym, ap, ◌∙◌, arith, subst, length}
use Rattle.std.proofs.lemmas.Option.{slice_get_read, slice_get_past, slice_get-get_or, slice_get_within}
use Rattle.std.specs.Prelude.{All, List, [], ◌∷◌, ◌++◌, Option, Some, None, unwrap_or, MatchOption, slice_get, slice_set, slice_index, replicate, map, Vec, vec_len, take, drop, Bool, true, false, ◌==◌, ◌⊎◌, Ok, Err}
use Rattle.wtypes.specs.declared.TrapCode.TheVariants.{MemoryOutOfBounds}
use Rattle.std.proofs.lemmas.List.{drop_more, ext_get_or, length-take-le, length-drop, get_or-take, get_or-drop}
use Rattle.std.proofs.lemmas.Grind.{common_steps}
use Rattle.std.proofs.Common.{get_or, inl, inr}
use Rattle.std.proofs.lemmas.Bool.{cases_lt}
use Rattle.std.specs.List.{range_with_len}
use Rattle.std.proofs.Math.Nat.{pow-suc, pow-le-pow_right, div-div-eq-div-mul}
use Rattle.std.proofs.lemmas.List.FromFn.{length-map-range_with_len, get_or-map-range_with_len}
use Rattle.spec_modules.specs.Profile.{page_size}
use Rattle.spec_modules.specs.Storage.{number_of_bytes, bytes_of_number}
use Rattle.spec_modules.specs.Memory.{written, load}
use Rattle.memory.specs.Linear.{Memory, Grown, pages}
use Rattle.std.specs.Int.{cast_signed, w32, w64, to_le_bytes, bytes_low_first, byte_at as le_byte}
use Rattle.std.proofs.lemmas.Int.{to_z_pos}
use Rattle.memory.specs.Pieces.{piece_size, byte_of, own_in, byte_in, bytes_in, IsPiece, IsMade, IsPut, HasPut, number_in}

-- ---- one piece replaced

pub at_set : {X : Type 0} (P : Option X → Type 0) (ps : List X) (i : ℕ) (x : X) (k : ℕ) → (k ≡ i → P (Some x)) → P (slice_get ps k) → P (slice_get (slice_set ps i x) k)
at_set P [] i x k f h = h
at_set P (y ∷ ys) zero x zero f h = f refl
at_set P (y ∷ ys) zero x (suc k) f h = h
at_set P (y ∷ ys) (suc i) x zero f h = h
at_set P (y ∷ ys) (suc i) x (suc k) f h = at_set P ys i x k (λ e. f (ap suc e)) h

pub here : {X : Type 0} (ps : List X) (i : ℕ) (x : X) → i < length ps → slice_get (slice_set ps i x) i ≡ Some x
here [] i x h = absurd (omega arith)
here (y ∷ ys) zero x h = refl
here (y ∷ ys) (suc i) x h = here ys i x (omega arith)

pub kept : {A : Type 0} (ps : List (Vec ℕ A)) (i : ℕ) (piece : Vec ℕ A) → vec_len piece ≡ piece_size → (k : ℕ) → IsMade ps k → IsMade (slice_set ps i piece) k
kept ps i piece e k h = at_set (λ o. MatchOption o ⊥ (λ p. vec_len p ≡ piece_size)) ps i piece k (λ q. e) h

pub made : {A : Type 0} (ps : List (Vec ℕ A)) (i : ℕ) (piece : Vec ℕ A) → vec_len piece ≡ piece_size → i < length ps → IsMade (slice_set ps i piece) i
made ps i piece e h = subst (λ o. MatchOption o ⊥ (λ p. vec_len p ≡ piece_size)) (sym (here ps i piece h)) e

pub none_there : (xs : List ℕ) (j : ℕ) → length xs ≡ 0 → slice_get xs j ≡ None
none_there xs j e = slice_get_past xs j (omega (arith, e))

-- what a piece without bytes of its own reads as
unmade : {A : Type 0} (ps : List (Vec ℕ A)) (i : ℕ) (old : Vec ℕ A) (f : ℕ → ℕ) → slice_get ps i ≡ Some old → length old.items ≡ 0 → (at : ℕ) → at / piece_size ≡ i → byte_in ps f at ≡ f at
unmade ps i old f e n at q =
    ap (λ k. unwrap_or (byte_of (slice_get ps k) (at % piece_size)) (f at)) q
    ∙ (ap (λ o. unwrap_or (byte_of o (at % piece_size)) (f at)) e ∙ ap (λ o. unwrap_or o (f at)) (none_there old.items (at % piece_size) n))

pub same : {A : Type 0} (ps : List (Vec ℕ A)) (i : ℕ) (piece old : Vec ℕ A) (f : ℕ → ℕ) → slice_get ps i ≡ Some old → length old.items ≡ 0 → vec_len piece ≡ piece_size
    → ((j : ℕ) → j < piece_size → slice_index piece.items j ≡ f (piece_size * i + j)) → (at : ℕ) → byte_in (slice_set ps i piece) f at ≡ byte_in ps f at
same ps i piece old f e n l z at =
    at_set (λ o. unwrap_or (byte_of o (at % piece_size)) (f at) ≡ byte_in ps f at) ps i piece (at / piece_size)
    (λ q. let o = piece.ok.0 in
    let j : at % piece_size < piece_size = omega arith in
    let there : piece_size * i + at % piece_size ≡ at = omega (arith, q) in
    ap (λ o. unwrap_or o (f at)) (slice_get-get_or piece.items (at % piece_size) 0 (omega (arith, o, l, j)))
    ∙ (z (at % piece_size) j ∙ (ap f there ∙ sym (unmade ps i old f e n at q))))
    refl

-- ---- the whole list of bytes

pub length_bytes : {A : Type 0} (ps : List (Vec ℕ A)) (f : ℕ → ℕ) (n : ℕ) → length (bytes_in ps f 0 n) ≡ n
length_bytes ps f n = length-map-range_with_len (byte_in ps f) 0 n

pub pages_of : {A : Type 0} (ps : List (Vec ℕ A)) (f : ℕ → ℕ) (size : ℕ) → length (bytes_in ps f 0 (page_size * size)) / page_size ≡ size
pages_of ps f size = ap (λ n. n / page_size) (length_bytes ps f (page_size * size)) ∙ omega arith

pub byte_at : {A : Type 0} (ps : List (Vec ℕ A)) (f : ℕ → ℕ) (n k : ℕ) → k < n → slice_index (bytes_in ps f 0 n) k ≡ byte_in ps f k
byte_at ps f n k h = get_or-map-range_with_len (byte_in ps f) 0 n k k 0 h (omega arith)

-- ---- numbers

pub more : (w r b : ℕ) → 0 < w → r < 256 ^ (w - 1) → b < 256 → b + 256 * r < 256 ^ w
more zero r b p q l = absurd (omega arith)
more (suc w) r b p q l = let e : suc w - 1 ≡ w = omega arith in let h : r < 256 ^ w = subst (λ n. r < 256 ^ n) e q in omega (arith, pow-suc 256 w)

pub most : (w : ℕ) → w ≤ 8 → 256 ^ w ≤ 256 ^ 8
most w h = pow-le-pow_right {n = 256} (omega arith) h

pub is_zero : (n : ℕ) (b : Bool) → b ≡ (n == 0) → b ≡ true → n ≡ 0
is_zero zero b e h = refl
is_zero (suc n) b e h = grind arith

pub other : (n m : ℕ) (b : Bool) → b ≡ (n == 0) → b ≡ false → (n ≡ 0) ⊎ (n ≡ m) → n ≡ m
other zero m b e h s = grind arith
other (suc n) m b e h s = omega arith

pub same_number : (f g : ℕ → ℕ) (n at bt : ℕ) → ((k : ℕ) → k < n → f (at + k) ≡ g (bt + k)) → number_in f at n ≡ number_in g bt n
same_number f g zero at bt e = refl
same_number f g (suc n) at bt e =
    let start : at ≡ at + 0 = omega arith in
    let start' : bt + 0 ≡ bt = omega arith in
    let first : f at ≡ g bt = ap f start ∙ (e 0 (omega arith) ∙ ap g start') in
    let rest : number_in f (at + 1) n ≡ number_in g (bt + 1) n = same_number f g n (at + 1) (bt + 1) (λ k l.
    let next : at + 1 + k ≡ at + (k + 1) = omega arith in
    let next' : bt + (k + 1) ≡ bt + 1 + k = omega arith in
    ap f next ∙ (e (k + 1) (omega arith) ∙ ap g next')) in
    λ i. first i + 256 * rest i

-- a byte of a piece that is there
pub own_there : {A : Type 0} (ps : List (Vec ℕ A)) (at k : ℕ) (piece : Vec ℕ A) → slice_get ps (at / piece_size) ≡ Some piece → at % piece_size + k < length piece.items → at % piece_size + k < piece_size
    → own_in ps (at + k) ≡ Some (slice_index piece.items (at % piece_size + k))
own_there ps at k piece e h w =
    let there : (at + k) / piece_size ≡ at / piece_size = omega (arith, w) in
    let offset : (at + k) % piece_size ≡ at % piece_size + k = omega (arith, w) in
    ap (λ j. byte_of (slice_get ps j) ((at + k) % piece_size)) there ∙ (ap (λ o. byte_of o ((at + k) % piece_size)) e
    ∙ (ap (λ j. slice_get piece.items j) offset ∙ slice_get-get_or piece.items (at % piece_size + k) 0 h))

-- the number lies in one piece
in_piece : {A : Type 0} (ps : List (Vec ℕ A)) (f : ℕ → ℕ) (at n : ℕ) (piece : Vec ℕ A) → slice_get ps (at / piece_size) ≡ Some piece → at % piece_size + n ≤ length piece.items → at % piece_size + n ≤ piece_size
    → number_in (slice_index piece.items) (at % piece_size) n ≡ number_in (byte_in ps f) at n
in_piece ps f at n piece e h w = same_number (slice_index piece.items) (byte_in ps f) n (at % piece_size) at (λ k l.
    sym (ap (λ o. unwrap_or o (f (at + k))) (own_there ps at k piece e (omega (arith, h, l)) (omega (arith, w, l)))))

not_longer : {A : Type 0} (piece : Vec ℕ A) → IsPiece piece → vec_len piece ≤ piece_size
not_longer piece (inl e) = omega (arith, e)
not_longer piece (inr e) = omega (arith, e)

-- the same of the piece that was found at an index
pub in_this : {A : Type 0} (ps ds : List (Vec ℕ A)) (f : ℕ → ℕ) (at n : ℕ) (piece : Vec ℕ A) → ds ≡ ps → All IsPiece ps → at / piece_size < length ds → piece ≡ get_or ds (at / piece_size) piece → at % piece_size + n ≤ vec_len piece
    → number_in (slice_index piece.items) (at % piece_size) n ≡ number_in (byte_in ps f) at n
in_this ps ds f at n piece e whole lt is fits =
    let found : slice_get ps (at / piece_size) ≡ Some piece = ap (λ xs. slice_get xs (at / piece_size)) (sym e) ∙ slice_get_read ds (length ds) (at / piece_size) piece refl lt is in
    let one : IsPiece piece = subst IsPiece (sym (is ∙ ap (λ xs. get_or xs (at / piece_size) piece) e)) (whole (at / piece_size) piece (subst (λ xs. at / piece_size < length xs) e lt)) in
    in_piece ps f at n piece found (omega (arith, fits, piece.ok.0)) (omega (arith, fits, not_longer piece one))

-- ---- load

pub load_out : (bytes : List ℕ) (at n : ℕ) → length bytes < at + n → Err MemoryOutOfBounds ≡ load bytes at n
load_out bytes at n h = grind arith

spelled : (bs : List ℕ) (f : ℕ → ℕ) (n at : ℕ) → at + n ≤ length bs → ((k : ℕ) → k < at + n → slice_index bs k ≡ f k) → number_of_bytes (take n (drop at bs)) ≡ number_in f at n
spelled bs f zero at h e = refl
spelled bs f (suc n) at h e =
    let first : slice_index bs at ≡ f at = e at (omega arith) in
    let rest : number_of_bytes (take n (drop (at + 1) bs)) ≡ number_in f (at + 1) n = spelled bs f n (at + 1) (omega arith) (λ k l. e k (omega arith)) in
    ap (λ l. number_of_bytes (take (suc n) l)) (drop_more bs at 0 (omega arith)) ∙ (λ i. first i + 256 * rest i)

fits : (bytes : List ℕ) (at n x : ℕ) → at + n ≤ length bytes → number_of_bytes (take n (drop at bytes)) ≡ x → Ok x ≡ load bytes at n
fits bytes at n x h e = grind arith

pub load_in : {A : Type 0} (ps : List (Vec ℕ A)) (f : ℕ → ℕ) (size at n : ℕ) → at + n ≤ size → Ok (number_in (byte_in ps f) at n) ≡ load (bytes_in ps f 0 size) at n
load_in ps f size at n h =
    let l = length_bytes ps f size in
    fits (bytes_in ps f 0 size) at n (number_in (byte_in ps f) at n) (omega (arith, l)) (spelled (bytes_in ps f 0 size) (byte_in ps f) n at (omega (arith, l)) (λ k q. byte_at ps f size k (omega arith)))

pub loaded : {A : Type 0} (now : Memory) (ps : List (Vec ℕ A)) (f : ℕ → ℕ) (size max at n x : ℕ) → record { bytes = bytes_in ps f 0 size; max = max } ≡ now → at + n ≤ length now.bytes → x ≡ number_in (byte_in ps f) at n → Ok x ≡ load now.bytes at n
loaded now ps f size max at n x v h e =
    let there : at + n ≤ length (bytes_in ps f 0 size) = subst (λ (m : Memory). at + n ≤ length m.bytes) (sym v) h in
    subst (λ (m : Memory). Ok x ≡ load m.bytes at n) v (ap (λ y. Ok y) e ∙ load_in ps f size at n (omega (arith, there, length_bytes ps f size)))

-- ---- store

digit : (i x : ℕ) → le_byte i x ≡ x / 256 ^ i % 256
digit zero x = ap (λ y. y % 256) (omega arith)
digit (suc i) x = refl

shifted : (i x : ℕ) → x / 256 ^ suc i ≡ x / 256 ^ i / 256
shifted i x = ap (λ y. x / y) (pow-suc 256 i) ∙ sym (div-div-eq-div-mul x (256 ^ i) 256)

low_first : (n k i x : ℕ) → n ≤ k → take n (bytes_low_first i k x) ≡ bytes_of_number n (x / 256 ^ i)
low_first zero k i x h = refl
low_first (suc n) zero i x h = absurd (omega arith)
low_first (suc n) (suc k) i x h =
    (λ j. digit i x j ∷ low_first n k (suc i) x (omega arith) j) ∙ ap (λ y. x / 256 ^ i % 256 ∷ bytes_of_number n y) (shifted i x)

-- the first bytes of a number of 64 bits
pub lowest : (n x : ℕ) → n ≤ 8 → take n (to_le_bytes w64 x) ≡ bytes_of_number n x
lowest n x h = low_first n 8 0 x h ∙ ap (bytes_of_number n) (omega arith)

pub all_same : {A : Type 0} (ps qs : List (Vec ℕ A)) (f : ℕ → ℕ) (n : ℕ) → ((at : ℕ) → byte_in qs f at ≡ byte_in ps f at) → bytes_in qs f 0 n ≡ bytes_in ps f 0 n
all_same ps qs f n s = λ i. map (λ at. s at i) (range_with_len 0 n)

pick : {P : Type 0} (at n k : ℕ) → ((k < at) → P) → ((at ≤ k) → (k < at + n) → P) → ((at + n ≤ k) → P) → P
pick at n k f g h = elim (cases_lt k at) [ inl l ↦ f l | inr l ↦ elim (cases_lt k (at + n)) [ inl m ↦ g l m | inr m ↦ h m ] ]

length_written : (bs news : List ℕ) (at : ℕ) → at + length news ≤ length bs → length (written at news bs) ≡ length bs
length_written bs news at h = grind (arith, common_steps)

below : (bs news : List ℕ) (at k : ℕ) → at + length news ≤ length bs → k < at → slice_index (written at news bs) k ≡ slice_index bs k
below bs news at k h l = grind (arith, common_steps)

within : (bs news : List ℕ) (at k : ℕ) → at + length news ≤ length bs → at ≤ k → k < at + length news → slice_index (written at news bs) k ≡ slice_index news (k - at)
within bs news at k h l m = grind (arith, common_steps)

above : (bs news : List ℕ) (at k : ℕ) → at + length news ≤ length bs → at + length news ≤ k → slice_index (written at news bs) k ≡ slice_index bs k
above bs news at k h l = grind (arith, common_steps)

overwritten : (bs cs news : List ℕ) (at : ℕ) → length cs ≡ length bs → at + length news ≤ length bs
    → ((k : ℕ) → k < length news → slice_index cs (at + k) ≡ slice_index news k)
    → ((k : ℕ) → (k < at) ⊎ (at + length news ≤ k) → k < length bs → slice_index cs k ≡ slice_index bs k)
    → cs ≡ written at news bs
overwritten bs cs news at l w f g =
    ext_get_or 0 cs (written at news bs) (l ∙ sym (length_written bs news at w))
    (λ k q. pick at (length news) k
    (λ b. g k (inl b) (omega arith) ∙ sym (below bs news at k w b))
    (λ b c. let r : k ≡ at + (k - at) = omega arith in ap (slice_index cs) r ∙ f (k - at) (omega arith) ∙ sym (within bs news at k w b (omega arith)))
    (λ b. g k (inr b) (omega arith) ∙ sym (above bs news at k w (omega arith))))

-- the bytes stand from an address on, and each other byte is as it was, in memories that begin with the same bytes
abbrev pub IsShown : {A : Type 0} → List (Vec ℕ A) → (ℕ → ℕ) → ℕ → List ℕ → List (Vec ℕ A) → Type 0
IsShown ps f at news qs =
    ((k : ℕ) → k < length news → byte_in qs f (at + k) ≡ slice_index news k) × ((k : ℕ) → (k < at) ⊎ (at + length news ≤ k) → byte_in qs f k ≡ byte_in ps f k)

pub shown : {A : Type 0} (ps qs : List (Vec ℕ A)) (f : ℕ → ℕ) (at : ℕ) (news : List ℕ) → IsPut ps at news qs → IsShown ps f at news qs
shown ps qs f at news p = ((λ k q. ap (λ o. unwrap_or o (f (at + k))) (p.0 k q)), (λ k s. ap (λ o. unwrap_or o (f k)) (p.1 k s)))

pub stored : {A : Type 0} (ps qs : List (Vec ℕ A)) (f : ℕ → ℕ) (size at : ℕ) (news : List ℕ) → at + length news ≤ size → IsShown ps f at news qs
    → bytes_in qs f 0 size ≡ written at news (bytes_in ps f 0 size)
stored ps qs f size at news h p =
    let a = length_bytes ps f size in let b = length_bytes qs f size in
    overwritten (bytes_in ps f 0 size) (bytes_in qs f 0 size) news at (omega (arith, a, b)) (omega (arith, a))
    (λ k q. byte_at qs f size (at + k) (omega arith) ∙ p.0 k q)
    (λ k s q. byte_at qs f size k (omega (arith, a)) ∙ p.1 k s ∙ sym (byte_at ps f size k (omega (arith, a))))

-- ---- pieces without bytes behind the others

empty_last : {A : Type 0} (ps : List (Vec ℕ A)) (piece : Vec ℕ A) → length piece.items ≡ 0 → (i j : ℕ) → byte_of (slice_get (ps ++ piece ∷ []) i) j ≡ byte_of (slice_get ps i) j
empty_last [] piece e zero j = none_there piece.items j e
empty_last [] piece e (suc i) j = refl
empty_last (p ∷ ps) piece e zero j = refl
empty_last (p ∷ ps) piece e (suc i) j = empty_last ps piece e i j

pub longer_same : {A : Type 0} (ps : List (Vec ℕ A)) (piece : Vec ℕ A) → length piece.items ≡ 0 → (at : ℕ) → own_in (ps ++ piece ∷ []) at ≡ own_in ps at
longer_same ps piece e at = empty_last ps piece e (at / piece_size) (at % piece_size)

-- pieces with the same bytes of their own read the same
pub reads_same : {A : Type 0} (ps qs : List (Vec ℕ A)) (f : ℕ → ℕ) → ((at : ℕ) → own_in qs at ≡ own_in ps at) → (at : ℕ) → byte_in qs f at ≡ byte_in ps f at
reads_same ps qs f e at = ap (λ o. unwrap_or o (f at)) (e at)

pub mapped_at : (xs : List ℕ) (f : ℕ → ℕ) (at count : ℕ) → xs ≡ map f (range_with_len at count) → (j : ℕ) → j < count → slice_index xs j ≡ f (at + j)
mapped_at xs f at count e j q = ap (λ l. slice_index l j) e ∙ get_or-map-range_with_len f at count j (at + j) 0 q refl

pub mapped_length : (xs : List ℕ) (f : ℕ → ℕ) (at count : ℕ) → xs ≡ map f (range_with_len at count) → length xs ≡ count
mapped_length xs f at count e = ap length e ∙ length-map-range_with_len f at count

-- ---- a write into one piece

there_written : (bs news : List ℕ) (a k : ℕ) → a + length news ≤ length bs → k < length news → slice_get (written a news bs) (a + k) ≡ Some (slice_index news k)
there_written bs news a k h q =
    let e : a + k - a ≡ k = omega arith in
    slice_get-get_or (written a news bs) (a + k) 0 (omega (arith, length_written bs news a h, h, q))
    ∙ ap (λ b. Some b) (within bs news a (a + k) h (omega arith) (omega (arith, q)) ∙ ap (slice_index news) e)

else_written : (bs news : List ℕ) (a k : ℕ) → a + length news ≤ length bs → (k < a) ⊎ (a + length news ≤ k) → k < length bs → slice_get (written a news bs) k ≡ slice_get bs k
else_written bs news a k h s q =
    let same : slice_index (written a news bs) k ≡ slice_index bs k = elim s [ inl m ↦ below bs news a k h m | inr m ↦ above bs news a k h m ] in
    slice_get-get_or (written a news bs) k 0 (omega (arith, length_written bs news a h, q)) ∙ (ap (λ b. Some b) same ∙ sym (slice_get-get_or bs k 0 q))

beside : (at n k : ℕ) → at % piece_size + n ≤ piece_size → k / piece_size ≡ at / piece_size → (k < at) ⊎ (at + n ≤ k) → (k % piece_size < at % piece_size) ⊎ (at % piece_size + n ≤ k % piece_size)
beside at n k w e (inl m) = inl (omega (arith, e, m))
beside at n k w e (inr m) = inr (omega (arith, e, m))

pub put_in : {A : Type 0} (ps : List (Vec ℕ A)) (at : ℕ) (news : List ℕ) (old new : Vec ℕ A) → slice_get ps (at / piece_size) ≡ Some old → vec_len old ≡ piece_size → at % piece_size + length news ≤ piece_size
    → new.items ≡ written (at % piece_size) news old.items → IsPut ps at news (slice_set ps (at / piece_size) new)
put_in ps at news old new e l w is =
    let o = old.ok.0 in
    let i = at / piece_size in
    let room : at % piece_size + length news ≤ length old.items = omega (arith, o, l, w) in (
      (λ k q.
          let there : (at + k) / piece_size ≡ at / piece_size = omega (arith, w, q) in
          let offset : (at + k) % piece_size ≡ at % piece_size + k = omega (arith, w, q) in
          ap (λ j. byte_of (slice_get (slice_set ps i new) j) ((at + k) % piece_size)) there
          ∙ (ap (λ o. byte_of o ((at + k) % piece_size)) (here ps i new (slice_get_within ps i old e))
          ∙ (ap (slice_get new.items) offset ∙ (ap (λ l. slice_get l (at % piece_size + k)) is ∙ there_written old.items news (at % piece_size) k room q)))),
      (λ k s. at_set (λ o. byte_of o (k % piece_size) ≡ own_in ps k) ps i new (k / piece_size)
          (λ q.
          let small : k % piece_size < length old.items = omega (arith, o, l) in
          ap (λ l. slice_get l (k % piece_size)) is ∙ (else_written old.items news (at % piece_size) (k % piece_size) room (beside at (length news) k w q s) small
          ∙ sym (ap (λ j. byte_of (slice_get ps j) (k % piece_size)) q ∙ ap (λ o. byte_of o (k % piece_size)) e)))
          refl),
    )

-- ---- a write piece by piece

taken : (bytes : List ℕ) (n m k : ℕ) → k < n → k < m → slice_index (take n bytes) k ≡ slice_index (take m bytes) k
taken bytes n m k p q = get_or-take n bytes k 0 p ∙ sym (get_or-take m bytes k 0 q)

taken_later : (bytes : List ℕ) (n m k : ℕ) → n ≤ k → k < n + m → slice_index (take m (drop n bytes)) (k - n) ≡ slice_index (take (n + m) bytes) k
taken_later bytes n m k p q =
    let e : n + (k - n) ≡ k = omega arith in
    get_or-take m (drop n bytes) (k - n) 0 (omega arith) ∙ (get_or-drop n bytes (k - n) 0 ∙ (ap (slice_index bytes) e ∙ sym (get_or-take (n + m) bytes k 0 q)))

-- one part after the other
pub put_more : {A : Type 0} (ps qs rs : List (Vec ℕ A)) (at done part : ℕ) (bytes : List ℕ) → done + part ≤ length bytes → IsPut ps at (take done bytes) qs → IsPut qs (at + done) (take part (drop done bytes)) rs
    → IsPut ps at (take (done + part) bytes) rs
put_more ps qs rs at done part bytes fits p q =
    let la = length-take-le done bytes (omega arith) in
    let lb = length-take-le (done + part) bytes fits in
    let lc = length-take-le part (drop done bytes) (omega (arith, length-drop done bytes)) in (
      (λ k l. elim (cases_lt k done) [
        | inl m ↦ q.1 (at + k) (inl (omega (arith, m))) ∙ (p.0 k (omega (arith, la, m)) ∙ ap (λ b. Some b) (taken bytes done (done + part) k m (omega (arith, m))))
        | inr m ↦ let e : at + k ≡ at + done + (k - done) = omega (arith, m) in
            ap (own_in rs) e ∙ (q.0 (k - done) (omega (arith, lb, lc, l, m)) ∙ ap (λ b. Some b) (taken_later bytes done part k m (omega (arith, lb, l))))
      ]),
      (λ k s. elim s [
        | inl m ↦ q.1 k (inl (omega (arith, m))) ∙ p.1 k (inl m)
        | inr m ↦ q.1 k (inr (omega (arith, lb, lc, m))) ∙ p.1 k (inr (omega (arith, la, lb, m)))
      ]),
    )

pub put_stored : {A : Type 0} (now : Memory) (ps qs : List (Vec ℕ A)) (f : ℕ → ℕ) (size max at : ℕ) (news : List ℕ) → record { bytes = bytes_in ps f 0 size; max = max } ≡ now → piece_size * length ps ≤ size → HasPut true ps at news qs
    → (at + length news ≤ length now.bytes) × (record { bytes = bytes_in qs f 0 size; max = max } ≡ record now { bytes = written at news now.bytes })
put_stored now ps qs f size max at news v reach p =
    let l = length_bytes ps f size in
    let fact = p.1 in
    let room : at + length news ≤ length (bytes_in ps f 0 size) = omega (arith, l, fact, reach) in (
      subst (λ (m : Memory). at + length news ≤ length m.bytes) v room,
      ap (λ b. record { bytes = b; max = max }) (stored ps qs f size at news (omega (arith, fact, reach)) (shown ps qs f at news p.2)) ∙ ap (λ (m : Memory). record m { bytes = written at news m.bytes }) v,
    )

pub is_put : {A : Type 0} (b : Bool) (ps : List (Vec ℕ A)) (at : ℕ) (news : List ℕ) (qs : List (Vec ℕ A)) → b ≡ true → HasPut b ps at news qs → HasPut true ps at news qs
is_put true ps at news qs e h = h
is_put false ps at news qs e h = absurd (true≢false (sym e))

pub not_put : {A : Type 0} (b : Bool) (ps : List (Vec ℕ A)) (at : ℕ) (news : List ℕ) (qs : List (Vec ℕ A)) → b ≡ false → HasPut b ps at news qs → qs ≡ ps
not_put true ps at news qs e h = absurd (true≢false e)
not_put false ps at news qs e h = h

-- ---- new

pub constant : (f : ℕ → ℕ) (a n : ℕ) → ((k : ℕ) → f k ≡ 0) → map f (range_with_len a n) ≡ replicate n 0
constant f a zero z = refl
constant f a (suc n) z = let rest = constant f (a + 1) n z in λ i. z a i ∷ rest i

-- behind the pieces
pub behind : {A : Type 0} (ps : List (Vec ℕ A)) (i j : ℕ) → length ps ≤ i → byte_of (slice_get ps i) j ≡ None
behind ps i j h = ap (λ o. byte_of o j) (slice_get_past ps i h)

first_at : {A : Type 0} (ps : List (Vec ℕ A)) (f : ℕ → ℕ) → ps ≡ [] → (at : ℕ) → byte_in ps f at ≡ f at
first_at ps f e at = ap (λ o. unwrap_or o (f at)) (behind ps (at / piece_size) (at % piece_size) (omega (arith, ap length e)))

-- without pieces
pub all_first : {A : Type 0} (ps : List (Vec ℕ A)) (f : ℕ → ℕ) (n : ℕ) → ps ≡ [] → bytes_in ps f 0 n ≡ map f (range_with_len 0 n)
all_first ps f n e = λ i. map (λ at. first_at ps f e at i) (range_with_len 0 n)

pub all_zero : {A : Type 0} (ps : List (Vec ℕ A)) (f : ℕ → ℕ) (n : ℕ) → ps ≡ [] → ((k : ℕ) → f k ≡ 0) → bytes_in ps f 0 n ≡ replicate n 0
all_zero ps f n e z = all_first ps f n e ∙ constant f 0 n z

-- ---- grow

zeros : (m j : ℕ) → slice_index (replicate m 0) j ≡ 0
zeros zero j = refl
zeros (suc m) zero = refl
zeros (suc m) (suc j) = zeros m j

lower : (xs ys : List ℕ) (k : ℕ) → k < length xs → slice_index (xs ++ ys) k ≡ slice_index xs k
lower xs ys k h = grind (arith, common_steps)

upper : (xs ys : List ℕ) (k : ℕ) → length xs ≤ k → slice_index (xs ++ ys) k ≡ slice_index ys (k - length xs)
upper xs ys k h = grind (arith, common_steps)

length_zeros : (m : ℕ) → length (replicate {A = ℕ} m 0) ≡ m
length_zeros zero = refl
length_zeros (suc m) = let h = length_zeros m in omega (arith, h)

length_both : {X : Type 0} (xs ys : List X) → length (xs ++ ys) ≡ length xs + length ys
length_both [] ys = omega arith
length_both (x ∷ xs) ys = let h = length_both xs ys in omega (arith, h)

-- behind the pieces, and where the memory begins with zeros
pub more_bytes : {A : Type 0} (ps : List (Vec ℕ A)) (f : ℕ → ℕ) (n m : ℕ) → piece_size * length ps ≤ n → ((k : ℕ) → n ≤ k → f k ≡ 0) → bytes_in ps f 0 (n + m) ≡ bytes_in ps f 0 n ++ replicate m 0
more_bytes ps f n m reach ends =
    let a = length_bytes ps f (n + m) in let b = length_bytes ps f n in
    let d = length_both (bytes_in ps f 0 n) (replicate {A = ℕ} m 0) in let z = length_zeros m in
    ext_get_or 0 (bytes_in ps f 0 (n + m)) (bytes_in ps f 0 n ++ replicate m 0) (omega (arith, a, b, d, z))
    (λ k q. let within : k < n + m = omega (arith, a) in
    elim (cases_lt k n) [
      | inl l ↦ byte_at ps f (n + m) k within ∙ sym (byte_at ps f n k l) ∙ sym (lower (bytes_in ps f 0 n) (replicate m 0) k (omega (arith, b)))
      | inr l ↦ byte_at ps f (n + m) k within ∙ (ap (λ o. unwrap_or o (f k)) (behind ps (k / piece_size) (k % piece_size) (omega (arith, reach, l))) ∙ ends k l) ∙ sym (zeros m (k - length (bytes_in ps f 0 n)))
          ∙ sym (upper (bytes_in ps f 0 n) (replicate m 0) k (omega (arith, b)))
    ])

pub grown : (old new : Memory) (delta n : ℕ) → n < 2 ^ 31 → pages old + delta ≤ old.max → n ≡ pages old
    → new ≡ record old { bytes = old.bytes ++ replicate (page_size * delta) 0 } → Grown (Ok (cast_signed w32 n)) old delta new
grown old new delta n small room is fact = subst (λ z. Grown (Ok z) old delta new) (sym (to_z_pos w32 n small)) (room, is, fact)

pub grew : {A : Type 0} (now : Memory) (ps : List (Vec ℕ A)) (f : ℕ → ℕ) (size max delta : ℕ) → record { bytes = bytes_in ps f 0 (page_size * size); max = max } ≡ now → piece_size * length ps ≤ page_size * size
    → ((k : ℕ) → page_size * size ≤ k → f k ≡ 0) → record { bytes = bytes_in ps f 0 (page_size * (size + delta)); max = max } ≡ record now { bytes = now.bytes ++ replicate (page_size * delta) 0 }
grew now ps f size max delta v reach ends =
    let pack : List ℕ → Memory = λ b. record { bytes = b; max = max } in
    let more : Memory → Memory = λ m. record m { bytes = m.bytes ++ replicate (page_size * delta) 0 } in
    let e : page_size * (size + delta) ≡ page_size * size + page_size * delta = omega arith in
    ap pack (ap (bytes_in ps f 0) e ∙ more_bytes ps f (page_size * size) (page_size * delta) reach ends) ∙ ap more v
