-- The bytes that a list of pieces stands for. Where a piece is not in the list, or has no bytes of its own, the byte is the one that the memory begins with.
use Rattle.std.specs.Prelude.{◌≡◌, ℕ, ◌+◌, ◌*◌, ◌/◌, ◌%◌, ◌<◌, ◌≤◌, ◌⊎◌, Bool, true, false, List, length, map, slice_get, slice_index, Option, Some, None, MatchOption, unwrap_or, zero, suc, All, Vec, vec_len}
use Rattle.std.specs.List.{range_with_len}
use Rattle.spec_modules.specs.Profile.{page_size, page_limit}

-- the bytes of a piece, 16 of which are a page
abbrev pub piece_size : ℕ
piece_size = 4096

abbrev pub byte_of : {A : Type 0} → Option (Vec ℕ A) → ℕ → Option ℕ
byte_of None j = None
byte_of (Some piece) j = slice_get piece.items j

-- the byte that the piece of an address has of its own
abbrev pub own_in : {A : Type 0} → List (Vec ℕ A) → ℕ → Option ℕ
own_in pieces at = byte_of (slice_get pieces (at / piece_size)) (at % piece_size)

-- the byte at an address, in a memory that begins with these bytes
abbrev pub byte_in : {A : Type 0} → List (Vec ℕ A) → (ℕ → ℕ) → ℕ → ℕ
byte_in pieces first at = unwrap_or (own_in pieces at) (first at)

-- the bytes from an address on
abbrev pub bytes_in : {A : Type 0} → List (Vec ℕ A) → (ℕ → ℕ) → ℕ → ℕ → List ℕ
bytes_in pieces first from count = map (byte_in pieces first) (range_with_len from count)

-- the bytes that each piece has of its own
abbrev pub contents : {A : Type 0} → List (Vec ℕ A) → List (List ℕ)
contents pieces = map (λ piece. piece.items) pieces

-- it has no bytes of its own, or all
abbrev pub IsPiece : {A : Type 0} → Vec ℕ A → Type 0
IsPiece piece = (vec_len piece ≡ 0) ⊎ (vec_len piece ≡ piece_size)

-- piece k has bytes of its own
abbrev pub IsMade : {A : Type 0} → List (Vec ℕ A) → ℕ → Type 0
IsMade pieces k = MatchOption (slice_get pieces k) ⊥ (λ piece. vec_len piece ≡ piece_size)

-- so many bytes from an address on are in no piece of their own
abbrev pub IsUnmade : {A : Type 0} → List (Vec ℕ A) → ℕ → ℕ → Type 0
IsUnmade pieces at count = (j : ℕ) → j < count → own_in pieces (at + j) ≡ None

-- the little-endian number of the n bytes from `at` on
abbrev pub number_in : (ℕ → ℕ) → ℕ → ℕ → ℕ
number_in byte at zero = 0
number_in byte at (suc n) = byte at + 256 * number_in byte (at + 1) n

-- The pieces of a memory of so many pages: none lies past its end, and it begins with no bytes there but zeros.
pub record IsSound {A : Type 0} (pieces : List (Vec ℕ A)) (first : ℕ → ℕ) (size max : ℕ) : Type 0 where
  pub whole : All IsPiece pieces
  pub reach : piece_size * length pieces ≤ page_size * size
  pub fits : size ≤ max
  pub limit : max ≤ page_limit
  pub ends : (k : ℕ) → page_size * size ≤ k → first k ≡ 0

-- The bytes stand from an address on, and each other byte is as it was.
abbrev pub IsPut : {A : Type 0} → List (Vec ℕ A) → ℕ → List ℕ → List (Vec ℕ A) → Type 0
IsPut old at bytes new =
    ((k : ℕ) → k < length bytes → own_in new (at + k) ≡ Some (slice_index bytes k)) × ((k : ℕ) → (k < at) ⊎ (at + length bytes ≤ k) → own_in new k ≡ own_in old k)

-- The bytes were put into pieces that were there; or nothing was.
abbrev pub HasPut : {A : Type 0} → Bool → List (Vec ℕ A) → ℕ → List ℕ → List (Vec ℕ A) → Type 0
HasPut true old at bytes new = (length new ≡ length old) × (at + length bytes ≤ piece_size * length old) × IsPut old at bytes new
HasPut false old at bytes new = new ≡ old
