-- Reading fields from front to back. A fault is answered with the number of bytes that are left where its field begins, so that no reader
-- carries an offset.
use Rattle.std.specs.Prelude.{◌≡◌, ℕ, zero, suc, ◌*◌, List, [], ◌∷◌, length, take, drop, Option, Some, None, Result, Ok, Err, nat_lt, ◌==◌, if◌then◌else◌}
use Rattle.std.specs.Int.{Width, w32, byte_len, from_le_bytes}
use Rattle.records.specs.declared.fault.Fault.{Fault}
use Rattle.records.specs.declared.fault.Fault.TheVariants.{Malformed, TooLarge, NoMemory}

-- a value and the bytes after it, or the first fault
abbrev pub Read : Type 0 → Type 0
Read A = Result (A × List ℕ) Fault

infixl 10 ◌>>=◌
abbrev pub ◌>>=◌ : {A B : Type 0} → Result A Fault → (A → Result B Fault) → Result B Fault
(Ok x) >>= f = f x
(Err e) >>= f = Err e

-- a fault of the code is the fault of reading, unless memory was refused
abbrev pub Fails : {Y : Type 0} → Fault → Result Y Fault → Type 0
Fails (Malformed left) read = read ≡ Err (Malformed left)
Fails TooLarge read = read ≡ Err TooLarge
Fails NoMemory read = Unit {0}

-- what a function returned, seen by view, is what reading gives, unless memory was refused
abbrev pub Gives : {X Y : Type 0} → (X → Y) → Result X Fault → Result Y Fault → Type 0
Gives view (Ok x) read = read ≡ Ok (view x)
Gives view (Err e) read = Fails e read

-- what a function returned, seen by view, is this value and this rest, unless memory was refused
abbrev pub IsRead : {X A : Type 0} → (X → A × List ℕ) → Result X Fault → A → List ℕ → Type 0
IsRead view result x rest = Gives view result (Ok (x, rest))

-- ---- single fields

abbrev pub byte_at : List ℕ → Read ℕ
byte_at [] = Err (Malformed 0)
byte_at (b ∷ rest) = Ok (b, rest)

abbrev pub number_at : Width → List ℕ → Read ℕ
number_at w bytes = if nat_lt (length bytes) (byte_len w) then Err (Malformed (length bytes)) else Ok (from_le_bytes w (take (byte_len w) bytes), drop (byte_len w) bytes)

-- so many bytes
abbrev pub front_at : ℕ → List ℕ → Read (List ℕ)
front_at size bytes = if nat_lt (length bytes) size then Err (Malformed (length bytes)) else Ok (take size bytes, drop size bytes)

-- a number that has to be this one, and the bytes after it
unfoldable pub tag_at : ℕ → List ℕ → Result (List ℕ) Fault
tag_at tag bytes = do
  number ← number_at w32 bytes
  if number.0 == tag then Ok number.1 else Err (Malformed (length bytes))

-- what a code names, if it names anything; else the fault is at the code
abbrev pub found : {A : Type 0} → Option A → ℕ → List ℕ → Read A
found None left rest = Err (Malformed left)
found (Some x) left rest = Ok (x, rest)

-- ---- many fields

-- so many items, each read beside the one before it
unfoldable pub items_at : {A : Type 0} → (Option A → List ℕ → Read A) → ℕ → Option A → List ℕ → Read (List A)
items_at item_at zero before bytes = Ok ([], bytes)
items_at item_at (suc n) before bytes = do
  first ← item_at before bytes
  others ← items_at item_at n (Some first.0) first.1
  Ok (first.0 ∷ others.0, others.1)

-- the items after a count: where the smallest of them exceed the rest, the fault is at the count
abbrev pub after_count : {A : Type 0} → (Option A → List ℕ → Read A) → ℕ → ℕ → ℕ × List ℕ → Read (List A)
after_count item_at smallest left count = if nat_lt (length count.1) (smallest * count.0) then Err (Malformed left) else items_at item_at count.0 None count.1

-- no byte is left over
abbrev pub whole : {A : Type 0} → Read A → Result A Fault
whole (Ok x) = if length x.1 == 0 then Ok x.0 else Err (Malformed (length x.1))
whole (Err e) = Err e
