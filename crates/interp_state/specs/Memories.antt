-- Loads and stores.
use Rattle.std.specs.Prelude.{replicate, ◌*◌, ◌-◌, ◌^◌, ◌≡◌, ℕ, ◌+◌, ◌≤◌, ◌<◌, List, [], ◌∷◌, ◌++◌, length, Result, Ok, Err}
use Rattle.wtypes.specs.declared.Value.{Value}
use Rattle.wtypes.specs.declared.ValType.TheVariants.{I32}
use Rattle.wtypes.specs.declared.LoadOp.{LoadOp}
use Rattle.wtypes.specs.declared.StoreOp.{StoreOp}
use Rattle.wtypes.specs.declared.TrapCode.{TrapCode}
use Rattle.wtypes.specs.declared.TrapCode.TheVariants.{MemoryOutOfBounds}
use Rattle.spec_modules.specs.Operators.{type_of, bits_of, value_of}
use Rattle.spec_modules.specs.Storage.{load_type, load_width, extended, store_type, store_width, bytes_of_number}
use Rattle.spec_modules.specs.Memory.{load, written}
use Rattle.memory.specs.Linear.{Memory}
use Rattle.memory.specs.declared.StoreRefusal.{StoreRefusal}
use Rattle.memory.specs.declared.StoreRefusal.TheVariants as refusal
use Rattle.spec_execution.specs.Reduction.{pages}
use Rattle.spec_modules.specs.Profile.{page_size}
use Rattle.interp_state.specs.declared.plain.After.{After}
use Rattle.interp_state.specs.declared.plain.After.TheVariants as after

-- the value of the number at an address
pub record IsAt (o : LoadOp) (offset : ℕ) (memory : List ℕ) (address v : Value) : Type 0 where
  pub number : ℕ
  pub there : load memory (bits_of address + offset) (load_width o) ≡ Ok number
  pub is : v ≡ value_of (load_type o) (extended o number)

abbrev pub Loaded : LoadOp → ℕ → List ℕ → Value → Result Value TrapCode → Type 0
Loaded o offset memory address (Ok v) = IsAt o offset memory address v
Loaded o offset memory address (Err t) = load memory (bits_of address + offset) (load_width o) ≡ Err t

-- the value at an address, in the place of the address
pub record IsLoaded (o : LoadOp) (offset : ℕ) (memory : List ℕ) (stack stack' : List Value) : Type 0 where
  pub kept : List Value
  pub address : Value
  pub number : ℕ
  pub before : stack ≡ kept ++ address ∷ []
  pub there : load memory (bits_of address + offset) (load_width o) ≡ Ok number
  pub after : stack' ≡ kept ++ value_of (load_type o) (extended o number) ∷ []

pub record IsNotLoaded (o : LoadOp) (offset : ℕ) (memory : List ℕ) (stack : List Value) (t : TrapCode) : Type 0 where
  pub kept : List Value
  pub address : Value
  pub before : stack ≡ kept ++ address ∷ []
  pub out : load memory (bits_of address + offset) (load_width o) ≡ Err t

abbrev pub DidLoad : LoadOp → ℕ → List ℕ → List Value → After → List Value → Type 0
DidLoad o offset memory stack after.Ran stack' = IsLoaded o offset memory stack stack'
DidLoad o offset memory stack (after.Fell t) stack' = IsNotLoaded o offset memory stack t
DidLoad o offset memory stack (after.Calls f) stack' = ⊥

-- an address and a value on top
pub record HasPlace (o : StoreOp) (stack : List Value) : Type 0 where
  pub kept : List Value
  pub address : Value
  pub value : Value
  pub before : stack ≡ kept ++ address ∷ value ∷ []
  pub address_type : type_of address ≡ I32
  pub value_type : type_of value ≡ store_type o

-- The value was written at the address, or nothing was. A refusal for lack of memory comes only in range.
abbrev pub StoredAt : {U : Type 0} → StoreOp → ℕ → Memory → Value → Value → Result U StoreRefusal → Memory → Type 0
StoredAt o offset old address value (Ok u) new =
    (bits_of address + offset + store_width o ≤ length old.bytes) × (new ≡ record old { bytes = written (bits_of address + offset) (bytes_of_number (store_width o) (bits_of value)) old.bytes })
StoredAt o offset old address value (Err (refusal.Trap code)) new = (code ≡ MemoryOutOfBounds) × (length old.bytes < bits_of address + offset + store_width o) × (new ≡ old)
StoredAt o offset old address value (Err refusal.NoMemory) new = (bits_of address + offset + store_width o ≤ length old.bytes) × (new ≡ old)

-- the value was written at the address
pub record IsStored (o : StoreOp) (offset : ℕ) (old new : Memory) (stack stack' : List Value) : Type 0 where
  pub address : Value
  pub value : Value
  pub before : stack ≡ stack' ++ address ∷ value ∷ []
  pub fits : bits_of address + offset + store_width o ≤ length old.bytes
  pub after : new ≡ record old { bytes = written (bits_of address + offset) (bytes_of_number (store_width o) (bits_of value)) old.bytes }

pub record IsNotStored (o : StoreOp) (offset : ℕ) (old new : Memory) (stack : List Value) (t : TrapCode) : Type 0 where
  pub kept : List Value
  pub address : Value
  pub value : Value
  pub before : stack ≡ kept ++ address ∷ value ∷ []
  pub out : length old.bytes < bits_of address + offset + store_width o
  pub code : t ≡ MemoryOutOfBounds
  pub same : new ≡ old

abbrev pub DidStore : StoreOp → ℕ → Memory → Memory → List Value → After → List Value → Type 0
DidStore o offset old new stack after.Ran stack' = IsStored o offset old new stack stack'
DidStore o offset old new stack (after.Fell t) stack' = IsNotStored o offset old new stack t
DidStore o offset old new stack (after.Calls f) stack' = ⊥

-- pages of zeros were added, and the old size is on top
pub record HasGrown (old new : Memory) (stack stack' : List Value) : Type 0 where
  pub kept : List Value
  pub delta : Value
  pub before : stack ≡ kept ++ delta ∷ []
  pub fits : pages old.bytes + bits_of delta ≤ old.max
  pub result : stack' ≡ kept ++ value_of I32 (pages old.bytes) ∷ []
  pub grown : new.bytes ≡ old.bytes ++ replicate (page_size * bits_of delta) 0

-- it would grow too far, and -1 is on top
pub record HasNotGrown (old new : Memory) (stack stack' : List Value) : Type 0 where
  pub kept : List Value
  pub delta : Value
  pub before : stack ≡ kept ++ delta ∷ []
  pub past : old.max < pages old.bytes + bits_of delta
  pub result : stack' ≡ kept ++ value_of I32 (2 ^ 32 - 1) ∷ []
  pub same : new.bytes ≡ old.bytes

pub data DidGrow (old new : Memory) (stack stack' : List Value) : Type 0 where
  grows : HasGrown old new stack stack' → DidGrow old new stack stack'
  stays : HasNotGrown old new stack stack' → DidGrow old new stack stack'
