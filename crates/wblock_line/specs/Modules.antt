-- What a module's bytes give, and why they give nothing.
use Rattle.std.specs.Prelude.{ℕ, List}
use Rattle.wtypes.specs.declared.HostCall.{HostCall}
use Rattle.spec_modules.specs.Syntax.{Module}
use Rattle.spec_modules.specs.Spells.{Spells}
use Rattle.spec_typing.specs.Modules.{ModuleTyped}
use Rattle.spec_typing.specs.Linking.{IsLinked}
use Rattle.link.specs.Refusals.{Says, PassedBefore}
use Rattle.link.specs.declared.refusal.LinkRefusal.{LinkRefusal}
use Rattle.link.specs.declared.refusal.LinkRefusal.TheVariants as fault
use Rattle.loader.specs.Refusals.{NoModule}
use Rattle.wblock_line.specs.declared.refusals.ModuleRefusal.{ModuleRefusal}
use Rattle.wblock_line.specs.declared.refusals.ModuleRefusal.TheVariants.{Malformed, Unsupported, TooLarge, Untyped, UnknownImport, ImportType, SegmentRange, TooManyPages, TableTooLarge}
use Rattle.wblock_line.specs.declared.modules.Stop.{Stop}
use Rattle.wblock_line.specs.declared.modules.Stop.TheVariants as stop

-- the bytes spell a module that is typed
pub record IsValidOf (bytes : List ℕ) (tree : Module) : Type 0 where
  pub spelled : Spells bytes tree
  pub typed : ModuleTyped tree

-- the bytes spell a module that is linked to these calls of the host
pub record IsContractOf (bytes : List ℕ) (tree : Module) (hosts : List HostCall) : Type 0 where
  pub spelled : Spells bytes tree
  pub linked : ∥ IsLinked tree hosts ∥₁

-- the bytes spell a module that is not typed
pub record IsUntyped (bytes : List ℕ) : Type 0 where
  pub tree : Module
  pub spelled : Spells bytes tree
  pub untyped : ¬ ModuleTyped tree

-- the bytes spell a typed module of which this is true
pub record IsUnlinked (bytes : List ℕ) (Fault : Module → Type 0) : Type 0 where
  pub tree : Module
  pub valid : IsValidOf bytes tree
  pub fault : Fault tree

-- the refusal is true of the module, and all that is judged before it passes
abbrev pub IsFirst : LinkRefusal → Module → Type 0
IsFirst refusal m = Says refusal m × PassedBefore refusal m

-- what a refusal says of the bytes
abbrev pub IsWhy : List ℕ → ModuleRefusal → Type 0
IsWhy bytes (Malformed at) = NoModule bytes
IsWhy bytes (Unsupported at) = NoModule bytes
IsWhy bytes (TooLarge limit) = NoModule bytes
IsWhy bytes (Untyped rule func ordinal) = IsUntyped bytes
IsWhy bytes (UnknownImport n) = IsUnlinked bytes (IsFirst (fault.UnknownImport n))
IsWhy bytes (ImportType n) = IsUnlinked bytes (IsFirst (fault.ImportType n))
IsWhy bytes (SegmentRange n) = IsUnlinked bytes (IsFirst (fault.SegmentRange n))
IsWhy bytes TooManyPages = IsUnlinked bytes (IsFirst fault.TooManyPages)
IsWhy bytes TableTooLarge = IsUnlinked bytes (IsFirst fault.TableTooLarge)

-- they spell no module, or memory was refused
abbrev pub IsUnspelled : List ℕ → Stop → Type 0
IsUnspelled bytes (stop.Refused refusal) = NoModule bytes
IsUnspelled bytes stop.NoMemory = Unit {0}

abbrev pub StopsAt : List ℕ → Stop → Type 0
StopsAt bytes (stop.Refused refusal) = IsWhy bytes refusal
StopsAt bytes stop.NoMemory = Unit {0}
