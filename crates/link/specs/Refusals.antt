-- What a refusal says of a module.
use Rattle.std.specs.Prelude.{◌≡◌, ◌≢◌, ◌≤◌, ℕ, List, All}
use Rattle.wtypes.specs.declared.HostCall.{HostCall}
use Rattle.spec_modules.specs.Syntax as syntax
use Rattle.spec_modules.specs.Profile.{page_limit}
use Rattle.spec_typing.specs.Modules.{memories}
use Rattle.spec_typing.specs.Linking as linking
use Rattle.link.specs.declared.refusal.LinkRefusal.{LinkRefusal}
use Rattle.link.specs.declared.refusal.LinkRefusal.TheVariants as refusal

-- The refusal is true of the module. That there is no memory says nothing of it.
abbrev pub Says : LinkRefusal → syntax.Module → Type 0
Says (refusal.UnknownImport n) m = linking.UnknownImport m n
Says (refusal.ImportType n) m = linking.ImportType m n
Says (refusal.SegmentRange n) m = linking.SegmentRange m n
Says refusal.TooManyPages m = linking.TooManyPages m
Says refusal.TableTooLarge m = linking.TableTooLarge m
Says refusal.NoMemory m = Unit {0}

-- ---- What has passed before a refusal: the imports are judged first, then the segments, the memory and the table

-- each import is a host call of its type
abbrev pub ImportsPass : syntax.Module → Type 0
ImportsPass m = (calls : List HostCall) × linking.Resolves m.types m.imports calls

abbrev pub SegmentsPass : syntax.Module → Type 0
SegmentsPass m = All (linking.InRange m) (linking.segments m)

abbrev pub MemoryPasses : syntax.Module → Type 0
MemoryPasses m = All (λ limits. limits.min ≤ page_limit) (memories m)

-- What is judged before this refusal has passed. That there is no memory says nothing of it.
abbrev pub PassedBefore : LinkRefusal → syntax.Module → Type 0
PassedBefore (refusal.UnknownImport n) m = Unit {0}
PassedBefore (refusal.ImportType n) m = Unit {0}
PassedBefore (refusal.SegmentRange n) m = ImportsPass m
PassedBefore refusal.TooManyPages m = ImportsPass m × SegmentsPass m
PassedBefore refusal.TableTooLarge m = ImportsPass m × SegmentsPass m × MemoryPasses m
PassedBefore refusal.NoMemory m = Unit {0}

-- a segment of this number is out of range, or there is no memory for the number
abbrev pub OutAt : LinkRefusal → ℕ → Type 0
OutAt (refusal.SegmentRange n) place = n ≡ place
OutAt refusal.NoMemory place = Unit {0}
OutAt _ place = ⊥

-- Lack of memory aside, a module has one refusal.
abbrev pub IsRefusedOnce : Type 0
IsRefusedOnce = (m : syntax.Module) (e f : LinkRefusal) → e ≢ refusal.NoMemory → f ≢ refusal.NoMemory → Says e m → PassedBefore e m → Says f m → PassedBefore f m → e ≡ f
