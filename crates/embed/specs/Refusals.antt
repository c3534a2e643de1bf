-- Which refusal is told, and what it tells of what was passed.
use Rattle.std.specs.Prelude.{◌≡◌, ◌⊎◌, ℕ, ◌+◌, ◌<◌, ◌≤◌, false, List, Option, Some, None, length}
use Rattle.module_tree.specs.LimitNumbers as limits
use Rattle.body_typing.specs.RuleNumbers as rules
use Rattle.spec_block.specs.Worlds.{World, Call, Block}
use Rattle.spec_block.specs.Bytes.{SpellsWorld, SpellsBlock}
use Rattle.spec_block.specs.Verdicts.{Verdict, IsVerdictOf, place}
use Rattle.block_judge.specs.Judging.{place_in}
use Rattle.records.specs.declared.refusal.BlockRefusal.{BlockRefusal}
use Rattle.records.specs.declared.refusal.BlockRefusal.TheVariants as block
use Rattle.world.specs.Reading.{IsNoWorld, Refuses}
use Rattle.records.specs.declared.refusal.ReadRefusal.{ReadRefusal}
use Rattle.records.specs.declared.refusal.ReadRefusal.TheVariants as world
use Rattle.wblock_calls.specs.Texts.{SpellsCalls}
use Rattle.wblock_calls.specs.Refusals.{Tells}
use Rattle.wblock_calls.specs.declared.reader.CallsRefusal.{CallsRefusal}
use Rattle.wblock_calls.specs.declared.reader.CallsRefusal.TheVariants as calls
use Rattle.wblock_line.specs.Modules.{IsWhy}
use Rattle.wblock_line.specs.declared.refusals.ModuleRefusal.{ModuleRefusal}
use Rattle.wblock_line.specs.declared.refusals.ModuleRefusal.TheVariants.{Malformed, Unsupported, TooLarge, Untyped, UnknownImport, ImportType, SegmentRange, TooManyPages, TableTooLarge}
use Rattle.text_resolve.specs.declared.refusal.AsmRefusal.{AsmRefusal}
use Rattle.assembler.specs.NamedModules as naming
use Rattle.wblock_modules.specs.Assembles.{told}
use Rattle.wblock_modules.specs.Texts.{SpellsOne}
use Rattle.wblock_modules.specs.declared.text.Found.{Found}
use Rattle.wblock_modules.specs.declared.text.Found.TheVariants as found
use Rattle.embed.specs.declared.failure.Subject.{Subject}
use Rattle.embed.specs.declared.failure.Subject.TheVariants.{Load, Check, Deploy, Assemble, Text, World as OfWorld, Calls as OfCalls, Block as OfBlock}
use Rattle.embed.specs.declared.failure.Refusal.{Refusal}
use Rattle.embed.specs.declared.failure.Failure.{Failure}
use Rattle.embed.specs.declared.failure.Failure.TheVariants as failure

-- what is said of the refusal, where it is not for memory
abbrev pub IfRefused : Failure → (Refusal → Type 0) → Type 0
IfRefused (failure.Refused r sentence) P = P r
IfRefused failure.NoMemory P = Unit {0}

-- ---- numbers and places

abbrev pub refusal : Subject → (number : ℕ) → (place : Option ℕ) → Refusal
refusal subject number place = record { subject = subject; number = number; place = place; function = None }

abbrev pub module_refusal : ModuleRefusal → Refusal
module_refusal (Malformed at) = refusal Load 1 (Some at)
module_refusal (Unsupported at) = refusal Load 2 (Some at)
module_refusal (TooLarge limit) = refusal Load 3 (Some (limits.number_of limit))
module_refusal (Untyped rule function ordinal) = record { subject = Check; number = rules.number_of rule; place = Some ordinal; function = function }
module_refusal (UnknownImport n) = refusal Deploy 1 (Some n)
module_refusal (ImportType n) = refusal Deploy 2 (Some n)
module_refusal (SegmentRange n) = refusal Deploy 3 (Some n)
module_refusal TooManyPages = refusal Deploy 4 None
module_refusal TableTooLarge = refusal Deploy 5 None

abbrev pub world_refusal : ReadRefusal → Option Refusal
world_refusal (world.Malformed at) = Some (refusal OfWorld 1 (Some at))
world_refusal world.TooLarge = Some (refusal OfWorld 2 None)
world_refusal world.NoMemory = None

abbrev pub calls_refusal : CallsRefusal → Option Refusal
calls_refusal (calls.Line n) = Some (refusal OfCalls 1 (Some n))
calls_refusal calls.TooMany = Some (refusal OfCalls 2 None)
calls_refusal calls.NoMemory = None

abbrev pub block_refusal : BlockRefusal → Option Refusal
block_refusal (block.Malformed at) = Some (refusal OfBlock 1 None)
block_refusal block.TooLarge = Some (refusal OfBlock 1 None)
block_refusal block.NoMemory = None

-- ---- what they tell

-- the bytes give no contract, or no valid module, for this reason
pub record RefusesModule (bytes : List ℕ) (r : Refusal) : Type 0 where
  pub cause : ModuleRefusal
  pub why : IsWhy bytes cause
  pub told_is : r ≡ module_refusal cause

-- the bytes spell no world, and this is the first fault in them
pub record RefusesWorld (bytes : List ℕ) (r : Refusal) : Type 0 where
  pub none : IsNoWorld bytes
  pub cause : ReadRefusal
  pub first : Refuses bytes cause
  pub told_is : world_refusal cause ≡ Some r

-- the text spells no calls, and this is the first line at fault, or they are too many
pub record RefusesCalls (text : List ℕ) (r : Refusal) : Type 0 where
  pub cause : CallsRefusal
  pub why : Tells text cause
  pub told_is : calls_refusal cause ≡ Some r

-- the refusal of a text is told by its number, and its place or the number of the limit that is passed
pub record IsToldAs (cause : AsmRefusal) (r : Refusal) : Type 0 where
  pub number : ℕ
  pub at : ℕ
  pub told_as : told cause ≡ Some (number, at)
  pub told_is : r ≡ refusal Assemble number (Some at)

-- the text names no module, for this reason
pub record RefusesText (text : List ℕ) (r : Refusal) : Type 0 where
  pub none : naming.NamesNothing text
  pub cause : AsmRefusal
  pub why : naming.IsWhy text cause
  pub told_as : IsToldAs cause r

-- a text was not found: it would be too long (1), or what was written does not name the module (2)
abbrev pub IsUnwritten : Found → Refusal → Type 0
IsUnwritten (found.Text text) r = ⊥
IsUnwritten found.TooLong r = r ≡ refusal Text 1 None
IsUnwritten found.Unwritten r = r ≡ refusal Text 2 None

-- the bytes spell no valid module; or one whose text would be too long (1), or was not found (2)
abbrev pub RefusesWriting : (bytes : List ℕ) → Refusal → Type 0
RefusesWriting bytes r = RefusesModule bytes r ⊎ (SpellsOne false bytes × ((r ≡ refusal Text 1 None) ⊎ (r ≡ refusal Text 2 None)))

-- the bytes spell a world of which this is true
pub record HasWorld (bytes : List ℕ) (Is : World → Type 0) : Type 0 where
  pub world : World
  pub spelled : SpellsWorld bytes world
  pub is : Is world

-- a world that has as many contracts as a world may have
abbrev pub IsFull : Refusal → World → Type 0
IsFull r w = (1024 < length w.contracts + 1) × (r ≡ refusal Deploy 6 (Some (length w.contracts + 1)))

-- a world, or a module that is put behind its contracts
abbrev pub RefusesExtending : (world : List ℕ) → (bytes : List ℕ) → Refusal → Type 0
RefusesExtending bytes code r = RefusesWorld bytes r ⊎ (HasWorld bytes (IsFull r) ⊎ HasWorld bytes (λ _. RefusesModule code r))

-- a world and calls over it
abbrev pub RefusesInputs : (world : List ℕ) → (text : List ℕ) → Refusal → Type 0
RefusesInputs bytes text r = RefusesWorld bytes r ⊎ HasWorld bytes (λ _. RefusesCalls text r)

-- the verdict is a reason, and this tells it, with the position or the call that it speaks of
abbrev pub IsRejection : Verdict → Refusal → Type 0
IsRejection verdict r = (place verdict < 10) × (r ≡ refusal OfBlock (place verdict) (place_in verdict))

-- the verdict on the block is this reason, with the position or the call that it speaks of
pub record Rejects (w : World) (cs : List Call) (fuel : ℕ) (block : List ℕ) (r : Refusal) : Type 0 where
  pub verdict : Verdict
  pub is : IsVerdictOf w cs fuel block verdict
  pub rejects : place verdict < 10
  pub told_is : r ≡ refusal OfBlock (place verdict) (place_in verdict)

-- the text spells at most 65,535 calls of which this is true
pub record HasCalls (text : List ℕ) (Is : List Call → Type 0) : Type 0 where
  pub list : List Call
  pub spelled : SpellsCalls text list
  pub few : length list ≤ 65535
  pub is : Is list

-- the inputs are refused, or the block of them is rejected
abbrev pub RefusesVerified : (world : List ℕ) → (text : List ℕ) → (fuel : ℕ) → (block : List ℕ) → Refusal → Type 0
RefusesVerified bytes text fuel block r = RefusesInputs bytes text r ⊎ HasWorld bytes (λ w. HasCalls text (λ cs. Rejects w cs fuel block r))

-- the bytes spell no block
pub record RefusesBlock (bytes : List ℕ) (r : Refusal) : Type 0 where
  pub none : (b : Block) → ¬ SpellsBlock bytes b
  pub told_is : r ≡ refusal OfBlock 1 None

-- the list has no call of this number
abbrev pub LacksCall : List Call → (number : ℕ) → Refusal → Type 0
LacksCall cs number r = (length cs ≤ number) × (r ≡ refusal OfCalls 3 (Some (length cs)))

-- the inputs are refused, or there is no call of this number
abbrev pub RefusesCalled : (world : List ℕ) → (text : List ℕ) → (number : ℕ) → Refusal → Type 0
RefusesCalled bytes text number r = RefusesInputs bytes text r ⊎ HasWorld bytes (λ _. HasCalls text (λ cs. LacksCall cs number r))
