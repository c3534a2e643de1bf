-- What `deploy` answers.
use Rattle.std.specs.Prelude.{◌≡◌, ℕ, ◌+◌, ◌≤◌, ◌<◌, ◌⊎◌, Bool, true, false, List, [], ◌∷◌, ◌++◌, Option, Some, None, codes, decimal, length, map, take, slice_get, vec_len, string_bytes}
use Rattle.std.specs.Borrow.{Bor}
use Rattle.std.specs.FinMap.{empty}
use Rattle.spec_block.specs.Worlds.{Contract, World}
use Rattle.spec_block.specs.Bytes.{world_bytes}
use Rattle.wblock_json.specs.Json.{IsJson, IsLineOf}
use Rattle.wblock_json.specs.Refusals.{refusal_data}
use Rattle.wblock_io.specs.Holding.{Holding}
use Rattle.wblock_line.specs.declared.inputs.WorldFile.{WorldFile}
use Rattle.wblock_line.specs.declared.inputs.WorldFile.TheVariants as file
use Rattle.wblock_line.specs.declared.perform.Status.TheVariants as status
use Rattle.wblock_line.specs.declared.refusals.ModuleRefusal.{ModuleRefusal}
use Rattle.wblock_line.specs.Answers.{Upshot, IsRefusal}
use Rattle.wblock_line.specs.Inputs.{Holds as HoldsBytes, HoldsWorld}
use Rattle.wblock_line.specs.Modules.{IsContractOf, IsWhy}
use Rattle.wblock_line.specs.Refusals.{refusal_text}
use Rattle.wblock_line.specs.Upshots.{IsRefusalWith, IsToldIn}
use Rattle.wblock_line.specs.Worlds.{TellsNoWorld}
use Rattle.world.specs.Views.{contract_view, world_view}
use Rattle.wblock_modules.specs.declared.deploy.Modules.{Modules}
use Rattle.wblock_modules.specs.declared.deploy.Modules.TheVariants as modules
use Rattle.wblock_modules.specs.Objects.{deployed_data}

-- the file of a name holds the bytes of a module that is this contract
pub record Holds (holds : Holding) (name : List ℕ) (c : Contract) : Type 0 where
  pub bytes : List ℕ
  pub held : holds name ≡ Some bytes
  pub is : IsContractOf bytes c.tree c.hosts

-- file by file, these are the contracts
abbrev pub AreHeld : Holding → List (List ℕ) → List Contract → Type 0
AreHeld holds [] [] = Unit {0}
AreHeld holds (name ∷ names) (c ∷ cs) = Holds holds name c × AreHeld holds names cs
AreHeld holds _ _ = ⊥

-- ---- the world that is gone on from

-- no contracts and no cells
pub record IsEmpty (w : World) : Type 0 where
  pub no_contracts : w.contracts ≡ []
  pub no_cells : w.cells ≡ empty

-- the file of OLD holds the world; or no OLD is named, and it is the world of nothing
abbrev pub IsBase : Holding → Option (Bor (List ℕ)) → World → Type 0
IsBase holds None w = IsEmpty w
IsBase holds (Some old) w = HoldsWorld holds old.now w

-- with so many contracts more it has at most 1,024
pub record HasRoom (holds : Holding) (onto : Option (Bor (List ℕ))) (count : ℕ) (w : World) : Type 0 where
  pub is_base : IsBase holds onto w
  pub room : length w.contracts + count ≤ 1024

-- the contracts of a world, and these behind them, over its cells
abbrev pub extended : World → List Contract → World
extended w contracts = record { contracts = w.contracts ++ contracts; cells = w.cells }

-- ---- OLD is refused

-- the line tells why OLD holds no world
abbrev pub TellsNoBase : Holding → Option (Bor (List ℕ)) → List ℕ → Type 0
TellsNoBase holds None line = ⊥
TellsNoBase holds (Some old) line = HoldsBytes holds old.now (λ bytes. TellsNoWorld bytes line)

-- `refused deploy 6 N`
abbrev pub crowd_line : ℕ → List ℕ
crowd_line count = codes "refused deploy 6 " ++ decimal count ++ 10 ∷ []

-- the contracts of the world and so many more are above 1,024, and the line tells how many they are
pub record IsCrowd (base : World) (count : ℕ) (line : List ℕ) : Type 0 where
  pub many : 1024 < length base.contracts + count
  pub line_is : line ≡ crowd_line (length base.contracts + count)

-- the world that is gone on from has no room for so many more
pub record TellsCrowd (holds : Holding) (onto : Option (Bor (List ℕ))) (count : ℕ) (line : List ℕ) : Type 0 where
  pub base : World
  pub is_base : IsBase holds onto base
  pub crowd : IsCrowd base count line

-- OLD holds no world, or one without room for so many contracts more
pub record RefusesOld (json : Bool) (holds : Holding) (onto : Option (Bor (List ℕ))) (count : ℕ) (u : Upshot) : Type 0 where
  pub line : List ℕ
  pub why : TellsNoBase holds onto line ⊎ TellsCrowd holds onto count line
  pub told : IsRefusalWith json line u

-- ---- modules

abbrev pub refusal_line : ModuleRefusal → ℕ → List ℕ
refusal_line refusal number = refusal_text refusal ++ codes " module " ++ decimal number ++ 10 ∷ []

-- this tells that the module of this number is refused: the line, or the object of it and of the sentence
abbrev pub IsModuleLine : (json : Bool) → ModuleRefusal → (number : ℕ) → (told sentence : List ℕ) → Type 0
IsModuleLine false refusal number told sentence = told ≡ refusal_line refusal number
IsModuleLine true refusal number told sentence = IsLineOf (IsJson (refusal_data (Some number) (refusal_text refusal ++ 10 ∷ []) sentence)) told

-- the file of this name is read once those before it hold contracts
pub record IsNextModule (holds : Holding) (names : List (List ℕ)) (name : List ℕ) : Type 0 where
  pub number : ℕ
  pub before : List Contract
  pub held_before : AreHeld holds (take number names) before
  pub there : slice_get names number ≡ Some name

-- this tells why the first of the files that hold no contract holds none, and its number
pub record TellsRefusal (json : Bool) (holds : Holding) (names : List (List ℕ)) (told sentence : List ℕ) : Type 0 where
  pub number : ℕ
  pub before : List Contract
  pub held_before : AreHeld holds (take number names) before
  pub name : List ℕ
  pub there : slice_get names number ≡ Some name
  pub bytes : List ℕ
  pub held : holds name ≡ Some bytes
  pub refusal : ModuleRefusal
  pub why : IsWhy bytes refusal
  pub line_is : IsModuleLine json refusal number told sentence

-- ` onto M`, M the number of OLD's contracts, where OLD is named
abbrev pub onto_text : Option (Bor (List ℕ)) → ℕ → List ℕ
onto_text None count = []
onto_text (Some old) count = codes " onto " ++ decimal count

-- `deployed N contracts`, and ` onto M` behind it; or the same as JSON
abbrev pub IsDeployedText : (json : Bool) → (count : ℕ) → Option (Bor (List ℕ)) → (before : ℕ) → List ℕ → Type 0
IsDeployedText false count onto before text = text ≡ codes "deployed " ++ decimal count ++ codes " contracts" ++ onto_text onto before ++ 10 ∷ []
IsDeployedText true count onto before text = IsLineOf (IsJson (deployed_data count onto before)) text

-- a file is to hold these bytes, and it is to be told that so many contracts were deployed behind so many of OLD
pub record IsDone (json : Bool) (world bytes : List ℕ) (count : ℕ) (onto : Option (Bor (List ℕ))) (before : ℕ) (u : Upshot) : Type 0 where
  pub status_is : u.status ≡ status.Done
  pub writes : u.writes ≡ (world, bytes) ∷ []
  pub text : IsDeployedText json count onto before u.text

-- the bytes are those of the world with the contracts that the files hold behind its own
pub record TellsWorld (json : Bool) (holds : Holding) (world : List ℕ) (onto : Option (Bor (List ℕ))) (base : World) (names : List (List ℕ)) (u : Upshot) : Type 0 where
  pub contracts : List Contract
  pub held : AreHeld holds names contracts
  pub is : IsDone json world (world_bytes (extended base contracts)) (length names) onto (length base.contracts) u

-- what comes of the modules, behind the contracts of this world
abbrev pub Extends : (json : Bool) → Holding → List ℕ → Option (Bor (List ℕ)) → World → List (List ℕ) → Upshot → Type 0
Extends json holds world onto base names u = TellsWorld json holds world onto base names u ⊎ IsRefusal u (λ told. TellsRefusal json holds names told u.why)

-- ---- answers

-- the world that is gone on from has room for the modules
pub record DeploysOnto (json : Bool) (holds : Holding) (world : List ℕ) (onto : Option (Bor (List ℕ))) (names : List (List ℕ)) (u : Upshot) : Type 0 where
  pub base : World
  pub room : HasRoom holds onto (length names) base
  pub extends : Extends json holds world onto base names u

abbrev pub Deploys : (json : Bool) → Holding → List ℕ → Option (Bor (List ℕ)) → List (List ℕ) → Upshot → Type 0
Deploys json holds world onto names u = RefusesOld json holds onto (length names) u ⊎ DeploysOnto json holds world onto names u

-- ---- files that are read

-- the name is that of OLD
abbrev pub IsOld : Option (Bor (List ℕ)) → List ℕ → Type 0
IsOld None name = ⊥
IsOld (Some old) name = name ≡ old.now

-- the world that is gone on from has room, and the file of this name is the next of the modules
pub record IsNextBehind (holds : Holding) (onto : Option (Bor (List ℕ))) (names : List (List ℕ)) (name : List ℕ) : Type 0 where
  pub base : World
  pub room : HasRoom holds onto (length names) base
  pub next : IsNextModule holds names name

-- OLD is read, and then the modules
abbrev pub IsNextDeployed : Holding → Option (Bor (List ℕ)) → List (List ℕ) → List ℕ → Type 0
IsNextDeployed holds onto names name = IsOld onto name ⊎ IsNextBehind holds onto names name

-- what OLD gives, or the world of nothing where none is named
abbrev pub GivesBase : Holding → Option (Bor (List ℕ)) → WorldFile → Type 0
GivesBase holds onto (file.Read w) = IsBase holds onto (world_view w)
GivesBase holds onto (file.Refused line why) = TellsNoBase holds onto (string_bytes line)

-- it is told that the contracts are so many
abbrev pub TellsCount : (json : Bool) → ℕ → Modules → Type 0
TellsCount json count (modules.Linked contracts) = ⊥
TellsCount json count (modules.Refused told why) = IsToldIn json (crowd_line count) (string_bytes why) (string_bytes told)

-- the contracts of the world and so many more are above 1,024, and it is told how many they are
pub record TellsTooMany (json : Bool) (base : World) (count : ℕ) (told sentence : List ℕ) : Type 0 where
  pub line : List ℕ
  pub crowd : IsCrowd base count line
  pub told_is : IsToldIn json line sentence told

-- what is read of modules behind the contracts of a world: there are too many; or one gives no contract; or these are their contracts
abbrev pub IsReadBehind : (json : Bool) → Holding → World → List (List ℕ) → Modules → Type 0
IsReadBehind json holds base names (modules.Linked contracts) = (length base.contracts + length names ≤ 1024) × AreHeld holds names (map contract_view contracts.items)
IsReadBehind json holds base names (modules.Refused told why) = TellsTooMany json base (length names) (string_bytes told) (string_bytes why) ⊎ ((length base.contracts + length names ≤ 1024) × TellsRefusal json holds names (string_bytes told) (string_bytes why))

-- the contracts that were read fit behind those of the world
abbrev pub FitsBehind : World → Modules → Type 0
FitsBehind base (modules.Linked contracts) = length base.contracts + vec_len contracts ≤ 1024
FitsBehind base (modules.Refused line why) = Unit {0}

abbrev pub HasCount : ℕ → Modules → Type 0
HasCount count (modules.Linked contracts) = vec_len contracts ≡ count
HasCount count (modules.Refused line why) = Unit {0}

abbrev pub IsRead : (json : Bool) → Holding → List (List ℕ) → Modules → Type 0
IsRead json holds names (modules.Linked contracts) = AreHeld holds names (map contract_view contracts.items)
IsRead json holds names (modules.Refused line why) = TellsRefusal json holds names (string_bytes line) (string_bytes why)

abbrev pub IsRefusalLine : (json : Bool) → ModuleRefusal → ℕ → Modules → Type 0
IsRefusalLine json refusal number (modules.Linked contracts) = ⊥
IsRefusalLine json refusal number (modules.Refused line why) = IsModuleLine json refusal number (string_bytes line) (string_bytes why)
