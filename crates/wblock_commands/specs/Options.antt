-- What options ask for.
use Rattle.std.specs.Prelude.{◌≡◌, ℕ, ◌+◌, ◌-◌, ◌^◌, ◌≤◌, ◌⊎◌, List, [], ◌∷◌, Bool, true, false, Option, Some, None, codes, decimal, length, if◌then◌else◌}
use Rattle.std.specs.Borrow.{Bor}
use Rattle.std.specs.Str.{bytes_eq}
use Rattle.wblock_line.specs.Words.{Choice}
use Rattle.wblock_show.specs.declared.file.Form.{Form}
use Rattle.wblock_show.specs.declared.file.Form.TheVariants.{Text, Json, Picture}

-- the values of the options of a name, in their order
abbrev pub values_in : List ℕ → List Choice → List (List ℕ)
values_in name [] = []
values_in name (o ∷ os) = if bytes_eq o.0 name then o.1 ∷ values_in name os else values_in name os

-- an option is given once, and its value is this number, from the least to the most
pub record IsNumber (values : List (List ℕ)) (least most n : ℕ) : Type 0 where
  pub spelled : values ≡ decimal n ∷ []
  pub enough : least ≤ n
  pub few : n ≤ most

-- or it is not given, and this is the usual number
abbrev pub IsNumberOr : ℕ → List (List ℕ) → ℕ → ℕ → ℕ → Type 0
IsNumberOr usual values least most n = ((values ≡ []) × (n ≡ usual)) ⊎ IsNumber values least most n

-- so many options have this name
abbrev pub count_of : List ℕ → List Choice → ℕ
count_of name options = length (values_in name options)

-- `--fuel N`, a number of 64 bits
abbrev pub AsksFuel : List Choice → ℕ → Type 0
AsksFuel options n = IsNumber (values_in (codes "--fuel") options) 0 (2 ^ 64 - 1) n

-- `--workers N`, 1 to 64, or 4 workers
abbrev pub AsksWorkers : List Choice → ℕ → Type 0
AsksWorkers options n = IsNumberOr 4 (values_in (codes "--workers") options) 1 64 n

-- `--tries N`, 1 to 16, or 3 tries
abbrev pub AsksTries : List Choice → ℕ → Type 0
AsksTries options n = IsNumberOr 3 (values_in (codes "--tries") options) 1 16 n

-- `--heap N`, a number of bytes that a heap may have; or nothing
abbrev pub IsHeap : List (List ℕ) → Option ℕ → Type 0
IsHeap values None = values ≡ []
IsHeap values (Some n) = IsNumber values 1024 16777216 n

abbrev pub AsksHeap : List Choice → Option ℕ → Type 0
AsksHeap options heap = IsHeap (values_in (codes "--heap") options) heap

-- an option is given once, and its value is this name; or it is not given
abbrev pub IsNameOrNone : List (List ℕ) → Option (Bor (List ℕ)) → Type 0
IsNameOrNone values (Some name) = values ≡ name.now ∷ []
IsNameOrNone values None = values ≡ []

-- `--calls CALLS`, or no file
abbrev pub AsksCalls : List Choice → Option (Bor (List ℕ)) → Type 0
AsksCalls options calls = IsNameOrNone (values_in (codes "--calls") options) calls

-- what the values of `--json` and of `--svg` ask for: neither is given, and lines are shown; or one of them is, once, `--json` without a value
abbrev pub IsForm : (switches pictures : List (List ℕ)) → Form → Type 0
IsForm switches pictures Text = (switches ≡ []) × (pictures ≡ [])
IsForm switches pictures Json = (switches ≡ [] ∷ []) × (pictures ≡ [])
IsForm switches pictures (Picture name) = (switches ≡ []) × (pictures ≡ name.now ∷ [])

-- `--json`, or `--svg PICTURE`, or lines
abbrev pub AsksForm : List Choice → Form → Type 0
AsksForm options form = IsForm (values_in (codes "--json") options) (values_in (codes "--svg") options) form

-- `--next NEXT`, or no file
abbrev pub AsksNext : List Choice → Option (Bor (List ℕ)) → Type 0
AsksNext options next = IsNameOrNone (values_in (codes "--next") options) next

-- the values of a switch: it is given, once and without a value, or it is not
abbrev pub IsSwitch : (switches : List (List ℕ)) → Bool → Type 0
IsSwitch switches true = switches ≡ [] ∷ []
IsSwitch switches false = switches ≡ []

-- `--force`, once and without a value, or not
abbrev pub AsksForce : List Choice → Bool → Type 0
AsksForce options forced = IsSwitch (values_in (codes "--force") options) forced

-- `--onto OLD`, or no file
abbrev pub AsksOnto : List Choice → Option (Bor (List ℕ)) → Type 0
AsksOnto options old = IsNameOrNone (values_in (codes "--onto") options) old

-- `--boosted`, once and without a value, or not
abbrev pub AsksBoosted : List Choice → Bool → Type 0
AsksBoosted options boosted = IsSwitch (values_in (codes "--boosted") options) boosted

-- `--json`, once and without a value, or not
abbrev pub AsksJson : List Choice → Bool → Type 0
AsksJson options json = IsSwitch (values_in (codes "--json") options) json

-- `--unchecked`, once and without a value, or not
abbrev pub AsksUnchecked : List Choice → Bool → Type 0
AsksUnchecked options unchecked = IsSwitch (values_in (codes "--unchecked") options) unchecked

-- `--signed`, once and without a value, or not
abbrev pub AsksSigned : List Choice → Bool → Type 0
AsksSigned options signed = IsSwitch (values_in (codes "--signed") options) signed

-- no option has another name: together these are as many as there are options
abbrev pub HasOnlyMining : List Choice → Type 0
HasOnlyMining options = length options ≡ count_of (codes "--fuel") options + count_of (codes "--workers") options + count_of (codes "--boosted") options + count_of (codes "--tries") options + count_of (codes "--json") options

abbrev pub HasOnlyValidation : List Choice → Type 0
HasOnlyValidation options = length options ≡ count_of (codes "--fuel") options + count_of (codes "--workers") options + count_of (codes "--boosted") options + count_of (codes "--next") options + count_of (codes "--json") options

abbrev pub HasOnlyTwo : (first second : List ℕ) → List Choice → Type 0
HasOnlyTwo first second options = length options ≡ count_of first options + count_of second options

abbrev pub HasOnlyDeploying : List Choice → Type 0
HasOnlyDeploying options = length options ≡ count_of (codes "--onto") options + count_of (codes "--force") options + count_of (codes "--json") options

abbrev pub HasOnlyShowing : List Choice → Type 0
HasOnlyShowing options = length options ≡ count_of (codes "--calls") options + count_of (codes "--json") options + count_of (codes "--svg") options + count_of (codes "--signed") options
