-- The texts of refusals of a module.
use Rattle.std.specs.Prelude.{◌≡◌, ℕ, List, [], ◌∷◌, ◌++◌, codes, decimal, Some, None}
use Rattle.module_tree.specs.LimitNumbers as limits
use Rattle.body_typing.specs.RuleNumbers as rules
use Rattle.wblock_line.specs.declared.refusals.ModuleRefusal.{ModuleRefusal}
use Rattle.wblock_line.specs.Modules.{IsWhy}
use Rattle.wblock_line.specs.declared.refusals.ModuleRefusal.TheVariants.{Malformed, Unsupported, TooLarge, Untyped, UnknownImport, ImportType, SegmentRange, TooManyPages, TableTooLarge}

abbrev pub refusal_text : ModuleRefusal → List ℕ
refusal_text (Malformed at) = codes "refused load 1 " ++ decimal at
refusal_text (Unsupported at) = codes "refused load 2 " ++ decimal at
refusal_text (TooLarge limit) = codes "refused load 3 " ++ decimal (limits.number_of limit)
refusal_text (Untyped rule None place) = codes "refused check " ++ decimal (rules.number_of rule) ++ codes " - " ++ decimal place
refusal_text (Untyped rule (Some func) place) = codes "refused check " ++ decimal (rules.number_of rule) ++ codes " " ++ decimal func ++ codes " " ++ decimal place
refusal_text (UnknownImport n) = codes "refused deploy 1 " ++ decimal n
refusal_text (ImportType n) = codes "refused deploy 2 " ++ decimal n
refusal_text (SegmentRange n) = codes "refused deploy 3 " ++ decimal n
refusal_text TooManyPages = codes "refused deploy 4 -"
refusal_text TableTooLarge = codes "refused deploy 5 -"

-- the line says why the bytes spell no valid module
pub record TellsNoModule (bytes line : List ℕ) : Type 0 where
  pub refusal : ModuleRefusal
  pub why : IsWhy bytes refusal
  pub line_is : line ≡ refusal_text refusal ++ 10 ∷ []
