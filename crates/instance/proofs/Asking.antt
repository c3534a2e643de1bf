-- What an `ask` leads to, by the contract that stands at its number.
use Rattle.std.proofs.Common.{◌≡◌, ◌≢◌, ℕ, ◌<◌, Bool, true, false, ◌&&◌, List, [], ◌∷◌, Option, Some, None, length, map, option_map, slice_get, refl, sym, ap, ◌∙◌}
use Rattle.std.specs.Prelude.{if◌then◌else◌}
use Rattle.std.proofs.lemmas.Bool.{lt-ltb}
use Rattle.std.proofs.lemmas.Option.{slice_get-map}
use Rattle.wtypes.specs.declared.ValType.{ValType}
use Rattle.wtypes.specs.declared.ValType.TheVariants.{I64}
use Rattle.spec_ledger.specs.declared.Version.{Version}
use Rattle.link.specs.declared.deployed.Deployed.{Deployed}
use Rattle.spec_modules.specs.Syntax.{ExportDesc, ExportFunc, ExportTable, ExportMemory, ExportGlobal}
use Rattle.spec_modules.specs.Operators.{same_type}
use Rattle.spec_execution.specs.Configuration.{Contract, Function, Hosted, Defined, function_at}
use Rattle.spec_execution.specs.Reduction.{same_types, same_function_type}
use Rattle.spec_execution.specs.Run.{Opening, Opens, Refused}
use Rattle.spec_execution.specs.Levels.{asked, ask_type, level_limit, by_asked_contract, by_asked_export, by_asked_function}
use Rattle.instance.specs.AskFunctions.{is_asked, export_at, asked_function}
use Rattle.instance.specs.Views.{deployed_view, contract_of, setting_of}

abbrev by_found : Contract → Option ℕ → Opening
by_found c (Some func) = Opens c func
by_found c None = Refused 10

by_type : (c : Contract) (func : ℕ) (b : Bool) → (if b then Opens c func else Refused 10) ≡ by_found c (if b then Some func else None)
by_type c func true = refl
by_type c func false = refl

of_function : (c : Contract) (func : ℕ) (o : Option Function) → by_asked_function c func o ≡ by_found c (if is_asked o then Some func else None)
of_function c func None = refl
of_function c func (Some (Hosted h)) = refl
of_function c func (Some (Defined t f)) = by_type c func (same_function_type t ask_type)

of_export : (c : Contract) (o : Option ExportDesc) → by_asked_export c o ≡ by_found c (asked_function c.deployed o)
of_export c None = refl
of_export c (Some (ExportFunc func)) = of_function c func (function_at c.deployed func)
of_export c (Some (ExportTable x)) = refl
of_export c (Some (ExportMemory x)) = refl
of_export c (Some (ExportGlobal x)) = refl

module _ {A : Type 0} (ds : List (Deployed A)) (level number export : ℕ) (here : level < level_limit) (version : Version) (d : Deployed A) (is : slice_get ds number ≡ Some d) where
  of_contract : asked (setting_of version ds) level number export ≡ by_found (contract_of version number d) (asked_function (deployed_view d) (export_at (deployed_view d) export))
  of_contract =
      ap (λ (b : Bool). if b then by_asked_contract version number export (slice_get (map deployed_view ds) number) else Refused 11) (lt-ltb level level_limit here)
      ∙ ap (by_asked_contract version number export) (slice_get-map deployed_view ds number)
      ∙ ap (λ (o : Option (Deployed A)). by_asked_contract version number export (option_map deployed_view o)) is
      ∙ of_export (contract_of version number d) (export_at (deployed_view d) export)

  pub asked_opens : (func : ℕ) → Some func ≡ asked_function (deployed_view d) (export_at (deployed_view d) export) → asked (setting_of version ds) level number export ≡ Opens (contract_of version number d) func
  asked_opens func found = of_contract ∙ ap (by_found (contract_of version number d)) (sym found)

  pub asked_refused : None ≡ asked_function (deployed_view d) (export_at (deployed_view d) export) → asked (setting_of version ds) level number export ≡ Refused 10
  asked_refused found = of_contract ∙ ap (by_found (contract_of version number d)) (sym found)

-- ---- one number of 64 bits

and_false : (b : Bool) → false ≡ (b && false)
and_false true = refl
and_false false = refl

pub not_one : (ts : List ValType) → length ts ≢ 1 → false ≡ same_types ts (I64 ∷ [])
not_one [] h = refl
not_one (t ∷ []) h = absurd (h refl)
not_one (t ∷ u ∷ ts) h = and_false (same_type t I64)
