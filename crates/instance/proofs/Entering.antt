-- What an `ask` that opens has found: a function of the module, from one number of 64 bits to one.
use Rattle.std.proofs.Common.{◌≡◌, ℕ, Bool, true, false, ◌&&◌, List, [], ◌∷◌, Option, Some, None, slice_get, refl, subst}
use Rattle.std.specs.Prelude.{nat_lt, if◌then◌else◌, option_map}
use Rattle.wtypes.specs.declared.ValType.{ValType}
use Rattle.wtypes.specs.declared.ValType.TheVariants.{I32, I64}
use Rattle.spec_ledger.specs.declared.Version.{Version}
use Rattle.spec_modules.specs.Syntax.{FuncType, Func, Export, ExportDesc, ExportFunc, ExportTable, ExportMemory, ExportGlobal}
use Rattle.spec_execution.specs.Configuration.{Setting, Deployed, Contract, Function, Hosted, Defined, function_at}
use Rattle.spec_execution.specs.Reduction.{same_types, same_function_type}
use Rattle.spec_execution.specs.Run.{Opens, Refused}
use Rattle.spec_execution.specs.Levels.{asked, ask_type, level_limit, by_asked_contract, by_asked_export, by_asked_function}

pub record IsAskedFor (c : Contract) (func : ℕ) : Type 0 where
  pub type : FuncType
  pub function : Func
  pub found : function_at c.deployed func ≡ Some (Defined type function)
  pub params : type.params ≡ I64 ∷ []
  pub results : type.results ≡ I64 ∷ []

one_number : (ts : List ValType) → same_types ts (I64 ∷ []) ≡ true → ts ≡ I64 ∷ []
one_number [] e = absurd (cc)
one_number (I32 ∷ ts) e = absurd (cc)
one_number (I64 ∷ []) e = refl
one_number (I64 ∷ t ∷ ts) e = absurd (cc)

both_true : (a b : Bool) → (a && b) ≡ true → (a ≡ true) × (b ≡ true)
both_true true b e = (refl, e)
both_true false b e = absurd (cc)

module _ (k : Contract) (func : ℕ) where
  of_type : (c : Contract) (f : ℕ) (t : FuncType) (g : Func) (b : Bool) → function_at c.deployed f ≡ Some (Defined t g) → same_function_type t ask_type ≡ b → (if b then Opens c f else Refused 10) ≡ Opens k func → IsAskedFor k func
  of_type c f t g true found is e =
      let contract : c ≡ k = cc in
      let number : f ≡ func = cc in
      let both = both_true (same_types t.params (I64 ∷ [])) (same_types t.results (I64 ∷ [])) is in
      subst (λ (x : Contract). IsAskedFor x func) contract (subst (λ (n : ℕ). IsAskedFor c n) number
      (record { type = t; function = g; found = found; params = one_number t.params both.0; results = one_number t.results both.1 }))
  of_type c f t g false found is e = absurd (cc)

  of_function : (c : Contract) (f : ℕ) (o : Option Function) → function_at c.deployed f ≡ o → by_asked_function c f o ≡ Opens k func → IsAskedFor k func
  of_function c f None found e = absurd (cc)
  of_function c f (Some (Hosted h)) found e = absurd (cc)
  of_function c f (Some (Defined t g)) found e = of_type c f t g (same_function_type t ask_type) found refl e

  of_export : (c : Contract) (o : Option ExportDesc) → by_asked_export c o ≡ Opens k func → IsAskedFor k func
  of_export c None e = absurd (cc)
  of_export c (Some (ExportFunc f)) e = of_function c f (function_at c.deployed f) refl e
  of_export c (Some (ExportTable x)) e = absurd (cc)
  of_export c (Some (ExportMemory x)) e = absurd (cc)
  of_export c (Some (ExportGlobal x)) e = absurd (cc)

  of_contract : (version : Version) (number export : ℕ) (o : Option Deployed) → by_asked_contract version number export o ≡ Opens k func → IsAskedFor k func
  of_contract version number export None e = absurd (cc)
  of_contract version number export (Some d) e = of_export (record { number = number; deployed = d; version = version }) (option_map (λ (x : Export). x.desc) (slice_get d.tree.exports export)) e

  of_level : (version : Version) (number export : ℕ) (o : Option Deployed) (b : Bool) → (if b then by_asked_contract version number export o else Refused 11) ≡ Opens k func → IsAskedFor k func
  of_level version number export o true e = of_contract version number export o e
  of_level version number export o false e = absurd (cc)

  pub asked_for : (setting : Setting) (level number export : ℕ) → asked setting level number export ≡ Opens k func → IsAskedFor k func
  asked_for setting level number export e = of_level setting.version number export (slice_get setting.contracts number) (nat_lt level level_limit) e
