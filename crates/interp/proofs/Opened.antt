-- With what function a call opens.
use Rattle.std.proofs.Common.{◌≡◌, ℕ, Bool, true, false, List, Option, Some, None, length, option_map, refl, subst, slice_get, ◌==◌}
use Rattle.std.specs.Prelude.{if◌then◌else◌, nat_lt}
use Rattle.wtypes.specs.declared.Value.{Value}
use Rattle.wtypes.specs.declared.HostCall.{HostCall}
use Rattle.spec_ledger.specs.declared.Version.{Version}
use Rattle.spec_modules.specs.Syntax.{ExportDesc, ExportFunc, ExportTable, ExportMemory, ExportGlobal, FuncType, Func}
use Rattle.spec_execution.specs.Configuration.{Setting, Deployed, Contract, Function, Hosted, Defined, function_at}
use Rattle.spec_execution.specs.Run.{ContractCall, opening, Opens, Refused, by_wrong, by_function, by_export, by_contract, wrong_argument, exported}
use Rattle.std.proofs.lemmas.Bool.{eqb-true}
use Rattle.interp_state.specs.Waiting.{IsEntry}

wrong_same : (c k : Contract) (f func : ℕ) (o : Option ℕ) → by_wrong c f o ≡ Opens k func → f ≡ func
wrong_same c k f func None e = cc
wrong_same c k f func (Some n) e = absurd (cc)

count_same : (c k : Contract) (f func : ℕ) (o : Option ℕ) (b : Bool) → (if b then by_wrong c f o else Refused 3) ≡ Opens k func → f ≡ func
count_same c k f func o true e = wrong_same c k f func o e
count_same c k f func o false e = absurd (cc)

function_same : (c k : Contract) (f func : ℕ) (args : List Value) (found : Option Function) → by_function c f args found ≡ Opens k func → f ≡ func
function_same c k f func args None e = absurd (cc)
function_same c k f func args (Some (Hosted h)) e = absurd (cc)
function_same c k f func args (Some (Defined t g)) e = count_same c k f func (wrong_argument t.params args) _ e

export_found : (c k : Contract) (args : List Value) (func : ℕ) (desc : Option ExportDesc) → by_export c args desc ≡ Opens k func → by_function c func args (function_at c.deployed func) ≡ Opens k func
export_found c k args func None e = absurd (cc)
export_found c k args func (Some (ExportFunc f)) e = subst (λ (n : ℕ). by_function c n args (function_at c.deployed n) ≡ Opens k func) (function_same c k f func args (function_at c.deployed f) e) e
export_found c k args func (Some (ExportTable x)) e = absurd (cc)
export_found c k args func (Some (ExportMemory x)) e = absurd (cc)
export_found c k args func (Some (ExportGlobal x)) e = absurd (cc)

not_hosted : (c k : Contract) (f func : ℕ) (args : List Value) (b : Bool) (h : Option HostCall) (o : Option Function) → by_function c f args (if b then option_map Hosted h else o) ≡ Opens k func → b ≡ false
not_hosted c k f func args false h o e = refl
not_hosted c k f func args true None o e = absurd (cc)
not_hosted c k f func args true (Some h) o e = absurd (cc)

-- the function is the module's own
pub entry_defined : (version : Version) (d : Deployed) (call : ContractCall) (k : Contract) (func : ℕ) → by_contract version call (Some d) ≡ Opens k func → nat_lt func (length d.hosts) ≡ false
entry_defined version d call k func e =
    let c : Contract = record { number = call.contract; deployed = d; version = version } in
    not_hosted c k func func call.args (nat_lt func (length d.hosts)) _ _ (export_found c k call.args func (exported call.entry d.tree.exports) e)

-- ---- the entry takes the arguments

-- what a call that opens has found
record IsFound (c k : Contract) (args : List Value) (found : Option Function) : Type 0 where
  type : FuncType
  function : Func
  there : found ≡ Some (Defined type function)
  fit : length args ≡ length type.params
  same : c ≡ k

wrong_contract : (c k : Contract) (f func : ℕ) (o : Option ℕ) → by_wrong c f o ≡ Opens k func → c ≡ k
wrong_contract c k f func None e = cc
wrong_contract c k f func (Some n) e = absurd (cc)

function_found : (c k : Contract) (f func : ℕ) (args : List Value) (found : Option Function) → by_function c f args found ≡ Opens k func → IsFound c k args found
function_found c k f func args None e = absurd (cc)
function_found c k f func args (Some (Hosted h)) e = absurd (cc)
function_found c k f func args (Some (Defined t g)) e = by_test (length args == length t.params) refl e
  where
    by_test : (b : Bool) → (length args == length t.params) ≡ b → (if b then by_wrong c f (wrong_argument t.params args) else Refused 3) ≡ Opens k func → IsFound c k args (Some (Defined t g))
    by_test true h e = record { type = t; function = g; there = refl; fit = eqb-true _ _ h; same = wrong_contract c k f func _ e }
    by_test false h e = absurd (cc)

pub opened_entry : (setting : Setting) (call : ContractCall) (k : Contract) (func : ℕ) → opening setting call ≡ Opens k func → IsEntry k func call.args
opened_entry setting call k func e = by_place (slice_get setting.contracts call.contract) e
  where
    by_place : (o : Option Deployed) → by_contract setting.version call o ≡ Opens k func → IsEntry k func call.args
    by_place None e = absurd (cc)
    by_place (Some d) e =
        let c : Contract = record { number = call.contract; deployed = d; version = setting.version } in
        let f = function_found c k func func call.args (function_at d func) (export_found c k call.args func (exported call.entry d.tree.exports) e) in
        subst (λ (x : Contract). IsEntry x func call.args) f.same (record { type = f.type; function = f.function; found = f.there; fit = f.fit })
