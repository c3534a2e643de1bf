-- A call that opens is of a linked contract.
use Rattle.std.proofs.Common.{◌≡◌, ℕ, Bool, true, false, cond, ◌==◌, List, subst, Option, Some, None, length, slice_get}
use Rattle.wtypes.specs.declared.Value.{Value}
use Rattle.spec_ledger.specs.declared.Version.{Version}
use Rattle.spec_modules.specs.Syntax.{ExportDesc, ExportFunc, ExportTable, ExportMemory, ExportGlobal}
use Rattle.spec_typing.specs.Linking.{IsLinked}
use Rattle.spec_execution.specs.Configuration.{Deployed, Contract, Function, Hosted, Defined, function_at}
use Rattle.spec_execution.specs.Run.{ContractCall, Refused, Opens, exported, wrong_argument, by_wrong, by_function, by_export, by_contract}
use Rattle.laws_soundness.specs.Laws.{AreLinked}
use Rattle.laws_soundness.proofs.Executing.{all_at}

by_result : (c : Contract) (f : ℕ) (o : Option ℕ) (c' : Contract) (f' : ℕ) → by_wrong c f o ≡ Opens c' f' → c ≡ c'
by_result c f None c' f' e = cc
by_result c f (Some n) c' f' e = absurd (cc)

by_count : (c : Contract) (f : ℕ) (o : Option ℕ) (b : Bool) (c' : Contract) (f' : ℕ) → cond b (by_wrong c f o) (Refused 3) ≡ Opens c' f' → c ≡ c'
by_count c f o true c' f' e = by_result c f o c' f' e
by_count c f o false c' f' e = absurd (cc)

by_kind : (c : Contract) (f : ℕ) (args : List Value) (o : Option Function) (c' : Contract) (f' : ℕ) → by_function c f args o ≡ Opens c' f' → c ≡ c'
by_kind c f args None c' f' e = absurd (cc)
by_kind c f args (Some (Hosted h)) c' f' e = absurd (cc)
by_kind c f args (Some (Defined t g)) c' f' e = by_count c f (wrong_argument t.params args) (length args == length t.params) c' f' e

by_name : (c : Contract) (args : List Value) (o : Option ExportDesc) (c' : Contract) (f' : ℕ) → by_export c args o ≡ Opens c' f' → c ≡ c'
by_name c args None c' f' e = absurd (cc)
by_name c args (Some (ExportFunc f)) c' f' e = by_kind c f args (function_at c.deployed f) c' f' e
by_name c args (Some (ExportTable n)) c' f' e = absurd (cc)
by_name c args (Some (ExportMemory n)) c' f' e = absurd (cc)
by_name c args (Some (ExportGlobal n)) c' f' e = absurd (cc)

pub opened_linked : (contracts : List Deployed) (version : Version) (call : ContractCall) (o : Option Deployed) (c : Contract) (f : ℕ) → AreLinked contracts → slice_get contracts call.contract ≡ o → by_contract version call o ≡ Opens c f → IsLinked c.deployed.tree c.deployed.hosts
opened_linked contracts version call None c f h here e = absurd (cc)
opened_linked contracts version call (Some d) c f h here e =
    subst (λ (c : Contract). IsLinked c.deployed.tree c.deployed.hosts) (by_name (record { number = call.contract; deployed = d; version = version }) call.args (exported call.entry d.tree.exports) c f e) (all_at (λ (d : Deployed). IsLinked d.tree d.hosts) contracts call.contract d h here)
