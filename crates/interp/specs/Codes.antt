-- Codes of modules, calls and machines, by which a proof tells values apart.
use Rattle.std.specs.Prelude.{◌≡◌, ◌⊎◌, ℕ, ℤ, Bool, List, Option, refl}
use Rattle.std.specs.Coded.{Coded, code_by, coded×, coded⊎, coded_ℕ, coded_ℤ, coded_bool, coded_list, coded_option}
use mathlib.Core.Logic.{inl, inr}
use Rattle.wtypes.specs.contracts.ValType as valtype
use Rattle.wtypes.specs.contracts.Value as value
use Rattle.wtypes.specs.contracts.HostCall as host
use Rattle.spec_ledger.specs.contracts.Version as version
use Rattle.wtypes.specs.declared.ValType.{ValType}
use Rattle.wtypes.specs.declared.Value.{Value}
use Rattle.wtypes.specs.declared.HostCall.{HostCall}
use Rattle.spec_ledger.specs.declared.Version.{Version}
use Rattle.spec_modules.specs.Syntax.{Instrs, FuncType, Limits, GlobalType, ImportDesc, ImportFunc, ImportTable, ImportMemory, ImportGlobal, ExportDesc, ExportFunc, ExportTable, ExportMemory, ExportGlobal, Import, Func, Global, Export, Element, DataSegment, Module}
use Rattle.spec_modules.specs.Codes.{coded_instrs}
use Rattle.spec_execution.specs.Configuration.{Setting, Deployed, Contract, Config}
use Rattle.spec_execution.specs.Codes.{coded_config}
use Rattle.spec_execution.specs.Levels.{Level, Levels}
use Rattle.spec_execution.specs.Run.{ContractCall}

abbrev pub coded_numbers : Coded (List ℕ)
coded_numbers = coded_list coded_ℕ

abbrev pub coded_types : Coded (List ValType)
coded_types = coded_list valtype.the_row.coded

abbrev pub coded_func_type : Coded FuncType
coded_func_type = code_by (List ValType × List ValType) (coded× coded_types coded_types) (λ t. (t.params, t.results)) (λ p. record { params = p.0; results = p.1 }) (λ _. refl)

abbrev pub coded_limits : Coded Limits
coded_limits = code_by (ℕ × Option ℕ) (coded× coded_ℕ (coded_option coded_ℕ)) (λ l. (l.min, l.max)) (λ p. record { min = p.0; max = p.1 }) (λ _. refl)

abbrev pub coded_global_type : Coded GlobalType
coded_global_type = code_by (ValType × Bool) (coded× valtype.the_row.coded coded_bool) (λ g. (g.type, g.is_mutable)) (λ p. record { type = p.0; is_mutable = p.1 }) (λ _. refl)

abbrev import_to : ImportDesc → ℕ ⊎ (Limits ⊎ (Limits ⊎ GlobalType))
import_to (ImportFunc t) = inl t
import_to (ImportTable l) = inr (inl l)
import_to (ImportMemory l) = inr (inr (inl l))
import_to (ImportGlobal g) = inr (inr (inr g))

abbrev import_from : ℕ ⊎ (Limits ⊎ (Limits ⊎ GlobalType)) → ImportDesc
import_from (inl t) = ImportFunc t
import_from (inr (inl l)) = ImportTable l
import_from (inr (inr (inl l))) = ImportMemory l
import_from (inr (inr (inr g))) = ImportGlobal g

pub import_again : (d : ImportDesc) → import_from (import_to d) ≡ d
import_again (ImportFunc t) = refl
import_again (ImportTable l) = refl
import_again (ImportMemory l) = refl
import_again (ImportGlobal g) = refl

abbrev pub coded_import_desc : Coded ImportDesc
coded_import_desc = code_by (ℕ ⊎ (Limits ⊎ (Limits ⊎ GlobalType))) (coded⊎ coded_ℕ (coded⊎ coded_limits (coded⊎ coded_limits coded_global_type))) import_to import_from import_again

abbrev export_to : ExportDesc → ℕ ⊎ (ℕ ⊎ (ℕ ⊎ ℕ))
export_to (ExportFunc x) = inl x
export_to (ExportTable x) = inr (inl x)
export_to (ExportMemory x) = inr (inr (inl x))
export_to (ExportGlobal x) = inr (inr (inr x))

abbrev export_from : ℕ ⊎ (ℕ ⊎ (ℕ ⊎ ℕ)) → ExportDesc
export_from (inl x) = ExportFunc x
export_from (inr (inl x)) = ExportTable x
export_from (inr (inr (inl x))) = ExportMemory x
export_from (inr (inr (inr x))) = ExportGlobal x

pub export_again : (d : ExportDesc) → export_from (export_to d) ≡ d
export_again (ExportFunc x) = refl
export_again (ExportTable x) = refl
export_again (ExportMemory x) = refl
export_again (ExportGlobal x) = refl

abbrev pub coded_export_desc : Coded ExportDesc
coded_export_desc = code_by (ℕ ⊎ (ℕ ⊎ (ℕ ⊎ ℕ))) (coded⊎ coded_ℕ (coded⊎ coded_ℕ (coded⊎ coded_ℕ coded_ℕ))) export_to export_from export_again

abbrev pub coded_import : Coded Import
coded_import =
    code_by (List ℕ × (List ℕ × ImportDesc)) (coded× coded_numbers (coded× coded_numbers coded_import_desc))
    (λ i. (i.from_module, (i.name, i.desc))) (λ p. record { from_module = p.0; name = p.1.0; desc = p.1.1 }) (λ _. refl)

abbrev pub coded_func : Coded Func
coded_func =
    code_by (ℕ × (List ValType × Instrs)) (coded× coded_ℕ (coded× coded_types coded_instrs))
    (λ f. (f.type_index, (f.locals, f.body))) (λ p. record { type_index = p.0; locals = p.1.0; body = p.1.1 }) (λ _. refl)

abbrev pub coded_global : Coded Global
coded_global = code_by (GlobalType × Instrs) (coded× coded_global_type coded_instrs) (λ g. (g.type, g.init)) (λ p. record { type = p.0; init = p.1 }) (λ _. refl)

abbrev pub coded_export : Coded Export
coded_export = code_by (List ℕ × ExportDesc) (coded× coded_numbers coded_export_desc) (λ e. (e.name, e.desc)) (λ p. record { name = p.0; desc = p.1 }) (λ _. refl)

abbrev pub coded_element : Coded Element
coded_element =
    code_by (ℕ × (Instrs × List ℕ)) (coded× coded_ℕ (coded× coded_instrs coded_numbers))
    (λ e. (e.table, (e.offset, e.funcs))) (λ p. record { table = p.0; offset = p.1.0; funcs = p.1.1 }) (λ _. refl)

abbrev pub coded_data : Coded DataSegment
coded_data =
    code_by (ℕ × (Instrs × List ℕ)) (coded× coded_ℕ (coded× coded_instrs coded_numbers))
    (λ d. (d.memory, (d.offset, d.bytes))) (λ p. record { memory = p.0; offset = p.1.0; bytes = p.1.1 }) (λ _. refl)

abbrev Sections : Type 0
Sections = List FuncType × (List Import × (List Func × (List Limits × (List Limits × (List Global × (List Export × (Option ℕ × (List Element × List DataSegment))))))))

abbrev pub coded_module : Coded Module
coded_module =
    code_by Sections
    (coded× (coded_list coded_func_type) (coded× (coded_list coded_import) (coded× (coded_list coded_func) (coded× (coded_list coded_limits) (coded× (coded_list coded_limits)
    (coded× (coded_list coded_global) (coded× (coded_list coded_export) (coded× (coded_option coded_ℕ) (coded× (coded_list coded_element) (coded_list coded_data))))))))))
    (λ m. (m.types, (m.imports, (m.funcs, (m.tables, (m.memories, (m.globals, (m.exports, (m.start, (m.elements, m.datas))))))))))
    (λ p. record { types = p.0; imports = p.1.0; funcs = p.1.1.0; tables = p.1.1.1.0; memories = p.1.1.1.1.0; globals = p.1.1.1.1.1.0; exports = p.1.1.1.1.1.1.0; start = p.1.1.1.1.1.1.1.0; elements = p.1.1.1.1.1.1.1.1.0; datas = p.1.1.1.1.1.1.1.1.1 })
    (λ _. refl)

abbrev pub coded_deployed : Coded Deployed
coded_deployed = code_by (Module × List HostCall) (coded× coded_module (coded_list host.the_row.coded)) (λ d. (d.tree, d.hosts)) (λ p. record { tree = p.0; hosts = p.1 }) (λ _. refl)

abbrev pub coded_contract : Coded Contract
coded_contract =
    code_by (ℕ × (Deployed × Version)) (coded× coded_ℕ (coded× coded_deployed version.the_row.coded))
    (λ c. (c.number, (c.deployed, c.version))) (λ p. record { number = p.0; deployed = p.1.0; version = p.1.1 }) (λ _. refl)

abbrev pub coded_setting : Coded Setting
coded_setting =
    code_by (List Deployed × Version) (coded× (coded_list coded_deployed) version.the_row.coded)
    (λ s. (s.contracts, s.version)) (λ p. record { contracts = p.0; version = p.1 }) (λ _. refl)

abbrev pub coded_level : Coded Level
coded_level =
    code_by (Contract × (Config × ℤ)) (coded× coded_contract (coded× coded_config coded_ℤ))
    (λ l. (l.contract, (l.config, l.answer))) (λ p. record { contract = p.0; config = p.1.0; answer = p.1.1 }) (λ _. refl)

abbrev pub coded_levels : Coded Levels
coded_levels = code_by (Level × List Level) (coded× coded_level (coded_list coded_level)) (λ c. (c.inner, c.outer)) (λ p. record { inner = p.0; outer = p.1 }) (λ _. refl)

abbrev pub coded_call : Coded ContractCall
coded_call =
    code_by (ℕ × (List ℕ × (List Value × ℕ))) (coded× coded_ℕ (coded× coded_numbers (coded× (coded_list value.the_row.coded) coded_ℕ)))
    (λ c. (c.contract, (c.entry, (c.args, c.fuel)))) (λ p. record { contract = p.0; entry = p.1.0; args = p.1.1.0; fuel = p.1.1.1 }) (λ _. refl)
