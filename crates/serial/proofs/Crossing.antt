-- What workers share and hand back may cross threads: contracts, finished calls and cells, over an allocator that may, and whose blocks any thread may give back.
use mir.Syntax.{Lifetime}
use base.Fml.{Lft}
use denote.RattleType.{RattleType}
use denote.Ref.{NamedLft}
use denote.Slice.{ShrSlice}
use denote.Param.Send.{Frees, IsSend, IsSync, shr_slice_send, sendable}
use denote.Param.SendFields.{declared_sync}
use Rattle.std.specs.declared.alloc.Allocator.{Ghosts}
use Rattle.std.specs.contracts.string.String as text
use Rattle.std.specs.contracts.vec.Vec as vec
use Rattle.wtypes.specs.contracts.FuncType as func_type_row
use Rattle.wtypes.specs.contracts.HostCall as host_row
use Rattle.module_tree.specs.contracts.instr.Instr as instr_row
use Rattle.module_tree.specs.contracts.module.DataSegment as data_row
use Rattle.module_tree.specs.contracts.module.Element as element_row
use Rattle.module_tree.specs.contracts.module.Export as export_row
use Rattle.module_tree.specs.contracts.module.Func as func_row
use Rattle.module_tree.specs.contracts.module.Global as global_row
use Rattle.module_tree.specs.contracts.module.Import as import_row
use Rattle.module_tree.specs.contracts.module.Module as tree_row
use Rattle.memory.specs.contracts.start.Start as start_row
use Rattle.link.specs.contracts.deployed.Deployed as contract_row
use Rattle.link.specs.contracts.table.Table as table_row
use Rattle.interp.specs.contracts.finished.Finished as finished_row
use Rattle.storage.specs.contracts.Cells as cells_row
use Rattle.std.proofs.Crossing as std
use Rattle.std.proofs.CrossingOver as over
use Rattle.std.proofs.MapsCrossing as maps
use Rattle.std.proofs.MapsCrossingOver as maps_over
use Rattle.std.proofs.option.Option.TheSendSync as option
use Rattle.std.proofs.result.Result.TheSendSync as result
use Rattle.wtypes.proofs.FuncType.TheSendSync as func_type
use Rattle.wtypes.proofs.HostCall.TheSendSync as host
use Rattle.wtypes.proofs.Limits.TheSendSync as limits
use Rattle.wtypes.proofs.NoMemory.TheSendSync as no_memory
use Rattle.wtypes.proofs.PlainInstr.TheSendSync as plain
use Rattle.wtypes.proofs.ValType.TheSendSync as val_type
use Rattle.wtypes.proofs.Value.TheSendSync as value
use Rattle.spec_ledger.proofs.Outcome.TheSendSync as outcome
use Rattle.spec_ledger.proofs.TraceStep.TheSendSync as step
use Rattle.spec_ledger.proofs.Lock.TheSendSync as lock
use Rattle.spec_ledger.proofs.Version.TheSendSync as version
use Rattle.module_tree.proofs.instr.Instr.TheLaws.TheKnot as instr
use Rattle.module_tree.proofs.module.Export.TheSendSync as export
use Rattle.module_tree.proofs.module.ExportDesc.TheSendSync as export_desc
use Rattle.module_tree.proofs.module.GlobalType.TheSendSync as global_type
use Rattle.module_tree.proofs.module.Import.TheSendSync as imported
use Rattle.module_tree.proofs.module.ImportDesc.TheSendSync as import_desc
use Rattle.memory.proofs.start.Run.TheSendSync as run
use Rattle.link.proofs.table.Filled.TheSendSync as filled
use Rattle.call.proofs.Call.TheSendSync as call
use Rattle.storage.proofs.Slot.TheSendSync as slot

pub ruleset crosses = (
  sendable,
  std.crosses,
  maps.crosses,
  instr.crosses,
  instr.hole_sync-Instr,
  instr.sync-Instr,
  export.the_field_sync,
  export_desc.the_field_sync,
  global_type.the_field_sync,
  imported.the_field_sync,
  import_desc.the_field_sync,
  func_type.the_field_sync,
  limits.the_field_sync,
  plain.the_field_sync,
  val_type.the_field_sync,
  value.the_field_sync,
  host.the_field_sync,
  option.the_field_sync,
  result.the_field_send,
  no_memory.the_field_send,
  outcome.the_field_send,
  step.the_field_send,
  version.the_field_send,
  lock.the_field_sync,
  lock.the_sync,
  slot.the_field_sync,
  slot.the_sync,
  call.the_sync,
  outcome.the_send,
  step.the_send,
  version.the_send,
  no_memory.the_send,
)

module _ (B : RattleType) (g : Ghosts B.Denot) (send : IsSend B) (sync : IsSync B) (frees : Frees g g.dealloc_token) where
  pub vec_send : (T : RattleType) → IsSend T → IsSend (vec.the_row T B g)
  vec_send T s = search (sendable, over.crosses) depth 20

  pub vec_sync : (T : RattleType) → IsSync T → IsSync (vec.the_row T B g)
  vec_sync T y = search (sendable, over.crosses) depth 20

  text_sync : IsSync (text.the_row B g)
  text_sync = search (sendable, vec_sync) depth 20

  func_type_sync : IsSync (func_type_row.the_row B g)
  func_type_sync = search crosses depth 60 fits 100000

  import_sync : IsSync (import_row.the_row B g)
  import_sync = search crosses depth 60 fits 100000

  export_sync : IsSync (export_row.the_row B g)
  export_sync = search crosses depth 60 fits 100000

  instr_sync : IsSync (instr_row.the_row B g)
  instr_sync = search (crosses, vec_sync) depth 60 fits 100000

  func_sync : IsSync (func_row.the_row B g)
  func_sync = search (crosses, vec_sync, instr_sync) depth 60 fits 100000

  global_sync : IsSync (global_row.the_row B g)
  global_sync = search (crosses, vec_sync, instr_sync) depth 60 fits 100000

  element_sync : IsSync (element_row.the_row B g)
  element_sync = search (crosses, vec_sync, instr_sync) depth 60 fits 100000

  data_sync : IsSync (data_row.the_row B g)
  data_sync = search (crosses, vec_sync, instr_sync) depth 60 fits 100000

  tree_sync : IsSync (tree_row.the_row B g)
  tree_sync = search (sendable, vec_sync, func_type_sync, import_sync, export_sync, func_sync, global_sync, element_sync, data_sync, limits.the_field_sync, option.the_field_sync) depth 60 fits 100000

  hosts_sync : IsSync (vec.the_row host_row.the_row B g)
  hosts_sync = search (crosses, vec_sync) depth 60 fits 100000

  start_sync : IsSync (start_row.the_row B g)
  start_sync = declared_sync (start_row.the_type B g) (search (crosses, vec_sync, run.the_field_sync) depth 60 fits 100000, (search (crosses, vec_sync) depth 60 fits 100000, tt))

  table_sync : IsSync (table_row.the_row B g)
  table_sync = search (crosses, vec_sync, filled.the_field_sync, filled.the_sync) depth 60 fits 100000

  pub contract_sync : IsSync (contract_row.the_row B g)
  contract_sync = declared_sync (contract_row.the_type B g)
      (search (crosses, tree_sync) depth 60, (search (crosses, hosts_sync) depth 60, (search (crosses, start_sync) depth 60, (search (crosses, table_sync) depth 60, (search (crosses, vec_sync, value.the_sync) depth 60 fits 100000, (search (crosses, maps_over.crosses, text_sync, export_desc.the_sync) depth 60 fits 100000, tt))))))

  pub contracts_send : (ℓ : Lifetime) (κ : Lft) → IsSend (ShrSlice ℓ κ (contract_row.the_row B g))
  contracts_send ℓ κ = shr_slice_send ℓ κ _ contract_sync

  pub finished_send : (a : NamedLft) → IsSend (finished_row.the_row a B g)
  finished_send a = search (crosses, vec_send, contracts_send) depth 60 fits 100000

  pub cells_sync : IsSync (cells_row.the_row B g)
  cells_sync = search (crosses, maps_over.crosses, vec_sync) depth 60 fits 100000
