use Rattle.interp.specs.Callee.{setting_view}
use Rattle.wblock_debug.proofs.Telling.{shown, not_started}
use Rattle.wblock_debug.proofs.run.debug_call.Goals as goal

pub returns-in-Ok : goal.returns-in-Ok
returns-in-Ok c = shown c.args.style (setting_view c.args.version c.args.contracts.now) c.args.cells.now.cells c.args.call.now c.args.commands.now c.in-Ok.session c.perform_all.new.session c.perform_all.result c.in-Ok.ensures.opened c.is_sight.ensures c.perform_all.ensures

pub returns-in-Err : goal.returns-in-Err
returns-in-Err c = not_started c.args.style (setting_view c.args.version c.args.contracts.now) c.args.cells.now.cells c.args.call.now c.args.commands.now c.refuse_start.result (c.refuse_start.ensures (setting_view c.args.version c.args.contracts.now) c.args.call.now c.in-Err.ensures.refused)
