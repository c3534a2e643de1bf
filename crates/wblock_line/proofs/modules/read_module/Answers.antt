use Rattle.wblock_line.proofs.modules.read_module.Goals as goal

pub returns-in-Err-clause-refused : goal.returns-in-Err-clause-refused
returns-in-Err-clause-refused g c = c.unloaded.ensures.stops c.args.bytes.now c.in-Err.ensures.only

pub returns-in-Err-clause-none : goal.returns-in-Err-clause-none
returns-in-Err-clause-none g c = c.unloaded.ensures.none c.args.bytes.now c.in-Err.ensures.only
