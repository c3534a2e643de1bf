use Rattle.assembler.proofs.Fitting.{module_judged}
use Rattle.assembler.proofs.judge.lists_fit.Goals as goal

pub returns : goal.returns
returns g c =
    module_judged c.args.lists.now _ _ _ _ _ _ _ _ c.all_within-imports.ensures c.funcs_fit-funcs.ensures c.all_within-tables.ensures c.all_within-memories.ensures
    c.all_within-globals.ensures c.all_within-exports.ensures c.start_in_range.ensures c.all_within-elements.ensures c.all_within-datas.ensures
