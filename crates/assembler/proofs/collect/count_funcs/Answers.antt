use Rattle.std.proofs.Common.{◌≡◌, ◌<◌, ◌≤◌, length, get_or, map, arith, rules}
use Rattle.text_tree.specs.Views.{field_of}
use Rattle.assembler.specs.FunctionCounts.{count_funcs}
use Rattle.assembler.proofs.Counting.{count_more, all_counted}
use Rattle.assembler.proofs.collect.count_funcs.Goals as goal

pub loop-field-preserved : goal.loop-field-preserved
loop-field-preserved g c =
    let xs = c.args.text.now.fields.items in
    let l = c.loop-field in
    let x = c.field-item.result in
    let lt : l.field-index < length xs = grind arith in
    let at : x ≡ get_or xs l.field-index x = search rules in
    count_more field_of xs l.field-index x l.count c.has_func-count.result (count_funcs (map field_of xs)) lt at l.invariant c.has_func-count.ensures.counted

pub returns-clause-count : goal.returns-clause-count
returns-clause-count g c =
    let xs = c.args.text.now.fields.items in
    let l = c.loop-field in
    let le : length xs ≤ l.field-index = grind arith in
    all_counted field_of xs l.field-index l.count (count_funcs (map field_of xs)) le l.invariant
