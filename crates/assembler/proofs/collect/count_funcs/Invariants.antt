use Rattle.std.proofs.Common.{◌≡◌, ◌+◌, map, drop}
use Rattle.text_tree.specs.Views.{field_of}
use Rattle.assembler.specs.FunctionCounts.{count_funcs}
use Rattle.assembler.proofs.collect.count_funcs.Given as goal

abbrev pub invariant-loop-field : goal.invariant-loop-field
invariant-loop-field g l = l.count + count_funcs (map field_of (drop l.field-index l.text.fields.items)) ≡ count_funcs (map field_of l.text.fields.items)
