use Rattle.std.proofs.Common.{◌≡◌, take, map}
use Rattle.module_tree.specs.View.{instr_view, instr_ordinals}
use Rattle.module_tree.proofs.copy.+copy.Given as goal

abbrev pub invariant-copy_instrs-loop-i : goal.invariant-copy_instrs-loop-i
invariant-copy_instrs-loop-i g l =
    (map instr_view l.copies.items ≡ map instr_view (take l.i-index l.body.items))
    × (map instr_ordinals l.copies.items ≡ map instr_ordinals (take l.i-index l.body.items))
