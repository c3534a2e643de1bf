use Rattle.std.proofs.Common.{◌≡◌, ◌++◌, take}
use Rattle.spec_modules.specs.Shortest.{instr_bytes, run_bytes}
use Rattle.module_tree.specs.View.{instr_view}
use Rattle.encoder.proofs.instrs.+put.Given as goal

abbrev pub invariant-put_instrs-loop-instr : goal.invariant-put_instrs-loop-instr
invariant-put_instrs-loop-instr g l =
    l.out.items ≡ l.initial.out.items ++ run_bytes (λ i. instr_bytes (instr_view i)) (take l.instr-index l.body.items)
