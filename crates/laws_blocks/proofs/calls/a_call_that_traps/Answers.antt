use Rattle.laws_blocks.proofs.Rows.{trap_run, trap_executes, no_free_trap, no_return}
use Rattle.laws_blocks.proofs.calls.a_call_that_traps.Goals as goal

pub returns : goal.returns
returns c = let once = c.runs_are_unique.ensures.executes in record { runs = trap_run; executes = trap_executes; no_free_trap = no_free_trap once; no_return = no_return once }
