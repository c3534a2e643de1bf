use Rattle.std.proofs.Common.{subst, sym, arith}
use Rattle.world.specs.Views.{world_view}
use Rattle.wblock_line.specs.Answers.{Upshot, upshot_of}
use Rattle.wblock_call.specs.Calling.{Calls}
use Rattle.wblock_commands.specs.declared.command.Command.TheVariants.{Call}
use Rattle.wblock_chain.proofs.Planning.{called, fits}
use Rattle.wblock_chain.proofs.plan.plan_call.Goals as goal

pub returns-in-Ok-clause-plan : goal.returns-in-Ok-clause-plan
returns-in-Ok-clause-plan c = λ holds held.
    subst (λ (u : Upshot). Calls holds c.args.task.now u) (sym c.transition_of.ensures.same) (called (world_view c.args.world.now) c.args.task.now (upshot_of c.in-Ok.answer) holds c.is_spelled.ensures c.in-Ok.ensures held)

pub returns-in-Ok-clause-beside : goal.returns-in-Ok-clause-beside
returns-in-Ok-clause-beside c = fits (Call c.args.task.now) c.transition_of.result 0 (omega arith) (c.transition_of.ensures.beside c.in-Ok.ensures.told.writes)
