use Rattle.std.proofs.Common.{inl, inr, string_bytes, subst}
use Rattle.std.proofs.lemmas.Result.{IfOk-weaker}
use Rattle.world.specs.Views.{world_view}
use Rattle.wblock_line.specs.Answers.{upshot_of}
use Rattle.wblock_line.specs.Inputs.{HoldsWorld, HoldsCalls, Gives}
use Rattle.wblock_blocks.specs.Mines.{MinesOver}
use Rattle.wblock_line.specs.Upshots.{of_answer}
use Rattle.wblock_blocks.proofs.mine.mine_block.Goals as goal

pub returns-in-Refused-clause-answers : goal.returns-in-Refused-clause-answers
returns-in-Refused-clause-answers g c = IfOk-weaker c.refuse_inputs.result _ _ (λ n told t. inl (record {
  line = string_bytes c.in-Refused.line;
  why = subst (λ inputs. Gives (g.F.Files.holds c.args.files.now) c.args.task.world.now c.args.task.calls.now inputs) c.in-Refused.is (c.in_ok-world.ensures.gives t);
  told = of_answer c.args.task.json (string_bytes c.in-Refused.line) n.answer told;
})) c.refuse_inputs.ensures.told

pub returns-in-Ok-clause-answers : goal.returns-in-Ok-clause-answers
returns-in-Ok-clause-answers g c = λ t.
    let holds = g.F.Files.holds c.args.files.now in
    let world = world_view c.in-Read.world in
    let held : HoldsWorld holds c.args.task.world.now world × HoldsCalls holds c.args.task.calls.now c.in-Read.calls.items =
    subst (λ inputs. Gives holds c.args.task.world.now c.args.task.calls.now inputs) c.in-Read.is (c.in_ok-world.ensures.gives t) in inr (record {
      world = world;
      held_world = held.0;
      calls = c.in-Read.calls.items;
      held_calls = held.1;
      mines = subst (λ calls. MinesOver world calls c.args.task (upshot_of c.in-Ok.noted.answer)) c.deref.ensures.value c.in-Ok.ensures.mines;
    })
